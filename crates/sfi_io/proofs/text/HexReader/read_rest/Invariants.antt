use Rattle.sfi_io.proofs.Prelude.{◌≡◌, length, ℕ, List, Leads}
use Rattle.sfi_io.specs.Pieces.{most_to_come, to_come}
use Rattle.sfi_io.proofs.text.HexReader.read_rest.Given as goal

abbrev pub invariant-loop-stop : goal.invariant-loop-stop
invariant-loop-stop g l =
    ((bytes : List ℕ) × Leads (to_come g.R.Read.remaining l.fn.self) (to_come g.R.Read.remaining l.self) bytes)
    × (length l.unused ≡ 8190)

abbrev pub decreases-loop-stop : goal.decreases-loop-stop
decreases-loop-stop g l = most_to_come l.self
