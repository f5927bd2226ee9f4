use Rattle.std.proofs.Common.{◌≡◌, ◌-◌, ℕ, List, length}
use Rattle.sfi_io.specs.Hexadecimal.{limit}
use Rattle.sfi_io.specs.Pieces.{Leads}
use Rattle.sfi_answers.specs.private.{own_to_come}
use Rattle.sfi_answers.proofs.own_bytes.OwnBytesPieceReader.to_end.Given as goal

abbrev pub invariant-loop-stop : goal.invariant-loop-stop
invariant-loop-stop g l =
    ((bytes : List ℕ) × Leads (own_to_come l.fn.self.read (g.R.Read.remaining l.fn.self.reader.now)) (own_to_come l.self.read (g.R.Read.remaining l.self.reader.now)) bytes)
    × (length l.unused ≡ 8192)

abbrev pub decreases-loop-stop : goal.decreases-loop-stop
decreases-loop-stop g l = limit - l.self.read
