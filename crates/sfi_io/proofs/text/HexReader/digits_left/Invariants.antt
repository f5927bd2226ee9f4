use Rattle.sfi_io.proofs.Prelude.{◌≤◌, ◌+◌, ◌-◌, ahead, limit}
use Rattle.sfi_io.proofs.Ahead.{Counts}
use Rattle.sfi_io.proofs.text.HexReader.digits_left.Given as goal

abbrev pub invariant-loop-stop : goal.invariant-loop-stop
invariant-loop-stop g l =
    Counts (ahead g.R.Read.remaining l.fn.self) (ahead g.R.Read.remaining l.self) l.self.held.high l.count
    × (l.count + (l.self.held.end - l.self.held.at) ≤ l.self.held.read + 1)

abbrev pub decreases-loop-stop : goal.decreases-loop-stop
decreases-loop-stop g l = limit - l.self.held.read
