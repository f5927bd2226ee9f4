use Rattle.sfi_io.proofs.Prelude.{◌≡◌, ◌-◌, length, [], limit, ahead, GoesOn}
use Rattle.sfi_io.proofs.text.HexReader.read_bytes.Given as goal

abbrev pub invariant-loop-buf : goal.invariant-loop-buf
invariant-loop-buf g l =
    GoesOn (ahead g.R.Read.remaining l.fn.self) (ahead g.R.Read.remaining l.self) []
    × (l.self.held.made ≡ l.fn.self.held.made) × (length l.buf ≡ length l.fn.buf)

abbrev pub decreases-loop-buf : goal.decreases-loop-buf
decreases-loop-buf g l = limit - l.self.held.read
