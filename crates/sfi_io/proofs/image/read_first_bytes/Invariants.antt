use Rattle.sfi_io.proofs.Prelude.{length, ◌-◌}
use Rattle.std.specs.Io.KnownBytes.{Consumes}
use Rattle.sfi_io.proofs.image.read_first_bytes.Given as goal

abbrev pub invariant-loop-piece : goal.invariant-loop-piece
invariant-loop-piece g l = Consumes (g.R.Read.remaining l.initial.reader) (g.R.Read.remaining l.reader) l.front.items

abbrev pub decreases-loop-piece : goal.decreases-loop-piece
decreases-loop-piece g l = 4 - length l.front.items
