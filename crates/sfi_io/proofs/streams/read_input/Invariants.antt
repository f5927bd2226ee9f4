use Rattle.sfi_io.proofs.Prelude.{◌≤◌, length, limit}
use Rattle.std.specs.Io.KnownBytes.{Consumes}
use Rattle.sfi_io.proofs.streams.read_input.Given as goal

abbrev pub invariant-loop : goal.invariant-loop
invariant-loop g l = Consumes (g.R.Read.remaining l.initial.reader) (g.R.Read.remaining l.reader) l.input.items × (l.counter ≤ length l.input.items) × (length l.input.items ≤ limit)
