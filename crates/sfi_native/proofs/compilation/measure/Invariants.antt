use Rattle.std.proofs.Common.{◌≤◌, drop, length, map}
use Rattle.sfi_native.specs.Lines.{AreMeasured, line_of}
use Rattle.sfi_native.proofs.compilation.measure.Given as goal

abbrev pub invariant-loop-n : goal.invariant-loop-n
invariant-loop-n l = record { within : l.n ≤ length l.lines; measured : AreMeasured l.plan (map line_of (drop l.n l.lines)) l.draft.items l.labels }

abbrev pub decreases-loop-n : goal.decreases-loop-n
decreases-loop-n l = l.n
