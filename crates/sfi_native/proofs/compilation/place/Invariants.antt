use Rattle.std.proofs.Common.{◌≡◌, ◌++◌, drop, map}
use Rattle.x86_step.specs.Running.{spellings}
use Rattle.sfi_native.specs.Faults.{accesses_of}
use Rattle.sfi_native.specs.Lines.{line_of}
use Rattle.sfi_native.specs.Places.{code_of}
use Rattle.sfi_native.proofs.compilation.place.Given as goal

abbrev pub invariant-loop-n : goal.invariant-loop-n
invariant-loop-n l = record {
  bytes : l.out.items ++ spellings (code_of l.plan (map line_of l.lines) (map line_of (drop l.n l.lines))) ≡ spellings (code_of l.plan (map line_of l.lines) (map line_of l.lines));
  accesses : l.accesses.items ++ accesses_of l.plan (map line_of l.lines) (map line_of (drop l.n l.lines)) ≡ accesses_of l.plan (map line_of l.lines) (map line_of l.lines);
}
