use Rattle.std.proofs.Common.{◌≡◌, length}
use Rattle.sfi_native.proofs.Frames.{HasBytes}
use Rattle.sfi_native.proofs.frame.frame_of.Given as goal

abbrev pub invariant-loop-k : goal.invariant-loop-k
invariant-loop-k l = record {
  size : length l.frame ≡ 128;
  each : HasBytes l.registers l.frame l.k;
}
