use Rattle.std.proofs.Common.{length-set, ◌∙◌, arith}
use Rattle.sfi_native.proofs.Frames.{frame_holds, frame_more}
use Rattle.sfi_native.proofs.frame.frame_of.Goals as goal

pub loop-k-preserved : goal.loop-k-preserved
loop-k-preserved c = record {
  size = length-set c.loop-k.frame c.loop-k.k c.byte_of.result ∙ c.loop-k.invariant.size;
  each = frame_more c.args.registers.now c.loop-k.frame c.loop-k.k c.byte_of.result c.loop-k.invariant.size (omega (arith, c.loop-k-test.true)) c.loop-k.invariant.each c.byte_of.ensures;
}

pub returns : goal.returns
returns c = frame_holds c.args.registers.now c.loop-k.frame c.loop-k.invariant.size (λ k below. c.loop-k.invariant.each k (omega (arith, below, c.loop-k-test.false))) c.fits-registers
