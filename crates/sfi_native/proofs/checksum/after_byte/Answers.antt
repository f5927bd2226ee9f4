use Rattle.std.proofs.Common.{◌≡◌, suc, ◌+◌, ap, ◌∙◌, arith}
use Rattle.std.specs.Int.Bits.{bit_xor}
use Rattle.sfi_native.specs.Checksum.{after_bits, next_remainder}
use Rattle.sfi_native.proofs.checksum.after_byte.Goals as goal

pub loop-preserved : goal.loop-preserved
loop-preserved c =
    let n = c.loop.counter in
    let next : suc n ≡ n + 1 = omega arith in
    c.next_remainder-remainder.ensures ∙ ap next_remainder c.loop.invariant ∙ ap (λ k. after_bits k (bit_xor c.args.c c.args.byte)) next

pub returns : goal.returns
returns c =
    let all : c.loop.counter ≡ 8 = omega (arith, c.loop-test.false, c.loop.auto.counter-end) in
    c.loop.invariant ∙ ap (λ k. after_bits k (bit_xor c.args.c c.args.byte)) all
