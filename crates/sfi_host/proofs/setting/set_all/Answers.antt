use Rattle.sfi_host.proofs.Prelude.{◌≡◌, ◌<◌, ◌+◌, ◌∙◌, length, refl, ap, arith, take_all, with_registers}
use Rattle.sfi_host.proofs.Entries.{one_more_set}
use Rattle.sfi_host.proofs.setting.set_all.Goals as goal

pub loop-k-preserved : goal.loop-k-preserved
loop-k-preserved c =
    let many = c.told-registers in
    let below : c.loop-k.k < length c.args.registers.now = omega (arith, many, c.loop-k-test.true) in
    let place : c.loop-k.k ≡ 0 + c.loop-k.k = omega arith in (
      one_more_set 0 c.args.cpu.now c.loop-k.cpu _ c.args.registers.now c.loop-k.k _ _ c.loop-k.invariant.0 below refl (c.numbered.ensures ∙ place) c.set_reg.ensures.written,
      c.set_reg.ensures.hart,
    )

pub returns-clause-put : goal.returns-clause-put
returns-clause-put c =
    let many = c.told-registers in
    c.loop-k.invariant.0 ∙ ap (with_registers c.args.cpu.now 0) (take_all c.loop-k.k c.args.registers.now (omega (arith, many, c.loop-k-test.false)))
