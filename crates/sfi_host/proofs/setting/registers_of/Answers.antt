use Rattle.sfi_host.proofs.Prelude.{◌≡◌, sym, ◌∙◌, arith, take_all}
use Rattle.sfi_host.proofs.setting.registers_of.Goals as goal

pub returns : goal.returns
returns c =
    let i = c.loop-number.invariant in
    sym (take_all c.loop-number.number c.loop-number.registers (omega (arith, i.count, c.loop-number-test.false)))
    ∙ i.same
    ∙ take_all c.loop-number.number c.args.cpu.now.registers (omega (arith, i.hart.count, c.loop-number-test.false))
