use Rattle.sfi_host.proofs.Prelude.{◌<◌, ◌∙◌, length, refl, ap, arith, take_all, with_registers}
use Rattle.sfi_host.proofs.Entries.{one_more_set}
use Rattle.sfi_host.proofs.sandbox.set_arguments.Goals as goal

pub loop-k-preserved : goal.loop-k-preserved
loop-k-preserved c =
    let many = c.told-arguments in
    let below : c.loop-k.k < length c.args.arguments.now = omega (arith, many, c.loop-k-test.true) in (
      one_more_set 10 c.args.cpu.now c.loop-k.cpu _ c.args.arguments.now c.loop-k.k _ _ c.loop-k.invariant.0 below refl c.numbered.ensures c.set_reg.ensures.written,
      c.set_reg.ensures.hart,
    )

pub returns-clause-put : goal.returns-clause-put
returns-clause-put c =
    let many = c.told-arguments in
    c.loop-k.invariant.0 ∙ ap (with_registers c.args.cpu.now 10) (take_all c.loop-k.k c.args.arguments.now (omega (arith, many, c.loop-k-test.false)))
