use Rattle.std.proofs.Common.{subst, sym}
use Rattle.x86_instr.specs.declared.instr.Width.TheVariants.{Dword}
use Rattle.x86_step.specs.Held.{Leaves, core_of}
use Rattle.x86_step.specs.Step.{computes, finished}
use Rattle.x86_step.proofs.machine.Core.compute.Goals as goal

pub returns-in_ok-a-in-Unary-clause-value : goal.returns-in_ok-a-in-Unary-clause-value
unfolding computes
returns-in_ok-a-in-Unary-clause-value c =
    let put = subst (λ k. Leaves c.finish.result c.finish.new.self (finished (core_of c.args.self.now) Dword c.in-Unary.dst k)) c.unary-computed.ensures c.finish.ensures.value in
    rw (c.in-Unary.is) (rw (sym c.in_ok-a-in-Unary.ensures.value) put)
