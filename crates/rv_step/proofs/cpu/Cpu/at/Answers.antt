use Rattle.rv_step.proofs.States.{new_hart}
use Rattle.rv_step.proofs.cpu.Cpu.at.Goals as goal

pub invariant_of-result : goal.invariant_of-result
invariant_of-result c = new_hart c.args.pc c.ranges.pc.fits c.if-pc-eq0.true

pub returns-then-pc-eq0-clause-hart : goal.returns-then-pc-eq0-clause-hart
returns-then-pc-eq0-clause-hart c = new_hart c.args.pc c.ranges.pc.fits c.if-pc-eq0.true
