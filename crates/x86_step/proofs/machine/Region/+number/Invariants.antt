use Rattle.x86_step.proofs.machine.Region.+number.Given as goal

abbrev pub decreases-number : goal.decreases-number
decreases-number l = l.count
