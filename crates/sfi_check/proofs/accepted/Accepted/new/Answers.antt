use Rattle.sfi_safety.proofs.Safe.{may_run}
use Rattle.sfi_check.proofs.accepted.Accepted.new.Goals as goal

pub invariant_of-result : goal.invariant_of-result
invariant_of-result c = may_run c.args.image c.requires
