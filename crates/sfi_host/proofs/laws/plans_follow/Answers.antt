use Rattle.sfi_host.proofs.Continuing.{plans_follow, cut_follows, cut_is_shorter, retry_follows}
use Rattle.sfi_host.proofs.laws.plans_follow.Goals as goal

pub returns : goal.returns
returns g c = record { done = plans_follow; memory = cut_follows; cut = cut_is_shorter; retried = retry_follows }
