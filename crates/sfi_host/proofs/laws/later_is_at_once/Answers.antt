use Rattle.sfi_host.proofs.LaterReplies.{to_call_is_joint, reply_is_answer, writes_are_replies}
use Rattle.sfi_host.proofs.laws.later_is_at_once.Goals as goal

pub returns : goal.returns
returns g c = record { turns = to_call_is_joint; replies = reply_is_answer; writes = writes_are_replies }
