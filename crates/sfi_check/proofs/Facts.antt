-- What holds of every verdict: the laws, for proofs here and in the crates above.
use Rattle.sfi_check.specs.OneVerdict.{OneListOfFindings, NeverAcceptedWithFindings, VerdictIsOnAll, OneVerdict, StreamSaysSame}
use Rattle.sfi_check.proofs.OneVerdict as verdicts

pub one_list_of_findings : OneListOfFindings
one_list_of_findings = verdicts.one_list

pub never_both : NeverAcceptedWithFindings
never_both = verdicts.never_both

pub verdict_is_on_all : VerdictIsOnAll
verdict_is_on_all = verdicts.verdict_is_on_all

pub one_verdict : OneVerdict
one_verdict = verdicts.one_verdict

pub stream_says_same : StreamSaysSame
stream_says_same = verdicts.stream_says_same
