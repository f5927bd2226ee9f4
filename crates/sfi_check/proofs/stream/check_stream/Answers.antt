use Rattle.sfi_check.proofs.stream.check_stream.Goals as goal

pub returns-clause-judged : goal.returns-clause-judged
returns-clause-judged g c = let j = c.check_stream_into.ensures.judged in (j.0, j.1, j.3, j.4)
