use Rattle.sfi_c.proofs.feeding.sfi_c_end.Goals as goal

pub returns-clause-accepted : goal.returns-clause-accepted
returns-clause-accepted c = λ bytes h. (c.from_answer.ensures bytes (c.answer.ensures.judged bytes (rw c.feed_of.ensures h.fed))).accepted

pub returns-clause-refused : goal.returns-clause-refused
returns-clause-refused c = λ bytes h. (c.from_answer.ensures bytes (c.answer.ensures.judged bytes (rw c.feed_of.ensures h.fed))).refused

pub returns-clause-layout : goal.returns-clause-layout
returns-clause-layout c = λ bytes h. (c.from_answer.ensures bytes (c.answer.ensures.judged bytes (rw c.feed_of.ensures h.fed))).layout

pub returns-clause-only_accepted : goal.returns-clause-only_accepted
returns-clause-only_accepted c = λ bytes h. (c.from_answer.ensures bytes (c.answer.ensures.judged bytes (rw c.feed_of.ensures h.fed))).only_accepted

pub returns-clause-only_refused : goal.returns-clause-only_refused
returns-clause-only_refused c = λ bytes h. (c.from_answer.ensures bytes (c.answer.ensures.judged bytes (rw c.feed_of.ensures h.fed))).only_refused

pub returns-clause-only_layout : goal.returns-clause-only_layout
returns-clause-only_layout c = λ bytes h. (c.from_answer.ensures bytes (c.answer.ensures.judged bytes (rw c.feed_of.ensures h.fed))).only_layout

pub returns-clause-known : goal.returns-clause-known
returns-clause-known c = (c.from_answer.ensures c.requires.0 (c.answer.ensures.judged c.requires.0 (rw c.feed_of.ensures c.requires.1.fed))).known
