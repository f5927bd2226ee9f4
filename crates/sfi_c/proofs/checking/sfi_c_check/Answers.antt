use Rattle.sfi_c.proofs.checking.sfi_c_check.Goals as goal

pub returns-clause-known : goal.returns-clause-known
returns-clause-known c = (c.from_answer.ensures c.args.image.now c.check_into.ensures.judged).known

pub returns-clause-accepted : goal.returns-clause-accepted
returns-clause-accepted c = (c.from_answer.ensures c.args.image.now c.check_into.ensures.judged).accepted

pub returns-clause-refused : goal.returns-clause-refused
returns-clause-refused c = (c.from_answer.ensures c.args.image.now c.check_into.ensures.judged).refused

pub returns-clause-layout : goal.returns-clause-layout
returns-clause-layout c = (c.from_answer.ensures c.args.image.now c.check_into.ensures.judged).layout

pub returns-clause-only_accepted : goal.returns-clause-only_accepted
returns-clause-only_accepted c = (c.from_answer.ensures c.args.image.now c.check_into.ensures.judged).only_accepted

pub returns-clause-only_refused : goal.returns-clause-only_refused
returns-clause-only_refused c = (c.from_answer.ensures c.args.image.now c.check_into.ensures.judged).only_refused

pub returns-clause-only_layout : goal.returns-clause-only_layout
returns-clause-only_layout c = (c.from_answer.ensures c.args.image.now c.check_into.ensures.judged).only_layout
