use Rattle.sfi_text.proofs.Numbers.{none_after_minus, none_plain}
use Rattle.sfi_text.proofs.number.parse_number.Goals as goal

pub returns-in-None-magnitude-clause-none : goal.returns-in-None-magnitude-clause-none
returns-in-None-magnitude-clause-none c = none_after_minus c.args.text.now c.in-Some.digits.now c.in-Some.ensures c.in-None-magnitude.ensures.none

pub returns-in-None-magnitude-2-clause-none : goal.returns-in-None-magnitude-2-clause-none
returns-in-None-magnitude-2-clause-none c = none_plain c.args.text.now c.in-None.ensures c.in-None-magnitude-2.ensures.none
