use Rattle.sfi_text.proofs.Forms.{reads_result, keeps_result, departs_stuck, departs_beyond, departs_missing, departs_other, departs_later}
use Rattle.sfi_text.specs.private.Reading.{values_of}
use Rattle.sfi_text.proofs.read.+set_operands.Goals as goal

pub returns-in-Stuck-clause-cause : goal.returns-in-Stuck-clause-cause
returns-in-Stuck-clause-cause t c = departs_stuck _ _ c.in-Stuck.ensures

pub returns-in-Token-clause-cause : goal.returns-in-Token-clause-cause
returns-in-Token-clause-cause t c = departs_beyond _ _ _ _ c.in-None.ensures.cases c.in-Token.ensures

pub returns-in-End-next_token-clause-cause : goal.returns-in-End-next_token-clause-cause
returns-in-End-next_token-clause-cause t c = departs_missing _ _ _ c.in-Some.ensures.cases.0 _ c.in-End-next_token.ensures

pub returns-in-Stuck-next_token-clause-cause : goal.returns-in-Stuck-next_token-clause-cause
returns-in-Stuck-next_token-clause-cause t c = departs_stuck _ _ c.in-Stuck-next_token.ensures

pub returns-in-Ok-clause-reads : goal.returns-in-Ok-clause-reads
returns-in-Ok-clause-reads t c =
    reads_result c.set_operands.result c.args.form.now c.in-Some.part.now c.in-Some.more.now c.in-Some.ensures.cases.0 (values_of c.set_operands.new.operands) (values_of c.put.new.self)
    c.args.text.now _ _ c.requires.1.1 c.in-Token-next_token.ensures c.in-Ok.ensures.stands c.set_operands.ensures.reads c.set_operands.ensures.others

pub returns-in-Ok-clause-others : goal.returns-in-Ok-clause-others
returns-in-Ok-clause-others t c =
    keeps_result c.set_operands.result c.args.form.now c.in-Some.part.now c.in-Some.more.now c.in-Some.ensures.cases.0 (values_of c.set_operands.new.operands) (values_of c.put.new.self)
    (values_of c.args.operands.now) c.in-Ok.ensures.others c.set_operands.ensures.others

pub returns-in-Ok-clause-cause : goal.returns-in-Ok-clause-cause
returns-in-Ok-clause-cause t c = departs_later _ _ _ c.in-Some.ensures.cases.0 _ c.set_operands.result _ _ _ c.in-Token-next_token.ensures c.in-Ok.ensures.stands c.set_operands.ensures.cause

pub returns-in-Err-clause-cause : goal.returns-in-Err-clause-cause
returns-in-Err-clause-cause t c = departs_other _ _ _ c.in-Some.ensures.cases.0 _ _ _ _ c.in-Token-next_token.ensures c.in-Err.ensures.err c.in-Err.ensures.cause
