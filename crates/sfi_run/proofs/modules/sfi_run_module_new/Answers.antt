use Rattle.sfi_run.proofs.Prelude.{◌≡◌}
use Rattle.sfi_run.proofs.Loaded as by
use Rattle.sfi_run.proofs.modules.sfi_run_module_new.Goals as goal

pub returns-in-Ok-clause-refused : goal.returns-in-Ok-clause-refused
returns-in-Ok-clause-refused c = by.not_refused c.args.image.now c.in-Ok.boxed.value c.in-Ok.ensures.made

pub returns-in-Ok-clause-no_image : goal.returns-in-Ok-clause-no_image
returns-in-Ok-clause-no_image c = by.not_no_image c.args.image.now c.in-Ok.boxed.value c.in-Ok.ensures.made

pub returns-in-Err-clause-refused : goal.returns-in-Err-clause-refused
returns-in-Err-clause-refused c = rw c.number.ensures (by.refused c.args.image.now c.in-Err.fault c.in-Err.ensures.fault)

pub returns-in-Err-clause-no_image : goal.returns-in-Err-clause-no_image
returns-in-Err-clause-no_image c = rw c.number.ensures (by.no_image c.args.image.now c.in-Err.fault c.in-Err.ensures.fault)

pub returns-in-Err-clause-memory : goal.returns-in-Err-clause-memory
returns-in-Err-clause-memory c = rw c.number.ensures (by.memory c.args.image.now c.in-Err.fault c.in-Err.ensures.fault)

pub returns-in-Err-clause-only_loaded : goal.returns-in-Err-clause-only_loaded
returns-in-Err-clause-only_loaded c = rw c.number.ensures (by.only_memory c.args.image.now c.in-Err.fault c.in-Err.ensures.fault)

pub returns-in-Ok-clause-verdict : goal.returns-in-Ok-clause-verdict
returns-in-Ok-clause-verdict c = c.from_answer.ensures c.args.image.now c.judge-answer.ensures.judged

pub returns-in-Err-clause-verdict : goal.returns-in-Err-clause-verdict
returns-in-Err-clause-verdict c = c.from_answer.ensures c.args.image.now c.judge-answer.ensures.judged
