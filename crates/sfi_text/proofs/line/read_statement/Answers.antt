use Rattle.sfi_text.proofs.Lines.{answer_states, answer_right, answer_only, answer_cause}
use Rattle.sfi_text.proofs.line.read_statement.Goals as goal

pub returns-clause-states : goal.returns-clause-states
returns-clause-states c = answer_states c.args.keyword c.args.rest.now c.read_after.result c.read_after.ensures.ok

pub returns-clause-only : goal.returns-clause-only
returns-clause-only c = answer_only c.args.keyword c.args.rest.now c.read_after.result c.read_after.ensures.ok c.read_after.ensures.cause

pub returns-clause-only_cause : goal.returns-clause-only_cause
returns-clause-only_cause c = answer_cause c.args.keyword c.args.rest.now c.read_after.result c.read_after.ensures.ok c.read_after.ensures.cause

pub returns-clause-right : goal.returns-clause-right
returns-clause-right c = answer_right c.args.keyword c.args.rest.now c.read_after.result c.read_after.ensures.ok
