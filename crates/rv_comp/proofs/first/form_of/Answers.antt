use Rattle.rv_comp.proofs.Firsts.{form_found, form_none, form_only}
use Rattle.rv_comp.proofs.first.form_of.Goals as goal

pub returns-clause-found : goal.returns-clause-found
returns-clause-found c = form_found c.args.instr c.first_form.result c.first_form.ensures

pub returns-clause-none : goal.returns-clause-none
returns-clause-none c = form_none c.args.instr c.first_form.result c.first_form.ensures

pub returns-clause-only : goal.returns-clause-only
returns-clause-only c = form_only c.args.instr c.first_form.result c.first_form.ensures
