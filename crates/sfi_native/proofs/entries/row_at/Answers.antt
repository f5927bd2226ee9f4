use Rattle.std.proofs.Common.{◌≡◌, Some, sym, ◌∙◌}
use Rattle.std.specs.BTreeMap.{get}
use Rattle.std.specs.Ordering.{nat_cmp}
use Rattle.sfi_native.proofs.Entered.{entered, owed_entered}
use Rattle.sfi_native.proofs.entries.row_at.Goals as goal

pub returns-in-Some-clause-entry : goal.returns-in-Some-clause-entry
returns-in-Some-clause-entry c = λ code bytes measured all_is.
    let held : get nat_cmp c.args.labels.now c.args.at ≡ Some c.in-Some.left.now = sym c.in-Some.ensures.value in
    entered c.args.plan.now code bytes c.args.labels.now c.args.at c.in-Some.left.now c.args.all measured all_is held

pub returns-in-Some-clause-owed : goal.returns-in-Some-clause-owed
returns-in-Some-clause-owed c = λ p code bytes measured.
    let held : get nat_cmp c.args.labels.now c.args.at ≡ Some c.in-Some.left.now = sym c.in-Some.ensures.value in
    c.owed.ensures.is ∙ owed_entered c.args.plan.now p code bytes c.args.labels.now c.args.at c.in-Some.left.now measured held
