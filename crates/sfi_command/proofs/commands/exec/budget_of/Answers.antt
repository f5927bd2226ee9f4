use Rattle.std.proofs.Common.{None, Some, arith, refl, sym}
use Rattle.clap.specs.Matches.{found_of}
use Rattle.sfi_command.proofs.Words.{budget_is, budget_of_text}
use Rattle.sfi_command.proofs.commands.exec.budget_of.Goals as goal

pub returns-in_default-clause-some : goal.returns-in_default-clause-some
returns-in_default-clause-some c = budget_is (found_of c.args.found.now) None _ c.in_default.ensures refl

pub returns-in-Ok-clause-some : goal.returns-in-Ok-clause-some
returns-in-Ok-clause-some c =
    let value = c.in-Ok.ensures.value.0 in
    let low = c.if-budget-ge1.true in
    budget_is (found_of c.args.found.now) (Some c.in-Some.text.now) c.in-Ok.budget c.in-Some.ensures
    (value.0.0, sym value.1, low, omega (arith, value.0.1, value.1))

pub returns-in_default-parse-clause-none : goal.returns-in_default-parse-clause-none
returns-in_default-parse-clause-none c none n is =
    let given = budget_of_text (found_of c.args.found.now) (Some c.in-Some.text.now) n c.in-Some.ensures is in
    let value = c.in-Ok.ensures.value.0 in
    absurd (omega (arith, given.1, given.2, value.1))

pub returns-in_default-parse-2-clause-none : goal.returns-in_default-parse-2-clause-none
returns-in_default-parse-2-clause-none c none n is =
    let given = budget_of_text (found_of c.args.found.now) (Some c.in-Some.text.now) n c.in-Some.ensures is in
    absurd (c.in_default-parse.ensures.value.0 (given.0, omega (arith, given.1, given.2)))
