use Rattle.std.proofs.Common.{Some, codes, refl}
use Rattle.clap.specs.Matches.{found_of}
use Rattle.clap.specs.Walk.{rows_of}
use Rattle.sfi_command.proofs.Words.{image_is, no_budget, no_image, usage_of_named}
use Rattle.sfi_command.proofs.commands.exec.asked_exec.Goals as goal

pub returns-in_default : goal.returns-in_default
returns-in_default c =
    usage_of_named (Some (codes "exec", rows_of (found_of c.args.found.now))) c.no_job_fault.result c.no_job_fault.ensures (no_image (found_of c.args.found.now) c.in_default.ensures)

pub returns-in_default-budget_of : goal.returns-in_default-budget_of
returns-in_default-budget_of c =
    usage_of_named (Some (codes "exec", rows_of (found_of c.args.found.now))) c.no_job_fault-in_default-budget_of.result c.no_job_fault-in_default-budget_of.ensures
    (no_budget (rows_of (found_of c.args.found.now)) (c.budget_of.ensures.none c.in_default-budget_of.is))

pub returns : goal.returns
returns c =
    (refl, (image_is (found_of c.args.found.now) c.in-Some.path.now _ c.in-Some.ensures c.in_ok-image.ensures.ok, c.in-Some-budget_of.ensures.some))
