use Rattle.std.proofs.Common.{rules, ◌≡◌, Bool, false, true, sym, ap, subst, ◌∙◌}
use Rattle.sfi_command.specs.Command.{is_raw}
use Rattle.sfi_command.specs.declared.job.Job.{Job}
use Rattle.sfi_command.specs.declared.job.Job.TheVariants.{Check}
use Rattle.sfi_io.specs.declared.streams.Input.{Input}
use Rattle.sfi_io.specs.Hexadecimal.{IsInput}
use Rattle.sfi_tool.proofs.Jobs.{ran_read, ran_too_large}
use Rattle.sfi_tool.proofs.tool.run_job.Goals as goal

pub returns-then-is_raw-clause-runs : goal.returns-then-is_raw-clause-runs
returns-then-is_raw-clause-runs g c =
    let same : c.args.job.now ≡ Check true false = c.requires (sym c.is_raw.ensures ∙ c.if-is_raw.true) in
    c.status_of_answer.ensures.runs c.args.job.now (g.R.Read.remaining c.args.reader.now) (rw same (record { says = c.raw_answer.ensures.says; line = c.raw_answer.ensures.line }))

pub returns-in-Check-default-false-clause-runs : goal.returns-in-Check-default-false-clause-runs
returns-in-Check-default-false-clause-runs g c =
    let d = c.in-Check-default-false in
    let raw : d.raw ≡ false = ap is_raw (sym d.is) ∙ sym c.is_raw.ensures ∙ c.if-is_raw.false in
    let report : d.report ≡ false = search rules in
    let same : c.args.job.now ≡ Check false false = d.is ∙ ap (λ (r : Bool). Check r d.report) raw ∙ ap (λ (r : Bool). Check false r) report in
    c.status_of_answer-in-Check-default-false.ensures.runs c.args.job.now (g.R.Read.remaining c.args.reader.now) (rw same (record { says = c.image_answer.ensures.says; line = c.image_answer.ensures.line }))

pub returns-in-Ok-Whole-clause-runs : goal.returns-in-Ok-Whole-clause-runs
returns-in-Ok-Whole-clause-runs g c =
    ran_read c.args.job.now (g.R.Read.remaining c.args.reader.now) _ _ c.in-Ok-Whole.text c.deref.result.now c.deref.ensures.value
    (subst (λ (x : Input). IsInput (g.R.Read.remaining c.args.reader.now) x) c.in-Ok-Whole.field-0-is c.in-Ok-Whole.ensures) c.run_job_on_text.ensures.runs

pub returns-in-Ok-TooLarge-clause-runs : goal.returns-in-Ok-TooLarge-clause-runs
returns-in-Ok-TooLarge-clause-runs g c =
    ran_too_large c.args.job.now (g.R.Read.remaining c.args.reader.now) _ _ c.as_bytes.result.now (sym c.is_raw.ensures ∙ c.if-is_raw.false)
    (subst (λ (x : Input). IsInput (g.R.Read.remaining c.args.reader.now) x) c.in-Ok-TooLarge.field-0-is c.in-Ok-TooLarge.ensures) c.as_bytes.ensures.value
    c.status_after_writing.ensures.status c.status_after_writing.ensures.whole c.status_after_writing.ensures.appends
