use Rattle.sfi_tool.proofs.Prelude.{◌≡◌, ◌∙◌, ℕ, Bool, List, Result, ap, sym, subst}
use Rattle.std.proofs.Common.{false}
use Rattle.sfi_tool.specs.Says.{meaning_of}
use Rattle.sfi_answers.specs.Answers.{check, native, translate, dis, Answers}
use Rattle.sfi_answers.specs.Building.{convert}
use Rattle.sfi_answers.specs.Moving.{move}
use Rattle.sfi_tool.specs.Running.{run}
use Rattle.sfi_answers.specs.declared.fault.Stop.{Stop}
use Rattle.sfi_answers.specs.declared.verdict.Answer.{Answer}
use Rattle.sfi_command.specs.Command.{is_raw}
use Rattle.sfi_command.specs.declared.job.Job.{Job}
use Rattle.sfi_command.specs.declared.job.Job.TheVariants.{Check}
use Rattle.sfi_tool.proofs.Jobs.{on_bytes, on_no_bytes}
use Rattle.sfi_tool.proofs.answering.job_answer.Goals as goal

-- what a command answers is the job's answer, where that job was asked for
as_job : (asked job : Job) (text : List ℕ) (r : Result Answer Stop) → asked ≡ job → Answers (meaning_of job) text r → Answers (meaning_of asked) text r
as_job asked job text r same a = subst (λ (j : Job). Answers (meaning_of j) text r) (sym same) a

-- a check that reads a text
text_check : (job : Job) (raw report : Bool) → job ≡ Check raw report → is_raw job ≡ false → job ≡ Check false report
text_check job raw report is text =
    let same : raw ≡ false = sym (ap is_raw is) ∙ text in
    is ∙ ap (λ (r : Bool). Check r report) same

pub returns-in_ok-image_bytes-in-Check : goal.returns-in_ok-image_bytes-in-Check
returns-in_ok-image_bytes-in-Check c =
    as_job _ _ _ c.check_answer.result (text_check c.args.job.now c.in-Check.raw c.in-Check.report c.in-Check.is c.requires.reads_text)
    (on_bytes (check c.in-Check.report) c.args.text.now c.in_ok-image_bytes-in-Check.field-0.items c.deref.result.now c.check_answer.result
    c.in_ok-image_bytes-in-Check.ensures.bytes c.in_ok-image_bytes-in-Check.ensures.only_bytes (λ u. let e = c.in_ok-image_bytes-in-Check.ensures.only_stop u in absurd cc) c.deref.ensures.value
    c.check_answer.ensures)

pub returns-in_ok-image_bytes-in-Dis : goal.returns-in_ok-image_bytes-in-Dis
returns-in_ok-image_bytes-in-Dis c =
    as_job _ _ _ c.listing_answer.result c.in-Dis.is
    (on_bytes dis c.args.text.now c.in_ok-image_bytes-in-Dis.field-0.items c.deref-in-Dis.result.now c.listing_answer.result
    c.in_ok-image_bytes-in-Dis.ensures.bytes c.in_ok-image_bytes-in-Dis.ensures.only_bytes (λ u. let e = c.in_ok-image_bytes-in-Dis.ensures.only_stop u in absurd cc) c.deref-in-Dis.ensures.value
    c.listing_answer.ensures)

pub returns-in_ok-image_bytes-in-Run : goal.returns-in_ok-image_bytes-in-Run
returns-in_ok-image_bytes-in-Run c =
    as_job _ _ _ c.run_answer.result c.in-Run.is
    (on_bytes (run c.in-Run.options) c.args.text.now c.in_ok-image_bytes-in-Run.field-0.items c.deref-in-Run.result.now c.run_answer.result
    c.in_ok-image_bytes-in-Run.ensures.bytes c.in_ok-image_bytes-in-Run.ensures.only_bytes (λ u. let e = c.in_ok-image_bytes-in-Run.ensures.only_stop u in absurd cc) c.deref-in-Run.ensures.value
    c.run_answer.ensures)

pub returns-in_ok-image_bytes-in-Convert : goal.returns-in_ok-image_bytes-in-Convert
returns-in_ok-image_bytes-in-Convert c =
    as_job _ _ _ c.conversion_answer.result c.in-Convert.is
    (on_bytes (convert c.in-Convert.raw) c.args.text.now c.in_ok-image_bytes-in-Convert.field-0.items c.deref-in-Convert.result.now c.conversion_answer.result
    c.in_ok-image_bytes-in-Convert.ensures.bytes c.in_ok-image_bytes-in-Convert.ensures.only_bytes (λ u. let e = c.in_ok-image_bytes-in-Convert.ensures.only_stop u in absurd cc) c.deref-in-Convert.ensures.value
    c.conversion_answer.ensures)

pub returns-in_ok-image_bytes-in-Move : goal.returns-in_ok-image_bytes-in-Move
returns-in_ok-image_bytes-in-Move c =
    as_job _ _ _ c.move_answer.result c.in-Move.is
    (on_bytes (move c.in-Move.raw c.in-Move.sandbox c.in-Move.place) c.args.text.now c.in_ok-image_bytes-in-Move.field-0.items c.deref-in-Move.result.now c.move_answer.result
    c.in_ok-image_bytes-in-Move.ensures.bytes c.in_ok-image_bytes-in-Move.ensures.only_bytes (λ u. let e = c.in_ok-image_bytes-in-Move.ensures.only_stop u in absurd cc) c.deref-in-Move.ensures.value
    c.move_answer.ensures)

pub returns-in_ok-image_bytes-in-Translate : goal.returns-in_ok-image_bytes-in-Translate
returns-in_ok-image_bytes-in-Translate c =
    as_job _ _ _ c.translation_answer.result c.in-Translate.is
    (on_bytes (translate c.in-Translate.whole) c.args.text.now c.in_ok-image_bytes-in-Translate.field-0.items c.deref-in-Translate.result.now c.translation_answer.result
    c.in_ok-image_bytes-in-Translate.ensures.bytes c.in_ok-image_bytes-in-Translate.ensures.only_bytes (λ u. let e = c.in_ok-image_bytes-in-Translate.ensures.only_stop u in absurd cc) c.deref-in-Translate.ensures.value
    c.translation_answer.ensures)

pub returns-in_ok-image_bytes-in-Native : goal.returns-in_ok-image_bytes-in-Native
returns-in_ok-image_bytes-in-Native c =
    as_job _ _ _ c.native_answer.result c.in-Native.is
    (on_bytes native c.args.text.now c.in_ok-image_bytes-in-Native.field-0.items c.deref-in-Native.result.now c.native_answer.result
    c.in_ok-image_bytes-in-Native.ensures.bytes c.in_ok-image_bytes-in-Native.ensures.only_bytes (λ u. let e = c.in_ok-image_bytes-in-Native.ensures.only_stop u in absurd cc) c.deref-in-Native.ensures.value
    c.native_answer.ensures)

pub returns-in_err-image_bytes-in-Check : goal.returns-in_err-image_bytes-in-Check
returns-in_err-image_bytes-in-Check c =
    as_job _ _ _ c.from_residual.result (text_check c.args.job.now c.in-Check.raw c.in-Check.report c.in-Check.is c.requires.reads_text)
    (on_no_bytes (check c.in-Check.report) c.args.text.now c.in_err-image_bytes-in-Check.field-0.0 c.from_residual.result c.requires.within_limit c.in_err-image_bytes-in-Check.ensures.stop c.in_err-image_bytes-in-Check.ensures.only_bytes
    c.from_residual.ensures.1)

pub returns-in_err-image_bytes-in-Dis : goal.returns-in_err-image_bytes-in-Dis
returns-in_err-image_bytes-in-Dis c =
    as_job _ _ _ c.from_residual-in_err-image_bytes-in-Dis.result c.in-Dis.is
    (on_no_bytes dis c.args.text.now c.in_err-image_bytes-in-Dis.field-0.0 c.from_residual-in_err-image_bytes-in-Dis.result c.requires.within_limit c.in_err-image_bytes-in-Dis.ensures.stop c.in_err-image_bytes-in-Dis.ensures.only_bytes
    c.from_residual-in_err-image_bytes-in-Dis.ensures.1)

pub returns-in_err-image_bytes-in-Run : goal.returns-in_err-image_bytes-in-Run
returns-in_err-image_bytes-in-Run c =
    as_job _ _ _ c.from_residual-in_err-image_bytes-in-Run.result c.in-Run.is
    (on_no_bytes (run c.in-Run.options) c.args.text.now c.in_err-image_bytes-in-Run.field-0.0 c.from_residual-in_err-image_bytes-in-Run.result c.requires.within_limit c.in_err-image_bytes-in-Run.ensures.stop c.in_err-image_bytes-in-Run.ensures.only_bytes
    c.from_residual-in_err-image_bytes-in-Run.ensures.1)

pub returns-in_err-image_bytes-in-Convert : goal.returns-in_err-image_bytes-in-Convert
returns-in_err-image_bytes-in-Convert c =
    as_job _ _ _ c.from_residual-in_err-image_bytes-in-Convert.result c.in-Convert.is
    (on_no_bytes (convert c.in-Convert.raw) c.args.text.now c.in_err-image_bytes-in-Convert.field-0.0 c.from_residual-in_err-image_bytes-in-Convert.result c.requires.within_limit c.in_err-image_bytes-in-Convert.ensures.stop c.in_err-image_bytes-in-Convert.ensures.only_bytes
    c.from_residual-in_err-image_bytes-in-Convert.ensures.1)

pub returns-in_err-image_bytes-in-Move : goal.returns-in_err-image_bytes-in-Move
returns-in_err-image_bytes-in-Move c =
    as_job _ _ _ c.from_residual-in_err-image_bytes-in-Move.result c.in-Move.is
    (on_no_bytes (move c.in-Move.raw c.in-Move.sandbox c.in-Move.place) c.args.text.now c.in_err-image_bytes-in-Move.field-0.0 c.from_residual-in_err-image_bytes-in-Move.result c.requires.within_limit c.in_err-image_bytes-in-Move.ensures.stop c.in_err-image_bytes-in-Move.ensures.only_bytes
    c.from_residual-in_err-image_bytes-in-Move.ensures.1)

pub returns-in_err-image_bytes-in-Translate : goal.returns-in_err-image_bytes-in-Translate
returns-in_err-image_bytes-in-Translate c =
    as_job _ _ _ c.from_residual-in_err-image_bytes-in-Translate.result c.in-Translate.is
    (on_no_bytes (translate c.in-Translate.whole) c.args.text.now c.in_err-image_bytes-in-Translate.field-0.0 c.from_residual-in_err-image_bytes-in-Translate.result c.requires.within_limit c.in_err-image_bytes-in-Translate.ensures.stop c.in_err-image_bytes-in-Translate.ensures.only_bytes
    c.from_residual-in_err-image_bytes-in-Translate.ensures.1)

pub returns-in_err-image_bytes-in-Native : goal.returns-in_err-image_bytes-in-Native
returns-in_err-image_bytes-in-Native c =
    as_job _ _ _ c.from_residual-in_err-image_bytes-in-Native.result c.in-Native.is
    (on_no_bytes native c.args.text.now c.in_err-image_bytes-in-Native.field-0.0 c.from_residual-in_err-image_bytes-in-Native.result c.requires.within_limit c.in_err-image_bytes-in-Native.ensures.stop c.in_err-image_bytes-in-Native.ensures.only_bytes
    c.from_residual-in_err-image_bytes-in-Native.ensures.1)
