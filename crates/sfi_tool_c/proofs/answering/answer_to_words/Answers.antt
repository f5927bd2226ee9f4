use Rattle.std.proofs.Common.{map, string_bytes, sym, ap, ◌∙◌, inl, inr, arith, subst, ℕ, ◌≡◌, ◌≤◌}
use Rattle.std.proofs.lemmas.Result.{IfOk-weaker}
use Rattle.sfi_command.specs.Command.{AsksNothing, number_of}
use Rattle.sfi_tool_c.proofs.Spelling.{same_spelled, if_both, of_hex, of_usage, same_words}
use Rattle.sfi_tool_c.proofs.answering.answer_to_words.Goals as goal

-- what is two or three, and not two
three : (status : ℕ) → 2 ≤ status → status ≤ 3 → (status ≡ 2 → ⊥) → status ≡ 3
three status low high other = grind (arith, low, high, other)

pub returns-in-Ok-job_of-clause-says : goal.returns-in-Ok-job_of-clause-says
returns-in-Ok-job_of-clause-says c =
    IfOk-weaker c.answer_to.result _ _ (λ a h less. record {
      spelled = map string_bytes c.deref.result.now;
      words_are = same_spelled _ _ _ c.in-Ok.ensures.words (ap (λ ws. map string_bytes ws) (sym c.deref.ensures.value));
      job = c.in-Ok-job_of.job;
      asked = c.in-Ok-job_of.ensures.job;
      says = h less;
    }) c.answer_to.ensures.says

pub returns-in-Ok-job_of-clause-usage : goal.returns-in-Ok-job_of-clause-usage
returns-in-Ok-job_of-clause-usage c =
    IfOk-weaker c.answer_to.result _ _ (λ a low three. absurd (omega (arith, low, three))) c.answer_to.ensures.statuses

pub returns-in-Ok-job_of-clause-only_usage : goal.returns-in-Ok-job_of-clause-only_usage
returns-in-Ok-job_of-clause-only_usage c none =
    absurd ((none (map string_bytes c.deref.result.now)
    (same_spelled _ _ _ c.in-Ok.ensures.words (ap (λ ws. map string_bytes ws) (sym c.deref.ensures.value)))).no_job
    c.in-Ok-job_of.job c.in-Ok-job_of.ensures.job)

pub returns-in-Ok-job_of-clause-line : goal.returns-in-Ok-job_of-clause-line
returns-in-Ok-job_of-clause-line c =
    IfOk-weaker c.answer_to.result _ _ (λ a h two. record {
      spelled = map string_bytes c.deref.result.now;
      words_are = same_spelled _ _ _ c.in-Ok.ensures.words (ap (λ ws. map string_bytes ws) (sym c.deref.ensures.value));
      is = inl (c.in-Ok-job_of.job, c.in-Ok-job_of.ensures.job, h two);
    }) c.answer_to.ensures.line

pub returns-clause-line : goal.returns-clause-line
returns-clause-line c =
    if_both c.answer_to_fault.result _ _ _ (λ a hex line two. record {
      spelled = map string_bytes c.deref.result.now;
      words_are = same_spelled _ _ _ c.in-Ok.ensures.words (ap (λ ws. map string_bytes ws) (sym c.deref.ensures.value));
      is = inr (of_hex _ c.in-Err.fault c.in-Err.ensures.fault (hex two), line two);
    }) c.answer_to_fault.ensures.hex c.answer_to_fault.ensures.line

pub returns-clause-usage : goal.returns-clause-usage
returns-clause-usage c =
    IfOk-weaker c.answer_to_fault.result _ _ (λ a h three spelled spells.
    subst AsksNothing
    (same_words _ _ _ (same_spelled _ _ _ c.in-Ok.ensures.words (ap (λ ws. map string_bytes ws) (sym c.deref.ensures.value))) spells)
    (of_usage _ c.in-Err.fault c.in-Err.ensures.fault (h three))) c.answer_to_fault.ensures.usage

pub returns-clause-only_usage : goal.returns-clause-only_usage
returns-clause-only_usage c none =
    let nothing = none (map string_bytes c.deref.result.now)
    (same_spelled _ _ _ c.in-Ok.ensures.words (ap (λ ws. map string_bytes ws) (sym c.deref.ensures.value))) in
    let other : number_of c.in-Err.fault ≡ 2 → ⊥ = λ two. nothing.no_run (of_hex _ c.in-Err.fault c.in-Err.ensures.fault two) in
    if_both c.answer_to_fault.result _ _ _ (λ a statuses hex. three a.status statuses.0 statuses.1 (λ two. other (hex two)))
    c.answer_to_fault.ensures.statuses c.answer_to_fault.ensures.hex
