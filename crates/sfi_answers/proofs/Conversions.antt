-- What `convert` answers on the bytes of an image.
use Rattle.std.proofs.Common.{◌≡◌, ◌⊎◌, ℕ, List, refl, subst, inl, inr}
use Rattle.std.specs.Prelude.{Result, Ok, Err, Vec, IfOk, IfErr, IsErr, Bool}
use Rattle.std.specs.Global.{Global}
use Rattle.sfi_image.specs.Faults.{IsFault}
use Rattle.sfi_image.specs.declared.fault.LayoutFault.{LayoutFault}
use Rattle.sfi_rules.specs.declared.finding.Finding.{Finding}
use Rattle.sfi_check.specs.Converting.{IsSecond, IsOfWords, IsConversion, HasStackFindings, IsConvertFault, AnswersConversion, AnswersFindings, AnswersLayout, AnswersNotOld, AnswersStack, AnswersWords}
use Rattle.sfi_check.specs.Verdict.{HasFindings}
use Rattle.sfi_check.specs.declared.conversion.ConvertFault.{ConvertFault}
use Rattle.sfi_check.specs.declared.conversion.ConvertFault.TheVariants.{Refused, NotOld, Stack, Memory}
use Rattle.sfi_check.specs.declared.refusal.Refusal.TheVariants as refusal
use Rattle.sfi_answers.specs.private.{HasFound, AnswersConvertFault}
use Rattle.sfi_answers.specs.Answers.{refused_line, Answers, IsStop, AnswersStatus}
use Rattle.sfi_answers.specs.Building.{image_output, IsNotConverted, SaysConversion, convert}
use Rattle.sfi_answers.specs.declared.fault.InputFault.TheVariants as input
use Rattle.sfi_answers.specs.declared.fault.Stop.{Stop}
use Rattle.sfi_answers.specs.declared.fault.Stop.TheVariants as stop
use Rattle.sfi_answers.specs.declared.verdict.Answer.{Answer}

-- ---- a conversion

pub converted : (raw : Bool) (bytes new : List ℕ) (a : Answer) → IsConversion bytes new → a.status ≡ 0 → a.output.items ≡ image_output raw new
    → ((k : LayoutFault) → (¬ IsSecond bytes) → IsFault bytes k → ⊥) → (IsSecond bytes → ⊥)
    → ((found : List Finding) → (¬ IsSecond bytes) → HasFindings bytes found → ⊥) → ((found : List Finding) → HasStackFindings bytes found → ⊥) → (IsOfWords bytes → ⊥)
    → Answers (convert raw) bytes (Ok a)
converted raw bytes new a is status text layout first found stack words = record {
  says = inl (record { new = new; conversion = is; status_is = status; text_is = text });
  which = tt;
  only_done = λ _. status;
  only_refused = λ h. refused h.0 h.1;
  only_fault = fault;
}
  where
    refused : (others : List Finding) → ((¬ IsSecond bytes) × HasFindings bytes others) ⊎ HasStackFindings bytes others → AnswersStatus 1 (Ok a)
    refused others (inl g) = absurd (found others g.0 g.1)
    refused others (inr g) = absurd (stack others g)

    fault : (why : Stop) → IsNotConverted bytes why → IsErr {T = Answer} {E = Stop} (Ok a)
    fault (stop.Layout k) wrong = absurd (layout k wrong.0 wrong.1)
    fault (stop.Input input.NotOld) second = absurd (first second)
    fault (stop.Input input.Words) third = absurd (words third)
    fault _ none = absurd none

-- ---- a fault

not_old_one : (fault : ConvertFault) → AnswersNotOld (Err fault) → fault ≡ NotOld
not_old_one fault e = let h : ◌≡◌ {A = Result (Vec ℕ Global) ConvertFault} (Err fault) (Err NotOld) = e in cc

-- findings are those of an image that isn't of the second format
not_second : (read : List ℕ) (fault : ConvertFault) (found : List Finding) → (IsSecond read → AnswersNotOld (Err fault)) → HasFound fault found → IsSecond read → ⊥
not_second read fault found only f second =
    subst (λ (x : ConvertFault). HasFound x found) (not_old_one fault (only second)) f

findings_say : (raw : Bool) (bytes : List ℕ) (fault : ConvertFault) (found : List Finding) (status : ℕ) (line : List ℕ) → (¬ IsSecond bytes) → IsConvertFault bytes fault → status ≡ 1 → HasFound fault found
    → line ≡ refused_line found → SaysConversion raw bytes status line
findings_say raw bytes (Refused (refusal.Findings others)) found status line first is one h e =
    inr (inl (first, record { found = found; refused = subst (HasFindings bytes) h is.1; status_is = one; text_is = e }))
findings_say raw bytes (Stack others) found status line first is one h e = inr (inr (record { found = found; refused = subst (HasStackFindings bytes) h is; status_is = one; text_is = e }))
findings_say raw bytes _ found status line first is one h e = absurd h

fault_says : (raw : Bool) (bytes : List ℕ) (fault : ConvertFault) (answer : Result Answer Stop) → (IsSecond bytes → AnswersNotOld (Err fault))
    → IsConvertFault bytes fault → AnswersConvertFault fault answer → IfOk answer (λ a. SaysConversion raw bytes a.status a.output.items)
fault_says raw bytes fault (Ok a) only is h = findings_say raw bytes fault h.1.0 a.status a.output.items (not_second bytes fault h.1.0 only h.1.1) is h.0 h.1.1 h.1.2
fault_says raw bytes fault (Err s) only is h = tt

fault_stops : (bytes : List ℕ) (fault : ConvertFault) (answer : Result Answer Stop) → IsConvertFault bytes fault
    → AnswersConvertFault fault answer → IfErr answer (IsStop (IsNotConverted bytes))
fault_stops bytes fault (Ok a) is h = tt
fault_stops bytes fault (Err (stop.Input input.NotOld)) is h = subst (IsConvertFault bytes) h is
fault_stops bytes fault (Err (stop.Input input.Words)) is h = subst (IsConvertFault bytes) h is
fault_stops bytes fault (Err (stop.Layout k)) is h = subst (IsConvertFault bytes) h is
fault_stops bytes fault (Err stop.Memory) is h = tt
fault_stops bytes fault (Err _) is h = absurd h

-- an answer that is no other than want of memory
memory_answer : (status : ℕ) (answer : Result Answer Stop) → AnswersConvertFault Memory answer → AnswersStatus status answer
memory_answer status (Ok a) h = absurd h.1.1
memory_answer status (Err (stop.Input input.NotOld)) h = absurd (cc)
memory_answer status (Err (stop.Input input.Words)) h = absurd (cc)
memory_answer status (Err (stop.Layout k)) h = absurd (cc)
memory_answer status (Err stop.Memory) h = tt
memory_answer status (Err _) h = absurd h

done_after : (new : List ℕ) (fault : ConvertFault) (answer : Result Answer Stop) → AnswersConversion new (Err fault) → AnswersConvertFault fault answer → AnswersStatus 0 answer
done_after new Memory answer only h = memory_answer 0 answer h
done_after new _ answer only h = absurd only

-- findings are answered by status 1
findings_status : (fault : ConvertFault) (found : List Finding) (answer : Result Answer Stop) → HasFound fault found → AnswersConvertFault fault answer → AnswersStatus 1 answer
findings_status fault found (Ok a) f h = h.0
findings_status fault found (Err (stop.Input input.NotOld)) f h = absurd (subst (λ (x : ConvertFault). HasFound x found) h f)
findings_status fault found (Err (stop.Input input.Words)) f h = absurd (subst (λ (x : ConvertFault). HasFound x found) h f)
findings_status fault found (Err (stop.Layout k)) f h = absurd (subst (λ (x : ConvertFault). HasFound x found) h f)
findings_status fault found (Err stop.Memory) f h = tt
findings_status fault found (Err _) f h = absurd h

first_after : (found : List Finding) (fault : ConvertFault) (answer : Result Answer Stop) → AnswersFindings found (Err fault) → AnswersConvertFault fault answer → AnswersStatus 1 answer
first_after found (Refused (refusal.Findings others)) answer only h = findings_status (Refused (refusal.Findings others)) found answer only h
first_after found Memory answer only h = memory_answer 1 answer h
first_after found _ answer only h = absurd only

second_after : (found : List Finding) (fault : ConvertFault) (answer : Result Answer Stop) → AnswersStack found (Err fault) → AnswersConvertFault fault answer → AnswersStatus 1 answer
second_after found (Stack others) answer only h = findings_status (Stack others) found answer only h
second_after found Memory answer only h = memory_answer 1 answer h
second_after found _ answer only h = absurd only

no_layout : (fault : ConvertFault) (found : List Finding) (k : LayoutFault) → HasFound fault found → AnswersLayout k (Err fault) → ⊥
no_layout (Refused (refusal.Findings others)) found k f h = h
no_layout (Stack others) found k f h = h
no_layout _ found k f h = f

no_words : (fault : ConvertFault) (found : List Finding) → HasFound fault found → AnswersWords (Err fault) → ⊥
no_words (Refused (refusal.Findings others)) found f h = h
no_words (Stack others) found f h = h
no_words _ found f h = f

pub not_converted : (raw : Bool) (bytes : List ℕ) (fault : ConvertFault) (answer : Result Answer Stop) → IsConvertFault bytes fault → (IsSecond bytes → AnswersNotOld (Err fault))
    → ((k : LayoutFault) → (¬ IsSecond bytes) → IsFault bytes k → AnswersLayout k (Err fault))
    → ((found : List Finding) → (¬ IsSecond bytes) → HasFindings bytes found → AnswersFindings found (Err fault))
    → ((found : List Finding) → HasStackFindings bytes found → AnswersStack found (Err fault))
    → (IsOfWords bytes → AnswersWords (Err fault))
    → ((new : List ℕ) → IsConversion bytes new → AnswersConversion new (Err fault))
    → AnswersConvertFault fault answer → Answers (convert raw) bytes answer
not_converted raw bytes fault answer is only_not_old only_layout only_findings only_stack only_words only_converted h = record {
  says = fault_says raw bytes fault answer only_not_old is h;
  which = fault_stops bytes fault answer is h;
  only_done = λ done. done_after done.0 fault answer (only_converted done.0 done.1) h;
  only_refused = λ refused. status refused.0 refused.1;
  only_fault = error answer h;
}
  where
    status : (found : List Finding) → ((¬ IsSecond bytes) × HasFindings bytes found) ⊎ HasStackFindings bytes found → AnswersStatus 1 answer
    status found (inl g) = first_after found fault answer (only_findings found g.0 g.1) h
    status found (inr g) = second_after found fault answer (only_stack found g) h

    error : (r : Result Answer Stop) → AnswersConvertFault fault r → (why : Stop) → IsNotConverted bytes why → IsErr r
    error (Err s) e why wrong = refl
    error (Ok a) e (stop.Layout k) wrong = absurd (no_layout fault e.1.0 k e.1.1 (only_layout k wrong.0 wrong.1))
    error (Ok a) e (stop.Input input.NotOld) second = absurd (not_second bytes fault e.1.0 only_not_old e.1.1 second)
    error (Ok a) e (stop.Input input.Words) third = absurd (no_words fault e.1.0 e.1.1 (only_words third))
    error (Ok a) e _ none = absurd none
