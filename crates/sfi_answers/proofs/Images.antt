-- What is answered on an image: by its first bytes, accepted, refused, or as a stream.
use Rattle.std.proofs.Common.{◌≡◌, ◌≢◌, ℕ, List, Bool, Vec, Global, Ok, Err, refl, ◌∙◌, ◌⊎◌, ◌↔◌, true, false, ◌++◌, Option, Some, None, ap, sym, subst, inl, inr, IfSome, [], ◌∷◌}
use Rattle.sfi_check.specs.Verdict.{HasFindings, AreCounted, IsVerdictOn}
use Rattle.sfi_check.specs.declared.refusal.Refusal.TheVariants.{Layout, Findings}
use Rattle.sfi_image.specs.Faults.{IsFault}
use Rattle.sfi_image.specs.declared.fault.LayoutFault.{LayoutFault}
use Rattle.sfi_rules.specs.declared.finding.Finding.{Finding}
use Rattle.sfi_answers.specs.Answers.{IsRefusalText, SaysRefused, on_verdict, check, Meaning, Refuses, Answers, IsLayoutFault, IsStop, SaysVerdict, accepted_text, refused_line, refused_text}
use Rattle.sfi_answers.specs.FaultTexts.{IsFaultLine, layout_text, stop_text}
use Rattle.sfi_answers.specs.declared.fault.Stop.{Stop}
use Rattle.sfi_answers.specs.declared.fault.Stop.TheVariants as stop
use Rattle.sfi_answers.specs.declared.verdict.Answer.{Answer}
use Rattle.std.specs.Prelude.{IfOk, IsTrue, Result}
use Rattle.std.specs.Io.KnownBytes.{Consumes}
use Rattle.std.specs.Fmt.{option_append}
use Rattle.sfi_io.specs.Hexadecimal.{BeginsAsImage}
use Rattle.std.proofs.lemmas.List.{append-nil}
use Rattle.sfi_image.specs.Prefixes.{HasFaultWhateverFollows}
use Rattle.sfi_image.specs.Sources.{Streams}
use Rattle.sfi_image.proofs.Handing.{reads_known, handed_out}
use Rattle.sfi_check.specs.declared.stream_answer.StreamAnswer.{StreamAnswer}
use Rattle.sfi_check.specs.declared.stream_answer.StreamAnswer.TheVariants as answers
use Rattle.sfi_answers.specs.private.{IsJudged}

-- ==== What is answered on the bytes of an image that is accepted or refused.

-- a fault of the layout is no other
pub no_layout : {P : Type 0} (bytes : List ℕ) (fault : Stop) → ((k : LayoutFault) → IsFault bytes k → P) → IsLayoutFault bytes fault → P
no_layout bytes (stop.Layout k) follows is = follows k is
no_layout bytes _ follows is = absurd is

-- an image without findings
pub accepted : (says : List ℕ → ℕ → List ℕ → Type 0) (bytes : List ℕ) (a : Answer) → a.status ≡ 0 → says bytes a.status a.output.items
    → ((found : List Finding) → ¬ HasFindings bytes found) → ((k : LayoutFault) → ¬ IsFault bytes k) → Answers (on_verdict says) bytes (Ok a)
accepted says bytes a status said found layout = record {
  says = said;
  which = tt;
  only_done = λ _. status;
  only_refused = λ h. absurd (found h.0 h.1);
  only_fault = λ fault h. absurd (no_layout {P = ⊥} bytes fault layout h);
}

-- one with findings
pub has_findings : (report : Bool) (bytes : List ℕ) (found : Vec Finding Global) (a : Answer) → Refuses bytes (Findings found) → a.status ≡ 1
    → IsRefusalText report bytes found.items a.output.items → Answers (on_verdict (SaysRefused report)) bytes (Ok a)
has_findings report bytes found a refused status text = record {
  says = record { found = found.items; refused = refused.findings; status_is = status; text_is = text };
  which = tt;
  only_done = λ h. absurd (refused.only_accepted h.0 h.1);
  only_refused = λ _. status;
  only_fault = λ fault h. absurd (no_layout {P = ⊥} bytes fault refused.only_layout h);
}

-- no image
pub has_fault : (says : List ℕ → ℕ → List ℕ → Type 0) (bytes : List ℕ) (k : LayoutFault) → Refuses bytes (Layout k) → Answers (on_verdict says) bytes (Err (stop.Layout k))
has_fault says bytes k refused = record {
  says = tt;
  which = refused.layout;
  only_done = λ h. refused.only_accepted h.0 h.1;
  only_refused = λ h. refused.only_findings h.0 h.1;
  only_fault = λ _ _. refl;
}

-- a stop that is no want of memory
pub of_stop : (faults : Stop → Type 0) (s : Stop) → IsStop faults s → s ≢ stop.Memory → faults s
of_stop faults (stop.Input fault) is other = is
of_stop faults (stop.Layout fault) is other = is
of_stop faults (stop.Build fault) is other = is
of_stop faults stop.Memory is other = absurd (other refl)

-- the line of such a stop
pub line_of_stop : {E : Type 0} (command : Meaning) (input : List ℕ) (why : Stop) (r : Result Answer E) → IsStop (command.why input) why → IfOk r (λ a. why ≢ stop.Memory) → IfOk r (λ a. a.output.items ≡ stop_text why)
    → IfOk r (λ a. a.status ≡ 2 → IsFaultLine command input a.output.items)
line_of_stop command input why (Ok a) is other text = λ _. (why, of_stop (command.why input) why is other, text)
line_of_stop command input why (Err e) is other text = tt

-- ==== What is answered on an image that is read, by its first bytes.

-- the front begins as an image, and so does the input; or neither does
pub all_begin : (old : Option (List ℕ)) (front read : List ℕ) (b : Bool) → read ≡ front → IsTrue b ↔ BeginsAsImage read
    → IfSome old (λ input. BeginsAsImage front ↔ BeginsAsImage input) → b ≡ true → IfSome old BeginsAsImage
all_begin None front read b same tells of is = tt
all_begin (Some input) front read b same tells of is = of.0 (subst BeginsAsImage same (tells.0 is))

pub none_begins : (old : Option (List ℕ)) (front read : List ℕ) (b : Bool) → read ≡ front → IsTrue b ↔ BeginsAsImage read
    → IfSome old (λ input. BeginsAsImage front ↔ BeginsAsImage input) → b ≡ false → IfSome old (λ input. ¬ BeginsAsImage input)
none_begins None front read b same tells of is = tt
none_begins (Some input) front read b same tells of is =
    λ begins. let yes = tells.1 (subst BeginsAsImage (sym same) (of.1 begins)) in absurd (cc)

-- what is said of the front and what follows is said of the input
pub of_front : (old new whole : Option (List ℕ)) (front read : List ℕ) (C P : List ℕ → Type 0) → Consumes old new front → read ≡ front
    → whole ≡ option_append (Some read) new → IfSome old C → IfSome whole (λ input. C input → P input) → IfSome old P
of_front None new whole front read C P consumes same is c h = tt
of_front (Some input) None whole front read C P consumes same is c h = absurd consumes
of_front (Some input) (Some rest) whole front read C P consumes same is c h =
    let all : whole ≡ Some input = is ∙ ap (λ (l : List ℕ). Some (l ++ rest)) same ∙ ap Some (sym consumes) in
    subst (λ (k : Option (List ℕ)). IfSome k (λ input. C input → P input)) all h c

-- ==== What is answered on a stream holds of all bytes of which it gave a front.

-- the line of counted findings is that of the findings
line_of_count : (count : ℕ) (first : Finding) (found : List Finding) → AreCounted count first found → refused_text count first ≡ refused_line found
line_of_count count first [] h = let e = h.first_is in absurd (cc)
line_of_count count first (x ∷ found) h =
    let e = h.first_is in
    let same : first ≡ x = cc in
    rw (h.count_is, same) refl

-- where the stream ended, it gave all
gave_all : (answer : StreamAnswer) (all : List ℕ) (j : IsJudged answer all) → j.ends ≡ true → j.given ≡ all
gave_all answer all j ends = sym (j.all_are ∙ ap (λ (l : List ℕ). j.given ++ l) (j.none_left ends) ∙ append-nil j.given)

-- an image without findings
pub says_accepted : (sandboxes bundles : ℕ) (text all : List ℕ) → text ≡ accepted_text sandboxes bundles → IsJudged (answers.Accepted sandboxes bundles) all → SaysVerdict false all 0 text
says_accepted sandboxes bundles text all is j =
    let v = j.verdict.accepted in
    subst (λ (l : List ℕ). SaysVerdict false l 0 text) (gave_all _ all j v.0)
    (inl (record { parts = v.1; accepted = v.2; status_is = refl; text_is = is ∙ rw (v.3, v.4) refl }))

-- one with findings
pub says_refused : (count : ℕ) (first : Finding) (text all : List ℕ) → text ≡ refused_text count first → IsJudged (answers.Findings count first) all → SaysVerdict false all 1 text
says_refused count first text all is j =
    let v = j.verdict.findings in
    subst (λ (l : List ℕ). SaysVerdict false l 1 text) (gave_all _ all j v.0)
    (inr (record { found = v.1; refused = v.2; status_is = refl; text_is = is ∙ line_of_count count first v.1 v.3 }))

-- and one with a fault, whether the stream was read to its end or not
streamed_is : (k : LayoutFault) (all : List ℕ) → IsJudged (answers.Layout k) all → IsFault all k
streamed_is k all j = by j.verdict.layout
  where
    by : ((j.ends ≡ true) × IsFault j.given k) ⊎ HasFaultWhateverFollows j.given k → IsFault all k
    by (inl at_end) = subst (λ (l : List ℕ). IsFault l k) (gave_all _ all j at_end.0) at_end.1
    by (inr onwards) = subst (λ (l : List ℕ). IsFault l k) (sym j.all_are) (onwards j.rest)

pub streamed_line : (k : LayoutFault) (all line : List ℕ) → line ≡ layout_text k → IsJudged (answers.Layout k) all → IsFaultLine (check false) all line
streamed_line k all line text j = (stop.Layout k, streamed_is k all j, text)

-- the verdict on a stream of a reader is one on all that the reader told
pub judged : {S : Type 0} (known : S → Option (List ℕ)) (failed : S → Bool) (s t : S) (answer : StreamAnswer) (told : Option (List ℕ)) (P : List ℕ → Type 0) → known s ≡ told
    → ((bytes : List ℕ) × (ends : Bool) × Streams (reads_known known failed) 4096 s t bytes ends × IsVerdictOn bytes ends answer)
    → ((all : List ℕ) → IsJudged answer all → P all) → IfSome told P
judged known failed s t answer None P e h holds = tt
judged known failed s t answer (Some all) P e h holds =
    let front = handed_out known failed 4096 s t h.0 all h.1 h.2 e in
    holds all (record { given = h.0; rest = front.0; ends = h.1; all_are = front.1; none_left = front.2; verdict = h.3 })
