-- What `check` says of an image's bytes.
use Rattle.std.specs.Prelude.{◌≡◌, ◌≢◌, ◌/◌, ℕ, List, [], length, sum_by, Result, Ok, Err, ◌⊎◌, Bool, true, slice_get, Some}
use Rattle.sfi_formats.specs.Limits.{bundle_size}
use Rattle.sfi_image.specs.declared.fault.LayoutFault.{LayoutFault}
use Rattle.sfi_image.specs.Spelling.{Part}
use Rattle.sfi_image.specs.Parts.{IsImage}
use Rattle.sfi_rules.specs.declared.finding.Finding.{Finding}
use Rattle.sfi_rules.specs.Findings.{AreImageFindings}
use Rattle.sfi_check.specs.declared.refusal.Refusal.{Refusal}
use Rattle.sfi_check.specs.declared.refusal.Refusal.TheVariants.{Layout, Findings, Memory}
use Rattle.sfi_image.specs.Faults.{IsFault}
use Rattle.sfi_image.specs.Prefixes.{HasFaultWhateverFollows}
use Rattle.sfi_check.specs.declared.stream_answer.StreamAnswer.{StreamAnswer}
use Rattle.sfi_check.specs.declared.stream_answer.StreamAnswer.TheVariants as answers
use Rattle.sfi_safety.specs.Clean.{IsAccepted}
use Rattle.sfi_safe_runs.specs.Safety.{AllRunSafely}

-- ---- images

-- the bundles that the code regions have together
abbrev pub bundle_count : List Part → ℕ
bundle_count ps = sum_by (λ p. length p.code / bundle_size) ps

-- ---- bytes

-- the bytes are an image with these findings, of which there is at least one
pub record HasFindings (bytes : List ℕ) (found : List Finding) : Type 0 where
  pub parts : List Part
  pub image : IsImage bytes parts
  pub found_are : AreImageFindings parts found
  pub some : found ≢ []

-- ---- answers, want of memory aside

-- the answer is this fault of the layout, or memory ran out
abbrev pub AnswersLayout : {A : Type 0} → LayoutFault → Result A Refusal → Type 0
AnswersLayout k (Ok a) = ⊥
AnswersLayout k (Err (Layout j)) = j ≡ k
AnswersLayout k (Err (Findings found)) = ⊥
AnswersLayout k (Err Memory) = Unit {0}

-- the answer is these findings, or memory ran out
abbrev pub AnswersFindings : {A : Type 0} → List Finding → Result A Refusal → Type 0
AnswersFindings found (Ok a) = ⊥
AnswersFindings found (Err (Layout j)) = ⊥
AnswersFindings found (Err (Findings others)) = others.items ≡ found
AnswersFindings found (Err Memory) = Unit {0}

-- the answer is the image with these parts, or memory ran out
abbrev pub AnswersAccepted : List Part → Result (List Part) Refusal → Type 0
AnswersAccepted ps (Ok others) = others ≡ ps
AnswersAccepted ps (Err (Layout j)) = ⊥
AnswersAccepted ps (Err (Findings others)) = ⊥
AnswersAccepted ps (Err Memory) = Unit {0}

-- ==== What `check_stream` says of the bytes of a stream.

-- ---- what holds of an answer, where it is a certain one

abbrev pub IfLayout : (LayoutFault → Type 0) → StreamAnswer → Type 0
IfLayout P (answers.Accepted sandboxes bundles) = Unit {0}
IfLayout P (answers.Layout k) = P k
IfLayout P (answers.Findings count first) = Unit {0}
IfLayout P answers.ReadFault = Unit {0}

abbrev pub IfFindings : (ℕ → Finding → Type 0) → StreamAnswer → Type 0
IfFindings P (answers.Accepted sandboxes bundles) = Unit {0}
IfFindings P (answers.Layout k) = Unit {0}
IfFindings P (answers.Findings count first) = P count first
IfFindings P answers.ReadFault = Unit {0}

abbrev pub IfAccepted : (ℕ → ℕ → Type 0) → StreamAnswer → Type 0
IfAccepted P (answers.Accepted sandboxes bundles) = P sandboxes bundles
IfAccepted P (answers.Layout k) = Unit {0}
IfAccepted P (answers.Findings count first) = Unit {0}
IfAccepted P answers.ReadFault = Unit {0}

-- ---- of bytes

-- `count` is the number of the findings, and `first` the first of them
pub record AreCounted (count : ℕ) (first : Finding) (found : List Finding) : Type 0 where
  pub count_is : count ≡ length found
  pub first_is : slice_get found 0 ≡ Some first

-- The answer on the bytes of a stream, and whether it ended: what each answer means, and which
-- bytes get it, where the stream ended. Accepted means that the bytes are an image without
-- findings, each of whose runs is safe.
pub record IsVerdictOn (bytes : List ℕ) (ends : Bool) (answer : StreamAnswer) : Type 0 where
  pub layout : IfLayout (λ k. ((ends ≡ true) × IsFault bytes k)
      ⊎ HasFaultWhateverFollows bytes k) answer
  pub findings : IfFindings (λ count first. (ends ≡ true) × (found : List Finding)
      × HasFindings bytes found × AreCounted count first found) answer
  pub accepted : IfAccepted (λ sandboxes bundles. (ends ≡ true) × (ps : List Part)
      × IsAccepted bytes ps × (sandboxes ≡ length ps)
      × (bundles ≡ bundle_count ps) × AllRunSafely ps) answer
  pub only_layout :
      ends ≡ true → (k : LayoutFault) → IsFault bytes k → answer ≡ answers.Layout k
  pub only_findings : ends ≡ true → (found : List Finding) → HasFindings bytes found
      → (first : Finding) → slice_get found 0 ≡ Some first
      → answer ≡ answers.Findings (length found) first
  pub only_accepted : ends ≡ true → (ps : List Part) → IsAccepted bytes ps
      → answer ≡ answers.Accepted (length ps) (bundle_count ps)

-- The findings that were handed over on the way to the answer: all of the bytes where there are
-- any, and none where the bytes are accepted. With another answer nothing is said of them.
pub record AreHandedOver (bytes : List ℕ) (found : List Finding) (answer : StreamAnswer) : Type 0 where
  pub findings : IfFindings (λ count first. HasFindings bytes found) answer
  pub accepted : IfAccepted (λ sandboxes bundles. found ≡ []) answer
