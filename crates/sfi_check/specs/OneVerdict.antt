-- That bytes have one verdict, however they are read, and what a refusal says.
use Rattle.std.specs.Prelude.{List, ◌≡◌, ◌≢◌, ℕ, [], ◌++◌, Bool, true, length, slice_get, Some, Result, Ok, Err, IfOk, IfErr}
use Rattle.sfi_image.specs.declared.fault.LayoutFault.{LayoutFault}
use Rattle.sfi_image.specs.declared.fault.ImageFault.{ImageFault}
use Rattle.sfi_image.specs.declared.fault.ImageFault.TheVariants as image
use Rattle.sfi_rules.specs.declared.finding.Finding.{Finding}
use Rattle.sfi_check.specs.declared.refusal.Refusal.{Refusal}
use Rattle.sfi_check.specs.declared.refusal.Refusal.TheVariants.{Layout, Findings, Memory}
use Rattle.sfi_image.specs.Spelling.{Part}
use Rattle.sfi_image.specs.Faults.{IsFault}
use Rattle.sfi_check.specs.declared.stream_answer.StreamAnswer.{StreamAnswer}
use Rattle.sfi_check.specs.declared.stream_answer.StreamAnswer.TheVariants as answers
use Rattle.sfi_check.specs.Verdict.{HasFindings, bundle_count, IsVerdictOn}
use Rattle.sfi_safety.specs.Clean.{IsAccepted}

-- ==== Refusals.

-- the refusal of bytes with this layout fault
abbrev pub refusal_of : ImageFault → Refusal
refusal_of (image.Layout k) = Layout k
refusal_of image.Memory = Memory

-- what holds of the layout's fault, where that is the refusal
abbrev pub IfLayoutFault : (LayoutFault → Type 0) → Refusal → Type 0
IfLayoutFault P (Layout k) = P k
IfLayoutFault P (Findings found) = Unit {0}
IfLayoutFault P Memory = Unit {0}

-- what holds of the findings, where they are the refusal
abbrev pub IfFindings : (List Finding → Type 0) → Refusal → Type 0
IfFindings P (Layout k) = Unit {0}
IfFindings P (Findings found) = P found.items
IfFindings P Memory = Unit {0}

-- ==== That bytes have one verdict, however they are read.

-- what `check` promises of its answer on the bytes: its clauses `layout`, `findings` and `accepted`
pub record Answers (bytes : List ℕ) (answer : Result (List Part) Refusal) : Type 0 where
  pub layout : IfErr answer (IfLayoutFault (IsFault bytes))
  pub findings : IfErr answer (IfFindings (HasFindings bytes))
  pub accepted : IfOk answer (IsAccepted bytes)

-- `read` is what was read of the bytes: a beginning of them, and all of them where the stream ended
pub record IsReadOf (bytes read : List ℕ) (ends : Bool) : Type 0 where
  pub unread : List ℕ
  pub bytes_are : bytes ≡ read ++ unread
  pub all_read : ends ≡ true → unread ≡ []

-- `check_stream` says what `check` says; where memory ran out, `check` says nothing
abbrev pub SaysSame : Result (List Part) Refusal → StreamAnswer → Type 0
SaysSame (Ok ps) said = said ≡ answers.Accepted (length ps) (bundle_count ps)
SaysSame (Err (Layout k)) said = said ≡ answers.Layout k
SaysSame (Err (Findings found)) said =
    (first : Finding) × (slice_get found.items 0 ≡ Some first)
    × (said ≡ answers.Findings (length found.items) first)
SaysSame (Err Memory) said = Unit {0}

-- bytes have one list of findings at most
abbrev pub OneListOfFindings : Type 0
OneListOfFindings = (bytes : List ℕ) (found others : List Finding) → HasFindings bytes found
    → HasFindings bytes others → found ≡ others

-- bytes that are accepted have no list of findings
abbrev pub NeverAcceptedWithFindings : Type 0
NeverAcceptedWithFindings = (bytes : List ℕ) (ps : List Part) (found : List Finding)
    → IsAccepted bytes ps → HasFindings bytes found → ⊥

-- what `check_stream` answers after a beginning of the bytes is the verdict on all of them,
-- if no read failed
abbrev pub VerdictIsOnAll : Type 0
VerdictIsOnAll =
    (bytes read : List ℕ) (ends : Bool) (said : StreamAnswer) → IsReadOf bytes read ends
    → IsVerdictOn read ends said
    → said ≢ answers.ReadFault → IsVerdictOn bytes true said

-- two streams that hand out the same bytes have one answer, whatever the pieces and however much of
-- a refused image each read
abbrev pub OneVerdict : Type 0
OneVerdict =
    (bytes read others : List ℕ) (ends stops : Bool) (said again : StreamAnswer)
    → IsReadOf bytes read ends → IsReadOf bytes others stops
    → IsVerdictOn read ends said → IsVerdictOn others stops again → said ≢ answers.ReadFault
    → again ≢ answers.ReadFault → said ≡ again

-- what a stream of the bytes is answered is what `check` says of these bytes
abbrev pub StreamSaysSame : Type 0
StreamSaysSame =
    (bytes read : List ℕ) (ends : Bool) (answer : Result (List Part) Refusal) (said : StreamAnswer)
    → Answers bytes answer → IsReadOf bytes read ends → IsVerdictOn read ends said
    → said ≢ answers.ReadFault → SaysSame answer said
