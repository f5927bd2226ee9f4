-- What `convert` answers: an accepted image of the first format becomes that of the same sandboxes
-- in the second.
use Rattle.std.specs.Prelude.{◌≡◌, ◌≢◌, ℕ, List, [], take, true, Result, Ok, Err, Vec}
use Rattle.std.specs.Global.{Global}
use Rattle.std.specs.List.{All}
use Rattle.sfi_formats.specs.declared.format.Format.TheVariants.{Sfi1, Sfi2}
use Rattle.sfi_formats.specs.Formats.{magic, has_words}
use Rattle.sfi_image.specs.declared.fault.LayoutFault.{LayoutFault}
use Rattle.sfi_image.specs.Spelling.{Part, format_of}
use Rattle.sfi_image.specs.Numbers.{all_in_format}
use Rattle.sfi_image.specs.Faults.{IsFault}
use Rattle.sfi_rules.specs.declared.finding.Finding.{Finding}
use Rattle.sfi_rules.specs.declared.rule.Rule.TheVariants.{V10}
use Rattle.sfi_rules.specs.Findings.{AreImageFindings}
use Rattle.sfi_check.specs.declared.refusal.Refusal.{Refusal}
use Rattle.sfi_check.specs.declared.refusal.Refusal.TheVariants as refusal
use Rattle.sfi_check.specs.declared.conversion.ConvertFault.{ConvertFault}
use Rattle.sfi_check.specs.declared.conversion.ConvertFault.TheVariants.{Refused, NotOld, Stack, Memory, Words}
use Rattle.sfi_check.specs.Verdict.{HasFindings}
use Rattle.sfi_safety.specs.Clean.{IsAccepted}

-- ---- bytes

-- the bytes begin as an image of the second format does, whatever follows
abbrev pub IsSecond : List ℕ → Type 0
IsSecond bytes = take 4 bytes ≡ magic Sfi2

-- the bytes don't begin as an image of the second format, and this is why they are no accepted
-- image; want of memory is no reason
abbrev pub IsRefusalOf : List ℕ → Refusal → Type 0
IsRefusalOf bytes (refusal.Layout k) = (¬ IsSecond bytes) × IsFault bytes k
IsRefusalOf bytes (refusal.Findings found) = (¬ IsSecond bytes) × HasFindings bytes found.items
IsRefusalOf bytes refusal.Memory = ⊥

-- the bytes are an accepted image of code in words
pub record IsOfWords (bytes : List ℕ) : Type 0 where
  pub parts : List Part
  pub words : has_words (format_of parts) ≡ true
  pub accepted : IsAccepted bytes parts

-- the bytes are an accepted image of the first format, and these are the findings of the same
-- sandboxes in the second, of which there is at least one
pub record HasStackFindings (bytes : List ℕ) (found : List Finding) : Type 0 where
  pub parts : List Part
  pub first : format_of parts ≡ Sfi1
  pub accepted : IsAccepted bytes parts
  pub found_are : AreImageFindings (all_in_format Sfi2 parts) found
  pub some : found ≢ []

-- the bytes are an accepted image of the first format, and the new bytes are an accepted image of
-- the same sandboxes in the second
pub record IsConversion (bytes new : List ℕ) : Type 0 where
  pub parts : List Part
  pub first : format_of parts ≡ Sfi1
  pub accepted : IsAccepted bytes parts
  pub converted : IsAccepted new (all_in_format Sfi2 parts)

-- ---- faults

-- the number of a fault
abbrev pub number_of : ConvertFault → ℕ
number_of (Refused r) = 1
number_of NotOld = 2
number_of (Stack found) = 3
number_of Memory = 4
number_of Words = 5

-- the fault of a conversion where `check` refuses with this: its want of memory is want of memory
abbrev pub fault_of : Refusal → ConvertFault
fault_of (refusal.Layout k) = Refused (refusal.Layout k)
fault_of (refusal.Findings found) = Refused (refusal.Findings found)
fault_of refusal.Memory = Memory

-- what the fault means, of bytes
abbrev pub IsConvertFault : List ℕ → ConvertFault → Type 0
IsConvertFault bytes (Refused r) = IsRefusalOf bytes r
IsConvertFault bytes NotOld = IsSecond bytes
IsConvertFault bytes (Stack found) = HasStackFindings bytes found.items
IsConvertFault bytes Memory = Unit {0}
IsConvertFault bytes Words = IsOfWords bytes

-- each finding is that of a write to the stack pointer
abbrev pub AreOfStack : List Finding → Type 0
AreOfStack found = All (λ f. f.rule ≡ V10) found

-- what holds of the second format's findings, where they are the fault
abbrev pub IfStack : (List Finding → Type 0) → ConvertFault → Type 0
IfStack P (Refused r) = Unit {0}
IfStack P NotOld = Unit {0}
IfStack P (Stack found) = P found.items
IfStack P Memory = Unit {0}
IfStack P Words = Unit {0}

-- ---- answers, want of memory aside

-- the answer is NotOld; memory can't have run out
abbrev pub AnswersNotOld : Result (Vec ℕ Global) ConvertFault → Type 0
AnswersNotOld answer = answer ≡ Err NotOld

-- the answer is this fault of the layout, or memory ran out
abbrev pub AnswersLayout : LayoutFault → Result (Vec ℕ Global) ConvertFault → Type 0
AnswersLayout k (Ok new) = ⊥
AnswersLayout k (Err (Refused (refusal.Layout j))) = j ≡ k
AnswersLayout k (Err (Refused (refusal.Findings found))) = ⊥
AnswersLayout k (Err (Refused refusal.Memory)) = ⊥
AnswersLayout k (Err NotOld) = ⊥
AnswersLayout k (Err (Stack found)) = ⊥
AnswersLayout k (Err Memory) = Unit {0}
AnswersLayout k (Err Words) = ⊥

-- the answer is these findings of the image's own format, or memory ran out
abbrev pub AnswersFindings : List Finding → Result (Vec ℕ Global) ConvertFault → Type 0
AnswersFindings found (Ok new) = ⊥
AnswersFindings found (Err (Refused (refusal.Layout j))) = ⊥
AnswersFindings found (Err (Refused (refusal.Findings others))) = others.items ≡ found
AnswersFindings found (Err (Refused refusal.Memory)) = ⊥
AnswersFindings found (Err NotOld) = ⊥
AnswersFindings found (Err (Stack others)) = ⊥
AnswersFindings found (Err Memory) = Unit {0}
AnswersFindings found (Err Words) = ⊥

-- the answer is these findings of the second format, or memory ran out
abbrev pub AnswersStack : List Finding → Result (Vec ℕ Global) ConvertFault → Type 0
AnswersStack found (Ok new) = ⊥
AnswersStack found (Err (Refused r)) = ⊥
AnswersStack found (Err NotOld) = ⊥
AnswersStack found (Err (Stack others)) = others.items ≡ found
AnswersStack found (Err Memory) = Unit {0}
AnswersStack found (Err Words) = ⊥

-- the answer is Words, or memory ran out
abbrev pub AnswersWords : Result (Vec ℕ Global) ConvertFault → Type 0
AnswersWords (Ok new) = ⊥
AnswersWords (Err (Refused r)) = ⊥
AnswersWords (Err NotOld) = ⊥
AnswersWords (Err (Stack found)) = ⊥
AnswersWords (Err Memory) = Unit {0}
AnswersWords (Err Words) = Unit {0}

-- the answer is these bytes, or memory ran out
abbrev pub AnswersConversion : List ℕ → Result (Vec ℕ Global) ConvertFault → Type 0
AnswersConversion new (Ok v) = v.items ≡ new
AnswersConversion new (Err (Refused r)) = ⊥
AnswersConversion new (Err NotOld) = ⊥
AnswersConversion new (Err (Stack found)) = ⊥
AnswersConversion new (Err Memory) = Unit {0}
AnswersConversion new (Err Words) = ⊥
