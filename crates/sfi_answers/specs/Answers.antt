-- What is said of a command, and what `check`, `dis`, `translate` and `native` answer on an image's bytes.
use Rattle.std.specs.Prelude.{◌⊎◌, ℕ, List, ◌≡◌, ◌<◌, ◌≤◌, Result, Ok, Err, IfErr, IfOk, IsErr, [], ◌∷◌, ◌++◌, length, codes, decimal, Bool, true, false}
use Rattle.sfi_io.specs.Hexadecimal.{GivesImage, BeginsAsImage, IsHexFault, limit}
use Rattle.sfi_io.specs.declared.hexadecimal.HexStop.{HexStop}
use Rattle.sfi_io.specs.declared.hexadecimal.HexStop.TheVariants as hex
use Rattle.sfi_build.specs.declared.fault.BuildFault.{BuildFault}
use Rattle.sfi_build.specs.Texts.{IsWantOfMemory}
use Rattle.sfi_answers.specs.declared.fault.InputFault.TheVariants.{Hex, TooLarge}
use Rattle.sfi_answers.specs.declared.fault.Stop.{Stop}
use Rattle.sfi_answers.specs.declared.fault.Stop.TheVariants as stop
use Rattle.sfi_answers.specs.declared.verdict.Answer.{Answer}
use Rattle.sfi_image.specs.Spelling.{Part}
use Rattle.sfi_check.specs.Verdict.{bundle_count, HasFindings, AnswersLayout, AnswersFindings, AnswersAccepted}
use Rattle.sfi_rules.specs.Rules.{number_of}
use Rattle.sfi_rules.specs.declared.finding.Finding.{Finding}
use Rattle.sfi_report.specs.Listing.{hex_digits, line_end, IsListing}
use Rattle.sfi_image.specs.Parts.{IsImage}
use Rattle.sfi_image.specs.Faults.{IsFault}
use Rattle.sfi_image.specs.declared.fault.LayoutFault.{LayoutFault}
use Rattle.sfi_safety.specs.Clean.{IsAccepted}
use Rattle.sfi_report.specs.Report.{IsReport}
use Rattle.sfi_check.specs.declared.refusal.Refusal.{Refusal}
use Rattle.sfi_check.specs.OneVerdict.{IfLayoutFault, IfFindings}
use Rattle.sfi_native.specs.File.{IsNativeFile}
use Rattle.sfi_translate.specs.Translation.{IsTranslation}
use Rattle.sfi_answers.specs.declared.whole_program.TheConstants.{WHOLE_FRONT}

-- ==== What is said of a command, what it answers on what was read, and why it stops.

-- what is said of a command, by what was read
pub record Meaning : Type 1 where
  -- its answer: a status, 0 or 1, and what is printed
  pub says : List ℕ → ℕ → List ℕ → Type 0
  -- status 0 is due: it can be done
  pub is_done : List ℕ → Type 0
  -- status 1 is due: it is refused for findings
  pub is_refused : List ℕ → Type 0
  -- status 2 is due: what was read has this fault, and is to be answered with it
  pub why : List ℕ → Stop → Type 0

-- the input is an image's bytes, or spells them, and this holds of the bytes
abbrev pub GivesImageThat : (List ℕ → Type 0) → List ℕ → Type 0
GivesImageThat holds input = (bytes : List ℕ) × GivesImage input bytes × holds bytes

-- why input gives no image: it is above its limit; or it keeps that, doesn't begin as an image, and
-- its digits have this fault
abbrev pub IsNoImage : List ℕ → Stop → Type 0
IsNoImage input (stop.Input TooLarge) = limit < length input
IsNoImage input (stop.Input (Hex fault)) =
    (length input ≤ limit) × (¬ BeginsAsImage input) × IsHexFault input fault
IsNoImage input _ = ⊥

-- the command on an image that comes as its bytes or as hexadecimal text: the same is said of the
-- bytes; and input that is neither has a fault
abbrev pub on_image : Meaning → Meaning
on_image command = record {
  says = λ input status answer. GivesImageThat (λ bytes. command.says bytes status answer) input;
  is_done = GivesImageThat command.is_done;
  is_refused = GivesImageThat command.is_refused;
  why = λ input fault. IsNoImage input fault ⊎ GivesImageThat (λ bytes. command.why bytes fault) input;
}

-- where a text spells no bytes, its command stops so
abbrev pub stop_of : HexStop → Stop
stop_of (hex.Fault fault) = stop.Input (Hex fault)
stop_of hex.Memory = stop.Memory

-- a build stops at its fault, or for want of memory
abbrev pub StopsBuild : BuildFault → Stop → Type 0
StopsBuild f (stop.Input fault) = ⊥
StopsBuild f (stop.Layout fault) = ⊥
StopsBuild f (stop.Build fault) = (fault ≡ f) × ¬ IsWantOfMemory f
StopsBuild f stop.Memory = Unit {0}

-- a command stops so for want of memory, or for a fault that is one of these
abbrev pub IsStop : (Stop → Type 0) → Stop → Type 0
IsStop faults (stop.Input fault) = faults (stop.Input fault)
IsStop faults (stop.Layout fault) = faults (stop.Layout fault)
IsStop faults (stop.Build fault) = faults (stop.Build fault)
IsStop faults stop.Memory = Unit {0}

-- the answer has this status, or memory ran out
abbrev pub AnswersStatus : ℕ → Result Answer Stop → Type 0
AnswersStatus status (Ok answer) = answer.status ≡ status
AnswersStatus status (Err (stop.Input fault)) = ⊥
AnswersStatus status (Err (stop.Layout fault)) = ⊥
AnswersStatus status (Err (stop.Build fault)) = ⊥
AnswersStatus status (Err stop.Memory) = Unit {0}

-- what a command answers on what was read, or why it stops
pub record Answers (command : Meaning) (input : List ℕ) (result : Result Answer Stop) : Type 0 where
  pub says : IfOk result (λ a. command.says input a.status a.output.items)
  pub which : IfErr result (IsStop (command.why input))
  pub only_done : command.is_done input → AnswersStatus 0 result
  pub only_refused : command.is_refused input → AnswersStatus 1 result
  pub only_fault : (fault : Stop) → command.why input fault → IsErr result

-- ==== The command `check`, on an image's bytes.

-- ---- the lines that say whether an image is accepted

-- the line that says how many sandboxes and bundles an image without findings has
unfoldable pub accepted_text : ℕ → ℕ → List ℕ
accepted_text sandboxes bundles =
    codes "accepted sandboxes=" ++ decimal sandboxes
    ++ codes " bundles=" ++ decimal bundles ++ line_end

-- the line that says how many findings an image has, and the rule, sandbox and address of the first
unfoldable pub refused_text : ℕ → Finding → List ℕ
refused_text count first =
    codes "refused findings=" ++ decimal count
    ++ codes " first=V" ++ decimal (number_of first.rule)
    ++ codes " sandbox=" ++ decimal first.sandbox
    ++ codes " at=" ++ hex_digits 8 first.address ++ line_end

-- the line of an image without findings
abbrev pub accepted_line : List Part → List ℕ
accepted_line ps = accepted_text (length ps) (bundle_count ps)

-- the line of an image with findings
abbrev pub refused_line : List Finding → List ℕ
refused_line [] = []
refused_line (first ∷ rest) = refused_text (length (first ∷ rest)) first

-- ---- the answer

-- the image has no findings: status 0 and the line of its counts
pub record SaysAccepted (bytes : List ℕ) (status : ℕ) (text : List ℕ) : Type 0 where
  pub parts : List Part
  pub accepted : IsAccepted bytes parts
  pub status_is : status ≡ 0
  pub text_is : text ≡ accepted_line parts

-- the report on these findings of the image with these bytes
pub record IsReportOf (bytes : List ℕ) (found : List Finding) (text : List ℕ) : Type 0 where
  pub parts : List Part
  pub image : IsImage bytes parts
  pub report : IsReport parts found text

-- the line of the first finding, and before it the report, where that is asked for
abbrev pub IsRefusalText : Bool → List ℕ → List Finding → List ℕ → Type 0
IsRefusalText false bytes found text = text ≡ refused_line found
IsRefusalText true bytes found text =
    (lines : List ℕ) × IsReportOf bytes found lines × (text ≡ lines ++ refused_line found)

-- the image has findings: status 1 and that text
pub record SaysRefused (report : Bool) (bytes : List ℕ) (status : ℕ) (text : List ℕ) : Type 0 where
  pub found : List Finding
  pub refused : HasFindings bytes found
  pub status_is : status ≡ 1
  pub text_is : IsRefusalText report bytes found text

-- the verdict on the image with these bytes, with the report or without
abbrev pub SaysVerdict : Bool → List ℕ → ℕ → List ℕ → Type 0
SaysVerdict report bytes status text =
    SaysAccepted bytes status text ⊎ SaysRefused report bytes status text

-- ---- when it is due

-- the bytes are an image without findings
abbrev pub IsAcceptedImage : List ℕ → Type 0
IsAcceptedImage bytes = (parts : List Part) × IsAccepted bytes parts

-- they are an image with findings
abbrev pub HasSomeFindings : List ℕ → Type 0
HasSomeFindings bytes = (found : List Finding) × HasFindings bytes found

-- they are no image: this is the fault of the layout
abbrev pub IsLayoutFault : List ℕ → Stop → Type 0
IsLayoutFault bytes (stop.Layout k) = IsFault bytes k
IsLayoutFault bytes _ = ⊥

-- ---- the command

-- a command with this answer, which is done on an image without findings, refused on one with
-- findings, and has the fault of the layout where the bytes are no image
abbrev pub on_verdict : (List ℕ → ℕ → List ℕ → Type 0) → Meaning
on_verdict says = record {
  says = says;
  is_done = IsAcceptedImage;
  is_refused = HasSomeFindings;
  why = IsLayoutFault;
}

-- `check`, with the report or without
abbrev pub check : Bool → Meaning
check report = on_verdict (SaysVerdict report)

-- ---- why the check refuses bytes

-- the check of these bytes refuses them so: the fault or the findings are theirs,
-- and no other answer is
pub record Refuses (bytes : List ℕ) (refusal : Refusal) : Type 0 where
  pub layout : IfLayoutFault (IsFault bytes) refusal
  pub findings : IfFindings (HasFindings bytes) refusal
  pub only_layout :
      (k : LayoutFault) → IsFault bytes k → AnswersLayout {A = List Part} k (Err refusal)
  pub only_findings : (found : List Finding) → HasFindings bytes found
      → AnswersFindings {A = List Part} found (Err refusal)
  pub only_accepted :
      (parts : List Part) → IsAccepted bytes parts → AnswersAccepted parts (Err refusal)

-- ==== The command `dis`, on an image's bytes.

-- the image has a right layout: status 0 and its listing
pub record SaysListing (bytes : List ℕ) (status : ℕ) (text : List ℕ) : Type 0 where
  pub parts : List Part
  pub image : IsImage bytes parts
  pub status_is : status ≡ 0
  pub text_is : IsListing parts text

-- `dis`, which looks for no findings
abbrev pub dis : Meaning
dis = record {
  says = SaysListing;
  is_done = λ bytes. (parts : List Part) × IsImage bytes parts;
  is_refused = λ bytes. ⊥;
  why = IsLayoutFault;
}

-- ==== The command `translate`, on an image's bytes.

-- What stands before the lines of a translation: the line that gives them their meaning in C; in a
-- whole program the header itself, and the console of `run`, of which nothing is said here.
unfoldable pub front_text : Bool → List ℕ
front_text false = codes "#include \"sfi_native.h\"" ++ line_end
front_text true = WHOLE_FRONT.now

-- what stands after them: the end of the part of a whole program that is read again and again
unfoldable pub back_text : Bool → List ℕ
back_text false = codes ""
back_text true = codes "#endif" ++ line_end

-- the translation of an image with these parts, for a host or as a whole program
pub record IsTranslationText (whole : Bool) (parts : List Part) (text : List ℕ) : Type 0 where
  pub translation : List ℕ
  pub translated : IsTranslation parts translation
  pub text_is : text ≡ front_text whole ++ translation ++ back_text whole

-- the image has no findings: status 0 and that text
pub record SaysTranslated (whole : Bool) (bytes : List ℕ) (status : ℕ) (text : List ℕ) : Type 0 where
  pub parts : List Part
  pub accepted : IsAccepted bytes parts
  pub status_is : status ≡ 0
  pub text_is : IsTranslationText whole parts text

-- the translation, or the verdict on an image with findings
abbrev pub SaysTranslation : Bool → List ℕ → ℕ → List ℕ → Type 0
SaysTranslation whole bytes status text =
    SaysTranslated whole bytes status text ⊎ SaysRefused false bytes status text

-- `translate`, for a host or as a whole program
abbrev pub translate : Bool → Meaning
translate whole = on_verdict (SaysTranslation whole)

-- ==== The command `native`, on an image's bytes.

-- the image has no findings: status 0 and the file of its native code
pub record SaysNativeFile (bytes : List ℕ) (status : ℕ) (file : List ℕ) : Type 0 where
  pub parts : List Part
  pub accepted : IsAccepted bytes parts
  pub status_is : status ≡ 0
  pub file_is : IsNativeFile bytes parts file

-- the file, or the verdict on an image with findings
abbrev pub SaysNative : List ℕ → ℕ → List ℕ → Type 0
SaysNative bytes status text = SaysNativeFile bytes status text ⊎ SaysRefused false bytes status text

-- `native`
abbrev pub native : Meaning
native = on_verdict SaysNative
