-- Words that private contracts and proofs alone cite: no public statement rests on them.
use Rattle.std.specs.Prelude.{◌≡◌, ◌≢◌, List, [], Result, Ok, Err, ℕ, Bool, true, false, ◌++◌, Option, Some, None, IfSome, Vec, ◌+◌, length, nat_lt, if◌then◌else◌, option_map}
use Rattle.std.specs.declared.alloc.Global.{Global}
use Rattle.sfi_formats.specs.declared.place.Place.{Place}
use Rattle.sfi_places.specs.Moving.{IsMoved, IsMoveFault}
use Rattle.sfi_places.specs.declared.moving.MoveFault.TheVariants as moving
use Rattle.sfi_answers.specs.Answers.{check, refused_line, IsAcceptedImage}
use Rattle.sfi_answers.specs.FaultTexts.{IsFaultLine, stop_text}
use Rattle.sfi_io.specs.Hexadecimal.{limit}
use Rattle.sfi_answers.specs.declared.fault.InputFault.TheVariants as faults
use Rattle.sfi_rules.specs.declared.finding.Finding.{Finding}
use Rattle.sfi_check.specs.declared.conversion.ConvertFault.{ConvertFault}
use Rattle.sfi_check.specs.declared.conversion.ConvertFault.TheVariants.{Refused, NotOld, Stack, Memory, Words}
use Rattle.sfi_check.specs.declared.refusal.Refusal.TheVariants as refusal
use Rattle.sfi_answers.specs.declared.fault.Stop.{Stop}
use Rattle.sfi_answers.specs.declared.fault.Stop.TheVariants as stop
use Rattle.sfi_answers.specs.declared.verdict.Answer.{Answer}
use Rattle.sfi_image.specs.Sources.{bytes_of, is_end}
use Rattle.sfi_check.specs.Verdict.{IsVerdictOn}
use Rattle.sfi_check.specs.declared.stream_answer.StreamAnswer.{StreamAnswer}
use Rattle.sfi_io.specs.Pieces.{Leads}
use Rattle.sfi_io.specs.declared.text.TextStop.{TextStop}
use Rattle.sfi_io.specs.declared.text.TextStop.TheVariants.{Fault, TooLarge, Failed}
use Rattle.sfi_answers.specs.declared.pieces.PieceState.{PieceState}
use Rattle.sfi_answers.specs.declared.pieces.PieceState.TheVariants.{Reading, Ended, Stopped}

-- ---- bytes that are not converted

-- the fault is these findings, of either format
abbrev pub HasFound : ConvertFault → List Finding → Type 0
HasFound (Refused (refusal.Layout k)) found = ⊥
HasFound (Refused (refusal.Findings others)) found = others.items ≡ found
HasFound (Refused refusal.Memory) found = ⊥
HasFound NotOld found = ⊥
HasFound (Stack others) found = others.items ≡ found
HasFound Memory found = ⊥
HasFound Words found = ⊥

-- where the fault is findings, there is at least one
abbrev pub HoldsSome : ConvertFault → Type 0
HoldsSome fault = (found : List Finding) → HasFound fault found → found ≢ []

-- the answer on bytes that are not converted for this fault
abbrev pub AnswersConvertFault : ConvertFault → Result Answer Stop → Type 0
AnswersConvertFault fault (Ok answer) = (answer.status ≡ 1) × ((found : List Finding)
    × HasFound fault found × (answer.output.items ≡ refused_line found))
AnswersConvertFault fault (Err (stop.Input faults.NotOld)) = fault ≡ NotOld
AnswersConvertFault fault (Err (stop.Input faults.Words)) = fault ≡ Words
AnswersConvertFault fault (Err (stop.Input other)) = ⊥
AnswersConvertFault fault (Err (stop.Layout k)) = fault ≡ Refused (refusal.Layout k)
AnswersConvertFault fault (Err (stop.Build other)) = ⊥
AnswersConvertFault fault (Err stop.Memory) = Unit {0}

-- ---- a sandbox that is moved

-- a move stops so: for its fault, or for want of memory
abbrev pub IsMoveStop : List ℕ → ℕ → Place → Stop → Type 0
IsMoveStop bytes number to (stop.Input faults.NoSandbox) =
    IsMoveFault bytes number to moving.NoSandbox
IsMoveStop bytes number to (stop.Input faults.NoPlace) = IsMoveFault bytes number to moving.NoPlace
IsMoveStop bytes number to (stop.Input other) = ⊥
IsMoveStop bytes number to (stop.Layout k) = IsMoveFault bytes number to (moving.NoImage k)
IsMoveStop bytes number to (stop.Build fault) = ⊥
IsMoveStop bytes number to stop.Memory = Unit {0}

-- the bytes are those of the image with the sandbox at that place, which is accepted if it was
pub record IsMovedCopy (bytes : List ℕ) (number : ℕ) (to : Place) (now : List ℕ) : Type 0 where
  pub moved : IsMoved bytes number to now
  pub still_accepted : IsAcceptedImage bytes → IsAcceptedImage now

-- the sandbox was moved, or memory ran out
abbrev pub IsMovedOrMemory : Result (Vec ℕ Global) Stop → Type 0
IsMovedOrMemory (Ok now) = Unit {0}
IsMovedOrMemory (Err (stop.Input fault)) = ⊥
IsMovedOrMemory (Err (stop.Layout k)) = ⊥
IsMovedOrMemory (Err (stop.Build fault)) = ⊥
IsMovedOrMemory (Err stop.Memory) = Unit {0}

-- ---- bytes of which a stream hands out a front, and input that is read as such a stream

-- these are all the bytes, of which a stream gave a front, and all where it found the end, and the
-- answer is the verdict on what it gave
pub record IsJudged (answer : StreamAnswer) (all : List ℕ) : Type 0 where
  pub given : List ℕ
  pub rest : List ℕ
  pub ends : Bool
  pub all_are : all ≡ given ++ rest
  pub none_left : ends ≡ true → rest ≡ []
  pub verdict : IsVerdictOn given ends answer

-- what is known to come of input: after its end nothing, and after a stop no more than that
abbrev pub known :
    PieceState → Option (Result (List ℕ) TextStop) → Option (Result (List ℕ) TextStop)
known Reading told = told
known Ended told = Some (Ok [])
known (Stopped stop) told = Some (Err stop)

abbrev pub is_stopped : PieceState → Bool
is_stopped Reading = false
is_stopped Ended = false
is_stopped (Stopped stop) = true

-- whether a read failed, after one more
abbrev pub fails : Bool → Option (List ℕ) → Bool
fails before None = true
fails before (Some bytes) = before

-- one read of such a stream: what was known to come of the input before, and whether a read had
-- failed; the length of the buffer and the bytes that were handed out; and the same after it
pub record HandsOut (known : Option (Result (List ℕ) TextStop)) (was : Bool) (len : ℕ)
    (answer : Option (List ℕ)) (after : Option (Result (List ℕ) TextStop)) (is : Bool) : Type 0 where
  pub leads : Leads known after (bytes_of answer)
  pub at_end : is_end len answer ≡ true → IfSome after (λ r. r ≡ Ok [])
  pub failed : is ≡ fails was answer

-- what comes of an image's own bytes after `read` others: all of them, unless they pass the limit
abbrev pub own_bytes : ℕ → List ℕ → Result (List ℕ) TextStop
own_bytes read bytes = if nat_lt limit (read + length bytes) then Err TooLarge else Ok bytes

-- what is known to come of them
abbrev pub own_to_come : ℕ → Option (List ℕ) → Option (Result (List ℕ) TextStop)
own_to_come read bytes = option_map (own_bytes read) bytes

-- the verdict on the bytes that come
abbrev pub SaysOf : Result (List ℕ) TextStop → ℕ → List ℕ → Type 0
SaysOf (Ok bytes) status text = (check false).says bytes status text
SaysOf (Err stop) status text = ⊥

-- the line of their fault, or of why none come
abbrev pub IsLineOf : Result (List ℕ) TextStop → List ℕ → Type 0
IsLineOf (Ok bytes) line = IsFaultLine (check false) bytes line
IsLineOf (Err (Fault fault)) line = line ≡ stop_text (stop.Input (faults.Hex fault))
IsLineOf (Err TooLarge) line = line ≡ stop_text (stop.Input faults.TooLarge)
IsLineOf (Err Failed) line = ⊥
