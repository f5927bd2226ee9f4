-- That what was read has at most one of a job's faults.
use Rattle.sfi_tool.proofs.Prelude.{◌≡◌, ◌∙◌, ℕ, List, ap, arith, length, refl, subst, sym}
use Rattle.std.proofs.Common.{true, false, inl, inr}
use Rattle.std.specs.Prelude.{IsErr}
use Rattle.sfi_formats.specs.declared.place.Place.{Place}
use Rattle.sfi_image.proofs.Facts.{never_both, one_fault, one_image}
use Rattle.sfi_check.proofs.Converted.{words_not_second}
use Rattle.sfi_build.proofs.Building.{one_build_fault}
use Rattle.sfi_io.specs.Hexadecimal.{GivesImage, IsHexFault, SpellsBytes}
use Rattle.sfi_io.specs.declared.hexadecimal.HexFault.{HexFault}
use Rattle.sfi_io.specs.declared.hexadecimal.HexFault.TheVariants.{Odd, Digit}
use Rattle.sfi_io.proofs.Facts.{texts_begin_as_none}
use Rattle.sfi_answers.specs.Answers.{IsLayoutFault, IsNoImage, Meaning, check, dis, native, on_image, translate}
use Rattle.sfi_answers.specs.Building.{IsNotConverted, IsNotMade, convert}
use Rattle.sfi_answers.specs.Moving.{IsNotMoved, move}
use Rattle.sfi_tool.specs.Running.{run}
use Rattle.sfi_answers.specs.declared.fault.InputFault.TheVariants.{Hex, Utf8, TooLarge, NotOld, Words, NoSandbox, NoPlace, NoFile}
use Rattle.sfi_answers.specs.declared.fault.Stop.{Stop}
use Rattle.sfi_answers.specs.declared.fault.Stop.TheVariants as stop
use Rattle.sfi_command.specs.declared.job.Job.TheVariants.{Check, Dis, Build, Map, Run, Exec, Convert, Move, Native, Translate}
use Rattle.sfi_tool.specs.Laws.{OneFault}
use Rattle.sfi_tool.specs.Says.{IsNotHere}
use Rattle.sfi_tool.proofs.Jobs.{keeps_limit, no_digits}

-- no two faults of this kind are right of the same bytes
abbrev IsOne : (List ℕ → Stop → Type 0) → Type 0
IsOne why = (bytes : List ℕ) (fault other : Stop) → why bytes fault → why bytes other → fault ≡ other

-- ---- of an image's bytes

layouts : IsOne IsLayoutFault
layouts bytes (stop.Layout j) (stop.Layout k) a b = ap (λ x. stop.Layout x) (one_fault bytes j k a b)
layouts bytes (stop.Layout j) _ a b = absurd b
layouts bytes _ other a b = absurd a

conversions : IsOne IsNotConverted
conversions bytes (stop.Layout j) (stop.Layout k) a b = ap (λ x. stop.Layout x) (one_fault bytes j k a.1 b.1)
conversions bytes (stop.Layout j) (stop.Input NotOld) a b = absurd (a.0 b)
conversions bytes (stop.Layout j) (stop.Input Words) a b = absurd (never_both bytes b.parts j b.accepted.image a.1)
conversions bytes (stop.Input NotOld) (stop.Layout k) a b = absurd (b.0 a)
conversions bytes (stop.Input NotOld) (stop.Input NotOld) a b = refl
conversions bytes (stop.Input NotOld) (stop.Input Words) a b = absurd (words_not_second bytes b.parts b.accepted b.words a)
conversions bytes (stop.Input Words) (stop.Layout k) a b = absurd (never_both bytes a.parts k a.accepted.image b.1)
conversions bytes (stop.Input Words) (stop.Input NotOld) a b = absurd (words_not_second bytes a.parts a.accepted a.words b)
conversions bytes (stop.Input Words) (stop.Input Words) a b = refl
conversions bytes (stop.Layout j) _ a b = absurd b
conversions bytes (stop.Input NotOld) _ a b = absurd b
conversions bytes (stop.Input Words) _ a b = absurd b
conversions bytes _ other a b = absurd a

moves : (number : ℕ) (to : Place) → IsOne (IsNotMoved number to)
moves number to bytes (stop.Layout j) (stop.Layout k) a b = ap (λ x. stop.Layout x) (one_fault bytes j k a b)
moves number to bytes (stop.Layout j) (stop.Input NoSandbox) a b = absurd (never_both bytes b.1.0 j b.1.1 a)
moves number to bytes (stop.Layout j) (stop.Input NoPlace) a b = absurd (never_both bytes b.1.0 j b.1.1 a)
moves number to bytes (stop.Input NoSandbox) (stop.Layout k) a b = absurd (never_both bytes a.1.0 k a.1.1 b)
moves number to bytes (stop.Input NoSandbox) (stop.Input NoSandbox) a b = refl
moves number to bytes (stop.Input NoSandbox) (stop.Input NoPlace) a b = absurd (omega (arith, a.1.2, b.1.2, ap length (one_image bytes a.1.0 b.1.0 a.1.1 b.1.1)))
moves number to bytes (stop.Input NoPlace) (stop.Layout k) a b = absurd (never_both bytes a.1.0 k a.1.1 b)
moves number to bytes (stop.Input NoPlace) (stop.Input NoSandbox) a b = absurd (omega (arith, b.1.2, a.1.2, ap length (one_image bytes b.1.0 a.1.0 b.1.1 a.1.1)))
moves number to bytes (stop.Input NoPlace) (stop.Input NoPlace) a b = refl
moves number to bytes (stop.Layout j) _ a b = absurd b
moves number to bytes (stop.Input NoSandbox) _ a b = absurd b
moves number to bytes (stop.Input NoPlace) _ a b = absurd b
moves number to bytes _ other a b = absurd a

-- ---- of input

digits : (text : List ℕ) (fault other : HexFault) → IsHexFault text fault → IsHexFault text other → fault ≡ other
digits text Odd Odd a b = refl
digits text Odd (Digit q) a b = let no = sym a ∙ b.1 in absurd (cc)
digits text (Digit p) Odd a b = let no = sym b ∙ a.1 in absurd (cc)
digits text (Digit p) (Digit q) a b = let same = sym a.1 ∙ b.1 in let place : p ≡ q = cc in ap Digit place

no_images : IsOne IsNoImage
no_images input (stop.Input TooLarge) (stop.Input TooLarge) a b = refl
no_images input (stop.Input TooLarge) (stop.Input (Hex h)) a b = absurd (omega (arith, a, b.0))
no_images input (stop.Input (Hex h)) (stop.Input TooLarge) a b = absurd (omega (arith, b, a.0))
no_images input (stop.Input (Hex g)) (stop.Input (Hex h)) a b = ap (λ x. stop.Input (Hex x)) (digits input g h a.2 b.2)
no_images input (stop.Input TooLarge) _ a b = absurd b
no_images input (stop.Input (Hex g)) _ a b = absurd b
no_images input _ other a b = absurd a

spells_none : (text bytes : List ℕ) (fault : HexFault) → SpellsBytes text bytes → IsHexFault text fault → ⊥
spells_none text bytes fault spells wrong = let no = subst IsErr spells.digits (no_digits text fault wrong) in absurd (cc)

gives_none : (input bytes : List ℕ) (fault : Stop) → GivesImage input bytes → IsNoImage input fault → ⊥
gives_none input bytes (stop.Input TooLarge) gives over = absurd (omega (arith, over, keeps_limit input bytes gives))
gives_none input bytes (stop.Input (Hex h)) (inl own) wrong = wrong.1 own.begins
gives_none input bytes (stop.Input (Hex h)) (inr spells) wrong = spells_none input bytes h spells wrong.2
gives_none input bytes _ gives none = none

gives_one : (input bytes others : List ℕ) → GivesImage input bytes → GivesImage input others → bytes ≡ others
gives_one input bytes others (inl own) (inl again) = sym own.same ∙ again.same
gives_one input bytes others (inl own) (inr spells) = absurd (texts_begin_as_none input others spells own.begins)
gives_one input bytes others (inr spells) (inl own) = absurd (texts_begin_as_none input bytes spells own.begins)
gives_one input bytes others (inr spells) (inr again) = let same = sym spells.digits ∙ again.digits in cc

images : (command : Meaning) → IsOne command.why → IsOne (on_image command).why
images command one input fault other (inl a) (inl b) = no_images input fault other a b
images command one input fault other (inl a) (inr b) = absurd (gives_none input b.0 fault b.1 a)
images command one input fault other (inr a) (inl b) = absurd (gives_none input a.0 other a.1 b)
images command one input fault other (inr a) (inr b) =
    one b.0 fault other (subst (λ (x : List ℕ). command.why x fault) (gives_one input a.0 b.0 a.1 b.1) a.2) b.2

sources : (places : List Place) → IsOne (IsNotMade places)
sources places input (stop.Input TooLarge) (stop.Input TooLarge) a b = refl
sources places input (stop.Input TooLarge) (stop.Input Utf8) a b = absurd (omega (arith, a, b.0))
sources places input (stop.Input TooLarge) (stop.Build g) a b = absurd (omega (arith, a, b.0.short))
sources places input (stop.Input Utf8) (stop.Input TooLarge) a b = absurd (omega (arith, b, a.0))
sources places input (stop.Input Utf8) (stop.Input Utf8) a b = refl
sources places input (stop.Input Utf8) (stop.Build g) a b = absurd (a.1 b.0.utf8)
sources places input (stop.Build f) (stop.Input TooLarge) a b = absurd (omega (arith, b, a.0.short))
sources places input (stop.Build f) (stop.Input Utf8) a b = absurd (b.1 a.0.utf8)
sources places input (stop.Build f) (stop.Build g) a b = ap (λ x. stop.Build x) (one_build_fault places input f g a.1 b.1)
sources places input (stop.Input TooLarge) _ a b = absurd b
sources places input (stop.Input Utf8) _ a b = absurd b
sources places input (stop.Build f) _ a b = absurd b
sources places input _ other a b = absurd a

not_here : IsOne IsNotHere
not_here input (stop.Input TooLarge) (stop.Input TooLarge) a b = refl
not_here input (stop.Input TooLarge) (stop.Input NoFile) a b = absurd (omega (arith, a, b))
not_here input (stop.Input NoFile) (stop.Input TooLarge) a b = absurd (omega (arith, a, b))
not_here input (stop.Input NoFile) (stop.Input NoFile) a b = refl
not_here input (stop.Input TooLarge) _ a b = absurd b
not_here input (stop.Input NoFile) _ a b = absurd b
not_here input _ other a b = absurd a

-- ---- of a job

pub one_of_job : OneFault
one_of_job (Check true report) = layouts
one_of_job (Check false report) = images (check report) layouts
one_of_job Dis = images dis layouts
one_of_job (Build raw places) = sources places.items
one_of_job (Map places) = sources places.items
one_of_job (Run options) = images (run options) layouts
one_of_job (Exec image budget) = not_here
one_of_job (Convert raw) = images (convert raw) conversions
one_of_job (Move raw sandbox place) = images (move raw sandbox place) (moves sandbox place)
one_of_job (Translate whole) = images (translate whole) layouts
one_of_job Native = images native layouts
