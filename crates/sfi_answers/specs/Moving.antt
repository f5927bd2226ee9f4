-- The command `move`, on an image's bytes.
use Rattle.std.specs.Prelude.{◌≡◌, ◌⊎◌, ℕ, List, Bool, false}
use Rattle.sfi_formats.specs.declared.place.Place.{Place}
use Rattle.sfi_image.specs.Spelling.{Part}
use Rattle.sfi_safety.specs.Clean.{IsAccepted}
use Rattle.sfi_places.specs.Moving.{IsMoved, IsMoveFault}
use Rattle.sfi_places.specs.declared.moving.MoveFault.TheVariants as moving
use Rattle.sfi_answers.specs.declared.fault.InputFault.TheVariants.{NoSandbox, NoPlace}
use Rattle.sfi_answers.specs.declared.fault.Stop.{Stop}
use Rattle.sfi_answers.specs.declared.fault.Stop.TheVariants as stop
use Rattle.sfi_answers.specs.Answers.{Meaning, HasSomeFindings, IsAcceptedImage, SaysRefused}
use Rattle.sfi_answers.specs.Building.{image_output}

-- the image has no findings, nor has it with the sandbox at that place: status 0 and that image
pub record SaysMoved (raw : Bool) (number : ℕ) (to : Place) (bytes : List ℕ) (status : ℕ)
    (text : List ℕ) : Type 0 where
  pub parts : List Part
  pub now : List ℕ
  pub accepted : IsAccepted bytes parts
  pub moved : IsMoved bytes number to now
  pub still_accepted : IsAcceptedImage now
  pub status_is : status ≡ 0
  pub text_is : text ≡ image_output raw now

-- why the sandbox can't be moved: the bytes have that fault of the layout; or they are an accepted
-- image, which has no such sandbox, or one for which the place is wrong
abbrev pub IsNotMoved : ℕ → Place → List ℕ → Stop → Type 0
IsNotMoved number to bytes (stop.Layout k) = IsMoveFault bytes number to (moving.NoImage k)
IsNotMoved number to bytes (stop.Input NoSandbox) =
    IsAcceptedImage bytes × IsMoveFault bytes number to moving.NoSandbox
IsNotMoved number to bytes (stop.Input NoPlace) =
    IsAcceptedImage bytes × IsMoveFault bytes number to moving.NoPlace
IsNotMoved number to bytes _ = ⊥

-- `move`, of sandbox `number` to that place. The verdict on an image with findings goes
-- before what is wrong with the number or the place
abbrev pub move : Bool → ℕ → Place → Meaning
move raw number to = record {
  says = λ bytes status text.
      SaysMoved raw number to bytes status text ⊎ SaysRefused false bytes status text;
  is_done = λ bytes. IsAcceptedImage bytes × ((now : List ℕ) × IsMoved bytes number to now);
  is_refused = HasSomeFindings;
  why = IsNotMoved number to;
}
