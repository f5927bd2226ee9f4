-- What `move` answers on the bytes of an image.
use Rattle.std.proofs.Common.{◌≡◌, ◌∙◌, ◌++◌, ◌↔◌, ℕ, List, Bool, false, arith, length, refl, subst, sym, take, inl, inr}
use Rattle.std.specs.Prelude.{Result, Ok, Err, IsErr, IsErrAnd}
use Rattle.std.proofs.lemmas.Result.{IfOk-weaker, IfErr-weaker}
use Rattle.std.proofs.lemmas.List.{take-append-le, take_all}
use Rattle.sfi_formats.specs.declared.place.Place.{Place}
use Rattle.sfi_image.specs.Spelling.{Part}
use Rattle.sfi_image.specs.Parts.{IsImage}
use Rattle.sfi_rules.specs.declared.finding.Finding.{Finding}
use Rattle.sfi_safety.specs.Clean.{IsAccepted}
use Rattle.sfi_check.specs.Verdict.{HasFindings}
use Rattle.sfi_places.specs.Moving.{IsMoved, IsMoveFault}
use Rattle.sfi_places.specs.declared.moving.MoveFault.{MoveFault}
use Rattle.sfi_places.specs.declared.moving.MoveFault.TheVariants.{NoImage, NoSandbox, NoPlace}
use Rattle.sfi_answers.specs.Answers.{Answers, AnswersStatus, IsStop, IsLayoutFault, IsAcceptedImage, SaysRefused, on_verdict}
use Rattle.sfi_answers.specs.Building.{image_output}
use Rattle.sfi_answers.specs.Moving.{IsNotMoved, move}
use Rattle.sfi_answers.specs.declared.fault.InputFault.TheVariants as input
use Rattle.sfi_answers.specs.private.{IsMovedCopy, IsMovedOrMemory, IsMoveStop}
use Rattle.sfi_answers.specs.declared.fault.Stop.{Stop}
use Rattle.sfi_answers.specs.declared.fault.Stop.TheVariants as stop
use Rattle.sfi_answers.specs.declared.verdict.Answer.{Answer}

-- ---- a copy that is moved

-- what is written into the front of a list of that length is all of it
pub whole : (len : ℕ) (new rest : List ℕ) → length new ≡ len → take len (new ++ rest) ≡ new
whole len new rest all = take-append-le len new rest (omega (arith, all)) ∙ take_all len new (omega (arith, all))

pub copied : (bytes image new kept : List ℕ) (number : ℕ) (to : Place) → image ≡ bytes → kept ≡ new → IsMoved image number to new
    → ((ps qs : List Part) → IsImage image ps → IsImage new qs → IsAccepted image ps ↔ IsAccepted new qs) → IsMovedCopy bytes number to kept
copied bytes image new kept number to same all moves accepted =
    let made : IsMovedCopy image number to new = record { moved = moves; still_accepted = λ a. (_, (accepted a.0 _ a.1.image moves.image).0 a.1) } in
    subst (λ (b : List ℕ). IsMovedCopy b number to kept) same (subst (λ (n : List ℕ). IsMovedCopy image number to n) (sym all) made)

-- what is wrong with the copy is wrong with the bytes
pub of_copy : (bytes image : List ℕ) (number : ℕ) (to : Place) (e : MoveFault) → image ≡ bytes → IsMoveFault image number to e → IsMoveFault bytes number to e
of_copy bytes image number to e same wrong = subst (λ (b : List ℕ). IsMoveFault b number to e) same wrong

pub no_move : (bytes image : List ℕ) (number : ℕ) (to : Place) → image ≡ bytes → ((now : List ℕ) → IsMoved image number to now → ⊥) → (now : List ℕ) → IsMoved bytes number to now → ⊥
no_move bytes image number to same none now moves = none now (subst (λ (b : List ℕ). IsMoved b number to now) (sym same) moves)

-- ---- what is answered

-- a sandbox that is moved
pub moved : (raw : Bool) (number : ℕ) (to : Place) (bytes now : List ℕ) (parts : List Part) (a : Answer) → IsAccepted bytes parts → IsMovedCopy bytes number to now
    → ((e : MoveFault) → IsMoveFault bytes number to e → ⊥) → ((found : List Finding) → ¬ HasFindings bytes found)
    → a.status ≡ 0 → a.output.items ≡ image_output raw now → Answers (move raw number to) bytes (Ok a)
moved raw number to bytes now parts a accepted copy can found status text = record {
  says = inl (record {
    parts = parts;
    now = now;
    accepted = accepted;
    moved = copy.moved;
    still_accepted = copy.still_accepted (parts, accepted);
    status_is = status;
    text_is = text;
  });
  which = tt;
  only_done = λ _. status;
  only_refused = λ h. absurd (found h.0 h.1);
  only_fault = fault;
}
  where
    fault : (why : Stop) → IsNotMoved number to bytes why → IsErr {T = Answer} {E = Stop} (Ok a)
    fault (stop.Layout k) wrong = absurd (can (NoImage k) wrong)
    fault (stop.Input input.NoSandbox) wrong = absurd (can NoSandbox wrong.1)
    fault (stop.Input input.NoPlace) wrong = absurd (can NoPlace wrong.1)
    fault _ none = absurd none

-- the stop of an accepted image's move
of_accepted : (number : ℕ) (to : Place) (bytes : List ℕ) (s : Stop) → IsAcceptedImage bytes → IsMoveStop bytes number to s → IsStop (IsNotMoved number to bytes) s
of_accepted number to bytes (stop.Input input.NoSandbox) accepted is = (accepted, is)
of_accepted number to bytes (stop.Input input.NoPlace) accepted is = (accepted, is)
of_accepted number to bytes (stop.Layout k) accepted is = is
of_accepted number to bytes stop.Memory accepted is = tt
of_accepted number to bytes _ accepted is = absurd is

-- and that of an image that is refused
of_refused : (number : ℕ) (to : Place) (bytes : List ℕ) (s : Stop) → IsStop (IsLayoutFault bytes) s → IsStop (IsNotMoved number to bytes) s
of_refused number to bytes (stop.Layout k) is = is
of_refused number to bytes stop.Memory is = tt
of_refused number to bytes _ is = absurd is

-- a stop where the sandbox would have been moved is want of memory
done_status : (s : Stop) → IsMovedOrMemory (Err s) → AnswersStatus 0 (Err s)
done_status (stop.Input fault) h = h
done_status (stop.Layout fault) h = h
done_status (stop.Build fault) h = h
done_status stop.Memory h = tt

-- one that isn't
pub not_moved : (raw : Bool) (number : ℕ) (to : Place) (bytes : List ℕ) (parts : List Part) (s : Stop) → IsAccepted bytes parts → IsMoveStop bytes number to s
    → ((now : List ℕ) → IsMoved bytes number to now → IsMovedOrMemory (Err s)) → ((found : List Finding) → ¬ HasFindings bytes found)
    → Answers (move raw number to) bytes (Err s)
not_moved raw number to bytes parts s accepted why only found = record {
  says = tt;
  which = of_accepted number to bytes s (parts, accepted) why;
  only_done = λ h. done_status s (only h.1.0 h.1.1);
  only_refused = λ h. absurd (found h.0 h.1);
  only_fault = λ _ _. refl;
}

pub stopped : (raw : Bool) (number : ℕ) (to : Place) (bytes : List ℕ) (parts : List Part) (why : Stop) (r : Result Answer Stop) → IsAccepted bytes parts → IsMoveStop bytes number to why
    → ((now : List ℕ) → IsMoved bytes number to now → IsMovedOrMemory (Err why)) → ((found : List Finding) → ¬ HasFindings bytes found)
    → IsErrAnd r (λ (s : Stop). s ≡ why) → Answers (move raw number to) bytes r
stopped raw number to bytes parts why (Ok a) accepted is only found stops = absurd stops
stopped raw number to bytes parts why (Err s) accepted is only found stops =
    subst (λ (x : Stop). Answers (move raw number to) bytes (Err x)) (sym stops) (not_moved raw number to bytes parts why accepted is only found)

-- an image that is refused
pub refused : (raw : Bool) (number : ℕ) (to : Place) (bytes : List ℕ) (r : Result Answer Stop) → Answers (on_verdict (SaysRefused false)) bytes r → Answers (move raw number to) bytes r
refused raw number to bytes r a = record {
  says = IfOk-weaker r _ _ (λ x h. inr h) a.says;
  which = IfErr-weaker r _ _ (of_refused number to bytes) a.which;
  only_done = λ h. a.only_done h.0;
  only_refused = a.only_refused;
  only_fault = fault r a;
}
  where
    other : (x : Answer) → Answers (on_verdict (SaysRefused false)) bytes (Ok x) → IsAcceptedImage bytes → ⊥
    other x b h =
        let zero : x.status ≡ 0 = b.only_done h in
        let one : x.status ≡ 1 = b.says.status_is in
        absurd (omega (arith, zero, one))

    fault : (r : Result Answer Stop) → Answers (on_verdict (SaysRefused false)) bytes r → (why : Stop) → IsNotMoved number to bytes why → IsErr r
    fault r b (stop.Layout k) wrong = b.only_fault (stop.Layout k) wrong
    fault (Err s) b why wrong = refl
    fault (Ok x) b (stop.Input input.NoSandbox) wrong = absurd (other x b wrong.0)
    fault (Ok x) b (stop.Input input.NoPlace) wrong = absurd (other x b wrong.0)
    fault (Ok x) b _ none = absurd none
