-- Turns, move by move and one after another.
use Rattle.sfi_translate.proofs.Prelude.{◌≡◌, ℕ, zero, suc, ◌+◌, ◌*◌, List, refl, subst, arith, Part, Line}
use Rattle.std.proofs.Common.{◌<◌, ⊎_elim}
use Rattle.rv_step.specs.State.{State}
use Rattle.rv_step.specs.Rows.{LeadTo}
use Rattle.sfi_translate.specs.Machine.{Target, Loop, Going, IsTranslatedStep, AreTranslatedSteps}
use Rattle.sfi_translate.specs.Laws.{IsOver, IsTurnTo, TurnsEnd, TurnsGoOn}
use Rattle.sfi_translate.specs.Ready.{EachTurnEnds, TurnsAddUp}

-- ---- moves

steps_more : (t : Target) (p : Part) (code : List Line) (n : ℕ) (a b c : Going) → AreTranslatedSteps t p code n a b → IsTranslatedStep t p code b c → AreTranslatedSteps t p code (suc n) a c
steps_more t p code zero a b c are step = (c, subst (λ (x : Going). IsTranslatedStep t p code x c) are step, refl)
steps_more t p code (suc n) a b c are step = (are.0, are.1, steps_more t p code n are.0 b c are.2 step)

-- a move further
pub turn_more : (t : Target) (sandbox : ℕ) (p : Part) (code : List Line) (s : State) (left moves : ℕ) (g k : Going) → IsTurnTo t sandbox p code s left moves g → IsTranslatedStep t p code g k
    → IsTurnTo t sandbox p code s left (suc moves) k
turn_more t sandbox p code s left moves g k turn step = record { clean = turn.clean; lines = turn.lines; reached = turn.reached; fits = turn.fits; moved = steps_more t p code moves _ g k turn.moved step }

module _ (go_on : TurnsGoOn) (end : TurnsEnd) (t : Target) (sandbox : ℕ) (p : Part) (code : List Line) (s : State) (left : ℕ) where
  -- with so many moves more it would have too many
  ends_within : (room moves : ℕ) (g : Going) → 5 * (left + 1) < moves + room → IsTurnTo t sandbox p code s left moves g → (n : ℕ) × (k : Going) × IsTurnTo t sandbox p code s left n k × IsOver k
  ends_within zero moves g many turn = absurd (let most = end t sandbox p code s left moves g turn in omega (arith, most, many))
  ends_within (suc room) moves g many turn =
      ⊎_elim
      (λ (over : IsOver g). (moves, g, turn, over))
      (λ (on : (k : Going) × IsTranslatedStep t p code g k). ends_within room (suc moves) on.0 (omega (arith, many)) (turn_more t sandbox p code s left moves g on.0 turn on.1))
      (go_on t sandbox p code s left moves g turn)

pub turn_ends : TurnsGoOn → TurnsEnd → EachTurnEnds
turn_ends go_on end t sandbox p code s left clean lines reached fits =
    ends_within go_on end t sandbox p code s left (5 * (left + 1) + 1) 0 (record { place = Loop; state = s; left = left }) (omega arith)
    (record { clean = clean; lines = lines; reached = reached; fits = fits; moved = refl })

-- ---- turns one after another

leads_on : (k n all : ℕ) (a b c : State) → all ≡ k + n → LeadTo k a b → LeadTo n b c → LeadTo all a c
leads_on zero n all a b c sum e rest =
    let same : n ≡ all = omega (arith, sum) in
    subst (λ (m : ℕ). LeadTo m a c) same (subst (λ (x : State). LeadTo n x c) e rest)
leads_on (suc k) n zero a b c sum h rest = absurd (omega (arith, sum))
leads_on (suc k) n (suc all) a b c sum h rest = (h.0, h.1, leads_on k n all h.0 b c (omega (arith, sum)) h.2 rest)

pub turns_add_up : TurnsAddUp
turns_add_up p s first rest g k one none two =
    let a = one.counted in
    let b = two.counted in
    record {
      steps = one.steps + two.steps;
      lead = leads_on one.steps two.steps (one.steps + two.steps) s g.state k.state refl one.lead two.lead;
      counted = omega (arith, a, b, none);
      reached = two.reached;
      stopped = two.stopped;
    }
