-- Sandboxes beside one another, and that what one does to its own data is to the other a change by others.
use Rattle.std.proofs.Common.{◌≡◌, ◌≢◌, ℕ, zero, suc, ◌+◌, ◌<◌, ◌≤◌, ◌⊎◌, List, [], ◌∷◌, get_or, Some, refl, sym, ap, ◌∙◌, subst, inl, inr, arith, true}
use Rattle.sfi_formats.specs.Formats.{has_single_mask}
use Rattle.std.specs.Prelude.{slice_get}
use Rattle.std.specs.List.{All, AllPairs}
use Rattle.std.proofs.lemmas.List.Elements.{All-head, All-tail, All-nil, All-append, All-from_recursion}
use Rattle.std.proofs.lemmas.Option.{same_Some}
use Rattle.sfi_image.specs.declared.span.Span.{Span}
use Rattle.sfi_image.proofs.Tests.{All-front}
use Rattle.sfi_image.proofs.ClearZones.{All-rest, clear_of_rest}
use Rattle.sfi_image.specs.Spelling.{Part, fields_of, Holds, AreApart, IsClear, AreClear, zone_ends, zone_ends_of, spans, code_region, data_region, guarded_region, InGuards, InZoneAtZero, zone_end}
use Rattle.sfi_safe_runs.specs.Runs.{InGuard, Zones, Empty, Padded, Steps}
use Rattle.sfi_safe_runs.specs.Safety.{writable_region}
use Rattle.sfi_safe_runs.proofs.Facts.{safe_turns_as, changes_anyway}
use Rattle.sfi_places.specs.Beside.{AreBeside, RightAreBeside, ChangesBesideAreOthers, StepsBesideAreChanges}

-- ---- the two spans of a sandbox

two : (P : Span → Type 0) (p : Part) → P (code_region p) → P (guarded_region p) → All P (spans (p ∷ []))
two P p code guarded = All-from_recursion P (spans (p ∷ [])) (code, (guarded, tt))

first : (P : Span → Type 0) (p : Part) → All P (spans (p ∷ [])) → P (code_region p)
first P p all = All-head P (code_region p) (guarded_region p ∷ []) all

second : (P : Span → Type 0) (p : Part) → All P (spans (p ∷ [])) → P (guarded_region p)
second P p all = All-head P (guarded_region p) [] (All-tail P (code_region p) (guarded_region p ∷ []) all)

-- of two sandboxes, and their zones at zero
pub record SpansApart (p q : Part) : Type 0 where
  pub code_code : AreApart (code_region p) (code_region q)
  pub code_guarded : AreApart (code_region p) (guarded_region q)
  pub guarded_code : AreApart (guarded_region p) (code_region q)
  pub guarded_guarded : AreApart (guarded_region p) (guarded_region q)
  pub clear : AreClear (zone_ends (p ∷ [])) (spans (q ∷ []))
  pub other_clear : AreClear (zone_ends (q ∷ [])) (spans (p ∷ []))

AllApart : Part → Span → Type 0
AllApart q s = All (λ (t : Span). AreApart s t) (spans (q ∷ []))

pub are_beside : (p q : Part) → SpansApart p q → AreBeside (p ∷ []) (q ∷ [])
unfolding AllApart
are_beside p q lie = record {
  apart = two (AllApart q) p
      (two (AreApart (code_region p)) q lie.code_code lie.code_guarded)
      (two (AreApart (guarded_region p)) q lie.guarded_code lie.guarded_guarded);
  clear = lie.clear;
  other_clear = lie.other_clear;
}

pub spans_apart : (p q : Part) → AreBeside (p ∷ []) (q ∷ []) → SpansApart p q
unfolding AllApart
spans_apart p q beside =
    let code = first (AllApart q) p beside.apart in
    let guarded = second (AllApart q) p beside.apart in
    record {
      code_code = first (AreApart (code_region p)) q code;
      code_guarded = second (AreApart (code_region p)) q code;
      guarded_code = first (AreApart (guarded_region p)) q guarded;
      guarded_guarded = second (AreApart (guarded_region p)) q guarded;
      clear = beside.clear;
      other_clear = beside.other_clear;
    }

-- ---- of one layout

in_spans : (P : Span → Type 0) (ps : List Part) (i : ℕ) (p : Part) → slice_get ps i ≡ Some p → All P (spans ps) → All P (spans (p ∷ []))
in_spans P [] i p at all = absurd (cc)
in_spans P (x ∷ ps) zero p at all =
    subst (λ (y : Part). All P (spans (y ∷ []))) (same_Some x p at)
    (two P x (All-head P (code_region x) (guarded_region x ∷ spans ps) all) (All-head P (guarded_region x) (spans ps) (All-tail P (code_region x) (guarded_region x ∷ spans ps) all)))
in_spans P (x ∷ ps) (suc i) p at all = in_spans P ps i p at (All-tail P (guarded_region x) (spans ps) (All-tail P (code_region x) (guarded_region x ∷ spans ps) all))

-- no two spans of these sandboxes meet, and none meets a zone at zero
abbrev AreLaid : List Part → Type 0
AreLaid ps = AllPairs AreApart (spans ps) × AreClear (zone_ends ps) (spans ps)

others_laid : (x : Part) (ps : List Part) → AreLaid (x ∷ ps) → AreLaid ps
others_laid x ps laid = (
  λ k l d less below. laid.0 (suc (suc k)) (suc (suc l)) d (omega (arith, less)) (omega (arith, below)),
  clear_of_rest (zone_ends_of (fields_of x)) (zone_ends ps) (spans ps) (λ k d lt. laid.1 (suc (suc k)) d (omega (arith, lt))),
)

-- what the ends of all zones have, the end of one has
in_ends : (P : ℕ → Type 0) (ps : List Part) (i : ℕ) (p : Part) → slice_get ps i ≡ Some p → All P (zone_ends ps) → All P (zone_ends (p ∷ []))
in_ends P [] i p at all = absurd (cc)
in_ends P (x ∷ ps) zero p at all =
    subst (λ (y : Part). All P (zone_ends (y ∷ []))) (same_Some x p at)
    (All-append P (zone_ends_of (fields_of x)) [] (All-front P (zone_ends_of (fields_of x)) (zone_ends ps) all) (All-nil P))
in_ends P (x ∷ ps) (suc i) p at all = in_ends P ps i p at (All-rest P (zone_ends_of (fields_of x)) (zone_ends ps) all)

-- the spans of one sandbox lie clear of the zone of another
one_clear : (ps : List Part) (i j : ℕ) (p q : Part) → AreClear (zone_ends ps) (spans ps) → slice_get ps i ≡ Some p → slice_get ps j ≡ Some q → AreClear (zone_ends (p ∷ [])) (spans (q ∷ []))
one_clear ps i j p q clear at there =
    in_spans (λ (s : Span). All (λ end. IsClear end s) (zone_ends (p ∷ []))) ps j q there (λ k d lt. in_ends (λ end. IsClear end (get_or (spans ps) k d)) ps i p at (clear k d lt))

-- the first sandbox and a later one
first_apart : (x : Part) (ps : List Part) (i : ℕ) (p : Part) → AreLaid (x ∷ ps) → slice_get ps i ≡ Some p → SpansApart x p
first_apart x ps i p laid at =
    let pairs = laid.0 in
    let code : All (AreApart (code_region x)) (spans ps) = λ k d below. pairs 0 (suc (suc k)) d (omega arith) (omega (arith, below)) in
    let guarded : All (AreApart (guarded_region x)) (spans ps) = λ k d below. pairs 1 (suc (suc k)) d (omega arith) (omega (arith, below)) in
    let of_code = in_spans (AreApart (code_region x)) ps i p at code in
    let of_guarded = in_spans (AreApart (guarded_region x)) ps i p at guarded in
    record {
      code_code = first (AreApart (code_region x)) p of_code;
      code_guarded = second (AreApart (code_region x)) p of_code;
      guarded_code = first (AreApart (guarded_region x)) p of_guarded;
      guarded_guarded = second (AreApart (guarded_region x)) p of_guarded;
      clear = one_clear (x ∷ ps) 0 (suc i) x p laid.1 refl at;
      other_clear = one_clear (x ∷ ps) (suc i) 0 p x laid.1 at refl;
    }

turned : (p q : Part) → SpansApart p q → SpansApart q p
turned p q apart = record {
  code_code = λ a there here. apart.code_code a here there;
  code_guarded = λ a there here. apart.guarded_code a here there;
  guarded_code = λ a there here. apart.code_guarded a here there;
  guarded_guarded = λ a there here. apart.guarded_guarded a here there;
  clear = apart.other_clear;
  other_clear = apart.clear;
}

any_apart : (ps : List Part) (i j : ℕ) (p q : Part) → AreLaid ps → i ≢ j → slice_get ps i ≡ Some p → slice_get ps j ≡ Some q → SpansApart p q
any_apart [] i j p q pairs ne at there = absurd (cc)
any_apart (x ∷ ps) zero zero p q pairs ne at there = absurd (ne refl)
any_apart (x ∷ ps) zero (suc j) p q pairs ne at there = subst (λ (y : Part). SpansApart y q) (same_Some x p at) (first_apart x ps j q pairs there)
any_apart (x ∷ ps) (suc i) zero p q pairs ne at there = subst (λ (y : Part). SpansApart p y) (same_Some x q there) (turned x p (first_apart x ps i p pairs at))
any_apart (x ∷ ps) (suc i) (suc j) p q pairs ne at there =
    any_apart ps i j p q (others_laid x ps pairs) (λ e. ne (ap suc e)) at there

pub right_are_beside : RightAreBeside
right_are_beside ps i j p q right ne at there = are_beside p q (any_apart ps i j p q (right.apart, right.clear) ne at there)

-- ---- changes by others

guards_guarded : (p : Part) (a : ℕ) → InGuards (data_region p) a → Holds (guarded_region p) a
guards_guarded p a (inl (from, below)) = (omega arith, omega arith)
guards_guarded p a (inr (from, below)) = (omega arith, omega arith)

-- where the second sandbox has a zone at zero, the spans of the first lie clear of it
both_clear : (p q : Part) → AreClear (zone_ends (q ∷ [])) (spans (p ∷ [])) → has_single_mask q.format ≡ true → IsClear (zone_end q.data_size) (code_region p) × IsClear (zone_end q.data_size) (guarded_region p)
both_clear p q clear one_step =
    let ends : zone_ends (q ∷ []) ≡ zone_end q.data_size ∷ [] = rw (one_step) refl in
    let all = subst (λ (es : List ℕ). AreClear es (spans (p ∷ []))) ends clear in (
      All-head (λ end. IsClear end (code_region p)) (zone_end q.data_size) [] (first (λ (s : Span). All (λ end. IsClear end s) (zone_end q.data_size ∷ [])) p all),
      All-head (λ end. IsClear end (guarded_region p)) (zone_end q.data_size) [] (second (λ (s : Span). All (λ end. IsClear end s) (zone_end q.data_size ∷ [])) p all),
    )

out_of_zone : (size a : ℕ) (s : Span) → IsClear (zone_end size) s → InZoneAtZero size a → Holds s a → ⊥
out_of_zone size a s clear (inl low) held = omega (arith, held.0, clear.above)
out_of_zone size a s clear (inr (high, word)) held = omega (arith, held.1, clear.below)

-- a guard of the second lies outside the spans of the first
guard_outside : (p q : Part) (a : ℕ) → SpansApart p q → InGuard q a → (Holds (code_region p) a → ⊥) × (Holds (guarded_region p) a → ⊥)
guard_outside p q a apart (inl sides) =
    let there = guards_guarded q a sides in
    (λ own. apart.code_guarded a own there, λ own. apart.guarded_guarded a own there)
guard_outside p q a apart (inr zone) =
    let clear = both_clear p q apart.other_clear zone.0 in
    (out_of_zone q.data_size a (code_region p) clear.0 zone.1, out_of_zone q.data_size a (guarded_region p) clear.1 zone.1)

pub are_others : ChangesBesideAreOthers
are_others p q h m n beside stays =
    let apart = spans_apart p q beside in
    record {
      pc = refl;
      registers = refl;
      bytes = record {
        code = λ a inside. stays a (λ own. apart.code_code a own inside) (λ own. apart.guarded_code a own inside);
        guards = λ a guard none. let outside = guard_outside p q a apart guard in stays a outside.0 outside.1 ∙ none;
      };
    }

-- what a step may change lies in the data with their guard zones
written : (z : Zones) (p : Part) (a : ℕ) → Holds (writable_region z p) a → Holds (guarded_region p) a
written Empty p a (from, below) = (omega arith, omega arith)
written Padded p a held = held

pub steps_are_changes : StepsBesideAreChanges
steps_are_changes t u p q s r h beside safe step =
    let stays = (safe_turns_as t p s (Steps r) safe step).1.stays in
    changes_anyway u q (record { hart = h; memory = s.memory }) (record { hart = h; memory = r.state.memory })
    (are_others p q h s.memory r.state.memory beside (λ a code guarded. stays a (λ held. guarded (written t.zones p a held))))
