-- What a change of a slot keeps.
use Rattle.std.proofs.Common.{◌≡◌, ◌≢◌, ◌<◌, ◌==◌, ◌⊎◌, inl, inr, ℕ, Bool, true, false, Option, Some, None, refl, sym, ap, subst, arith, if◌then◌else◌}
use Rattle.std.proofs.lemmas.Option.{same_Some}
use Rattle.std.proofs.lemmas.Bool.{eqb-true}
use Rattle.sfi_slots.specs.declared.slot.SfiVersion.{SfiVersion}
use Rattle.sfi_slots.specs.declared.slot.SfiSlot.{SfiSlot}
use Rattle.sfi_slots.specs.Slots.{IsKept, IsVersionOf, new_version, with_versions, receiving, accepted_state, on_trial, empty, begun, refused, tried, placing, turned, confirmed, rolled_back, removed}

-- a version that is kept is one that the slot had, under another state perhaps
pub record IsFrom (s : SfiSlot) (b : SfiVersion) : Type 0 where
  pub version : SfiVersion
  pub is_of : IsVersionOf version s
  pub kept : IsKept version
  pub bounds : version.bounds ≡ b.bounds
  pub number : version.number ≡ b.number

abbrev pub ComesFrom : SfiSlot → SfiVersion → Type 0
ComesFrom s b = IsKept b → IsFrom s b

-- the current version is the same, and as many bytes of it are written
pub record IsSameCurrent (s t : SfiSlot) : Type 0 where
  pub written : t.written ≡ s.written
  pub number : t.current.number ≡ s.current.number
  pub bounds : t.current.bounds ≡ s.current.bounds
  pub kept : IsKept s.current → IsKept t.current

-- no version is new
pub record KeepsVersions (s t : SfiSlot) : Type 0 where
  pub of_current : ComesFrom s t.current
  pub of_other : ComesFrom s t.other
  pub memories : s.current.memory ≢ s.other.memory → t.current.memory ≢ t.other.memory

-- the same, and where another one is current, nothing of it is written
pub record IsHarmless (s t : SfiSlot) : Type 0 where
  pub of_current : ComesFrom s t.current
  pub of_other : ComesFrom s t.other
  pub current : (t.written ≡ 0) ⊎ IsSameCurrent s t
  pub memories : s.current.memory ≢ s.other.memory → t.current.memory ≢ t.other.memory

pub versions_of : (s t : SfiSlot) → IsHarmless s t → KeepsVersions s t
versions_of s t h = record { of_current = h.of_current; of_other = h.of_other; memories = h.memories }

-- ---- where versions come from

pub from_current : (s : SfiSlot) → ComesFrom s s.current
from_current s k = record { version = s.current; is_of = inl refl; kept = k; bounds = refl; number = refl }

pub from_other : (s : SfiSlot) → ComesFrom s s.other
from_other s k = record { version = s.other; is_of = inr refl; kept = k; bounds = refl; number = refl }

from_new : (s : SfiSlot) (state memory : ℕ) → state < 2 → ComesFrom s (new_version state memory)
from_new s state memory low k = absurd (omega (arith, low, k))

same : (s t : SfiSlot) → t.current ≡ s.current → t.written ≡ s.written → IsSameCurrent s t
same s t e w = record {
  written = w;
  number = ap (λ (v : SfiVersion). v.number) e;
  bounds = ap (λ (v : SfiVersion). v.bounds) e;
  kept = λ k. subst IsKept (sym e) k;
}

pub itself : (s : SfiSlot) → IsHarmless s s
itself s = record {
  of_current = from_current s;
  of_other = from_other s;
  current = inr (same s s refl refl);
  memories = λ m. m;
}

-- ---- a change that was due

pub then_some : (b : Bool) (x t : SfiSlot) → (if b then Some x else None) ≡ Some t → (b ≡ true) × (x ≡ t)
then_some true x t e = (refl, same_Some x t e)
then_some false x t e = absurd cc

pub else_some : (b : Bool) (x : Option SfiSlot) (t : SfiSlot) → (if b then None else x) ≡ Some t → (b ≡ false) × (x ≡ Some t)
else_some true x t e = absurd cc
else_some false x t e = (refl, e)

-- ---- each change

pub of_begun : (s t : SfiSlot) → begun s ≡ Some t → IsHarmless s t
of_begun s t e = subst (IsHarmless s) (same_Some _ t (else_some _ _ t e).1) (record {
  of_current = from_current s;
  of_other = from_new s receiving s.other.memory (omega arith);
  current = inr (same s _ refl refl);
  memories = λ m. m;
})

pub of_refused : (s t : SfiSlot) → refused s ≡ Some t → IsHarmless s t
of_refused s t e = subst (IsHarmless s) (then_some _ _ t e).1 (record {
  of_current = from_current s;
  of_other = from_new s empty s.other.memory (omega arith);
  current = inr (same s _ refl refl);
  memories = λ m. m;
})

-- what becomes current, on trial
abbrev tried_version : ℕ → SfiSlot → SfiVersion
tried_version turns s = record s.other { state = on_trial; turns = turns }

pub of_tried : (turns : ℕ) (s t : SfiSlot) → tried turns s ≡ Some t → IsHarmless s t
of_tried turns s t e =
    let next : SfiSlot = with_versions s (tried_version turns s) s.current in
    let update : Option SfiSlot = if s.other.state == accepted_state then Some next else None in
    let due = then_some (s.other.state == accepted_state) next t (else_some (s.current.state == on_trial) update t e).1 in
    let kept : IsKept s.other = omega (arith, eqb-true s.other.state accepted_state due.0) in
    subst (IsHarmless s) due.1 (record {
      of_current = λ k. record { version = s.other; is_of = inr refl; kept = kept; bounds = refl; number = refl };
      of_other = from_current s;
      current = inl refl;
      memories = λ m same. m (sym same);
    })

pub of_placing : (s t : SfiSlot) → placing s ≡ Some t → IsHarmless s t
of_placing s t e = subst (IsHarmless s) (same_Some _ t (else_some _ _ t e).1) (record {
  of_current = from_current s;
  of_other = from_other s;
  current = inl refl;
  memories = λ m. m;
})

pub of_turned : (s t : SfiSlot) → turned s ≡ Some t → IsHarmless s t
of_turned s t e =
    subst (IsHarmless s) (then_some _ _ t (else_some _ _ t e).1).1 (record {
      of_current = λ k. record { version = s.current; is_of = inl refl; kept = k; bounds = refl; number = refl };
      of_other = from_other s;
      current = inr (record { written = refl; number = refl; bounds = refl; kept = λ k. k });
      memories = λ m. m;
    })

pub of_confirmed : (s t : SfiSlot) → confirmed s ≡ Some t → IsHarmless s t
of_confirmed s t e =
    let due = then_some _ _ t e in
    let state : (s.current.state == on_trial) ≡ true = due.0 in
    subst (IsHarmless s) due.1 (record {
      of_current = λ k. record { version = s.current; is_of = inl refl; kept = omega (arith, eqb-true s.current.state on_trial state); bounds = refl; number = refl };
      of_other = from_other s;
      current = inr (record { written = refl; number = refl; bounds = refl; kept = λ k. omega arith });
      memories = λ m. m;
    })

pub of_rolled_back : (s t : SfiSlot) → rolled_back s ≡ Some t → IsHarmless s t
of_rolled_back s t e = subst (IsHarmless s) (then_some _ _ t e).1 (record {
  of_current = from_other s;
  of_other = from_new s empty s.current.memory (omega arith);
  current = inl refl;
  memories = λ m same. m (sym same);
})

pub of_removed : (s t : SfiSlot) → removed s ≡ Some t → IsHarmless s t
of_removed s t e = subst (IsHarmless s) (then_some _ _ t e).1 (record {
  of_current = from_new s empty s.current.memory (omega arith);
  of_other = from_new s empty s.other.memory (omega arith);
  current = inl refl;
  memories = λ m. m;
})
