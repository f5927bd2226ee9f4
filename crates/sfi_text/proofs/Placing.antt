-- What placing a name changes in the table of names, and what it leaves.
use Rattle.sfi_text.proofs.Prelude.{◌≡◌, ◌≢◌, refl, sym, subst, ◌∙◌, ℕ, zero, suc, ◌+◌, ◌<◌, ◌≤◌, ◌⊎◌, inl, inr, Bool, true, false, if◌then◌else◌, List, [], ◌∷◌, Some, map, slice_get, length, Contains, arith, AllByRecursion, bytes_eq, same_Some, none-some, cases_Bool, false≢true, bytes_eq-Decides, Named, Unknown, meaning, place_of, placed}
use Rattle.std.specs.List.{IsDistinct}

-- the next number
next : (n : ℕ) → suc n ≡ 1 + n
next n = omega arith

-- a name names that
abbrev pub Has : List (List ℕ × Named) → Named → Type 0
Has [] what = ⊥
Has (e ∷ es) what = (e.1 ≡ what) ⊎ Has es what

-- in the words of the definition
pub has_contained : (names : List (List ℕ × Named)) (what : Named) → Has names what → Contains (map (λ e. e.1) names) what
has_contained [] what h = absurd h
has_contained (e ∷ es) what (inl is) = (0, omega arith, is)
has_contained (e ∷ es) what (inr h) = let c = has_contained es what h in (suc c.0, omega (arith, c.1), c.2)

pub contained_has : (names : List (List ℕ × Named)) (what : Named) → Contains (map (λ e. e.1) names) what → Has names what
contained_has [] what (k, within, is) = absurd (omega (arith, within))
contained_has (e ∷ es) what (zero, within, is) = inl is
contained_has (e ∷ es) what (suc k, within, is) = inr (contained_has es what (k, omega (arith, within), is))

-- the name that is placed names that
pub placed_has : (names : List (List ℕ × Named)) (name : List ℕ) (what : Named) → Has (placed names name what) what
placed_has [] name what = inl refl
placed_has (e ∷ es) name what = elim (cases_Bool (bytes_eq name e.0)) [ inl is ↦ rw is (inl refl) | inr not ↦ rw not (inr (placed_has es name what)) ]

-- what another names is still named, where the name was free
pub placed_keeps : (names : List (List ℕ × Named)) (name : List ℕ) (what other : Named) → meaning names name ≡ Unknown → other ≢ Unknown
    → Has names other → Has (placed names name what) other
placed_keeps [] name what other free differs h = absurd h
placed_keeps (e ∷ es) name what other free differs (inl at) =
    elim (cases_Bool (bytes_eq name e.0)) [ inl is ↦ absurd (differs (sym at ∙ (rw is at free))) | inr not ↦ rw not (inl at) ]
placed_keeps (e ∷ es) name what other free differs (inr h) =
    elim (cases_Bool (bytes_eq name e.0)) [ inl is ↦ rw is (inr h) | inr not ↦ rw not (inr (placed_keeps es name what other (rw not at free) differs h)) ]

-- and nothing else is named
placed_only : (names : List (List ℕ × Named)) (name : List ℕ) (what other : Named)
    → Has (placed names name what) other → Has names other ⊎ (what ≡ other)
placed_only [] name what other (inl is) = inr is
placed_only [] name what other (inr h) = absurd h
placed_only (e ∷ es) name what other h = by (bytes_eq name e.0) (placed_only es name what other) h
  where
    by : (b : Bool) → (Has (placed es name what) other → Has es other ⊎ (what ≡ other))
        → Has (if b then (name, what) ∷ es else e ∷ placed es name what) other → Has (e ∷ es) other ⊎ (what ≡ other)
    by true more (inl is) = inr is
    by true more (inr h) = inl (inr h)
    by false more (inl is) = inl (inl is)
    by false more (inr h) = elim (more h) [ inl k ↦ inl (inr k) | inr is ↦ inr is ]

pub placed_back : (names : List (List ℕ × Named)) (name : List ℕ) (what other : Named) → what ≢ other → Has (placed names name what) other → Has names other
placed_back names name what other apart h = elim (placed_only names name what other h) [ inl k ↦ k | inr is ↦ absurd (apart is) ]

-- the place of the name that is placed
pub placed_at : (names : List (List ℕ × Named)) (name : List ℕ) (what : Named)
    → slice_get (map (λ e. e.1) (placed names name what)) (place_of names name) ≡ Some what
placed_at [] name what = refl
placed_at (e ∷ es) name what = elim (cases_Bool (bytes_eq name e.0)) [ inl is ↦ rw is refl | inr not ↦ rw (not, ← next) (placed_at es name what) ]

-- the others keep theirs
pub placed_stays : (names : List (List ℕ × Named)) (name : List ℕ) (what other : Named) (k : ℕ) → meaning names name ≡ Unknown → other ≢ Unknown
    → slice_get (map (λ e. e.1) names) k ≡ Some other → slice_get (map (λ e. e.1) (placed names name what)) k ≡ Some other
placed_stays [] name what other k free differs h = absurd (none-some other h)
placed_stays (e ∷ es) name what other zero free differs h =
    elim (cases_Bool (bytes_eq name e.0)) [ inl is ↦ absurd (differs (sym (same_Some _ _ h) ∙ (rw is at free))) | inr not ↦ rw not h ]
placed_stays (e ∷ es) name what other (suc k) free differs h =
    elim (cases_Bool (bytes_eq name e.0)) [ inl is ↦ rw is h | inr not ↦ rw not (placed_stays es name what other k (rw not at free) differs h) ]

-- what holds of each entry, and of the new one, holds of each afterwards
pub placed_all : (P : List ℕ × Named → Type 0) (names : List (List ℕ × Named)) (name : List ℕ) (what : Named)
    → AllByRecursion P names → P (name, what) → AllByRecursion P (placed names name what)
placed_all P [] name what h new = (new, tt)
placed_all P (e ∷ es) name what h new =
    elim (cases_Bool (bytes_eq name e.0)) [ inl is ↦ rw is (new, h.1) | inr not ↦ rw not (h.0, placed_all P es name what h.1 new) ]

-- there are as many names, or one more
pub placed_grows : (names : List (List ℕ × Named)) (name : List ℕ) (what : Named) → length names ≤ length (placed names name what)
placed_grows [] name what = omega arith
placed_grows (e ∷ es) name what = elim (cases_Bool (bytes_eq name e.0)) [ inl is ↦ rw is (omega arith) | inr not ↦ rw not (omega (arith, placed_grows es name what)) ]

-- the place is one of them afterwards
pub place_among : (names : List (List ℕ × Named)) (name : List ℕ) (what : Named) → place_of names name < length (placed names name what)
place_among [] name what = omega arith
place_among (e ∷ es) name what = elim (cases_Bool (bytes_eq name e.0)) [ inl is ↦ rw is (omega arith) | inr not ↦ rw not (omega (arith, place_among es name what)) ]

-- a text that differs from each name and from the new one differs from each afterwards
placed_apart : (text : List ℕ) (names : List (List ℕ × Named)) (name : List ℕ) (what : Named)
    → AllByRecursion (λ t. bytes_eq text t ≡ false) (map (λ e. e.0) names) → bytes_eq text name ≡ false
    → AllByRecursion (λ t. bytes_eq text t ≡ false) (map (λ e. e.0) (placed names name what))
placed_apart text [] name what h new = (new, tt)
placed_apart text (e ∷ es) name what h new =
    elim (cases_Bool (bytes_eq name e.0)) [ inl is ↦ rw is (new, h.1) | inr not ↦ rw not (h.0, placed_apart text es name what h.1 new) ]

-- texts that differ, the other way round
flipped : (x y : List ℕ) → bytes_eq x y ≡ false → bytes_eq y x ≡ false
flipped x y h =
    elim (cases_Bool (bytes_eq y x)) [ inl is ↦ absurd (false≢true (sym h ∙ (bytes_eq-Decides x y).1 (sym ((bytes_eq-Decides y x).0 is)))) | inr not ↦ not ]

-- the names still differ
pub placed_differ : (names : List (List ℕ × Named)) (name : List ℕ) (what : Named)
    → IsDistinct bytes_eq (map (λ e. e.0) names) → IsDistinct bytes_eq (map (λ e. e.0) (placed names name what))
unfolding IsDistinct
placed_differ [] name what h = (tt, tt)
placed_differ (e ∷ es) name what h =
    elim (cases_Bool (bytes_eq name e.0)) [
      | inl is ↦ rw is (subst (λ t. AllByRecursion (λ y. bytes_eq t y ≡ false) (map (λ e. e.0) es)) (sym ((bytes_eq-Decides name e.0).0 is)) h.0, h.1)
      | inr not ↦ rw not (placed_apart e.0 es name what h.0 (flipped name e.0 not), placed_differ es name what h.1)
    ]
