-- The table of names, and what a map's entries are of it.
use Rattle.std.proofs.Common.{◌≡◌, refl, sym, ap, ◌∙◌, ℕ, ◌+◌, Bool, true, false, if◌then◌else◌, List, [], ◌∷◌, Option, None, Some, map, slice_get, length, cond, not, nat_lt, ◌<◌, ◌≤◌, arith}
use Rattle.std.proofs.lemmas.Bool.Decides.{nat_tests}
use Rattle.std.proofs.lemmas.List.{length-map}
use Rattle.std.specs.List.{IsDistinct, AllByRecursion, position_or_len, position}
use Rattle.std.specs.Map.{lookup, keys_of}
use Rattle.std.specs.Option.{option_map, unwrap_or}
use Rattle.std.specs.Str.{bytes_eq}
use Rattle.std.specs.String.{string_bytes}
use Rattle.std.specs.declared.string.String.{String}
use Rattle.std.proofs.lemmas.Option.{slice_get-map, same_Some, none-some}
use Rattle.std.proofs.lemmas.Slice.Eq.{bytes_eq-Decides}
use Rattle.indexmap.specs.IndexMap.{insert_entry}
use Rattle.sfi_source.specs.declared.item.Named.{Named}
use Rattle.sfi_source.specs.declared.item.Named.TheVariants.{Unknown}
use Rattle.sfi_source.specs.Names.{entry_of, meaning, place_of, placed, met}

-- texts that the test of names finds equal are equal
pub same_text : (x y : List ℕ) → bytes_eq x y ≡ true → x ≡ y
same_text x y e = (bytes_eq-Decides x y).0 e

module _ {A : Type 0} where
  -- the test of the map's keys
  abbrev same_key : String A → String A → Bool
  same_key x y = bytes_eq (string_bytes x) (string_bytes y)

  -- whether a key has this text
  abbrev has_text : List ℕ → String A → Bool
  has_text name key = bytes_eq name (string_bytes key)

  -- what an entry names is the same in the map and in the table
  pub option_map-entry_of : (e : Option (String A × Named)) → option_map (λ p. p.1) (option_map entry_of e) ≡ option_map (λ p. p.1) e
  option_map-entry_of None = refl
  option_map-entry_of (Some e) = refl

  -- what the name at a place names
  pub named_at : (es : List (String A × Named)) (names : List (List ℕ × Named)) (i : ℕ) (e : Option (String A × Named))
      → map entry_of es ≡ names → e ≡ slice_get es i → option_map (λ p. p.1) e ≡ slice_get (map (λ p. p.1) names) i
  named_at es names i e is at =
      rw (← is, slice_get-map (λ p. p.1) (map entry_of es) i, slice_get-map entry_of es i, ← at)
      (sym (option_map-entry_of e))

  -- the text of an entry is the same in the map and in the table
  pub option_map-text_of : (e : Option (String A × Named)) → option_map (λ p. p.0) (option_map entry_of e) ≡ option_map (λ p. string_bytes p.0) e
  option_map-text_of None = refl
  option_map-text_of (Some e) = refl

  -- the name at a place
  pub text_at : (es : List (String A × Named)) (names : List (List ℕ × Named)) (i : ℕ) (e : Option (String A × Named))
      → map entry_of es ≡ names → e ≡ slice_get es i → option_map (λ p. string_bytes p.0) e ≡ slice_get (map (λ p. p.0) names) i
  text_at es names i e is at =
      rw (← is, slice_get-map (λ p. p.0) (map entry_of es) i, slice_get-map entry_of es i, ← at)
      (sym (option_map-text_of e))

  -- keys that differ are names that differ
  pub names_differ : (es : List (String A × Named)) → IsDistinct same_key (keys_of es) → IsDistinct bytes_eq (map (λ p. p.0) (map entry_of es))
  unfolding IsDistinct
  names_differ [] h = tt
  names_differ (e ∷ es) h = (others es h.0, names_differ es h.1)
    where
      others : (fs : List (String A × Named)) → AllByRecursion (λ y. same_key e.0 y ≡ false) (keys_of fs)
          → AllByRecursion (λ y. bytes_eq (string_bytes e.0) y ≡ false) (map (λ p. p.0) (map entry_of fs))
      others [] h = tt
      others (f ∷ fs) h = (h.0, others fs h.1)

  -- a look-up finds what the name names
  pub looked_up : (name : List ℕ) (es : List (String A × Named)) → unwrap_or (lookup (has_text name) es) Unknown ≡ meaning (map entry_of es) name
  looked_up name [] = refl
  looked_up name (e ∷ es) = by (has_text name e.0) (looked_up name es)
    where
      by : (b : Bool) → unwrap_or (lookup (has_text name) es) Unknown ≡ meaning (map entry_of es) name
          → unwrap_or (cond b (Some e.1) (lookup (has_text name) es)) Unknown ≡ (if b then e.1 else meaning (map entry_of es) name)
      by true more = refl
      by false more = more

  -- the place that a look-up finds
  pub place_found : (name : List ℕ) (es : List (String A × Named)) → position_or_len (has_text name) (keys_of es) ≡ place_of (map entry_of es) name
  place_found name [] = refl
  place_found name (e ∷ es) = by (has_text name e.0) (place_found name es)
    where
      by : (b : Bool) → position_or_len (has_text name) (keys_of es) ≡ place_of (map entry_of es) name
          → cond (not b) (1 + position_or_len (has_text name) (keys_of es)) 0 ≡ (if b then 0 else 1 + place_of (map entry_of es) name)
      by true more = refl
      by false more = ap (λ n. 1 + n) more

  -- the entries after an insertion
  pub inserted : (es : List (String A × Named)) (key : String A) (what : Named)
      → map entry_of (insert_entry same_key es key what) ≡ placed (map entry_of es) (string_bytes key) what
  inserted [] key what = refl
  inserted (e ∷ es) key what = by (same_key key e.0) (same_text (string_bytes key) (string_bytes e.0)) (inserted es key what)
    where
      by : (b : Bool) → (b ≡ true → string_bytes key ≡ string_bytes e.0)
          → map entry_of (insert_entry same_key es key what) ≡ placed (map entry_of es) (string_bytes key) what
          → map entry_of (if b then (e.0, what) ∷ es else e ∷ insert_entry same_key es key what)
          ≡ (if b then (string_bytes key, what) ∷ map entry_of es else entry_of e ∷ placed (map entry_of es) (string_bytes key) what)
      by true same more = ap (λ t. (t, what) ∷ map entry_of es) (sym (same refl))
      by false same more = ap (λ l. entry_of e ∷ l) more

-- the place of a name is that of one of them, or the one after the last
pub place_within : (names : List (List ℕ × Named)) (name : List ℕ) → place_of names name ≤ length names
place_within [] name = omega arith
place_within (e ∷ es) name = by (bytes_eq name e.0) (place_within es name)
  where
    by : (b : Bool) → place_of es name ≤ length es → (if b then 0 else 1 + place_of es name) ≤ length (e ∷ es)
    by true more = omega arith
    by false more = omega (arith, more)

-- a name that is there is met without a change
pub met_there : (names : List (List ℕ × Named)) (name : List ℕ) → place_of names name < length names → names ≡ met names name
met_there [] name h = absurd (omega (arith, h))
met_there (e ∷ es) name h = by (bytes_eq name e.0) (same_text name e.0) (met_there es name) h
  where
    by : (b : Bool) → (b ≡ true → name ≡ e.0) → (place_of es name < length es → es ≡ met es name)
        → (if b then 0 else 1 + place_of es name) < length (e ∷ es)
        → e ∷ es ≡ (if b then (name, (if b then e.1 else meaning es name)) ∷ es else e ∷ placed es name (if b then e.1 else meaning es name))
    by true same more h = ap (λ t. (t, e.1) ∷ es) (sym (same refl))
    by false same more h = ap (λ l. e ∷ l) (more (omega (arith, h)))

-- a name that is not there names nothing
pub meaning_new : (names : List (List ℕ × Named)) (name : List ℕ) → length names ≤ place_of names name → meaning names name ≡ Unknown
meaning_new [] name h = refl
meaning_new (e ∷ es) name h = by (bytes_eq name e.0) (meaning_new es name) h
  where
    by : (b : Bool) → (length es ≤ place_of es name → meaning es name ≡ Unknown)
        → length (e ∷ es) ≤ (if b then 0 else 1 + place_of es name) → (if b then e.1 else meaning es name) ≡ Unknown
    by true more h = absurd (omega (arith, h))
    by false more h = more (omega (arith, h))

-- where a search of the first `n` places, which stops at `a`, answers place `i`, `i` is `a`
pub found_at : (a n i : ℕ) → Some i ≡ cond (nat_lt a n) (Some a) None → (i ≡ a) × (a < n)
found_at a n i = by (nat_lt a n) refl
  where
    by : (b : Bool) → nat_lt a n ≡ b → Some i ≡ cond b (Some a) None → (i ≡ a) × (a < n)
    by true is h = (same_Some i a h, grind (arith, nat_tests, is))
    by false is h = absurd (none-some i (sym h))

-- and where it answers none, there is none
pub not_found : (a n : ℕ) → None ≡ cond (nat_lt a n) (Some a) None → n ≤ a
not_found a n = by (nat_lt a n) refl
  where
    by : (b : Bool) → nat_lt a n ≡ b → None ≡ cond b (Some a) None → n ≤ a
    by true is h = absurd (none-some a h)
    by false is h = grind (arith, nat_tests, is)

module _ {A : Type 0} (es : List (String A × Named)) (names : List (List ℕ × Named)) (name : List ℕ) (view : map entry_of es ≡ names) where
  at_place : position_or_len (has_text name) (keys_of es) ≡ place_of names name
  at_place = place_found name es ∙ ap (λ l. place_of l name) view

  as_many : length (keys_of es) ≡ length names
  as_many = length-map es (λ e. e.0) ∙ sym (length-map es entry_of) ∙ ap length view

  -- the place that the map finds
  pub found_place : (i : ℕ) → Some i ≡ position (has_text name) (keys_of es) → (i ≡ place_of names name) × (names ≡ met names name)
  found_place i h =
      let f = found_at _ _ i h in
      (f.0 ∙ at_place, met_there names name (omega (arith, f.1, at_place, as_many)))

  -- the map finds no place where the name is new
  pub new_place : None ≡ position (has_text name) (keys_of es) → (length es ≡ place_of names name) × (meaning names name ≡ Unknown)
  new_place h =
      let f = not_found _ _ h in
      let past : length names ≤ place_of names name = omega (arith, f, at_place, as_many) in
      (omega (arith, past, place_within names name, ap length view, length-map es entry_of), meaning_new names name past)
