-- The entries of a table: as bytes, as they are sought, and as they are written.
use Rattle.std.proofs.Common.{◌≡◌, ℕ, ◌+◌, ◌<◌, ◌≤◌, List, [], ◌∷◌, ◌++◌, length, get_or, take, drop, refl, sym, ap, subst, ◌∙◌, arith, append_assoc, inl, inr, cond, Bool, true, false, Some, None, zero, suc, slice_get, ◌-◌}
use Rattle.std.specs.List.{All, between}
use Rattle.std.proofs.lemmas.Slice.{first_rest}
use Rattle.std.proofs.lemmas.List.{length-append, append-nil, take-append-drop}
use Rattle.std.proofs.lemmas.List.Elements.{All-nil, All-push, All-head, All-tail}
use Rattle.std.proofs.lemmas.Grind.{flat_map-append}
use Rattle.sfi_image.specs.Spelling.{IsWord}
unfoldable use Rattle.sfi_image.specs.Spelling.{number}
use Rattle.sfi_image.proofs.Fronts.{same_front, same_number, fronts}
use Rattle.sfi_names.specs.Tables.{Named, entries, IsNamed, IsName, address_of, Table, magic}
unfoldable use Rattle.sfi_names.specs.Tables.{entry, footer, spelling}
use Rattle.std.specs.Str.{bytes_eq}
use Rattle.sfi_names.specs.Laws.{FollowsFirst, OneFirst}

-- ==== What is spelled by entries is determined by the bytes.

-- two ends of one length are the same end
pub same_end : (xs ys : List ℕ) (a b : List ℕ) → length a ≡ length b → xs ++ a ≡ ys ++ b → (xs ≡ ys) × (a ≡ b)
same_end xs ys a b len e = same_front xs ys a b (omega (arith, len, ap length e, length-append xs a, length-append ys b)) e

-- ---- one entry

pub entry_split : (e : Named) (r : List ℕ) → entry e ++ r ≡ number e.address ++ (length e.name ∷ (e.name ++ r))
unfolding entry
entry_split e r = append_assoc (number e.address) (length e.name ∷ e.name) r

pub length-number : (n : ℕ) (r : List ℕ) → length (number n ++ r) ≡ 4 + length r
unfolding number
length-number n r = omega arith

pub length-entry : (e : Named) (r : List ℕ) → length (entry e ++ r) ≡ 5 + length e.name + length r
length-entry e r = omega (arith, ap length (entry_split e r), length-number e.address (length e.name ∷ (e.name ++ r)), length-append e.name r)

-- what was read as an entry's address and length is what the entry says
pub entry_read : (bytes : List ℕ) (address size : ℕ) (more : List ℕ) → IsWord address → bytes ≡ number address ++ (size ∷ more)
    → (e : Named) (r : List ℕ) → IsNamed e → bytes ≡ entry e ++ r → (address ≡ e.address) × (size ≡ length e.name) × (more ≡ e.name ++ r)
entry_read bytes address size more word e f r fits g =
    let both = same_number address f.address (size ∷ more) (length f.name ∷ (f.name ++ r)) word fits.address (sym e ∙ g ∙ entry_split f r) in
    let cells : size ∷ more ≡ length f.name ∷ (f.name ++ r) = both.1 in
    (both.0, cc, cc)

pub same_entry : (e f : Named) (r s : List ℕ) → IsNamed e → IsNamed f → entry e ++ r ≡ entry f ++ s → (e ≡ f) × (r ≡ s)
same_entry e f r s fe ff g =
    let read = entry_read (entry f ++ s) e.address (length e.name) (e.name ++ r) fe.address (sym g ∙ entry_split e r) f s ff refl in
    let name = same_front e.name f.name r s read.1 read.2 in
    let same : e ≡ f = λ k. record { address = read.0 k; name = name.0 k } in
    (same, name.1)

pub parts_of : (bytes front back : List ℕ) (n : ℕ) → front ≡ take n bytes → back ≡ drop n bytes → bytes ≡ front ++ back
parts_of bytes front back n f b = rw (f, b) (sym (take-append-drop n bytes))

-- ---- reading one: an address, and bytes after it of which the first says how long the name is

module _ (bytes tail : List ℕ) (address : ℕ) (word : IsWord address) (front : bytes ≡ number address ++ tail) where
  at : 0 < length tail → bytes ≡ number address ++ (get_or tail 0 0 ∷ between 1 (length tail) tail)
  at some = front ∙ ap (λ (t : List ℕ). number address ++ t) (first_rest tail 0 some)

  -- the name isn't there whole
  pub too_short : 0 < length tail → length (between 1 (length tail) tail) < get_or tail 0 0 → (e : Named) (r : List ℕ) → IsNamed e → bytes ≡ entry e ++ r → ⊥
  too_short some short e r fits g =
      let read = entry_read bytes address (get_or tail 0 0) (between 1 (length tail) tail) word (at some) e r fits g in
      omega (arith, short, read.1, ap length read.2, length-append e.name r)

  module _ (name rest : List ℕ) (some : 0 < length tail) (len : length name ≡ get_or tail 0 0) (parts : between 1 (length tail) tail ≡ name ++ rest) where
    -- it is no name
    pub no_name : (IsName name → ⊥) → (e : Named) (r : List ℕ) → IsNamed e → bytes ≡ entry e ++ r → ⊥
    no_name none e r fits g =
        let read = entry_read bytes address (get_or tail 0 0) (between 1 (length tail) tail) word (at some) e r fits g in
        let same = same_front name e.name rest r (len ∙ read.1) (sym parts ∙ read.2) in
        none (subst IsName (sym same.0) fits.name)

    pub reads : bytes ≡ entry (record { address = address; name = name }) ++ rest
    reads = at some ∙ ap (λ (t : List ℕ). number address ++ t) (cell ∙ ap (λ (t : List ℕ). length name ∷ t) parts) ∙ sym (entry_split (record { address = address; name = name }) rest)
      where
        cell : get_or tail 0 0 ∷ between 1 (length tail) tail ≡ length name ∷ between 1 (length tail) tail
        cell = ap (λ (n : ℕ). n ∷ between 1 (length tail) tail) (sym len)

-- no entry begins four bytes or fewer
pub too_few : (bytes : List ℕ) → length bytes ≤ 4 → (e : Named) (r : List ℕ) → IsNamed e → bytes ≡ entry e ++ r → ⊥
too_few bytes few e r fits g = omega (arith, ap length g, length-entry e r)

-- ---- entries

-- one more
pub entries_push : (es : List Named) (e : Named) (r : List ℕ) → entries (es ++ e ∷ []) ++ r ≡ entries es ++ (entry e ++ r)
entries_push es e r = ap (λ (t : List ℕ). t ++ r) (flat_map-append entry es (e ∷ []) ∙ ap (λ (t : List ℕ). entries es ++ t) (append-nil (entry e))) ∙ append_assoc (entries es) (entry e) r

-- the bytes are entries and nothing else
abbrev pub AreEntries : List ℕ → Type 0
AreEntries bytes = (es : List Named) × All IsNamed es × (bytes ≡ entries es)

-- some entries were passed, and these bytes are left
pub record HasPassed (bytes rest : List ℕ) : Type 0 where
  pub es : List Named
  pub named : All IsNamed es
  pub bytes_are : bytes ≡ entries es ++ rest

-- no entry begins the bytes
abbrev pub BeginsNone : List ℕ → Type 0
BeginsNone rest = (e : Named) (r : List ℕ) → IsNamed e → rest ≡ entry e ++ r → ⊥

pub none_passed : (bytes : List ℕ) → HasPassed bytes bytes
none_passed bytes = record { es = []; named = All-nil IsNamed; bytes_are = refl }

pub one_passed : (bytes rest more : List ℕ) (e : Named) → HasPassed bytes rest → IsNamed e → rest ≡ entry e ++ more → HasPassed bytes more
one_passed bytes rest more e h fits g = record {
  es = h.es ++ e ∷ [];
  named = All-push IsNamed h.es e h.named fits;
  bytes_are = h.bytes_are ∙ ap (λ (t : List ℕ). entries h.es ++ t) g ∙ sym (entries_push h.es e more);
}

pub all_passed : (bytes rest : List ℕ) → HasPassed bytes rest → length rest ≡ 0 → AreEntries bytes
all_passed bytes [] h len = (h.es, h.named, h.bytes_are ∙ append-nil (entries h.es))
all_passed bytes (x ∷ xs) h len = absurd (omega arith)

-- where something is left that no entry begins, they aren't
pub stuck : (bytes rest : List ℕ) → HasPassed bytes rest → 0 < length rest → BeginsNone rest → AreEntries bytes → ⊥
stuck bytes rest h some none all =
    elim (fronts entry IsNamed same_entry all.0 h.es [] rest all.1 h.named (append-nil (entries all.0) ∙ sym all.2 ∙ h.bytes_are)) [
      | inl both ↦ omega (arith, ap length both.1)
      | inr (inl on) ↦ none on.0 on.2 on.3 on.5
      | inr (inr on) ↦ omega (arith, ap length on.5, length-entry on.0 on.2)
    ]

-- ==== A name is sought, one entry after another.

-- of entries that are all of the bytes these are left, and the name stands for what it stands for in these
pub record IsLeft (rest name : List ℕ) (es : List Named) : Type 0 where
  pub left : List Named
  pub named : All IsNamed left
  pub rest_is : rest ≡ entries left
  pub same : address_of name es ≡ address_of name left

abbrev pub StillToFind : List ℕ → List ℕ → List ℕ → Type 0
StillToFind bytes rest name = (es : List Named) → All IsNamed es → bytes ≡ entries es → IsLeft rest name es

pub all_left : (bytes name : List ℕ) → StillToFind bytes bytes name
all_left bytes name es fits e = record { left = es; named = fits; rest_is = e; same = refl }

pub one_first : OneFirst
one_first [] e rest all fits g = absurd (omega (arith, ap length g, length-entry e rest))
one_first (x ∷ xs) e rest all fits g =
    let both = same_entry e x rest (entries xs) fits (All-head IsNamed x xs all) (sym g) in
    record {
      others = xs;
      named = All-tail IsNamed x xs all;
      all = ap (λ (y : Named). y ∷ xs) (sym both.0);
      rest_is = both.1;
    }

-- the entry that begins what is left is the first of what is left
module _ (rest name : List ℕ) (e : Named) (more : List ℕ) (fits : IsNamed e) (g : rest ≡ entry e ++ more) where
  first : (left : List Named) → All IsNamed left → rest ≡ entries left → FollowsFirst left e more
  first left all r = one_first left e more all fits (sym r ∙ g)

  -- it isn't the one
  pub passed : (es : List Named) → bytes_eq e.name name ≡ false → IsLeft rest name es → IsLeft more name es
  passed es other h =
      let f = first h.left h.named h.rest_is in
      record {
        left = f.others;
        named = f.named;
        rest_is = f.rest_is;
        same = h.same ∙ ap (address_of name) f.all ∙ ap (λ (b : Bool). cond b (Some e.address) (address_of name f.others)) other;
      }

  -- it is
  pub found : (es : List Named) → bytes_eq e.name name ≡ true → IsLeft rest name es → Some e.address ≡ address_of name es
  found es same h =
      let f = first h.left h.named h.rest_is in
      sym (h.same ∙ ap (address_of name) f.all ∙ ap (λ (b : Bool). cond b (Some e.address) (address_of name f.others)) same)

-- where no entry begins what is left, nothing is
pub not_found : (rest name : List ℕ) (es : List Named) → BeginsNone rest → IsLeft rest name es → None ≡ address_of name es
not_found rest name es none h = ends h.left h.named h.rest_is h.same
  where
    ends : (left : List Named) → All IsNamed left → rest ≡ entries left → address_of name es ≡ address_of name left → None ≡ address_of name es
    ends [] all r same = sym same
    ends (x ∷ xs) all r same = absurd (none x (entries xs) (All-head IsNamed x xs all) r)

-- ==== An entry is sought by its index.

-- of entries that are all of the bytes these are left, and the entry at `index` is the one at `before` in these
pub record IsLeftBefore (rest : List ℕ) (index before : ℕ) (es : List Named) : Type 0 where
  pub left : List Named
  pub named : All IsNamed left
  pub rest_is : rest ≡ entries left
  pub same : slice_get es index ≡ slice_get left before

abbrev pub StillToCount : List ℕ → List ℕ → ℕ → ℕ → Type 0
StillToCount bytes rest index before = (es : List Named) → All IsNamed es → bytes ≡ entries es → IsLeftBefore rest index before es

first_is : (x : Named) (xs : List Named) (n : ℕ) → n ≡ 0 → slice_get (x ∷ xs) n ≡ Some x
first_is x xs n e = rw e refl

later_is : (x : Named) (xs : List Named) (n : ℕ) → (n ≡ 0 → ⊥) → slice_get (x ∷ xs) n ≡ slice_get xs (n - 1)
later_is x xs zero more = absurd (more refl)
later_is x xs (suc n) more = let e : suc n - 1 ≡ n = omega arith in rw e refl

module _ (rest : List ℕ) (index before : ℕ) (e : Named) (more : List ℕ) (fits : IsNamed e) (g : rest ≡ entry e ++ more) where
  -- the entry that begins what is left is before it
  pub counted : (es : List Named) → (before ≡ 0 → ⊥) → IsLeftBefore rest index before es → IsLeftBefore more index (before - 1) es
  counted es later h =
      let f = first rest [] e more fits g h.left h.named h.rest_is in
      record {
        left = f.others;
        named = f.named;
        rest_is = f.rest_is;
        same = h.same ∙ ap (λ (l : List Named). slice_get l before) f.all ∙ later_is e f.others before later;
      }

  -- it is the one
  pub reached : (es : List Named) → before ≡ 0 → IsLeftBefore rest index before es → slice_get es index ≡ Some e
  reached es now h =
      let f = first rest [] e more fits g h.left h.named h.rest_is in
      h.same ∙ ap (λ (l : List Named). slice_get l before) f.all ∙ first_is e f.others before now

-- where no entry begins what is left, nothing is
pub too_far : (rest : List ℕ) (index before : ℕ) (es : List Named) → BeginsNone rest → IsLeftBefore rest index before es → slice_get es index ≡ None
too_far rest index before es none h = ends h.left h.named h.rest_is h.same
  where
    ends : (left : List Named) → All IsNamed left → rest ≡ entries left → slice_get es index ≡ slice_get left before → slice_get es index ≡ None
    ends [] all r same = same
    ends (x ∷ xs) all r same = absurd (none x (entries xs) (All-head IsNamed x xs all) r)

-- ==== What is written piece by piece is a table's bytes.

regrouped : (x y z m : List ℕ) → (x ++ (y ++ z)) ++ m ≡ x ++ (y ++ (z ++ m))
regrouped x y z m = append_assoc x (y ++ z) m ∙ ap (λ (t : List ℕ). x ++ t) (append_assoc y z m)

in_order : (o e i x y z m : List ℕ) → (((((o ++ e) ++ i) ++ x) ++ y) ++ z) ++ m ≡ o ++ (e ++ (i ++ ((x ++ (y ++ z)) ++ m)))
in_order o e i x y z m =
    append_assoc ((((o ++ e) ++ i) ++ x) ++ y) z m
    ∙ append_assoc (((o ++ e) ++ i) ++ x) y (z ++ m)
    ∙ append_assoc ((o ++ e) ++ i) x (y ++ (z ++ m))
    ∙ append_assoc (o ++ e) i (x ++ (y ++ (z ++ m)))
    ∙ append_assoc o e (i ++ (x ++ (y ++ (z ++ m))))
    ∙ ap (λ (t : List ℕ). o ++ (e ++ (i ++ t))) (sym (regrouped x y z m))

pub written : (old a b c d e f exports imports : List ℕ) (version : ℕ) (t : Table)
    → a ≡ old ++ exports → b ≡ a ++ imports → c ≡ b ++ number version → d ≡ c ++ number (length exports) → e ≡ d ++ number (length imports) → f ≡ e ++ magic
    → version ≡ t.version → exports ≡ entries t.exports → imports ≡ entries t.imports → f ≡ old ++ spelling t
unfolding footer spelling
written old a b c d e f exports imports version t h1 h2 h3 h4 h5 h6 v x i =
    rw (h6, h5, h4, h3, h2, h1, v, x, i) (in_order old (entries t.exports) (entries t.imports) (number t.version) (number (length (entries t.exports))) (number (length (entries t.imports))) magic)
