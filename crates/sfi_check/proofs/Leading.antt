-- One step of a reader with its tally.
use Rattle.sfi_check.proofs.Prelude.{◌≡◌, ℕ, ◌+◌, ◌-◌, ◌<◌, ◌≤◌, List, ◌++◌, length, take, drop, refl, sym, ap, ◌∙◌, subst, arith, append_assoc, inl, inr, None, take-append-drop, length-take, length-drop, take_all, take-append-add, IsCodeRegion, Part, Gate, is_gate_of, ImagePrefix, Follows, prefix_bytes, IsRightPrefix, want_of, IsLengthOf, HasFaultWhateverFollows, Empty, AfterMagic, AfterCount, InGates, InCode, InInit, LayoutReader, StandsFor, left, Finding, BundlePlace, IsWithin, Tally, Tallies, IsSoFar, HoldsOfSome, Fields, LayoutFault}
use Rattle.sfi_image.specs.FieldTests.{IsFirstFault, field_tests}
use Rattle.sfi_image.specs.declared.want.Want.{Want}
use Rattle.sfi_image.specs.declared.want.Want.TheVariants as wants
use Rattle.sfi_check.specs.declared.piece.FeedEnd.{FeedEnd}
use Rattle.sfi_check.specs.declared.piece.FeedEnd.TheVariants as ends
use Rattle.sfi_check.specs.private.{IsTakenOff, Steps}
use Rattle.sfi_check.proofs.Tallying.{fault_onwards}
use Rattle.sfi_image.proofs.Facts.{whole_bundles}

code_test : (before : List Part) (f : Fields) → IsFirstFault before f field_tests None → IsCodeRegion f.format f.code_base f.code_size
code_test before f (inl h) = h.0
code_test before f (inr h) = let e = h.1 in absurd cc

-- ---- where a bundle comes next

-- the place of the bundle at that address of a sandbox with these fields and gates
abbrev pub place_at : ℕ → Fields → List Gate → ℕ → BundlePlace
place_at sandbox f gs at = record { sandbox = sandbox; address = at; format = f.format; code_base = f.code_base; code_size = f.code_size; listed = is_gate_of gs at }

-- the prefix ends within code, and the place is that after it
pub record IsInCode (x : ImagePrefix) (b : BundlePlace) : Type 0 where
  pub count : ℕ
  pub before : List Part
  pub fields : Fields
  pub gates : List Gate
  pub code : List ℕ
  pub front_is : x ≡ InCode count before fields gates code
  pub place_is : b ≡ place_at (length before) fields gates (fields.code_base + length code)

pub in_code : (x : ImagePrefix) (b : BundlePlace) → wants.Bundle b ≡ want_of x → IsInCode x b
in_code (InCode n ps f gs code) b w = record { count = n; before = ps; fields = f; gates = gs; code = code; front_is = refl; place_is = cc }
in_code x b w = absurd cc

pub bundle_within : (x : ImagePrefix) (b : BundlePlace) → IsRightPrefix x → wants.Bundle b ≡ want_of x → IsWithin b
bundle_within x b right w =
    let i = in_code x b w in
    let there = rw (i.front_is) at right in
    let placed = whole_bundles i.fields.format i.fields.code_base i.fields.code_size there.0.words.code_base (code_test i.before i.fields there.0.passed) in
    let whole = placed.2 in
    let even = there.2 in
    let inside = there.3 in
    rw (i.place_is) (record { base = omega arith; end = omega arith; addresses = omega (arith, placed.4) })

-- ---- where others do

pub field_len : (x : ImagePrefix) (len : ℕ) → wants.Field len ≡ want_of x → (1 ≤ len) × (len ≤ 28)
field_len Empty len w = let e : len ≡ 4 = cc in (omega arith, omega arith)
field_len (AfterMagic kind) len w = let e : len ≡ 4 = cc in (omega arith, omega arith)
field_len (AfterCount kind n ps) len w = let e : len ≡ 28 = cc in (omega arith, omega arith)
field_len (InGates n ps f gs) len w = let e : len ≡ 8 = cc in (omega arith, omega arith)
field_len x len w = absurd cc

pub init_some : (x : ImagePrefix) (len : ℕ) → wants.Init len ≡ want_of x → IsRightPrefix x → 1 ≤ len
init_some (InInit n ps f gs code init) len w right = let e : len ≡ f.init_len - length init = cc in let less = right.3 in omega arith
init_some x len w right = absurd cc

-- ---- as many bytes as are wanted

pub field_taken : (x : ImagePrefix) (len : ℕ) (xs : List ℕ) → wants.Field len ≡ want_of x → len ≤ length xs → IsLengthOf (length (take len xs)) (want_of x)
field_taken x len xs w le = let same : length (take len xs) ≡ len = omega (arith, length-take len xs) in subst (λ (v : Want). IsLengthOf (length (take len xs)) v) w same

pub init_taken : (x : ImagePrefix) (most len : ℕ) (xs : List ℕ) → wants.Init most ≡ want_of x → 1 ≤ len → len ≤ most → len ≤ length xs → IsLengthOf (length (take len xs)) (want_of x)
init_taken x most len xs w some le room =
    let same : length (take len xs) ≡ len = omega (arith, length-take len xs) in
    let least : 1 ≤ length (take len xs) = omega arith in
    let few : length (take len xs) ≤ most = omega arith in
    subst (λ (v : Want). IsLengthOf (length (take len xs)) v) w (least, few)

-- ---- steps

pub joined : (so_far : List ℕ) (x : ImagePrefix) (s : List ℕ) (y : ImagePrefix) → so_far ≡ prefix_bytes x → prefix_bytes y ≡ prefix_bytes x ++ s → so_far ++ s ≡ prefix_bytes y
joined so_far x s y a b = ap (λ (l : List ℕ). l ++ s) a ∙ sym b

-- what is taken off the reader has a fault
pub step_fault : {T : List Finding → Type 0} (old : LayoutReader) (t : Tally) (so_far s rest : List ℕ) (len : ℕ) (k : LayoutFault) → s ≡ take len rest
    → ((x : ImagePrefix) → StandsFor old x → HasFaultWhateverFollows (prefix_bytes x ++ s) k) → IsSoFar T old t so_far → HasFaultWhateverFollows (so_far ++ rest) k × HoldsOfSome T
step_fault old t so_far s rest len k e wrong h =
    let here = subst (λ (l : List ℕ). HasFaultWhateverFollows (l ++ s) k) (sym h.bytes_are) (wrong h.at h.stands) in
    (fault_onwards so_far s rest (drop len rest) k (sym (take-append-drop len rest) ∙ ap (λ (l : List ℕ). l ++ drop len rest) (sym e)) here, (h.tallies.found, h.tallies.found_holds))

-- or leads on, where it is no code
pub step_taken : {T : List Finding → Type 0} (old new : LayoutReader) (t : Tally) (so_far rest : List ℕ) (len : ℕ) (end : FeedEnd) → 1 ≤ len → len ≤ length rest → IsTakenOff old new (take len rest) end
    → ((x y : ImagePrefix) → StandsFor old x → Follows x (take len rest) y → Tallies T t x → Tallies T t y) → IsSoFar T old t so_far → Steps T old new t so_far rest end
step_taken {T = T} old new t so_far rest len (ends.Took n) some room off tallies h =
    let same : n ≡ len = omega (arith, off.0, length-take len rest) in
    let l = off.1 h.at h.stands in
    let less = off.2 in
    subst (λ (m : ℕ). (1 ≤ m) × (m ≤ length rest) × IsSoFar T new t (so_far ++ take m rest) × (left new < left old)) (sym same) (
      some,
      room,
      record {
        at = l.to;
        stands = l.stands;
        bytes_are = joined so_far h.at (take len rest) l.to h.bytes_are l.bytes;
        tallies = tallies h.at l.to h.stands l.follows h.tallies;
        few = h.few;
      },
      less,
    )
step_taken old new t so_far rest len (ends.Fault k) some room off tallies h = step_fault old t so_far (take len rest) rest len k refl off h
step_taken old new t so_far rest len ends.Short some room off tallies h = absurd off
step_taken old new t so_far rest len ends.Whole some room off tallies h = absurd off

-- ---- pieces

-- the first `at + n` bytes of a list are its first `at`, and then `n` more
pub take_on : (at n : ℕ) (xs : List ℕ) → at ≤ length xs → take (at + n) xs ≡ take at xs ++ take n (drop at xs)
take_on at n xs le =
    let len : length (take at xs) ≡ at = omega (arith, length-take at xs) in
    sym (ap (λ (l : List ℕ). take (at + n) l) (take-append-drop at xs)) ∙ ap (λ (k : ℕ). take (k + n) (take at xs ++ drop at xs)) (sym len) ∙ take-append-add (take at xs) (drop at xs) n

pub so_far_on : {T : List Finding → Type 0} (r : LayoutReader) (t : Tally) (so_far : List ℕ) (at n : ℕ) (xs : List ℕ) → at ≤ length xs → IsSoFar T r t ((so_far ++ take at xs) ++ take n (drop at xs)) → IsSoFar T r t (so_far ++ take (at + n) xs)
so_far_on {T} r t so_far at n xs le h =
    subst (λ (l : List ℕ). IsSoFar T r t l) (append_assoc so_far (take at xs) (take n (drop at xs)) ∙ ap (λ (l : List ℕ). so_far ++ l) (sym (take_on at n xs le))) h

-- a fault after `at` bytes of a piece is one of the whole piece
pub fault_on : (so_far : List ℕ) (at : ℕ) (k : LayoutFault) (xs : List ℕ) → HasFaultWhateverFollows ((so_far ++ take at xs) ++ drop at xs) k → HasFaultWhateverFollows (so_far ++ xs) k
fault_on so_far at k xs h =
    subst (λ (l : List ℕ). HasFaultWhateverFollows l k) (append_assoc so_far (take at xs) (drop at xs) ∙ ap (λ (l : List ℕ). so_far ++ l) (take-append-drop at xs)) h

-- the rest of a piece, as a slice
pub tail_is : (at : ℕ) (xs : List ℕ) → take (length xs - at) (drop at xs) ≡ drop at xs
tail_is at xs = take_all (length xs - at) (drop at xs) (omega (arith, length-drop at xs))

-- a step on that
pub step_at : (T : List Finding → Type 0) (old new : LayoutReader) (t : Tally) (so_far : List ℕ) (at : ℕ) (xs : List ℕ) (end : FeedEnd) → Steps T old new t (so_far ++ take at xs) (take (length xs - at) (drop at xs)) end → Steps T old new t (so_far ++ take at xs) (drop at xs) end
step_at T old new t so_far at xs end h = subst (λ (l : List ℕ). Steps T old new t (so_far ++ take at xs) l end) (tail_is at xs) h
