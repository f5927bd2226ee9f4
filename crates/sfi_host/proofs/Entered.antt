-- An image in a memory: its sandboxes one after another, and what is where.
use Rattle.sfi_host.proofs.Prelude.{◌≡◌, ℕ, suc, ◌+◌, ◌<◌, List, [], ◌∷◌, ◌++◌, length, map, get_or, drop, Some, slice_get, All, sym, ap, ◌∙◌, subst, arith, append_assoc, append-nil, map-append, length-map, Format, Bytes, Part, IsRightPart, IsRightLayout, Sandbox, first_seat, with_part, with_parts, seat_of, seats_of, Seat, ◌≢◌, zero, ◌-◌, ◌%◌, ◌^◌, ◌≤◌, ◌==◌, ◌⊎◌, inl, inr, ⊎_elim, true, false, refl, length-append, length-replicate, get_or_from_slice_get, slice_get_within, slice_index, replicate, Contains, AllPairs, cases_lt, eqb-true, eqb-false, byte_at, addresses, with_bytes, added, Span, Holds, AreApart, code_region, guarded_region, spans, InCode, InData, InGuard, first_data}
use Rattle.sfi_safe_runs.proofs.Stepping as stepping
use Rattle.sfi_formats.specs.Formats.{has_single_mask}
use Rattle.sfi_image.specs.Spelling.{fields_of, InZoneAtZero, IsClear, zone_end, zone_ends, zone_ends_of}
use Rattle.sfi_image.proofs.ClearZones.{All-rest}
use Rattle.sfi_image.proofs.Tests.{All-front}
use Rattle.std.proofs.lemmas.List.Elements.{All-head}
use Rattle.sfi_host.specs.Modules.{part_of, parts_of}
use Rattle.sfi_host.specs.declared.modules.ModulePart.{ModulePart}
use Rattle.std.proofs.Math.ListN.{get_or-map, get_or-append}
use Rattle.std.proofs.Math.Seq.{drop-cons}
use Rattle.std.proofs.lemmas.List.{drop_all}
use Rattle.rv_mem.proofs.Facts.{addresses_are_these, others_stay, written_is_there}
use Rattle.sfi_image.proofs.Facts.{code_ends}

-- ==== The sandboxes of an image, one after another, and what is made of each part of one.

split_at : {X : Type 0} (parts : List X) (k : ℕ) (x : X) → k < length parts → x ≡ get_or parts k x → drop k parts ≡ x ∷ drop (k + 1) parts
split_at {X} parts k x below is =
    drop-cons parts k x below ∙ ap (λ (y : X). y ∷ drop (suc k) parts) (sym is) ∙ ap (λ (n : ℕ). x ∷ drop n parts) (let e : suc k ≡ k + 1 = omega arith in e)

pub right_part : {X : Type 0} (v : X → Part) (parts : List X) (k : ℕ) (x : X) → IsRightLayout (map v parts) → k < length parts → x ≡ get_or parts k x → IsRightPart (v x)
right_part v parts k x layout below is =
    let many : length (map v parts) ≡ length parts = length-map parts v in
    subst (λ (p : Part). IsRightPart p) (get_or-map v parts k x ∙ ap v (sym is)) (layout.right.each k (v x) (omega arith))

-- ---- sandboxes

-- k parts are loaded; with the others the seats and the bytes are those of all
pub record AreLoaded (f : Format) (before : Bytes) (parts : List ModulePart) (k : ℕ) (all : List Sandbox) (m : Bytes) : Type 0 where
  pub seats : seats_of all ++ map first_seat (parts_of f (drop k parts)) ≡ map first_seat (parts_of f parts)
  pub bytes : with_parts m (parts_of f (drop k parts)) ≡ with_parts before (parts_of f parts)

pub one_more : (f : Format) (before m n : Bytes) (parts : List ModulePart) (k : ℕ) (x : ModulePart) (all : List Sandbox) (s : Sandbox)
    → k < length parts → x ≡ get_or parts k x → AreLoaded f before parts k all m → seat_of s ≡ first_seat (part_of f x) → n ≡ with_part m (part_of f x)
    → AreLoaded f before parts (k + 1) (all ++ s ∷ []) n
one_more f before m n parts k x all s below is so_far seat bytes =
    let e : drop k parts ≡ x ∷ drop (k + 1) parts = split_at parts k x below is in
    record {
      seats = ap (λ (l : List Seat). l ++ map first_seat (parts_of f (drop (k + 1) parts))) (map-append seat_of all (s ∷ []))
          ∙ append_assoc (seats_of all) (seat_of s ∷ []) (map first_seat (parts_of f (drop (k + 1) parts)))
          ∙ ap (λ (t : Seat). seats_of all ++ t ∷ map first_seat (parts_of f (drop (k + 1) parts))) seat
          ∙ ap (λ (l : List ModulePart). seats_of all ++ map first_seat (parts_of f l)) (sym e)
          ∙ so_far.seats;
      bytes = ap (λ (w : Bytes). with_parts w (parts_of f (drop (k + 1) parts))) bytes
          ∙ ap (λ (l : List ModulePart). with_parts m (parts_of f l)) (sym e)
          ∙ so_far.bytes;
    }

-- ---- what stands for each part

-- one more stands for the next one
pub next_made : {X Y Z : Type 0} (f : X → Z) (g : Y → Z) (xs : List X) (k : ℕ) (x : X) (made : List Y) (y : Y) → k < length xs → x ≡ get_or xs k x
    → map g made ++ map f (drop k xs) ≡ map f xs → g y ≡ f x → map g (made ++ y ∷ []) ++ map f (drop (k + 1) xs) ≡ map f xs
next_made {X} {Y} {Z} f g xs k x made y below is so_far same =
    ap (λ (l : List Z). l ++ map f (drop (k + 1) xs)) (map-append g made (y ∷ []))
    ∙ append_assoc (map g made) (g y ∷ []) (map f (drop (k + 1) xs))
    ∙ ap (λ (t : Z). map g made ++ t ∷ map f (drop (k + 1) xs)) same
    ∙ ap (λ (l : List X). map g made ++ map f l) (sym (split_at xs k x below is))
    ∙ so_far

-- all are made
pub all_made : {X Y Z : Type 0} (f : X → Z) (g : Y → Z) (xs : List X) (k : ℕ) (made : List Y) → length xs ≡ k → map g made ++ map f (drop k xs) ≡ map f xs → map g made ≡ map f xs
all_made {X} f g xs k made all h =
    let none : drop k xs ≡ [] = drop_all k xs (omega (arith, all)) in
    sym (append-nil (map g made)) ∙ ap (λ (l : List X). map g made ++ map f l) (sym none) ∙ h

-- ==== An image whose parts lie apart, in a memory: what is where.

-- ---- the spans of an image

span_count : (ps : List Part) → length (spans ps) ≡ length ps + length ps
span_count [] = refl
span_count (p ∷ ps) = let h : length (spans ps) ≡ length ps + length ps = span_count ps in omega arith

-- where the spans of a sandbox stand
spans_at : (ps : List Part) (i : ℕ) (p : Part) (d : Span) → slice_get ps i ≡ Some p → (get_or (spans ps) (i + i) d ≡ code_region p) × (get_or (spans ps) (i + i + 1) d ≡ guarded_region p)
spans_at [] i p d e = absurd (cc)
spans_at (q ∷ ps) zero p d e = let same : q ≡ p = cc in (ap code_region same, ap guarded_region same)
spans_at (q ∷ ps) (suc i) p d e =
    let y : suc i + suc i ≡ suc (suc (i + i)) = omega arith in
    let z : suc i + suc i + 1 ≡ suc (suc (i + i + 1)) = omega arith in
    let there = spans_at ps i p d e in
    (ap (λ (n : ℕ). get_or (spans (q ∷ ps)) n d) y ∙ there.0, ap (λ (n : ℕ). get_or (spans (q ∷ ps)) n d) z ∙ there.1)

-- the address lies in the zone at zero of data of this size, where the format has one
abbrev pub InZone : Format → ℕ → ℕ → Type 0
InZone f size a = (has_single_mask f ≡ true) × InZoneAtZero size a

-- a span lies clear of the zone at zero of each sandbox of an image
clear_of_one : (ps : List Part) (s : Span) (i : ℕ) (p : Part) → slice_get ps i ≡ Some p → has_single_mask p.format ≡ true → All (λ end. IsClear end s) (zone_ends ps) → IsClear (zone_end p.data_size) s
clear_of_one [] s i p e one_step all = absurd (cc)
clear_of_one (q ∷ ps) s zero p e one_step all =
    let same : q ≡ p = cc in
    let here : zone_ends_of (fields_of q) ≡ zone_end p.data_size ∷ [] = ap (λ (x : Part). zone_ends_of (fields_of x)) same ∙ (rw (one_step) refl) in
    All-head (λ end. IsClear end s) (zone_end p.data_size) [] (subst (All (λ end. IsClear end s)) here (All-front (λ end. IsClear end s) (zone_ends_of (fields_of q)) (zone_ends ps) all))
clear_of_one (q ∷ ps) s (suc i) p e one_step all = clear_of_one ps s i p e one_step (All-rest (λ end. IsClear end s) (zone_ends_of (fields_of q)) (zone_ends ps) all)

clear_out : (size a : ℕ) (s : Span) → IsClear (zone_end size) s → InZoneAtZero size a → Holds s a → ⊥
clear_out size a s clear (inl low) held = let above = clear.above in omega (arith, held.0)
clear_out size a s clear (inr (high, word)) held = let below = clear.below in omega (arith, held.1)

-- two sandboxes of an image have no address in common, and none of the second lies in the first one's zone at zero
pub record Apart (p q : Part) : Type 0 where
  pub code_code : AreApart (code_region p) (code_region q)
  pub code_guarded : AreApart (code_region p) (guarded_region q)
  pub guarded_code : AreApart (guarded_region p) (code_region q)
  pub guarded_guarded : AreApart (guarded_region p) (guarded_region q)
  pub zone_code : (a : ℕ) → InZone p.format p.data_size a → Holds (code_region q) a → ⊥
  pub zone_guarded : (a : ℕ) → InZone p.format p.data_size a → Holds (guarded_region q) a → ⊥

-- sandboxes that are right and lie apart
pub record LieApart (ps : List Part) : Type 0 where
  pub each : (i : ℕ) (p : Part) → slice_get ps i ≡ Some p → IsRightPart p
  pub own : (i : ℕ) (p : Part) → slice_get ps i ≡ Some p → AreApart (code_region p) (guarded_region p)
  pub others : (i j : ℕ) (p q : Part) → i ≢ j → slice_get ps i ≡ Some p → slice_get ps j ≡ Some q → Apart p q

two_spans : (all : List Span) (i j : ℕ) (s t d : Span) → AllPairs AreApart all → i ≢ j → i < length all → j < length all → get_or all i d ≡ s → get_or all j d ≡ t → AreApart s t
two_spans all i j s t d apart other low high e f =
    subst (λ (x : Span). AreApart x t) e (subst (λ (x : Span). AreApart (get_or all i d) x) f
    (elim (cases_lt i j) [ inl less ↦ apart i j d less high | inr more ↦ λ a h k. apart j i d (omega arith) low a k h ]))

two_apart : (ps : List Part) (i j : ℕ) (p q : Part) → IsRightLayout ps → i ≢ j → slice_get ps i ≡ Some p → slice_get ps j ≡ Some q → Apart p q
two_apart ps i j p q layout other e f =
    let n = span_count ps in
    let low : i < length ps = slice_get_within ps i p e in
    let high : j < length ps = slice_get_within ps j q f in
    let d = code_region p in
    let first = spans_at ps i p d e in
    let second = spans_at ps j q d f in
    let apart = layout.right.apart in
    let clear : (k : ℕ) (s : Span) → k < length (spans ps) → get_or (spans ps) k d ≡ s → has_single_mask p.format ≡ true → IsClear (zone_end p.data_size) s =
    λ k s lt is one_step. clear_of_one ps s i p e one_step (subst (λ (x : Span). All (λ end. IsClear end x) (zone_ends ps)) is (layout.right.clear k d lt)) in
    record {
      code_code = two_spans (spans ps) (i + i) (j + j) _ _ d apart (λ z. omega arith) (omega arith) (omega arith) first.0 second.0;
      code_guarded = two_spans (spans ps) (i + i) (j + j + 1) _ _ d apart (λ z. omega arith) (omega arith) (omega arith) first.0 second.1;
      guarded_code = two_spans (spans ps) (i + i + 1) (j + j) _ _ d apart (λ z. omega arith) (omega arith) (omega arith) first.1 second.0;
      guarded_guarded = two_spans (spans ps) (i + i + 1) (j + j + 1) _ _ d apart (λ z. omega arith) (omega arith) (omega arith) first.1 second.1;
      zone_code = λ a zone held. clear_out p.data_size a (code_region q) (clear (j + j) (code_region q) (omega arith) second.0 zone.0) zone.1 held;
      zone_guarded = λ a zone held. clear_out p.data_size a (guarded_region q) (clear (j + j + 1) (guarded_region q) (omega arith) second.1 zone.0) zone.1 held;
    }

pub lie_apart : (ps : List Part) → IsRightLayout ps → LieApart ps
lie_apart ps layout = record {
  each = λ i p e. subst (λ (q : Part). IsRightPart q) (get_or_from_slice_get ps i p p e) (layout.right.each i p (slice_get_within ps i p e));
  own = λ i p e.
      let n = span_count ps in
      let below : i < length ps = slice_get_within ps i p e in
      let there = spans_at ps i p (code_region p) e in
      two_spans (spans ps) (i + i) (i + i + 1) _ _ (code_region p) layout.right.apart (λ z. omega arith) (omega arith) (omega arith) there.0 there.1;
  others = λ i j p q other e f. two_apart ps i j p q layout other e f;
}

tail : (p : Part) (ps : List Part) → LieApart (p ∷ ps) → LieApart ps
tail p ps lie = record {
  each = λ i q e. lie.each (suc i) q e;
  own = λ i q e. lie.own (suc i) q e;
  others = λ i j q r ne e f. lie.others (suc i) (suc j) q r (λ z. ne (omega arith)) e f;
}

-- ---- what is added

abbrev region : ℕ → ℕ → Span
region base size = record { base = base; size = size }

-- an address of a zone lies beside the data or in the zone at zero
pub guard_in : (p : Part) (a : ℕ) → IsRightPart p → InGuard p a → Holds (guarded_region p) a ⊎ InZone p.format p.data_size a
guard_in p a right (inl (inl (from, below))) = let room : 4096 ≤ p.data_base = right.guard_room.below in inl (omega arith, omega arith)
guard_in p a right (inl (inr (from, below))) = let room : 4096 ≤ p.data_base = right.guard_room.below in inl (omega arith, omega arith)
guard_in p a right (inr zone) = inr zone

pub data_guarded : (p : Part) (a : ℕ) → IsRightPart p → InData p a → Holds (guarded_region p) a
data_guarded p a right h = let room : 4096 ≤ p.data_base = right.guard_room.below in (omega arith, omega arith)

pub guard_not_data : (p : Part) (a : ℕ) → IsRightPart p → InGuard p a → InData p a → ⊥
guard_not_data p a right guard h = stepping.guard_not_data p a right guard h

pub guard_not_code : (p : Part) (a : ℕ) → IsRightPart p → AreApart (code_region p) (guarded_region p) → InGuard p a → InCode p a → ⊥
guard_not_code p a right apart guard h = stepping.not_code p a right apart (inr guard) h

-- nor do code and data of another sandbox lie there
pub guard_not_other : (p q : Part) (a : ℕ) → IsRightPart p → IsRightPart q → Apart p q → InGuard p a → (InCode q a → ⊥) × (InData q a → ⊥)
guard_not_other p q a right its apart guard =
    ⊎_elim
    (λ (g : Holds (guarded_region p) a). (λ c. apart.guarded_code a g c, λ d. apart.guarded_guarded a g (data_guarded q a its d)))
    (λ (z : InZone p.format p.data_size a). (λ c. apart.zone_code a z c, λ d. apart.zone_guarded a z (data_guarded q a its d)))
    (guard_in p a right guard)

at_region : (base size a : ℕ) → base + size ≤ 2 ^ 32 → Contains (addresses base size) a → Holds (region base size) a
at_region base size a fits c =
    let x = (addresses_are_these base size a).0 c in
    let k = x.0 in
    let below : k < size = x.1 in
    let is : a ≡ (base + k) % 2 ^ 32 = x.2 in
    (omega arith, omega arith)

pub added_outside : (m : Bytes) (base size : ℕ) (front : List ℕ) (a : ℕ) → base + size ≤ 2 ^ 32 → (Holds (region base size) a → ⊥) → byte_at (added m base size front) a ≡ byte_at m a
added_outside m base size front a fits out = others_stay m (addresses base size) (front ++ replicate (size - length front) 0) a (λ c. out (at_region base size a fits c))

pub added_inside : (m : Bytes) (base size : ℕ) (front : List ℕ) (k : ℕ) → length front ≤ size → base + size ≤ 2 ^ 32 → k < size
    → byte_at (added m base size front) (base + k) ≡ Some (slice_index (front ++ replicate (size - length front) 0) k)
added_inside m base size front k room fits below =
    let bytes = front ++ replicate (size - length front) 0 in
    let z : length {A = ℕ} (replicate (size - length front) 0) ≡ size - length front = length-replicate (size - length front) 0 in
    let e : length (front ++ replicate (size - length front) 0) ≡ size = omega (arith, length-append front (replicate (size - length front) 0)) in
    subst (λ (n : ℕ). byte_at (with_bytes m (addresses base n) bytes) (base + k) ≡ Some (slice_index bytes k)) e (written_is_there m base bytes k (omega arith) (omega arith))

-- ---- one sandbox

module _ (m : Bytes) (p : Part) (right : IsRightPart p) where
  code_fits : p.code_base + length p.code ≤ 2 ^ 32
  code_fits = code_ends p right

  data_fits : p.data_base + p.data_size ≤ 2 ^ 32
  data_fits = let above : p.data_base + p.data_size + 4096 ≤ 2 ^ 32 = right.guard_room.above in omega arith

  pub part_outside : (a : ℕ) → (InCode p a → ⊥) → (InData p a → ⊥) → byte_at (with_part m p) a ≡ byte_at m a
  part_outside a no_code no_data =
      added_outside (added m p.code_base (length p.code) p.code) p.data_base p.data_size p.init a data_fits no_data
      ∙ added_outside m p.code_base (length p.code) p.code a code_fits no_code

  part_code : AreApart (code_region p) (guarded_region p) → (k : ℕ) → k < length p.code → byte_at (with_part m p) (p.code_base + k) ≡ Some (slice_index p.code k)
  part_code apart k below =
      added_outside (added m p.code_base (length p.code) p.code) p.data_base p.data_size p.init (p.code_base + k) data_fits
      (λ h. apart (p.code_base + k) (omega arith, omega (arith, below)) (data_guarded p (p.code_base + k) right h))
      ∙ added_inside m p.code_base (length p.code) p.code k (omega arith) code_fits below
      ∙ ap Some (get_or-append p.code (replicate (length p.code - length p.code) 0) 0 k below)

  part_data : (k : ℕ) → k < p.data_size → byte_at (with_part m p) (p.data_base + k) ≡ Some (slice_index (first_data p) k)
  part_data k below = added_inside (added m p.code_base (length p.code) p.code) p.data_base p.data_size p.init k right.init_len data_fits below

-- ---- all of them

pub all_outside : (ps : List Part) (m : Bytes) (a : ℕ) → LieApart ps → ((i : ℕ) (q : Part) → slice_get ps i ≡ Some q → (InCode q a → ⊥) × (InData q a → ⊥)) → byte_at (with_parts m ps) a ≡ byte_at m a
all_outside [] m a lie out = refl
all_outside (p ∷ ps) m a lie out =
    all_outside ps (with_part m p) a (tail p ps lie) (λ i q e. out (suc i) q e)
    ∙ part_outside m p (lie.each 0 p refl) a (out 0 p refl).0 (out 0 p refl).1

-- what one sandbox has at an address, those after it leave
left : (p : Part) (ps : List Part) (m : Bytes) → LieApart (p ∷ ps) → (a : ℕ) → InCode p a ⊎ InData p a → byte_at (with_parts (with_part m p) ps) a ≡ byte_at (with_part m p) a
left p ps m lie a h = all_outside ps (with_part m p) a (tail p ps lie) (λ i q e.
    let apart : Apart p q = lie.others 0 (suc i) p q (λ z. omega arith) refl e in
    let mine = lie.each 0 p refl in
    let its = lie.each (suc i) q e in
    ⊎_elim
    (λ (c : InCode p a). (λ k. apart.code_code a c k, λ k. apart.code_guarded a c (data_guarded q a its k)))
    (λ (d : InData p a). (λ k. apart.guarded_code a (data_guarded p a mine d) k, λ k. apart.guarded_guarded a (data_guarded p a mine d) (data_guarded q a its k)))
    h)

-- what one sandbox brings is there in the end
stays_there : (ps : List Part) (m : Bytes) (i : ℕ) (p : Part) → LieApart ps → slice_get ps i ≡ Some p
    → (n : Bytes) × ((a : ℕ) → InCode p a ⊎ InData p a → byte_at (with_parts m ps) a ≡ byte_at (with_part n p) a)
stays_there [] m i p lie e = absurd (cc)
stays_there (q ∷ ps) m zero p lie e =
    let same : q ≡ p = cc in
    subst (λ (x : Part). (n : Bytes) × ((a : ℕ) → InCode x a ⊎ InData x a → byte_at (with_parts m (q ∷ ps)) a ≡ byte_at (with_part n x) a)) same (m, left q ps m lie)
stays_there (q ∷ ps) m (suc i) p lie e = stays_there ps (with_part m q) i p (tail q ps lie) e

pub has_code : (ps : List Part) (m : Bytes) (i : ℕ) (p : Part) → LieApart ps → slice_get ps i ≡ Some p → (k : ℕ) → k < length p.code → byte_at (with_parts m ps) (p.code_base + k) ≡ Some (slice_index p.code k)
has_code ps m i p lie e k below =
    let x = stays_there ps m i p lie e in x.1 (p.code_base + k) (inl (omega arith, omega (arith, below))) ∙ part_code x.0 p (lie.each i p e) (lie.own i p e) k below

pub has_data : (ps : List Part) (m : Bytes) (i : ℕ) (p : Part) → LieApart ps → slice_get ps i ≡ Some p → (k : ℕ) → k < p.data_size → byte_at (with_parts m ps) (p.data_base + k) ≡ Some (slice_index (first_data p) k)
has_data ps m i p lie e k below =
    let x = stays_there ps m i p lie e in x.1 (p.data_base + k) (inr (omega arith, omega (arith, below))) ∙ part_data x.0 p (lie.each i p e) k below

same_part : (ps : List Part) (i j : ℕ) (p q : Part) → i ≡ j → slice_get ps i ≡ Some p → slice_get ps j ≡ Some q → q ≡ p
same_part ps i j p q same e f = let g : slice_get ps j ≡ Some p = ap (slice_get ps) (sym same) ∙ e in cc

-- no part has a byte in a guard zone of one of them
pub guards_stay : (ps : List Part) (m : Bytes) (i : ℕ) (p : Part) → LieApart ps → slice_get ps i ≡ Some p → (a : ℕ) → InGuard p a → byte_at (with_parts m ps) a ≡ byte_at m a
guards_stay ps m i p lie e a guard =
    all_outside ps m a lie (λ j q f. elim (i == j) as (λ t. (i == j) ≡ t → (InCode q a → ⊥) × (InData q a → ⊥)) [
      | true ↦ λ t. subst (λ (x : Part). (InCode x a → ⊥) × (InData x a → ⊥)) (sym (same_part ps i j p q (eqb-true i j t) e f))
          (λ c. guard_not_code p a (lie.each i p e) (lie.own i p e) guard c, λ d. guard_not_data p a (lie.each i p e) guard d)
      | false ↦ λ t. guard_not_other p q a (lie.each i p e) (lie.each j q f) (lie.others i j p q (eqb-false i j t) e f) guard
    ] refl)
