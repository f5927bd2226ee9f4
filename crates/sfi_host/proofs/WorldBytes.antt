-- A world is its slots and the bytes outside all data: what it answers, and whose each byte is.
use Rattle.sfi_host.specs.WorldSteps.{HaveRun, JoinedWorldSteps}
use Rattle.sfi_host.proofs.OwnSteps.{own_data, own_there, true_false}
use Rattle.sfi_host.proofs.RegionBytes.{same_bytes, is_in-true, is_in-Holds}
use Rattle.sfi_host.proofs.Worlds.{map_get}
use Rattle.sfi_host.specs.Changing.{data_bytes_of}
use Rattle.sfi_host.proofs.AfterCalls.{data_of_own}
use Rattle.std.specs.Ordering.{nat_cmp}
use Rattle.sfi_image.specs.Spelling.{data_region}
use Rattle.sfi_host.specs.Owning.{IsOwned, AreOwned}
use Rattle.sfi_host.proofs.Entered.{part_outside}
use Rattle.sfi_host.proofs.Prelude.{◌≡◌, ◌⊎◌, inl, inr, ⊎_elim, ℕ, zero, suc, true, false, List, [], ◌∷◌, map, Option, Some, slice_get, set, refl, sym, ap, ◌∙◌, subst, same_Some, slice_get-map, option_map, Bytes, byte_at, Holds, Turn, Call, Answer, Host, Limited, limited, Machine, IsMachine, joined, joint, bounds_in, is_in, Bounds, Slot, is_own, Seat, Sandboxes, slot_of, slots_of, IsSafeWorld, StaysOutsideData, ◌↔◌, ◌<◌, length, get_or, None, IsSome, slice_get_read, range_with_len, bytes_at, Sandbox, bytes_in, seat_of, seats_of, world_of, data_byte_of, is_some, empty, get-empty, Span, Part, code_region, IsRightPart, InCode, InData, first_seat, with_part, with_parts}

-- ==== A world is its slots and the bytes outside all data.

pub get_map : {A B : Type 0} (f : A → B) (xs : List A) (i : ℕ) (x : A) → slice_get xs i ≡ Some x → slice_get (map f xs) i ≡ Some (f x)
get_map f xs i x e = slice_get-map f xs i ∙ ap (option_map f) e

-- whose data the address lies in, if any
abbrev pub IsIn : List Seat → ℕ → Type 0
IsIn seats a = (i : ℕ) × (s : Seat) × (slice_get seats i ≡ Some s) × Holds s.bounds.data a

abbrev pub IsOut : List Seat → ℕ → Type 0
IsOut seats a = (i : ℕ) (s : Seat) → slice_get seats i ≡ Some s → Holds s.bounds.data a → ⊥

pub held_or_out : (seats : List Seat) (a : ℕ) → IsIn seats a ⊎ IsOut seats a
held_or_out [] a = inr (λ i s e h. absurd (cc))
held_or_out (x ∷ seats) a = elim (is_in x.bounds.data a) as (λ b. is_in x.bounds.data a ≡ b → IsIn (x ∷ seats) a ⊎ IsOut (x ∷ seats) a) [
  | true ↦ λ b. inl (0, x, refl, is_in-true x.bounds.data a b)
  | false ↦ λ b. ⊎_elim (λ (y : IsIn seats a). inl (suc y.0, y.1, y.2, y.3)) (λ (y : IsOut seats a). inr (out b y)) (held_or_out seats a)
] refl
  where
    out : is_in x.bounds.data a ≡ false → IsOut seats a → IsOut (x ∷ seats) a
    out b none zero s e h = let same : x ≡ s = same_Some x s e in
        true_false (is_in x.bounds.data a) (is_in-Holds x.bounds.data a (subst (λ (y : Seat). Holds y.bounds.data a) (sym same) h)) b
    out b none (suc i) s e h = none i s e h

-- where another world's sandboxes lie as those of this do, one of this lies where one of that does
pub out_too : (w n : Sandboxes) (a : ℕ) → bounds_in n ≡ bounds_in w → IsOut w.seats a → IsOut n.seats a
out_too w n a same out i t at h =
    let x = map_get (λ (s : Seat). s.bounds) w.seats i t.bounds (ap (λ (l : List Bounds). slice_get l i) (sym same) ∙ get_map (λ (s : Seat). s.bounds) n.seats i t at) in
    out i x.0 x.1 (subst (λ (b : Bounds). Holds b.data a) x.2 h)

pub outside_more : (w n : Sandboxes) (o : Bytes) → bounds_in n ≡ bounds_in w → StaysOutsideData w n.bytes → StaysOutsideData n o → StaysOutsideData w o
outside_more w n o same first second a out = second a (out_too w n a same out) ∙ first a out

-- a seat that lies where it lay
pub same_bounds : (seats : List Seat) (i : ℕ) (s t : Seat) → slice_get seats i ≡ Some s → t.bounds ≡ s.bounds → map (λ (x : Seat). x.bounds) (set seats i t) ≡ map (λ (x : Seat). x.bounds) seats
same_bounds [] i s t at e = refl
same_bounds (x ∷ seats) zero s t at e = let same : x ≡ s = same_Some x s at in ap (λ (b : Bounds). b ∷ map (λ (y : Seat). y.bounds) seats) (e ∙ sym (ap (λ (y : Seat). y.bounds) same))
same_bounds (x ∷ seats) (suc i) s t at e = ap (λ (l : List Bounds). x.bounds ∷ l) (same_bounds seats i s t at e)

seat_in : Slot → Seat
seat_in x = record { bounds = x.bounds; hart = x.hart; status = x.status; steps = x.steps }

seats_back : (m : Bytes) (seats : List Seat) → map seat_in (map (slot_of m) seats) ≡ seats
unfolding seat_in
seats_back m [] = refl
seats_back m (s ∷ seats) = ap (λ (l : List Seat). s ∷ l) (seats_back m seats)

module _ (w n o : Sandboxes) (lie : bounds_in o ≡ bounds_in w) (slots : slots_of n ≡ slots_of o) (left : StaysOutsideData w n.bytes) (left_too : StaysOutsideData w o.bytes) where
  in_data : (a : ℕ) → IsIn o.seats a → byte_at n.bytes a ≡ byte_at o.bytes a
  in_data a x =
      let s = x.1 in
      let y = map_get (slot_of n.bytes) n.seats x.0 (slot_of o.bytes s) (ap (λ (l : List Slot). slice_get l x.0) slots ∙ get_map (slot_of o.bytes) o.seats x.0 s x.2) in
      let mine : is_own s.bounds a ≡ true = own_data s.bounds a x.3 in
      let too : is_own y.0.bounds a ≡ true = ap (λ (z : Slot). is_own z.bounds a) (sym y.2) ∙ mine in
      sym (own_there y.0.bounds n.bytes a too) ∙ ap (λ (z : Slot). byte_at z.bytes a) (sym y.2) ∙ own_there s.bounds o.bytes a mine

  out_of_data : (a : ℕ) → IsOut o.seats a → byte_at n.bytes a ≡ byte_at o.bytes a
  out_of_data a out = let none = out_too o w a (sym lie) out in left a none ∙ sym (left_too a none)

  same_seats : n.seats ≡ o.seats
  same_seats = sym (seats_back n.bytes n.seats) ∙ ap (λ (l : List Slot). map seat_in l) slots ∙ seats_back o.bytes o.seats

  pub same_world : n ≡ o
  same_world =
      let bytes = same_bytes n.bytes o.bytes (λ a. ⊎_elim (in_data a) (out_of_data a) (held_or_out o.seats a)) in
      λ k. record { bytes = bytes k; seats = same_seats k }

-- what comes to the slots of a joint run, and keeps the bytes outside all data, is what its moves lead to
pub moves_to : {S : Type 0} → JoinedWorldSteps S → (machine : Machine) → IsMachine machine → (host : Host S) (plan : List Turn) (w n : Sandboxes) (s : S) → IsSafeWorld w
    → bounds_in n ≡ bounds_in w → StaysOutsideData w n.bytes → slots_of n ≡ (joined machine host plan (slots_of w) s).slots
    → HaveRun machine plan w n (λ part. joined machine host part (slots_of w) s)
moves_to law machine is host plan w n s safe lie left slots =
    let ran = law machine host plan w s is safe in
    subst (λ (x : Sandboxes). HaveRun machine plan w x (λ part. joined machine host part (slots_of w) s)) (same_world w ran.0 n lie (ran.1.whole.slots ∙ sym slots) ran.1.runs.outside left) ran.1

-- so it is with a host that answers each call, or `limit` calls
pub world_runs : {S : Type 0} → JoinedWorldSteps (Limited S) → (machine : Machine) → IsMachine machine → (answer : S → Call → Answer S) (plan : List Turn) (w n : Sandboxes) (s : S) → IsSafeWorld w
    → bounds_in n ≡ bounds_in w → StaysOutsideData w n.bytes → (limit : Option ℕ) → slots_of n ≡ (joint machine answer plan (slots_of w) s limit).slots
    → HaveRun machine plan w n (λ part. joint machine answer part (slots_of w) s limit)
world_runs law machine is answer plan w n s safe lie left limit slots = moves_to law machine is (limited answer) plan w n (record { host = s; left = limit }) safe lie left slots

-- ==== What a world answers of a sandbox.

pub no_slot : (m : Bytes) (all : List Sandbox) (i : ℕ) → slice_get all i ≡ None → slice_get (slots_of (world_of m all)) i ≡ None
no_slot m all i e = slice_get-map (slot_of m) (seats_of all) i ∙ ap (option_map (slot_of m)) (slice_get-map seat_of all i ∙ ap (option_map seat_of) e)

pub seat_at : (all : List Sandbox) (i : ℕ) (s : Sandbox) → slice_get all i ≡ Some s → slice_get (seats_of all) i ≡ Some (seat_of s)
seat_at all i s e = get_map seat_of all i s e

-- what a look-up found_there is there
pub found_there : {A : Type 0} (all seen : List A) (i : ℕ) (s : A) → seen ≡ all → i < length seen → s ≡ get_or seen i s → slice_get all i ≡ Some s
found_there all seen i s e below is = subst (λ (l : List _). slice_get l i ≡ Some s) e (slice_get_read seen (length seen) i s refl below is)

module _ (w : Sandboxes) (m : Bytes) (all : List Sandbox) (is : world_of m all ≡ w) (i : ℕ) where
  pub slot_is : (s : Sandbox) → slice_get all i ≡ Some s → slice_get (slots_of w) i ≡ Some (slot_of m (seat_of s))
  slot_is s e = ap (λ (x : Sandboxes). slice_get (slots_of x) i) (sym is) ∙ get_map (slot_of m) (seats_of all) i (seat_of s) (seat_at all i s e)

  pub data_is : (s : Sandbox) (at : ℕ) → slice_get all i ≡ Some s → byte_at (bytes_in (seat_of s).bounds.data m) at ≡ data_byte_of (slice_get (slots_of w) i) at
  data_is s at e =
      ap (λ (b : Bytes). byte_at b at) (sym (data_of_own (seat_of s).bounds m))
      ∙ ap (λ (o : Option Slot). data_byte_of o at) (sym (slot_is s e))

  -- many of its data bytes
  pub data_bytes_is : (s : Sandbox) (at n : ℕ) → slice_get all i ≡ Some s → bytes_at (bytes_in (seat_of s).bounds.data m) (range_with_len at n) ≡ data_bytes_of (slice_get (slots_of w) i) at n
  data_bytes_is s at n e =
      ap (λ (b : Bytes). bytes_at b (range_with_len at n)) (sym (data_of_own (seat_of s).bounds m))
      ∙ ap (λ (o : Option Slot). data_bytes_of o at n) (sym (slot_is s e))

  -- the addresses at which it has a byte
  pub there_is : (s : Sandbox) (at : ℕ) (o : Option ℕ) → slice_get all i ≡ Some s → (IsSome o ↔ Holds (seat_of s).bounds.data at)
      → (IsSome o ↔ ((t : Slot) × (slice_get (slots_of w) i ≡ Some t) × Holds t.bounds.data at))
  there_is s at o e both = (
    λ h. (slot_of m (seat_of s), slot_is s e, both.0 h),
    λ x. both.1 (subst (λ (t : Slot). Holds t.bounds.data at) (let f : Some (slot_of m (seat_of s)) ≡ Some x.0 = sym (slot_is s e) ∙ x.1 in let g : x.0 ≡ slot_of m (seat_of s) = cc in g) x.2),
  )

-- ==== Each byte of a world's memory is a sandbox's own.

-- ---- where each lies as before, and only data changed

pub still_owned : (w o : Sandboxes) → bounds_in o ≡ bounds_in w → StaysOutsideData w o.bytes → AreOwned w → AreOwned o
still_owned w o same outside owned a there =
    let x : IsOwned w a = ⊎_elim
    (λ (y : IsIn w.seats a). (y.0, y.1, y.2, inr y.3))
    (λ (out : IsOut w.seats a). owned a (ap is_some (sym (outside a out)) ∙ there))
    (held_or_out w.seats a) in
    let z = map_get (λ (s : Seat). s.bounds) o.seats x.0 x.1.bounds (ap (λ (l : List Bounds). slice_get l x.0) same ∙ get_map (λ (s : Seat). s.bounds) w.seats x.0 x.1 x.2) in
    (x.0, z.0, z.1, subst (λ (b : Bounds). Holds b.code a ⊎ Holds b.data a) z.2 x.3)

-- ---- the parts of an image

pub in_or_out : (s : Span) (a : ℕ) → Holds s a ⊎ (Holds s a → ⊥)
in_or_out s a = elim (is_in s a) as (λ b. is_in s a ≡ b → Holds s a ⊎ (Holds s a → ⊥)) [
  | true ↦ λ b. inl (is_in-true s a b)
  | false ↦ λ b. inr (λ h. true_false (is_in s a) (is_in-Holds s a h) b)
] refl

-- the address lies in the code or in the data of one of these
abbrev pub IsOf : List Part → ℕ → Type 0
IsOf ps a = (i : ℕ) × (p : Part) × (slice_get ps i ≡ Some p) × (InCode p a ⊎ InData p a)

of_part : (m : Bytes) (p : Part) → IsRightPart p → (a : ℕ) → IsSome (byte_at (with_part m p) a) → IsSome (byte_at m a) ⊎ (InCode p a ⊎ InData p a)
of_part m p right a there = ⊎_elim
    (λ (c : InCode p a). inr (inl c))
    (λ (no_code : InCode p a → ⊥). ⊎_elim
    (λ (d : InData p a). inr (inr d))
    (λ (no_data : InData p a → ⊥). inl (ap is_some (sym (part_outside m p right a no_code no_data)) ∙ there))
    (in_or_out (data_region p) a))
    (in_or_out (code_region p) a)

pub of_parts : (ps : List Part) (m : Bytes) (a : ℕ) → ((i : ℕ) (p : Part) → slice_get ps i ≡ Some p → IsRightPart p) → IsSome (byte_at (with_parts m ps) a) → IsSome (byte_at m a) ⊎ IsOf ps a
of_parts [] m a right there = inl there
of_parts (p ∷ ps) m a right there = ⊎_elim
    (λ (mid : IsSome (byte_at (with_part m p) a)). ⊎_elim
    (λ (before : IsSome (byte_at m a)). inl before)
    (λ (mine : InCode p a ⊎ InData p a). inr (0, p, refl, mine))
    (of_part m p (right 0 p refl) a mid))
    (λ (y : IsOf ps a). inr (suc y.0, y.1, y.2, y.3))
    (of_parts ps (with_part m p) a (λ i q e. right (suc i) q e) there)

pub first_owned : (ps : List Part) → ((i : ℕ) (p : Part) → slice_get ps i ≡ Some p → IsRightPart p) → AreOwned (record { bytes = with_parts empty ps; seats = map first_seat ps })
first_owned ps right a there = ⊎_elim
    (λ (none : IsSome (byte_at empty a)). let z : false ≡ true = ap is_some (sym (get-empty nat_cmp a)) ∙ none in absurd (cc))
    (λ (y : IsOf ps a). (y.0, first_seat y.1, get_map first_seat ps y.0 y.1 y.2, y.3))
    (of_parts ps empty a right there)
