-- The sandboxes of another image in a world.
use Rattle.sfi_host.proofs.Prelude.{◌≡◌, ◌⊎◌, inl, inr, ⊎_elim, ℕ, zero, suc, ◌+◌, ◌<◌, List, [], ◌∷◌, ◌++◌, length, map, Option, Some, None, IsSome, is_some, slice_get, slice_get_within, refl, sym, ap, ◌∙◌, subst, arith, length-append, map-append, Bytes, IsMemory, byte_at, Part, Holds, with_guards, guarded_region, InZones, IsRightLayout, InData, InGuard, KeepsBytes, IsChange, AllRunSafely, AllCallTyped, Program, AreProgramsOf, AreEnterable, IsEnterable, AreEntered, HaveFirstData, first_seat, with_parts, Sandbox, seat_of, seats_of, world_of, bounds_of, own, Slot, Seat, Sandboxes, slot_of, IsSafeSeat, LiesOutside, IsSafeWorld, state_in}
use Rattle.sfi_host.specs.Adding.{TakesUp, MeetsSome, with_image, EarlierAreSame}
use Rattle.sfi_host.specs.Changing.{AreChanges}
use Rattle.sfi_host.specs.Owning.{IsOwned, AreOwned}
use Rattle.sfi_host.specs.Modules.{AreDecoded}
use Rattle.sfi_host.proofs.Changing.{IsKept}
use Rattle.sfi_decoded.proofs.Decoding.{decoded_still}
use Rattle.sfi_host.proofs.Decoded.{first_decoded}
use Rattle.sfi_host.proofs.Entered.{LieApart, lie_apart, all_outside, has_data, data_guarded, InZone, guard_in}
use Rattle.sfi_host.proofs.WorldBytes.{IsOf, of_parts, get_map}
use Rattle.sfi_host.proofs.OwnSteps.{own_is, own_there, own_missing, same_own}
use Rattle.sfi_host.proofs.SafeSeats as keep
use Rattle.sfi_host.proofs.Worlds.{map_get, AreFree, entered, world_safe, all_enterable}

-- ---- lists, one after the other

pub get_front : {A : Type 0} (xs ys : List A) (i : ℕ) (y : A) → slice_get xs i ≡ Some y → slice_get (xs ++ ys) i ≡ Some y
get_front [] ys i y e = absurd (cc)
get_front (x ∷ xs) ys zero y e = e
get_front (x ∷ xs) ys (suc i) y e = get_front xs ys i y e

pub get_back : {A : Type 0} (xs ys : List A) (j : ℕ) (y : A) → slice_get ys j ≡ Some y → slice_get (xs ++ ys) (length xs + j) ≡ Some y
get_back [] ys j y e = let z : 0 + j ≡ j = omega arith in ap (slice_get ys) z ∙ e
get_back (x ∷ xs) ys j y e =
    let z : length (x ∷ xs) + j ≡ suc (length xs + j) = omega arith in
    ap (slice_get (x ∷ xs ++ ys)) z ∙ get_back xs ys j y e

pub get_either : {A : Type 0} (xs ys : List A) (i : ℕ) (y : A) → slice_get (xs ++ ys) i ≡ Some y → (slice_get xs i ≡ Some y) ⊎ ((j : ℕ) × (i ≡ length xs + j) × (slice_get ys j ≡ Some y))
get_either [] ys i y e = let z : i ≡ 0 + i = omega arith in inr (i, z, e)
get_either (x ∷ xs) ys zero y e = inl e
get_either (x ∷ xs) ys (suc i) y e = ⊎_elim
    (λ (h : slice_get xs i ≡ Some y). inl h)
    (λ (h : (j : ℕ) × (i ≡ length xs + j) × (slice_get ys j ≡ Some y)). let z : suc i ≡ length (x ∷ xs) + h.0 = omega (arith, h.1) in inr (h.0, z, h.2))
    (get_either xs ys i y e)

none_of : (o : Option ℕ) → (IsSome o → ⊥) → o ≡ None
none_of None h = refl
none_of (Some b) h = absurd (h refl)

-- ---- what the parts leave

module _ (w : Sandboxes) (ps : List Part) (world : IsSafeWorld w) (owned : AreOwned w) (layout : IsRightLayout ps) (clear : MeetsSome w ps → ⊥) where
  lie : LieApart ps
  lie = lie_apart ps layout

  apart : (i : ℕ) (s : Seat) → slice_get w.seats i ≡ Some s → (j : ℕ) (p : Part) → slice_get ps j ≡ Some p → (a : ℕ) → TakesUp s.bounds a → TakesUp (bounds_of p) a → ⊥
  apart i s e j p f a x y = clear (record { number = i; seat = s; there = e; other = j; part = p; among = f; meet = inl (a, x, y) })

  -- neither reaches the other's zone at zero
  seat_clear : (i : ℕ) (s : Seat) → slice_get w.seats i ≡ Some s → (j : ℕ) (p : Part) → slice_get ps j ≡ Some p → (a : ℕ) → TakesUp s.bounds a → InZone p.format p.data_size a → ⊥
  seat_clear i s e j p f a x z = clear (record { number = i; seat = s; there = e; other = j; part = p; among = f; meet = inr (inl (z.0, (a, x, z.1))) })

  part_clear : (i : ℕ) (s : Seat) → slice_get w.seats i ≡ Some s → (j : ℕ) (p : Part) → slice_get ps j ≡ Some p → (a : ℕ) → InZone s.bounds.format s.bounds.data.size a → TakesUp (bounds_of p) a → ⊥
  part_clear i s e j p f a z y = clear (record { number = i; seat = s; there = e; other = j; part = p; among = f; meet = inr (inr (z.0, (a, y, z.1))) })

  data_taken : (i : ℕ) (s : Seat) → slice_get w.seats i ≡ Some s → (a : ℕ) → Holds s.bounds.data a → TakesUp s.bounds a
  data_taken i s e a h = inr (keep.data_guarded w.bytes s (world.each i s e) a h)

  part_data_taken : (j : ℕ) (p : Part) → slice_get ps j ≡ Some p → (a : ℕ) → InData p a → TakesUp (bounds_of p) a
  part_data_taken j p f a h = inr (data_guarded p a (lie.each j p f) h)

  -- no address that a sandbox of the world takes up lies in a zone of a part
  seat_apart : (i : ℕ) (s : Seat) → slice_get w.seats i ≡ Some s → (j : ℕ) (p : Part) → slice_get ps j ≡ Some p → (a : ℕ) → TakesUp s.bounds a → InGuard p a → ⊥
  seat_apart i s e j p f a x guard = ⊎_elim
      (λ (g : Holds (guarded_region p) a). apart i s e j p f a x (inr g))
      (λ (z : InZone p.format p.data_size a). seat_clear i s e j p f a x z)
      (guard_in p a (lie.each j p f) guard)

  -- and none that a part takes up in a zone of such a sandbox
  part_apart : (i : ℕ) (s : Seat) → slice_get w.seats i ≡ Some s → (j : ℕ) (p : Part) → slice_get ps j ≡ Some p → (a : ℕ) → InZones s.bounds.format s.bounds.data a → TakesUp (bounds_of p) a → ⊥
  part_apart i s e j p f a zone y = ⊎_elim
      (λ (g : Holds (with_guards s.bounds.data) a). apart i s e j p f a (inr g) y)
      (λ (z : InZone s.bounds.format s.bounds.data.size a). part_clear i s e j p f a z y)
      (keep.zones_in w.bytes s (world.each i s e) a zone)

  -- what a sandbox takes up stays
  stays : (i : ℕ) (s : Seat) → slice_get w.seats i ≡ Some s → (a : ℕ) → TakesUp s.bounds a → byte_at (with_parts w.bytes ps) a ≡ byte_at w.bytes a
  stays i s e a x = all_outside ps w.bytes a lie (λ j q f. (λ c. apart i s e j q f a x (inl c), λ d. apart i s e j q f a x (part_data_taken j q f a d)))

  pub free : AreFree w.bytes ps
  free j p f a guard = none_of (byte_at w.bytes a) (λ some.
      let o = owned a some in
      seat_apart o.0 o.1 o.2 j p f a
      (⊎_elim (λ (h : Holds o.1.bounds.code a). inl h) (λ (h : Holds o.1.bounds.data a). data_taken o.0 o.1 o.2 a h) o.3)
      guard)

  keeps : (i : ℕ) (s : Seat) → slice_get w.seats i ≡ Some s → (p : Part) → s.bounds ≡ bounds_of p → KeepsBytes p w.bytes (with_parts w.bytes ps)
  keeps i s e p is = record {
    code = λ a inside. stays i s e a (inl (keep.code_in w.bytes s (world.each i s e) p is a inside));
    guards = λ a guard none.
        let zone = keep.guard_zones w.bytes s (world.each i s e) p is a guard in
        all_outside ps w.bytes a lie (λ j q f. (λ c. part_apart i s e j q f a zone (inl c), λ d. part_apart i s e j q f a zone (part_data_taken j q f a d))) ∙ none;
  }

  pub slot_same : (i : ℕ) (s : Seat) → slice_get w.seats i ≡ Some s → slot_of (with_parts w.bytes ps) s ≡ slot_of w.bytes s
  slot_same i s e =
      let n = with_parts w.bytes ps in
      ap (λ (x : Bytes). let y : Slot = record { bounds = s.bounds; hart = s.hart; status = s.status; steps = s.steps; bytes = x } in y)
      (same_own s.bounds (own s.bounds n) w.bytes
      (λ a o. own_there s.bounds n a o ∙ ⊎_elim (λ (h : Holds s.bounds.code a). stays i s e a (inl h)) (λ (h : Holds s.bounds.data a). stays i s e a (data_taken i s e a h)) (own_is s.bounds a o))
      (λ a o. own_missing s.bounds n a o))

  pub change_of : (i : ℕ) (s : Seat) → slice_get w.seats i ≡ Some s → (p : Part) → s.bounds ≡ bounds_of p → IsChange p (state_in w.bytes s) (state_in (with_parts w.bytes ps) s)
  change_of i s e p is = record { pc = refl; registers = refl; bytes = keeps i s e p is }

  module _ (memory : IsMemory (with_parts w.bytes ps)) where
    seat_stays : (i : ℕ) (s : Seat) → slice_get w.seats i ≡ Some s → IsSafeSeat (with_parts w.bytes ps) s
    seat_stays i s e =
        let seat = world.each i s e in
        keep.changed w.bytes s seat (with_parts w.bytes ps) memory (keeps i s e seat.part seat.bounds)
        (λ a h. ap is_some (stays i s e a (data_taken i s e a h)) ∙ seat.has_data a h)

    module _ (safe : AllRunSafely ps) (calls : AllCallTyped ps) where
      abbrev first : Sandboxes
      first = record { bytes = with_parts w.bytes ps; seats = map first_seat ps }

      first_safe : IsSafeWorld first
      first_safe = world_safe ps layout w.bytes free memory safe calls

      old_new : (i : ℕ) (s : Seat) → slice_get w.seats i ≡ Some s → (j : ℕ) (t : Seat) → slice_get (map first_seat ps) j ≡ Some t → LiesOutside s.bounds t.bounds
      old_new i s e j t f =
          let y = map_get first_seat ps j t f in
          subst (λ (u : Seat). LiesOutside s.bounds u.bounds) (sym y.2) (record {
            code = λ a h k. apart i s e j y.0 y.1 a (data_taken i s e a h) (inl k);
            «data» = λ a h k. apart i s e j y.0 y.1 a (data_taken i s e a h) (part_data_taken j y.0 y.1 a k);
            zones = λ a h k. seat_apart i s e j y.0 y.1 a (data_taken i s e a h) k;
          })

      new_old : (j : ℕ) (t : Seat) → slice_get (map first_seat ps) j ≡ Some t → (i : ℕ) (s : Seat) → slice_get w.seats i ≡ Some s → LiesOutside t.bounds s.bounds
      new_old j t f i s e =
          let y = map_get first_seat ps j t f in
          subst (λ (u : Seat). LiesOutside u.bounds s.bounds) (sym y.2) (record {
            code = λ a h k. apart i s e j y.0 y.1 a (inl k) (part_data_taken j y.0 y.1 a h);
            «data» = λ a h k. apart i s e j y.0 y.1 a (data_taken i s e a k) (part_data_taken j y.0 y.1 a h);
            zones = λ a h k. part_apart i s e j y.0 y.1 a k (part_data_taken j y.0 y.1 a h);
          })

      abbrev IsNew : ℕ → Seat → Type 0
      IsNew i s = (j : ℕ) × (i ≡ length w.seats + j) × (slice_get (map first_seat ps) j ≡ Some s)

      pub all_safe : IsSafeWorld (with_image w ps)
      all_safe = record {
        each = λ i s e. ⊎_elim
            (λ (h : slice_get w.seats i ≡ Some s). seat_stays i s h)
            (λ (h : IsNew i s). first_safe.each h.0 s h.2)
            (get_either w.seats (map first_seat ps) i s e);
        others = λ i j s t ne e f. ⊎_elim
            (λ (h : slice_get w.seats i ≡ Some s). ⊎_elim
            (λ (k : slice_get w.seats j ≡ Some t). world.others i j s t ne h k)
            (λ (k : IsNew j t). old_new i s h k.0 t k.2)
            (get_either w.seats (map first_seat ps) j t f))
            (λ (h : IsNew i s). ⊎_elim
            (λ (k : slice_get w.seats j ≡ Some t). new_old h.0 s h.2 j t k)
            (λ (k : IsNew j t). first_safe.others h.0 k.0 s t (λ z. ne (h.1 ∙ ap (λ (x : ℕ). length w.seats + x) z ∙ sym k.1)) h.2 k.2)
            (get_either w.seats (map first_seat ps) j t f))
            (get_either w.seats (map first_seat ps) i s e);
      }

      pub enterable : AreEnterable w → AreEnterable (with_image w ps)
      enterable old i s e = ⊎_elim
          (λ (h : slice_get w.seats i ≡ Some s).
          let x = old i s h in
          let it : IsEnterable (with_parts w.bytes ps) s.bounds = record {
            part = x.part;
            bounds = x.bounds;
            right = x.right;
            code = λ k below. (keeps i s h x.part x.bounds).code (x.part.code_base + k) (keep.code_at x.part k below) ∙ x.code k below;
            runs = x.runs;
            calls = x.calls;
          } in it)
          (λ (h : IsNew i s). all_enterable ps layout w.bytes free memory safe calls h.0 s h.2)
          (get_either w.seats (map first_seat ps) i s e)

      pub all_owned : AreOwned (with_image w ps)
      all_owned a there = ⊎_elim
          (λ (h : IsSome (byte_at w.bytes a)). let o = owned a h in let it : IsOwned (with_image w ps) a = (o.0, o.1, get_front w.seats (map first_seat ps) o.0 o.1 o.2, o.3) in it)
          (λ (h : IsOf ps a). let it : IsOwned (with_image w ps) a = (length w.seats + h.0, first_seat h.1, get_back w.seats (map first_seat ps) h.0 (first_seat h.1) (get_map first_seat ps h.0 h.1 h.2), h.3) in it)
          (of_parts ps w.bytes a lie.each there)

      module _ (programs more : List Program) (decoded : AreDecoded w programs) (made : AreProgramsOf ps more) where
        first_are : AreDecoded first more
        first_are = first_decoded ps (with_parts w.bytes ps) more made (entered ps layout w.bytes free memory)

        all_decoded : AreDecoded (with_image w ps) (programs ++ more)
        all_decoded = record {
          count = length-append programs more ∙ (let a = decoded.count in let b = first_are.count in omega (arith, a, b)) ∙ sym (length-append w.seats (map first_seat ps));
          each = λ i p s e f. ⊎_elim
              (λ (h : slice_get w.seats i ≡ Some s). ⊎_elim
              (λ (k : slice_get programs i ≡ Some p). decoded_still s.bounds.code w.bytes (with_parts w.bytes ps) (λ a c. stays i s h a (inl c)) p (decoded.each i p s k h))
              (λ (k : (j : ℕ) × (i ≡ length programs + j) × (slice_get more j ≡ Some p)).
              let below : i < length w.seats = slice_get_within w.seats i s h in
              absurd (omega (arith, below, k.1, decoded.count)))
              (get_either programs more i p e))
              (λ (h : IsNew i s). ⊎_elim
              (λ (k : slice_get programs i ≡ Some p).
              let below : i < length programs = slice_get_within programs i p k in
              absurd (omega (arith, below, h.1, decoded.count)))
              (λ (k : (j : ℕ) × (i ≡ length programs + j) × (slice_get more j ≡ Some p)).
              let same : k.0 ≡ h.0 = omega (arith, h.1, k.1, decoded.count) in
              first_are.each h.0 p s (ap (slice_get more) (sym same) ∙ k.2) h.2)
              (get_either programs more i p e))
              (get_either w.seats (map first_seat ps) i s f);
        }

        pub all_kept : AreEnterable w → IsKept (with_image w ps) (programs ++ more)
        all_kept old = (all_safe, all_decoded, enterable old, all_owned)

  -- ---- in the words of the contract

  pub earlier_same : EarlierAreSame w (with_image w ps)
  earlier_same i below =
      let n = with_parts w.bytes ps in
      same_front w.seats (map first_seat ps) i below (slot_of n) (slot_of w.bytes) (λ s e. slot_same i s e)
    where
      same_front : (xs ys : List Seat) (i : ℕ) → i < length xs → (f g : Seat → Slot) → ((s : Seat) → slice_get xs i ≡ Some s → f s ≡ g s) → slice_get (map f (xs ++ ys)) i ≡ slice_get (map g xs) i
      same_front [] ys i below f g same = absurd (omega (arith, below))
      same_front (x ∷ xs) ys zero below f g same = ap Some (same x refl)
      same_front (x ∷ xs) ys (suc i) below f g same = same_front xs ys i (omega (arith, below)) f g same

  pub are_changes : AreChanges w (with_image w ps)
  are_changes i s p e is = (s, get_front w.seats (map first_seat ps) i s e, change_of i s e p is)

pub no_change : (w n : Sandboxes) → n ≡ w → AreChanges w n
no_change w n same = subst (λ (x : Sandboxes). AreChanges w x) (sym same) (λ i s p e is. (s, e, record { pc = refl; registers = refl; bytes = record { code = λ a h. refl; guards = λ a h none. none } }))

pub no_earlier : (w n : Sandboxes) → n ≡ w → EarlierAreSame w n
no_earlier w n same = subst (λ (x : Sandboxes). EarlierAreSame w x) (sym same) (λ i below. refl)

-- ---- what the type keeps, and what the contract says

pub record IsAdded (w : Sandboxes) (ps : List Part) (programs : List Program) (o : Sandboxes) : Type 0 where
  pub kept : IsKept o programs
  pub done : o ≡ with_image w ps
  pub entered : AreEntered ps o.bytes
  pub first_data : HaveFirstData ps o.bytes
  pub earlier : EarlierAreSame w o
  pub changes : AreChanges w o

is_added : (w : Sandboxes) (old more all : List Program) (ps : List Part) → IsKept w old → IsRightLayout ps → AllRunSafely ps → AllCallTyped ps → (MeetsSome w ps → ⊥) → AreProgramsOf ps more
    → (o : Sandboxes) → IsMemory o.bytes → o.bytes ≡ with_parts w.bytes ps → o.seats ≡ w.seats ++ map first_seat ps → all ≡ old ++ more → IsAdded w ps all o
is_added w old more all ps kept layout safe calls clear made o memory bytes seats joined =
    let is : o ≡ with_image w ps = λ k. record { bytes = bytes k; seats = seats k } in
    let whole : IsMemory (with_parts w.bytes ps) = subst IsMemory bytes memory in
    let all_free : AreFree w.bytes ps = free w ps kept.0 kept.3 layout clear in
    subst (λ (x : Sandboxes × List Program). IsAdded w ps x.1 x.0) (λ k. (sym is k, sym joined k)) (record {
      kept = all_kept w ps kept.0 kept.3 layout clear whole safe calls old more kept.1 made kept.2;
      done = refl;
      entered = entered ps layout w.bytes all_free whole;
      first_data = λ i p e k below. has_data ps w.bytes i p (lie_apart ps layout) e k below;
      earlier = earlier_same w ps kept.0 kept.3 layout clear;
      changes = are_changes w ps kept.0 kept.3 layout clear;
    })

pub added_in : (m n : Bytes) (items more joined : List Sandbox) (old new all : List Program) (ps : List Part) → IsKept (world_of m items) old → IsRightLayout ps → AllRunSafely ps → AllCallTyped ps
    → (w : Sandboxes) → world_of m items ≡ w → (MeetsSome w ps → ⊥) → IsMemory n → n ≡ with_parts m ps → seats_of more ≡ map first_seat ps → joined ≡ items ++ more → AreProgramsOf ps new → all ≡ old ++ new
    → IsAdded w ps all (world_of n joined)
added_in m n items more joined old new all ps kept layout safe calls w view clear memory bytes seats joined_is made all_is =
    subst (λ (x : Sandboxes). IsAdded x ps all (world_of n joined)) view
    (is_added (world_of m items) old new all ps kept layout safe calls (λ meets. clear (subst (λ (x : Sandboxes). MeetsSome x ps) view meets)) made (world_of n joined) memory bytes
    (ap seats_of joined_is ∙ map-append seat_of items more ∙ ap (λ (l : List Seat). seats_of items ++ l) seats) all_is)
