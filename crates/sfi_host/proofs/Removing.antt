-- A world without one of its sandboxes.
use Rattle.sfi_host.proofs.Prelude.{◌≡◌, ◌≢◌, ◌⊎◌, inl, inr, true, false, cond, ℕ, zero, suc, ◌+◌, ◌<◌, List, [], ◌∷◌, length, Option, Some, None, is_some, slice_get, slice_get-map, refl, sym, ap, ◌∙◌, subst, arith, option_map, length-map, Bytes, IsMemory, byte_at, Part, Holds, KeepsBytes, Program, AreEnterable, Sandbox, seat_of, seats_of, world_of, bounds_of, own, Slot, Seat, Sandboxes, slot_of, IsSafeSeat, IsSafeWorld}
use Rattle.std.specs.List.{remove}
use Rattle.std.proofs.lemmas.List.Edits.{length-remove}
use Rattle.sfi_host.specs.Adding.{is_own_of, bytes_of, number_without, without_of, without, RestIsSame, AreChangesToRest}
use Rattle.sfi_host.specs.Owning.{IsOwned, AreOwned}
use Rattle.sfi_host.specs.Modules.{AreDecoded}
use Rattle.sfi_host.proofs.Changing.{IsKept}
use Rattle.sfi_host.proofs.Copied.{own_of, whose, old_number, old_other, old_back, get_removed, get_rest, map_remove}
use Rattle.sfi_decoded.proofs.Decoding.{decoded_still}
use Rattle.sfi_host.proofs.OwnSteps.{own_is, own_there, own_missing, same_own}
use Rattle.sfi_host.proofs.RegionBytes.{get_kept}
use Rattle.sfi_host.proofs.SafeSeats as keep

module _ (w : Sandboxes) (i : ℕ) (world : IsSafeWorld w) where
  abbrev left : Bytes
  left = bytes_of (remove w.seats i) w.bytes

  abbrev rest : Sandboxes
  rest = record { bytes = left; seats = remove w.seats i }

  -- what is left of the bytes
  stays : (j : ℕ) (s : Seat) → j ≢ i → slice_get w.seats j ≡ Some s → (a : ℕ) → Holds s.bounds.code a ⊎ Holds s.bounds.data a → byte_at left a ≡ byte_at w.bytes a
  stays j s other e a h =
      get_kept w.bytes (is_own_of (remove w.seats i)) a
      ∙ ap (λ t. cond t (byte_at w.bytes a) None) (own_of (remove w.seats i) a (number_without i j) s (get_rest w.seats i j other ∙ e) h)

  fewer : (a : ℕ) → byte_at w.bytes a ≡ None → byte_at left a ≡ None
  fewer a none = get_kept w.bytes (is_own_of (remove w.seats i)) a ∙ (elim (is_own_of (remove w.seats i) a) as (λ t. cond t (byte_at w.bytes a) None ≡ None) [
    | true ↦ none
    | false ↦ refl
  ])

  keeps : (j : ℕ) (s : Seat) → j ≢ i → slice_get w.seats j ≡ Some s → (p : Part) → s.bounds ≡ bounds_of p → KeepsBytes p w.bytes left
  keeps j s other e p is = record {
    code = λ a inside. stays j s other e a (inl (keep.code_in w.bytes s (world.each j s e) p is a inside));
    guards = λ a guard none. fewer a none;
  }

  slot_same : (j : ℕ) (s : Seat) → j ≢ i → slice_get w.seats j ≡ Some s → slot_of left s ≡ slot_of w.bytes s
  slot_same j s other e =
      ap (λ (x : Bytes). let y : Slot = record { bounds = s.bounds; hart = s.hart; status = s.status; steps = s.steps; bytes = x } in y)
      (same_own s.bounds (own s.bounds left) w.bytes
      (λ a o. own_there s.bounds left a o ∙ stays j s other e a (own_is s.bounds a o))
      (λ a o. own_missing s.bounds left a o))

  -- a sandbox that is left, as it was
  was : (j : ℕ) (s : Seat) → slice_get (remove w.seats i) j ≡ Some s → slice_get w.seats (old_number i j) ≡ Some s
  was j s e = sym (get_removed w.seats i j) ∙ e

  pub rest_owned : AreOwned rest
  rest_owned a there = elim (is_own_of (remove w.seats i) a) as (λ t. is_own_of (remove w.seats i) a ≡ t → IsOwned rest a) [
    | true ↦ λ t. whose (remove w.seats i) a t
    | false ↦ λ t.
        let none : byte_at left a ≡ None = get_kept w.bytes (is_own_of (remove w.seats i)) a ∙ ap (λ b. cond b (byte_at w.bytes a) None) t in
        let z : false ≡ true = ap is_some (sym none) ∙ there in
        absurd (cc)
  ] refl

  pub rest_enterable : AreEnterable w → AreEnterable rest
  rest_enterable old j s e =
      let x = old (old_number i j) s (was j s e) in
      record {
        part = x.part;
        bounds = x.bounds;
        right = x.right;
        code = λ k below. (keeps (old_number i j) s (old_other i j) (was j s e) x.part x.bounds).code (x.part.code_base + k) (keep.code_at x.part k below) ∙ x.code k below;
        runs = x.runs;
        calls = x.calls;
      }

  rest_decoded : (programs : List Program) → i < length w.seats → AreDecoded w programs → AreDecoded rest (remove programs i)
  rest_decoded programs below decoded = record {
    count = (let a = decoded.count in let b = length-remove programs i (omega (arith, a, below)) in let c = length-remove w.seats i below in omega (arith, a, b, c));
    each = λ j p s e f.
        decoded_still s.bounds.code w.bytes left (λ a c. stays (old_number i j) s (old_other i j) (was j s f) a (inl c)) p
        (decoded.each (old_number i j) p s (sym (get_removed programs i j) ∙ e) (was j s f));
  }

  pub rest_same : RestIsSame w i rest
  rest_same j other =
      slice_get-map (slot_of left) (remove w.seats i) (number_without i j)
      ∙ ap (option_map (slot_of left)) (get_rest w.seats i j other)
      ∙ by (slice_get w.seats j) refl
      ∙ sym (slice_get-map (slot_of w.bytes) w.seats j)
    where
      by : (o : Option Seat) → slice_get w.seats j ≡ o → option_map (slot_of left) o ≡ option_map (slot_of w.bytes) o
      by None e = refl
      by (Some s) e = ap Some (slot_same j s other e)

  changes_rest : AreChangesToRest w i rest
  changes_rest j s p other e is = (s, get_rest w.seats i j other ∙ e, record { pc = refl; registers = refl; bytes = keeps j s other e p is })

  module _ (memory : IsMemory left) where
    seat_stays : (j : ℕ) (s : Seat) → j ≢ i → slice_get w.seats j ≡ Some s → IsSafeSeat left s
    seat_stays j s other e =
        let seat = world.each j s e in
        keep.changed w.bytes s seat left memory (keeps j s other e seat.part seat.bounds)
        (λ a h. ap is_some (stays j s other e a (inr h)) ∙ seat.has_data a h)

    pub rest_safe : IsSafeWorld rest
    rest_safe = record {
      each = λ j s e. seat_stays (old_number i j) s (old_other i j) (was j s e);
      others = λ j k s t ne e f. world.others (old_number i j) (old_number i k) s t
          (λ same. ne (sym (old_back i j) ∙ ap (number_without i) same ∙ old_back i k))
          (was j s e) (was k t f);
    }

    rest_kept : (programs : List Program) → i < length w.seats → AreDecoded w programs → AreEnterable w → IsKept rest (remove programs i)
    rest_kept programs below decoded enterable = (rest_safe, rest_decoded programs below decoded, rest_enterable enterable, rest_owned)

-- ---- in the words of the contract

-- what the world is then, and what is kept of it
pub record IsRemoved (w : Sandboxes) (i : ℕ) (programs : List Program) (o : Sandboxes) : Type 0 where
  pub kept : IsKept o programs
  pub done : o ≡ without w i
  pub rest : RestIsSame w i o
  pub changes : AreChangesToRest w i o

pub is_there : (seats : List Seat) (i : ℕ) → i < length seats → (s : Seat) × (slice_get seats i ≡ Some s)
is_there [] i below = absurd (omega (arith, below))
is_there (s ∷ seats) zero below = (s, refl)
is_there (s ∷ seats) (suc i) below = is_there seats i (omega (arith, below))

is_removed : (w : Sandboxes) (i : ℕ) (programs : List Program) → (kept : IsKept w programs) → i < length w.seats → (o : Sandboxes) → IsMemory o.bytes → o.bytes ≡ left w i kept.0 → o.seats ≡ remove w.seats i
    → (all : List Program) → all ≡ remove programs i → IsRemoved w i all o
is_removed w i programs kept below o memory bytes seats all joined =
    let is : o ≡ rest w i kept.0 = λ k. record { bytes = bytes k; seats = seats k } in
    let whole : IsMemory (left w i kept.0) = subst IsMemory bytes memory in
    let there = is_there w.seats i below in
    subst (λ (x : Sandboxes × List Program). IsRemoved w i x.1 x.0) (λ k. (sym is k, sym joined k)) (record {
      kept = rest_kept w i kept.0 whole programs below kept.1 kept.2;
      done = sym (ap (without_of w i) there.1);
      rest = rest_same w i kept.0;
      changes = changes_rest w i kept.0;
    })

pub removed_in : (m n : Bytes) (items joined : List Sandbox) (old all : List Program) (i : ℕ) → IsKept (world_of m items) old → i < length items
    → (w : Sandboxes) → world_of m items ≡ w → IsMemory n → n ≡ bytes_of (remove (seats_of items) i) m → joined ≡ remove items i → all ≡ remove old i → IsRemoved w i all (world_of n joined)
removed_in m n items joined old all i kept below w view memory bytes joined_is all_is =
    subst (λ (x : Sandboxes). IsRemoved x i all (world_of n joined)) view
    (is_removed (world_of m items) i old kept (let count = length-map items seat_of in omega (arith, count, below)) (world_of n joined) memory bytes
    (ap seats_of joined_is ∙ map_remove seat_of items i) all all_is)
