-- Bytes from an address on, read and written.
use Rattle.std.proofs.Common.{◌≡◌, ℕ, zero, suc, ◌+◌, ◌-◌, ◌*◌, ◌/◌, ◌%◌, ◌^◌, ◌<◌, ◌≤◌, ◌==◌, ◌&&◌, nat_lt, true, false, List, length, Option, Some, None, refl, sym, ap, ◌∙◌, arith, eqb-true, eq-eqb, inl, inr, ◌⊎◌, subst, slice_index, slice_set, length-set, add-one}
use Rattle.std.specs.Prelude.{nat_le}
use Rattle.std.proofs.lemmas.Bool.{cases_Bool, le-leb, le-ltb, lt-ltb, leb-true, ltb-true, ltb-false, false≢true, false_from_ne_true}
use Rattle.std.proofs.lemmas.List.{get_or-set_other}
use Rattle.std.proofs.lemmas.Grind.{get_or-set_at}
use std.Path.{fun_ext}
use Rattle.std.specs.Prelude.{Result, Ok, Err, if◌then◌else◌}
use Rattle.x86_step.specs.declared.machine.Stop.{Stop}
use Rattle.x86_step.specs.declared.machine.Stop.TheVariants.{Fault}
use Rattle.std.proofs.Math.Nat.{pow-suc, pow-le-pow_right, div-div-eq-div-mul}
use Rattle.x86_step.specs.declared.machine.Flags.{Flags}
use Rattle.x86_instr.specs.declared.instr.Width.{Width}
use Rattle.x86_instr.specs.declared.instr.Width.TheVariants.{Dword, Qword}
use Rattle.x86_step.specs.Step.{◌>>=◌, bytes_of, found, loaded, low, stored}
use Rattle.x86_step.specs.State.{Core, joined, number_at, may_write, updated, with_memory, written}
use Rattle.x86_step.specs.Held.{bytes_from, has_byte}

not_both : (a b : ℕ) → a < b → b ≤ a → ⊥
not_both a b small large = omega (arith, small, large)

lt_leb : (a b : ℕ) → a < b → nat_le b a ≡ false
lt_leb a b small = false_from_ne_true (nat_le b a) (λ e. not_both a b small (leb-true b a e))

at_zero : (at : ℕ) → at + 0 ≡ at
at_zero at = omega arith

at_more : (at k : ℕ) → at + suc k ≡ at + 1 + k
at_more at k = omega arith

-- ==== A register that is set.

pub set_one : (xs : List ℕ) (n v k : ℕ) → n < length xs → slice_index (slice_set xs n v) k ≡ updated (λ r. slice_index xs r) n v k
set_one xs n v k small = elim (cases_Bool (k == n)) [
  | inl e ↦ rw e (get_or-set_at xs n k v 0 (eqb-true k n e) small)
  | inr e ↦ rw e (get_or-set_other xs n k v 0 (λ is. false≢true (sym e ∙ eq-eqb k n is)))
]

-- ==== Which bytes are there.

pub inside : (xs : List ℕ) (base p : ℕ) → p < length xs → has_byte base xs (base + p) ≡ true
inside xs base p small =
    let e1 : nat_le base (base + p) ≡ true = le-leb base (base + p) (omega arith) in
    let e2 : nat_lt (base + p) (base + length xs) ≡ true = lt-ltb (base + p) (base + length xs) (omega (arith, small)) in
    rw (e1, e2) refl

pub at_inside : (xs : List ℕ) (base p : ℕ) → p < length xs → bytes_from base xs (base + p) ≡ Some (slice_index xs p)
at_inside xs base p small =
    let e : base + p - base ≡ p = omega arith in
    rw (inside xs base p small) (ap (λ k. Some (slice_index xs k)) e)

pub outside : (xs : List ℕ) (base a : ℕ) → (a < base) ⊎ (base + length xs ≤ a) → has_byte base xs a ≡ false
outside xs base a (inl below) = rw (lt_leb a base below) refl
outside xs base a (inr above) = elim (cases_Bool (nat_le base a)) [
  | inl e ↦ rw (e, le-ltb a (base + length xs) above) refl
  | inr e ↦ rw e refl
]

-- ==== Loads.

joined_none : (b : Option ℕ) → joined b None ≡ None
joined_none None = refl
joined_none (Some x) = refl

-- a byte that isn't there
pub number_missing : (m : ℕ → Option ℕ) (n at k : ℕ) → k < n → m (at + k) ≡ None → number_at m n at ≡ None
number_missing m zero at k small e = absurd (omega (arith, small))
number_missing m (suc n) at zero small e =
    let here : m at ≡ None = subst (λ a. m a ≡ None) (at_zero at) e in
    rw here refl
number_missing m (suc n) at (suc k) small e =
    let there : m (at + 1 + k) ≡ None = subst (λ a. m a ≡ None) (at_more at k) e in
    let rest = number_missing m n (at + 1) k (omega (arith, small)) there in
    rw rest (joined_none (m at))

-- bytes that are all there make a number
number_there : (xs : List ℕ) (base n p : ℕ) → p + n ≤ length xs → (v : ℕ) × (number_at (bytes_from base xs) n (base + p) ≡ Some v)
number_there xs base zero p fits = (0, refl)
number_there xs base (suc n) p fits =
    let small : p < length xs = omega (arith, fits) in
    let more : suc p + n ≤ length xs = omega (arith, fits) in
    let next : base + p + 1 ≡ base + suc p = omega arith in
    let rest = number_there xs base n (suc p) more in
    let after : number_at (bytes_from base xs) n (base + p + 1) ≡ Some rest.0 = ap (number_at (bytes_from base xs) n) next ∙ rest.1 in
    (slice_index xs p + 256 * rest.0, rw (at_inside xs base p small, after) refl)

-- ==== Stores.

pub may_there : (xs : List ℕ) (base n p : ℕ) → p + n ≤ length xs → may_write (has_byte base xs) n (base + p) ≡ true
may_there xs base zero p fits = refl
may_there xs base (suc n) p fits =
    let small : p < length xs = omega (arith, fits) in
    let more : suc p + n ≤ length xs = omega (arith, fits) in
    let next : base + p + 1 ≡ base + suc p = omega arith in
    let rest : may_write (has_byte base xs) n (base + p + 1) ≡ true = ap (may_write (has_byte base xs) n) next ∙ may_there xs base n (suc p) more in
    rw (inside xs base p small, rest) refl

bytes_outside : (xs : List ℕ) (base a : ℕ) → (a < base) ⊎ (base + length xs ≤ a) → bytes_from base xs a ≡ None
bytes_outside xs base a out = rw (outside xs base a out) refl

-- of n bytes from an address on one is outside
last_outside : (xs : List ℕ) (base n at : ℕ) → 0 < n → (at < base) ⊎ (base + length xs < at + n) → (k : ℕ) × (k < n) × ((at + k < base) ⊎ (base + length xs ≤ at + k))
last_outside xs base n at some (inl below) = (0, some, inl (omega (arith, below)))
last_outside xs base n at some (inr above) = (n - 1, omega (arith, some), inr (omega (arith, some, above)))

abbrev pub held_core : (ℕ → ℕ) → Flags → ℕ → List ℕ → Core
held_core g f base xs = record { registers = g; flags = f; memory = bytes_from base xs; writable = has_byte base xs }

number_not_there : (xs : List ℕ) (base n at : ℕ) → 0 < n → (at < base) ⊎ (base + length xs < at + n) → number_at (bytes_from base xs) n at ≡ None
number_not_there xs base n at some out =
    let k = last_outside xs base n at some out in
    number_missing (bytes_from base xs) n at k.0 k.1 (bytes_outside xs base (at + k.0) k.2)

-- where all bytes are below 2^64
pub loaded_below : (c : Core) (n at : ℕ) (v : Option ℕ) → at + n ≤ 2 ^ 64 → number_at c.memory n at ≡ v → loaded c n at ≡ found v
loaded_below c n at v fits is = rw (le-leb (at + n) (2 ^ 64) fits) (ap found is)

not_found : (g : ℕ → ℕ) (f : Flags) (xs : List ℕ) (base n at : ℕ) → number_at (bytes_from base xs) n at ≡ None → loaded (held_core g f base xs) n at ≡ Err Fault
not_found g f xs base n at none = elim (cases_Bool (nat_le (at + n) (2 ^ 64))) [
  | inl e ↦ rw e (ap found none)
  | inr e ↦ rw e refl
]

-- what isn't all there can't be loaded
pub not_loaded : (g : ℕ → ℕ) (f : Flags) (xs : List ℕ) (base n at : ℕ) → 0 < n → (at < base) ⊎ (base + length xs < at + n) ⊎ (2 ^ 64 < at + n)
    → loaded (held_core g f base xs) n at ≡ Err Fault
not_loaded g f xs base n at some (inl below) = not_found g f xs base n at (number_not_there xs base n at some (inl below))
not_loaded g f xs base n at some (inr (inl above)) = not_found g f xs base n at (number_not_there xs base n at some (inr above))
not_loaded g f xs base n at some (inr (inr beyond)) = rw (lt_leb (2 ^ 64) (at + n) beyond) refl

-- ==== A byte more of a number that is written.

written_none : (m : ℕ → Option ℕ) (at v q : ℕ) → written m 0 at v q ≡ m q
written_none m at v q = elim (cases_Bool (nat_le at q)) [
  | inl e ↦ rw (e, le-ltb q (at + 0) (omega (arith, leb-true at q e))) refl
  | inr e ↦ rw e refl
]

-- the byte that comes next
written_next : (m : ℕ → Option ℕ) (k at v q : ℕ) → q ≡ at + k → written m (suc k) at v q ≡ Some (v / 256 ^ k % 256)
written_next m k at v q is =
    let e1 : nat_le at q ≡ true = le-leb at q (omega (arith, is)) in
    let e2 : nat_lt q (at + suc k) ≡ true = lt-ltb q (at + suc k) (omega (arith, is)) in
    let e3 : q - at ≡ k = omega (arith, is) in
    rw (e1, e2, e3) refl

written_other : (m : ℕ → Option ℕ) (k at v q : ℕ) → (q ≡ at + k → ⊥) → written m (suc k) at v q ≡ written m k at v q
written_other m k at v q other = elim (cases_Bool (nat_lt q (at + k))) [
  | inl e ↦ rw (e, lt-ltb q (at + suc k) (omega (arith, ltb-true q (at + k) e))) refl
  | inr e ↦ rw (e, le-ltb q (at + suc k) (omega (arith, ltb-false q (at + k) e, other))) refl
]

set_has : (xs : List ℕ) (base i y q : ℕ) → has_byte base (slice_set xs i y) q ≡ has_byte base xs q
set_has xs base i y q = ap (λ n. nat_le base q && nat_lt q (base + n)) (length-set xs i y)

-- one byte that is set
set_byte_at : (xs : List ℕ) (base p y q : ℕ) → p < length xs → q ≡ base + p → bytes_from base (slice_set xs p y) q ≡ Some y
set_byte_at xs base p y q small is =
    let here : bytes_from base (slice_set xs p y) (base + p) ≡ Some (slice_index (slice_set xs p y) p) = at_inside (slice_set xs p y) base p (subst (λ n. p < n) (sym (length-set xs p y)) small) in
    subst (λ a. bytes_from base (slice_set xs p y) a ≡ Some y) (sym is) (here ∙ ap Some (get_or-set_at xs p p y 0 refl small))

set_byte_other : (xs : List ℕ) (base p y q : ℕ) → (q ≡ base + p → ⊥) → bytes_from base (slice_set xs p y) q ≡ bytes_from base xs q
set_byte_other xs base p y q other = elim (cases_Bool (nat_le base q)) [
  | inl e ↦
      let same : slice_index (slice_set xs p y) (q - base) ≡ slice_index xs (q - base) =
      get_or-set_other xs p (q - base) y 0 (λ is. other (omega (arith, is, leb-true base q e))) in
      rw (length-set xs p y, same) refl
  | inr e ↦ rw e refl
]

written_suc : (m : ℕ → Option ℕ) (xs : List ℕ) (base p k at v rest : ℕ) → at ≡ base + p → p + k < length xs → rest ≡ v / 256 ^ k
    → ((q : ℕ) → bytes_from base xs q ≡ written m k at v q)
    → (q : ℕ) → bytes_from base (slice_set xs (p + k) (rest % 256)) q ≡ written m (suc k) at v q
written_suc m xs base p k at v rest at_is small rest_is so_far q = elim (cases_Bool (q == at + k)) [
  | inl e ↦
      let is : q ≡ at + k = eqb-true q (at + k) e in
      set_byte_at xs base (p + k) (rest % 256) q small (omega (arith, is, at_is))
      ∙ ap (λ n. Some (n % 256)) rest_is ∙ sym (written_next m k at v q is)
  | inr e ↦
      let other : q ≡ at + k → ⊥ = λ is. false≢true (sym e ∙ eq-eqb q (at + k) is) in
      set_byte_other xs base (p + k) (rest % 256) q (λ is. other (omega (arith, is, at_is)))
      ∙ so_far q ∙ sym (written_other m k at v q other)
]

pub written_more : (m : ℕ → Option ℕ) (xs : List ℕ) (base p k at v rest : ℕ) → at ≡ base + p → p + k < length xs → rest ≡ v / 256 ^ k
    → ((q : ℕ) → bytes_from base xs q ≡ written m k at v q)
    → (q : ℕ) → bytes_from base (slice_set xs (p + k) (rest % 256)) q ≡ written m (k + 1) at v q
written_more m xs base p k at v rest at_is small rest_is so_far q =
    written_suc m xs base p k at v rest at_is small rest_is so_far q ∙ ap (λ j. written m j at v q) (sym (add-one k))

pub written_first : (m : ℕ → Option ℕ) (at v q : ℕ) → m q ≡ written m 0 at v q
written_first m at v q = sym (written_none m at v q)

-- a store, after a load of what was there
abbrev pub store_after : (c : Core) (n at v : ℕ) → Result ℕ Stop → Result Core Stop
store_after c n at v old = old >>= λ o. if may_write c.writable n at then Ok (with_memory c (written c.memory n at v)) else Err Fault

pub not_stored : (c : Core) (n at v : ℕ) → loaded c n at ≡ Err Fault → stored c n at v ≡ Err Fault
not_stored c n at v stops = ap (store_after c n at v) stops

stored_there : (c : Core) (n at v old : ℕ) → loaded c n at ≡ Ok old → may_write c.writable n at ≡ true → stored c n at v ≡ Ok (with_memory c (written c.memory n at v))
stored_there c n at v old there can =
    ap (store_after c n at v) there ∙ ap (λ b. if b then Ok (with_memory c (written c.memory n at v)) else Err Fault) can

-- what a store leaves
pub stored_is : (g : ℕ → ℕ) (f : Flags) (xs ys : List ℕ) (base b place count at n : ℕ) → place + count ≤ length xs → at ≡ base + place → at + count ≤ 2 ^ 64 → b ≡ base → length ys ≡ length xs
    → ((q : ℕ) → bytes_from base ys q ≡ written (bytes_from base xs) count (base + place) n q)
    → stored (held_core g f base xs) count at n ≡ Ok (held_core g f b ys)
stored_is g f xs ys base b place count at n fits at_is below same_base size same =
    let there = number_there xs base count place fits in
    let old : loaded (held_core g f base xs) count at ≡ Ok there.0 =
    loaded_below (held_core g f base xs) count at (Some there.0) below (ap (number_at (bytes_from base xs) count) at_is ∙ there.1) in
    let can : may_write (has_byte base xs) count at ≡ true = ap (may_write (has_byte base xs) count) at_is ∙ may_there xs base count place fits in
    let m : written (bytes_from base xs) count at n ≡ bytes_from base ys = ap (λ a. written (bytes_from base xs) count a n) at_is ∙ fun_ext (λ q. sym (same q)) in
    let w : has_byte base xs ≡ has_byte base ys = ap (λ k a. nat_le base a && nat_lt a (base + k)) (sym size) in
    stored_there (held_core g f base xs) count at n there.0 old can
    ∙ ap (λ x. Ok (record { registers = g; flags = f; memory = x; writable = has_byte base xs })) m
    ∙ ap (λ x. Ok (record { registers = g; flags = f; memory = bytes_from base ys; writable = x })) w
    ∙ ap (λ x. Ok (held_core g f x ys)) (sym same_base)

-- a number of n bytes, of which one is in front, has room in 64 bits
pub room : (n r : ℕ) → 0 < n → n ≤ 8 → r < 256 ^ (n - 1) → r < 2 ^ 56
room n r some few fits =
    let bound : 256 ^ (n - 1) ≤ 256 ^ 7 = pow-le-pow_right {n = 256} (omega arith) {i = n - 1} {j = 7} (omega (arith, few)) in
    omega (arith, bound, fits)

pub bound_more : (n first r : ℕ) → 0 < n → first < 256 → r < 256 ^ (n - 1) → first + 256 * r < 256 ^ n
bound_more zero first r some byte fits = absurd (omega (arith, some))
bound_more (suc n) first r some byte fits =
    let same : suc n - 1 ≡ n = omega arith in
    let below : r < 256 ^ n = subst (λ k. r < 256 ^ k) same fits in
    let next : 256 ^ suc n ≡ 256 ^ n * 256 = pow-suc 256 n in
    omega (arith, next, below, byte)

-- what an operand of memory holds has its width
pub fits_width : (w : Width) (v : ℕ) → v < 256 ^ bytes_of w → v ≡ low w v
fits_width Dword v fits = omega (arith, fits)
fits_width Qword v fits = omega (arith, fits)

pub next_rest : (n k rest : ℕ) → rest ≡ n / 256 ^ k → rest / 256 ≡ n / 256 ^ (k + 1)
next_rest n k rest is =
    ap (λ r. r / 256) is ∙ div-div-eq-div-mul n (256 ^ k) 256 ∙ ap (λ m. n / m) (sym (pow-suc 256 k))
    ∙ ap (λ j. n / 256 ^ j) (sym (add-one k))
