-- The bytes of a memory in a region: what is read there, and what a write leaves.
use Rattle.sfi_host.proofs.Prelude.{◌↔◌, IsTrue, IsSome, is_some, ◌≡◌, ℕ, ◌+◌, ◌%◌, ◌^◌, ◌<◌, ◌==◌, Bool, true, false, cond, not, [], Option, Some, None, refl, sym, ap, subst, ◌∙◌, arith, eqb-true, option_map, get, insert, retain_keys, get-retain_keys, get-insert, same_map, nat_cmp-IsAntisymmetric, OnTrue, OnFalse, Bytes, byte_at, loaded, stored, number_of, in_front, IsThere, Span, Holds, Call, is_in, bytes_in, bytes_outside, IsWhole}
use Rattle.std.specs.Cmp.{nat_cmp_total, unsigned_tied}
use Rattle.std.specs.Int.{byte_at as low_byte}

-- ---- the keys of a map that pass a test

pub get_kept : (m : Bytes) (p : ℕ → Bool) (q : ℕ) → byte_at (retain_keys m p) q ≡ cond (p q) (byte_at m q) None
get_kept m p q = get-retain_keys m p q (λ x e. ap p (sym (nat_cmp-IsAntisymmetric q x e)))

pub get_put : (m : Bytes) (a b q : ℕ) → byte_at (insert m a b) q ≡ cond (q == a) (Some b) (byte_at m q)
get_put m a b q = get-insert nat_cmp_total m a b q ∙ ap (λ t. cond t (Some b) (get m q)) (unsigned_tied q a)

pub same_bytes : (m n : Bytes) → ((q : ℕ) → byte_at m q ≡ byte_at n q) → m ≡ n
same_bytes m n h = same_map nat_cmp_total nat_cmp-IsAntisymmetric m n h

-- what is put at a key that passes
pub kept_put : (m : Bytes) (p : ℕ → Bool) (a b : ℕ) → p a ≡ true → retain_keys (insert m a b) p ≡ insert (retain_keys m p) a b
kept_put m p a b h = same_bytes _ _ (λ q.
    get_kept (insert m a b) p q ∙ ap (λ o. cond (p q) o None) (get_put m a b q)
    ∙ elim (q == a) as (λ t. (q == a) ≡ t → cond (p q) (cond t (Some b) (get m q)) None ≡ cond t (Some b) (cond (p q) (get m q) None)) [
      | true ↦ λ t. ap (λ x. cond x (Some b) None) (ap p (eqb-true q a t) ∙ h)
      | false ↦ λ t. refl
    ] refl
    ∙ ap (λ o. cond (q == a) (Some b) o) (sym (get_kept m p q)) ∙ sym (get_put (retain_keys m p) a b q))

-- what is put at a key that doesn't
pub kept_put_out : (m : Bytes) (p : ℕ → Bool) (a b : ℕ) → p a ≡ false → retain_keys (insert m a b) p ≡ retain_keys m p
kept_put_out m p a b h = same_bytes _ _ (λ q.
    get_kept (insert m a b) p q ∙ ap (λ o. cond (p q) o None) (get_put m a b q)
    ∙ elim (q == a) as (λ t. (q == a) ≡ t → cond (p q) (cond t (Some b) (get m q)) None ≡ cond (p q) (get m q) None) [
      | true ↦ λ t. let e : p q ≡ false = ap p (eqb-true q a t) ∙ h in rw e refl
      | false ↦ λ t. refl
    ] refl
    ∙ sym (get_kept m p q))

-- ---- regions

-- the test says that the region holds the address
pub is_in-true : (s : Span) (a : ℕ) → is_in s a ≡ true → Holds s a
is_in-true s a h = grind arith

pub is_in-Holds : (s : Span) (a : ℕ) → Holds s a → is_in s a ≡ true
is_in-Holds s a h = grind arith

-- the byte at an address outside
pub byte_out : (s : Span) (m : Bytes) (a : ℕ) → is_in s a ≡ false → None ≡ byte_at (bytes_in s m) a
byte_out s m a w = sym (get_kept m (is_in s) a ∙ ap (λ t. cond t (get m a) None) w)

-- the byte at an address of the region
pub byte_in : (s : Span) (m : Bytes) (a : ℕ) → is_in s a ≡ true → byte_at (bytes_in s m) a ≡ byte_at m a
byte_in s m a w = get_kept m (is_in s) a ∙ ap (λ t. cond t (get m a) None) w

if_kept : (t : Bool) (o : Option ℕ) → is_some (cond t o None) ≡ true → t ≡ true
if_kept true o h = refl
if_kept false o h = h

-- a byte of the region stands in it
pub held : (s : Span) (m : Bytes) (a : ℕ) → IsSome (byte_at (bytes_in s m) a) → Holds s a
held s m a h = is_in-true s a (if_kept (is_in s a) (byte_at m a) (ap is_some (sym (get_kept m (is_in s) a)) ∙ h))

-- where the region is whole, a byte is there exactly at its addresses
pub whole_there : (s : Span) (m : Bytes) (a : ℕ) (o : Option ℕ) → o ≡ byte_at (bytes_in s m) a → IsWhole s (bytes_in s m) → (IsSome o ↔ Holds s a)
whole_there s m a o e w = (λ h. held s m a (ap is_some (sym e) ∙ h), λ h. ap is_some e ∙ w a h)

-- ---- an access of one byte

at_is : (at : ℕ) → at < 2 ^ 32 → (at + 0) % 2 ^ 32 ≡ at
at_is at h = omega arith

one_byte : (o : Option ℕ) → option_map number_of (in_front o (Some [])) ≡ o
one_byte None = refl
one_byte (Some b) = ap Some (omega arith)

some_byte : (o : Option ℕ) → is_some (in_front o (Some [])) ≡ is_some o
some_byte None = refl
some_byte (Some b) = refl

loaded_one : (m : Bytes) (at : ℕ) → at < 2 ^ 32 → loaded m at 1 ≡ byte_at m at
loaded_one m at h = ap (λ a. option_map number_of (in_front (byte_at m a) (Some []))) (at_is at h) ∙ one_byte (byte_at m at)

there_one : (m : Bytes) (at : ℕ) → at < 2 ^ 32 → (IsThere m at 1) ≡ IsSome (byte_at m at)
there_one m at h = ap (λ b. b ≡ true) (ap (λ a. is_some (in_front (byte_at m a) (Some []))) (at_is at h) ∙ some_byte (byte_at m at))

stored_one : (m : Bytes) (at v : ℕ) → at < 2 ^ 32 → v < 256 → stored m at 1 v ≡ insert m at v
stored_one m at v h k = let b : low_byte 0 v ≡ v = omega arith in ap (λ a. insert m a (low_byte 0 v)) (at_is at h) ∙ ap (insert m at) b

-- what is read in a region
pub load_kept : (s : Span) (m : Bytes) (at : ℕ) (o : Option ℕ) → is_in s at ≡ true → at < 2 ^ 32 → o ≡ loaded m at 1 → o ≡ byte_at (bytes_in s m) at
load_kept s m at o w h e = e ∙ loaded_one m at h ∙ sym (byte_in s m at w)

-- the memory that a write of a byte in a region leaves
pub record Puts (s : Span) (m n : Bytes) (at byte : ℕ) (done : Bool) : Type 0 where
  pub within : is_in s at ≡ true
  pub there : IsTrue done ↔ IsSome (byte_at m at)
  pub changed : OnTrue done (n ≡ insert m at byte)
  pub unchanged : OnFalse done (n ≡ m)

pub store_puts : (s : Span) (m n : Bytes) (at v byte : ℕ) (done : Bool) → is_in s at ≡ true → at < 2 ^ 32 → v ≡ byte → byte < 256
    → (IsTrue done ↔ IsThere m at 1) → OnTrue done (n ≡ stored m at 1 v) → OnFalse done (n ≡ m) → Puts s m n at byte done
store_puts s m n at v byte true w h e l t d r =
    let k : v < 256 = omega arith in
    record { within = w; there = subst (λ P. IsTrue true ↔ P) (there_one m at h) t; changed = d ∙ stored_one m at v h k ∙ ap (insert m at) e; unchanged = r }
store_puts s m n at v byte false w h e l t d r =
    record { within = w; there = subst (λ P. IsTrue false ↔ P) (there_one m at h) t; changed = d; unchanged = r }

pub put_there : (s : Span) (m n : Bytes) (at byte : ℕ) (done : Bool) → Puts s m n at byte done → (IsTrue done ↔ IsSome (byte_at (bytes_in s m) at))
put_there s m n at byte done p =
    let e : is_some (byte_at (bytes_in s m) at) ≡ is_some (byte_at m at) = ap is_some (byte_in s m at p.within) in
    (λ t. e ∙ p.there.0 t, λ t. p.there.1 (sym e ∙ t))

pub put_kept : (s : Span) (m n : Bytes) (at byte : ℕ) (done : Bool) (c : Bytes → Call) → Puts s m n at byte done
    → OnTrue done (c (bytes_in s n) ≡ c (insert (bytes_in s m) at byte))
put_kept s m n at byte true c p = ap c (ap (bytes_in s) p.changed ∙ kept_put m (is_in s) at byte p.within)
put_kept s m n at byte false c p = p.changed

pub put_outside : (s : Span) (m n : Bytes) (at byte : ℕ) (done : Bool) → Puts s m n at byte done → bytes_outside s n ≡ bytes_outside s m
put_outside s m n at byte true p = ap (bytes_outside s) p.changed ∙ kept_put_out m (λ a. not (is_in s a)) at byte (ap not p.within)
put_outside s m n at byte false p = ap (bytes_outside s) p.unchanged

either : (t : Bool) (o : Option ℕ) (byte : ℕ) → IsSome o → is_some (cond t (Some byte) o) ≡ true
either true o byte h = refl
either false o byte h = h

-- a key keeps its byte, or gets another
pub still_there : (m : Bytes) (at byte a : ℕ) → IsSome (byte_at m a) → IsSome (byte_at (insert m at byte) a)
still_there m at byte a h = ap is_some (get_put m at byte a) ∙ either (a == at) (byte_at m a) byte h

-- a write leaves the region whole
pub put_whole : (s : Span) (m n : Bytes) (at byte : ℕ) (done : Bool) → Puts s m n at byte done → IsWhole s (bytes_in s m) → IsWhole s (bytes_in s n)
put_whole s m n at byte true p w = λ a h. ap (λ b. is_some (byte_at b a)) (ap (bytes_in s) p.changed ∙ kept_put m (is_in s) at byte p.within) ∙ still_there (bytes_in s m) at byte a (w a h)
put_whole s m n at byte false p w = λ a h. ap (λ x. is_some (byte_at (bytes_in s x) a)) p.unchanged ∙ w a h

pub put_region : (s : Span) (m n : Bytes) (at byte : ℕ) (done : Bool) → Puts s m n at byte done → IsWhole s (bytes_in s m) → (IsTrue done ↔ Holds s at)
put_region s m n at byte done p w =
    let t = put_there s m n at byte done p in
    (λ h. is_in-true s at p.within, λ h. t.1 (w at h))
