-- Harts that agree but for the expansions' own registers, and what an instruction does from them.
use Rattle.sfi_rewrite.proofs.Prelude.{◌≡◌, ◌≢◌, ℕ, ◌+◌, ◌%◌, ◌^◌, ◌<◌, ◌==◌, Bool, true, false, cond, List, length, length-set, set, get_or, Option, Some, None, is_some, refl, sym, ap, ◌∙◌, subst, arith, ⊎_elim, ℤ, pos, negsuc, ◌+ℤ◌, cases_lt, eqb-true, eqb-false, get_or-set_same, get_or-set_other, get_or_past, LoadKind, Load, Store, Jalr, Bytes, bytes_at, addresses, address_after, loaded, stored, Hart, register, with_register, with_pc, past, even_of, next, unchanged, after_load, effect, IsSameAside, Trap, offset_by, StoreWidth, ints}
use Rattle.rv_step.specs.Step.{word, load_size, store_size}
use Rattle.rv_step.specs.declared.outcome.Cause.TheVariants as cause
use Rattle.rv_step.proofs.Pairs.{written_list, written_elsewhere}

-- ---- registers

-- the harts differ in the registers of is_own alone, and have as many
pub record Aside (is_own : ℕ → Bool) (h k : Hart) : Type 0 where
  pub pc : h.pc ≡ k.pc
  pub count : length h.registers ≡ length k.registers
  pub registers : (x : ℕ) → is_own x ≡ false → register h x ≡ register k x

here_same : (l m : List ℕ) (t v : ℕ) → length l ≡ length m → get_or (set l t v) t 0 ≡ get_or (set m t v) t 0
here_same l m t v e =
    ⊎_elim
    (λ within. get_or-set_same l t v 0 within ∙ sym (get_or-set_same m t v 0 (omega arith)))
    (λ past. get_or_past (set l t v) t 0 (let z = length-set l t v in omega arith) ∙ sym (get_or_past (set m t v) t 0 (let z = length-set m t v in omega arith)))
    (cases_lt t (length l))

set_same : (b : Bool) (l m : List ℕ) (t v x : ℕ) → (x == t) ≡ b → length l ≡ length m → get_or l x 0 ≡ get_or m x 0 → get_or (set l t v) x 0 ≡ get_or (set m t v) x 0
set_same true l m t v x is e f =
    let same = eqb-true x t is in
    subst (λ (y : ℕ). get_or (set l t v) y 0 ≡ get_or (set m t v) y 0) (sym same) (here_same l m t v e)
set_same false l m t v x is e f =
    let other = eqb-false x t is in
    get_or-set_other l t x v 0 other ∙ f ∙ sym (get_or-set_other m t x v 0 other)

cond_aside : (is_own : ℕ → Bool) (b : Bool) (h k : Hart) (rd v : ℕ) → Aside is_own h k
    → Aside is_own (record { pc = h.pc; registers = cond b h.registers (set h.registers rd v) }) (record { pc = k.pc; registers = cond b k.registers (set k.registers rd v) })
cond_aside is_own true h k rd v a = record { pc = a.pc; count = a.count; registers = a.registers }
cond_aside is_own false h k rd v a = record {
  pc = a.pc;
  count = length-set h.registers rd v ∙ a.count ∙ sym (length-set k.registers rd v);
  registers = λ x other. set_same (x == rd) h.registers k.registers rd v x refl a.count (a.registers x other);
}

pub aside_written : (is_own : ℕ → Bool) (h k : Hart) (rd v : ℕ) → Aside is_own h k → Aside is_own (with_register h rd v) (with_register k rd v)
aside_written is_own h k rd v a = cond_aside is_own (rd == 0) h k rd v a

pub aside_at : (is_own : ℕ → Bool) (h k : Hart) (p q : ℕ) → p ≡ q → Aside is_own h k → Aside is_own (with_pc h p) (with_pc k q)
aside_at is_own h k p q e a = record { pc = e; count = a.count; registers = a.registers }

pub aside_through : (is_own : ℕ → Bool) (g h k : Hart) → Aside is_own g h → Aside is_own h k → Aside is_own g k
aside_through is_own g h k a b = record { pc = a.pc ∙ b.pc; count = a.count ∙ b.count; registers = λ x other. a.registers x other ∙ b.registers x other }

own_differs : (is_own : ℕ → Bool) (r x : ℕ) → is_own r ≡ true → is_own x ≡ false → x ≢ r
own_differs is_own r x own other e = let z = ap is_own e in cc

-- one of those registers was written
pub aside_own : (is_own : ℕ → Bool) (h : Hart) (r v : ℕ) → r ≢ 0 → is_own r ≡ true → Aside is_own (with_register h r v) h
aside_own is_own h r v some own = record {
  pc = refl;
  count = ap (λ (l : List ℕ). length l) (written_list h r v some) ∙ length-set h.registers r v;
  registers = λ x other. written_elsewhere h r v x some (own_differs is_own r x own other);
}

-- ---- what an instruction does

next_same : (is_own : ℕ → Bool) (h k : Hart) (m : Bytes) → Aside is_own h k → IsSameAside is_own (next h m) (next k m)
next_same is_own h k m a = record { outcome = refl; pc = a.pc; registers = a.registers; memory = refl }

load_same : (is_own : ℕ → Bool) (o : Option ℕ) (kind : LoadKind) (rd at n : ℕ) (h k : Hart) (m : Bytes) → Aside is_own h k
    → IsSameAside is_own (after_load o kind rd at n h m) (after_load o kind rd at n k m)
load_same is_own None kind rd at n h k m a = record { outcome = refl; pc = a.pc; registers = a.registers; memory = refl }
load_same is_own (Some v) kind rd at n h k m a =
    next_same is_own _ _ m (aside_written is_own (past h n) (past k n) rd _ (aside_at is_own h k _ _ (ap (λ p. address_after p n) a.pc) a))

pub loads_same : (is_own : ℕ → Bool) (kind : LoadKind) (rd b a : ℕ) (imm : ℤ) (n : ℕ) (h k : Hart) (m : Bytes) → Aside is_own h k → register h b ≡ register k a
    → IsSameAside is_own (effect (Load kind rd b imm) n h m) (effect (Load kind rd a imm) n k m)
loads_same is_own kind rd b a imm n h k m aside e =
    subst (λ (z : ℕ). IsSameAside is_own (after_load (loaded m (offset_by z imm) (load_size kind)) kind rd (offset_by z imm) n h m) (effect (Load kind rd a imm) n k m))
    (sym e) (load_same is_own _ kind rd _ n h k m aside)

store_same : (is_own : ℕ → Bool) (b : Bool) (at size v n : ℕ) (h k : Hart) (m : Bytes) → Aside is_own h k
    → IsSameAside is_own (cond b (next (past h n) (stored m at size v)) (unchanged (Trap cause.Store at) h m)) (cond b (next (past k n) (stored m at size v)) (unchanged (Trap cause.Store at) k m))
store_same is_own true at size v n h k m a = next_same is_own _ _ _ (aside_at is_own h k _ _ (ap (λ p. address_after p n) a.pc) a)
store_same is_own false at size v n h k m a = record { outcome = refl; pc = a.pc; registers = a.registers; memory = refl }

stored_from : (is_own : ℕ → Bool) (width : StoreWidth) (base v : ℕ) (imm : ℤ) (n : ℕ) (h k : Hart) (m : Bytes) → Aside is_own h k
    → IsSameAside is_own
    (cond (is_some (bytes_at m (addresses (offset_by base imm) (store_size width)))) (next (past h n) (stored m (offset_by base imm) (store_size width) v)) (unchanged (Trap cause.Store (offset_by base imm)) h m))
    (cond (is_some (bytes_at m (addresses (offset_by base imm) (store_size width)))) (next (past k n) (stored m (offset_by base imm) (store_size width) v)) (unchanged (Trap cause.Store (offset_by base imm)) k m))
stored_from is_own width base v imm n h k m a =
    store_same is_own (is_some (bytes_at m (addresses (offset_by base imm) (store_size width)))) (offset_by base imm) (store_size width) v n h k m a

pub stores_same : (is_own : ℕ → Bool) (width : StoreWidth) (b a rs2 : ℕ) (imm : ℤ) (n : ℕ) (h k : Hart) (m : Bytes) → Aside is_own h k → register h b ≡ register k a → is_own rs2 ≡ false
    → IsSameAside is_own (effect (Store width b rs2 imm) n h m) (effect (Store width a rs2 imm) n k m)
stores_same is_own width b a rs2 imm n h k m aside e other =
    subst
    (λ (z : ℕ). IsSameAside is_own (cond (is_some (bytes_at m (addresses (offset_by z imm) (store_size width)))) (next (past h n) (stored m (offset_by z imm) (store_size width) (register h rs2))) (unchanged (Trap cause.Store (offset_by z imm)) h m)) (effect (Store width a rs2 imm) n k m))
    (sym e)
    (subst
    (λ (v : ℕ). IsSameAside is_own (cond (is_some (bytes_at m (addresses (offset_by (register k a) imm) (store_size width)))) (next (past h n) (stored m (offset_by (register k a) imm) (store_size width) v)) (unchanged (Trap cause.Store (offset_by (register k a) imm)) h m)) (effect (Store width a rs2 imm) n k m))
    (sym (aside.registers rs2 other))
    (stored_from is_own width (register k a) (register k rs2) imm n h k m aside))

pub jumps_same : (is_own : ℕ → Bool) (rd b a : ℕ) (imm : ℤ) (h k : Hart) (m : Bytes) → Aside is_own h k → offset_by (register h b) (pos 0) ≡ offset_by (register k a) imm
    → IsSameAside is_own (effect (Jalr rd b (pos 0)) 4 h m) (effect (Jalr rd a imm) 4 k m)
jumps_same is_own rd b a imm h k m aside e =
    let to = aside_at is_own h k _ _ (ap even_of e) aside in
    let z = aside_written is_own (with_pc h _) (with_pc k _) rd (address_after k.pc 4) to in
    subst (λ (p : ℕ). IsSameAside is_own (next (with_register (with_pc h (even_of (offset_by (register h b) (pos 0)))) rd (address_after p 4)) m) (effect (Jalr rd a imm) 4 k m))
    (sym aside.pc) (next_same is_own _ _ m z)

-- ---- sums

sum_is : (n : ℕ) → n < 2 ^ 32 → (z : ℤ) → z ≡ pos n +ℤ pos 0 → word z ≡ n
sum_is n h (pos k) e = omega (arith, ints)
sum_is n h (negsuc k) e = absurd (omega (arith, ints))

pub plus_zero : (n : ℕ) → n < 2 ^ 32 → offset_by n (pos 0) ≡ n
plus_zero n h = sum_is n h _ refl

add_is : (n : ℕ) (imm z : ℤ) → z ≡ pos n +ℤ imm → (n + word imm) % 2 ^ 32 ≡ word z
add_is n (pos j) (pos k) e = omega (arith, ints)
add_is n (pos j) (negsuc k) e = absurd (omega (arith, ints))
add_is n (negsuc j) (pos k) e = omega (arith, ints)
add_is n (negsuc j) (negsuc k) e = omega (arith, ints)

-- an addi is a sum
pub added : (n : ℕ) (imm : ℤ) → (n + word imm) % 2 ^ 32 ≡ offset_by n imm
added n imm = add_is n imm _ refl

pub plus_fits : (n : ℕ) (imm : ℤ) → offset_by n imm < 2 ^ 32
plus_fits n imm = (let e = added n imm in omega arith)
