-- Numbers, harts and memories that a step reads and makes.
use Rattle.rv_word.specs.Spelling.{InRange}
use Rattle.rv_word.specs.declared.instr.Cond.{Cond}
use Rattle.rv_word.specs.declared.instr.LoadKind.TheVariants.{Lb, Lh, Lw, Lbu, Lhu}
use Rattle.rv_word.specs.declared.instr.RegOp.{RegOp}
use Rattle.rv_word.specs.declared.instr.RegOp.TheVariants.{Add, Sll, Slt, Sltu, Xor, Srl, Or, And, Mul, Mulhu, Div, Divu, Rem, Remu}
use Rattle.std.proofs.Math.Nat.{div-le_self, pow-suc}
use Rattle.std.proofs.lemmas.Int.{ints}
use Rattle.std.proofs.lemmas.Nat.{or_lt, xor_lt, mul-lt}
use Rattle.std.specs.Int.{from_bool}
use Rattle.std.specs.Int.Bits.{and_lt}
use Rattle.std.proofs.lemmas.List.{get_or-set_other}
use Rattle.rv_word.specs.declared.instr.StoreWidth.{StoreWidth}
use Rattle.rv_word.specs.declared.instr.StoreWidth.TheVariants.{Sb, Sh, Sw}
use Rattle.rv_mem.proofs.Facts.{read_is_held, write_keeps_memory}
use Rattle.std.specs.Cmp.{nat_cmp_total, unsigned_tied}
use Rattle.std.specs.FinMap.{insert, get-insert}
use Rattle.rv_step.proofs.Prelude.{◌≡◌, ℕ, ◌*◌, ◌/◌, ◌%◌, ◌^◌, ◌<◌, ◌==◌, Bool, true, false, cond, ℤ, pos, negsuc, ◌+ℤ◌, suc, zero, replicate, slice_index, refl, arith, subst, LoadKind, Instr, Branch, Jal, IsEven, offset_by, IsHart, word, result_of, load_size, extended, ◌≢◌, List, [], ◌∷◌, length-set, set, get_or, slice_set, ◌∙◌, address_after, Hart, with_register, with_pc, past, ◌+◌, length, Option, Some, None, option_map, Bytes, IsMemory, bytes_at, addresses, number_of, loaded, stored, store_size, ap, byte_at}

-- ==== Numbers that fit, and even ones.

pub word_fits : (z : ℤ) → word z < 2 ^ 32
word_fits (pos n) = omega arith
word_fits (negsuc n) = omega arith

even_sum : (a : ℕ) (z w : ℤ) → a % 2 ≡ 0 → IsEven z → w ≡ pos a +ℤ z → word w % 2 ≡ 0
even_sum a (pos n) (pos k) h e is = omega (arith, ints)
even_sum a (pos n) (negsuc k) h e is = absurd (omega (arith, ints))
even_sum a (negsuc n) (pos k) h e is = omega (arith, ints)
even_sum a (negsuc n) (negsuc k) h e is = omega (arith, ints)

pub offset_even : (a : ℕ) (z : ℤ) → a % 2 ≡ 0 → IsEven z → offset_by a z % 2 ≡ 0
offset_even a z h e = even_sum a z (pos a +ℤ z) h e refl

bool_fits : (b : Bool) → from_bool b < 2 ^ 32
bool_fits true = omega arith
bool_fits false = omega arith

cond_fits : (b : Bool) (x y : ℕ) → x < 2 ^ 32 → y < 2 ^ 32 → cond b x y < 2 ^ 32
cond_fits true x y f g = f
cond_fits false x y f g = g

product_fits : (a b : ℕ) → a < 2 ^ 32 → b < 2 ^ 32 → a * b / 2 ^ 32 < 2 ^ 32
product_fits a b f g = let h : a * b < 2 ^ 32 * 2 ^ 32 = mul-lt a b (2 ^ 32) (2 ^ 32) f g in omega arith

rem_fits : (a b : ℕ) → a < 2 ^ 32 → b < 2 ^ 32 → cond (b == 0) a (a % b) < 2 ^ 32
rem_fits a zero f g = f
rem_fits a (suc b) f g = let small : a % suc b < 2 ^ 32 = omega arith in cond_fits (suc b == 0) a (a % suc b) f small

quotient_fits : (a b : ℕ) → a < 2 ^ 32 → a / b < 2 ^ 32
quotient_fits a b f = omega (arith, div-le_self a b)

-- the result of an operation has 32 bits
pub result_fits : (op : RegOp) (a b : ℕ) → a < 2 ^ 32 → b < 2 ^ 32 → result_of op a b < 2 ^ 32
result_fits Add a b f g = omega arith
result_fits Sll a b f g = omega arith
result_fits Slt a b f g = bool_fits _
result_fits Sltu a b f g = bool_fits _
result_fits Xor a b f g = xor_lt 32 a b f g
result_fits Srl a b f g = quotient_fits a (2 ^ (b % 32)) f
result_fits Or a b f g = or_lt 32 a b f g
result_fits And a b f g = and_lt 32 a b f g
result_fits Mul a b f g = omega arith
result_fits Mulhu a b f g = product_fits a b f g
result_fits Div a b f g = cond_fits (b == 0) _ _ (omega arith) (word_fits _)
result_fits Divu a b f g = cond_fits (b == 0) _ _ (omega arith) (quotient_fits a b f)
result_fits Rem a b f g = cond_fits (b == 0) _ _ f (word_fits _)
result_fits Remu a b f g = rem_fits a b f g
result_fits _ a b f g = word_fits _

-- what a load writes has 32 bits
pub extended_fits : (kind : LoadKind) (n : ℕ) → n < 256 ^ load_size kind → extended kind n < 2 ^ 32
extended_fits Lb n h = word_fits _
extended_fits Lh n h = word_fits _
extended_fits _ n h = omega arith

zeros_fit : (n r : ℕ) → slice_index (replicate n 0) r < 2 ^ 32
zeros_fit zero r = omega arith
zeros_fit (suc n) zero = omega arith
zeros_fit (suc n) (suc r) = zeros_fit n r

-- a hart whose registers are 0
pub new_hart : (pc : ℕ) → pc < 2 ^ 32 → pc % 2 ≡ 0 → IsHart (record { pc = pc; registers = replicate 32 0 })
new_hart pc fits even = record { even = even; address = fits; count = refl; words = λ r. zeros_fit 32 r; zero = refl }

branch_even : (cond : Cond) (rs1 rs2 : ℕ) (offset : ℤ) → InRange (Branch cond rs1 rs2 offset) → IsEven offset
unfolding InRange
branch_even cond rs1 rs2 offset h = h.2.1

jump_even : (rd : ℕ) (offset : ℤ) → InRange (Jal rd offset) → IsEven offset
unfolding InRange
jump_even rd offset h = h.1.1

pub branch_is_even : (i : Instr) (cond : Cond) (rs1 rs2 : ℕ) (offset : ℤ) → InRange i → i ≡ Branch cond rs1 rs2 offset → IsEven offset
branch_is_even i cond rs1 rs2 offset h e = branch_even cond rs1 rs2 offset (subst (λ (j : Instr). InRange j) e h)

pub jump_is_even : (i : Instr) (rd : ℕ) (offset : ℤ) → InRange i → i ≡ Jal rd offset → IsEven offset
jump_is_even i rd offset h e = jump_even rd offset (subst (λ (j : Instr). InRange j) e h)

-- ==== Harts that a step makes.

pub pc_is : (h : Hart) (pc : ℕ) → IsHart h → pc % 2 ≡ 0 → pc < 2 ^ 32 → IsHart (with_pc h pc)
pc_is h pc is even fits = record { even = even; address = fits; count = is.count; words = is.words; zero = is.zero }

pub after_is : (h : Hart) (n : ℕ) → IsHart h → n % 2 ≡ 0 → IsHart (past h n)
after_is h n is even = let old = is.even in pc_is h (address_after h.pc n) is (omega arith) (omega arith)

set_fits : (l : List ℕ) (i v r : ℕ) → ((k : ℕ) → get_or l k 0 < 2 ^ 32) → v < 2 ^ 32 → get_or (set l i v) r 0 < 2 ^ 32
set_fits [] i v r h f = h r
set_fits (x ∷ l) zero v zero h f = f
set_fits (x ∷ l) zero v (suc r) h f = h (suc r)
set_fits (x ∷ l) (suc i) v zero h f = h 0
set_fits (x ∷ l) (suc i) v (suc r) h f = set_fits l i v r (λ k. h (suc k)) f

chosen : (h : Hart) (rd v : ℕ) (b : Bool) → (b ≡ false → zero ≢ rd) → IsHart h → v < 2 ^ 32 → IsHart (record { pc = h.pc; registers = cond b h.registers (slice_set h.registers rd v) })
chosen h rd v true other is fits = is
chosen h rd v false other is fits = record {
  even = is.even;
  address = is.address;
  count = length-set h.registers rd v ∙ is.count;
  words = λ r. set_fits h.registers rd v r is.words fits;
  zero = get_or-set_other h.registers rd 0 v 0 (other refl) ∙ is.zero;
}

pub register_is : (h : Hart) (rd v : ℕ) → IsHart h → v < 2 ^ 32 → IsHart (with_register h rd v)
register_is h rd v is fits = chosen h rd v (rd == 0) (λ e. grind arith) is fits

-- another register and another pc
pub moved_is : (h : Hart) (rd v pc : ℕ) → IsHart h → v < 2 ^ 32 → pc % 2 ≡ 0 → pc < 2 ^ 32 → IsHart (with_register (with_pc h pc) rd v)
moved_is h rd v pc is fits even address = register_is (with_pc h pc) rd v (pc_is h pc is even address) fits

-- ==== Memories that a step reads and makes.

-- ---- bytes that are written

pub stored_is : (m : Bytes) (at v : ℕ) (width : StoreWidth) → IsMemory m → IsMemory (stored m at (store_size width) v)
stored_is m at v Sb is = write_keeps_memory m _ _ is (omega arith) (omega arith)
stored_is m at v Sh is = write_keeps_memory _ _ _ (write_keeps_memory m _ _ is (omega arith) (omega arith)) (omega arith) (omega arith)
stored_is m at v Sw is =
    write_keeps_memory _ _ _ (write_keeps_memory _ _ _ (write_keeps_memory _ _ _ (write_keeps_memory m _ _ is (omega arith) (omega arith)) (omega arith) (omega arith)) (omega arith) (omega arith)) (omega arith) (omega arith)

-- ---- the number that is read

byte_more : (b n x : ℕ) → b < 256 → n < x → b + 256 * n < x * 256
byte_more b n x f g = omega arith

number_below : (bs : List ℕ) → ((k : ℕ) → k < length bs → slice_index bs k < 256) → number_of bs < 256 ^ length bs
number_below [] each = omega arith
number_below (b ∷ bs) each =
    rw pow-suc (byte_more b (number_of bs) (256 ^ length bs) (each 0 (omega arith)) (number_below bs (λ k h. each (suc k) (omega arith))))

number_fits : (m : Bytes) (at n : ℕ) (bs : List ℕ) → IsMemory m → bytes_at m (addresses at n) ≡ Some bs → number_of bs < 256 ^ n
number_fits m at n bs is e =
    let h = (read_is_held m at n bs).0 e in
    subst (λ (k : ℕ). number_of bs < 256 ^ k) h.count (number_below bs (λ k below. is.bytes _ _ (h.each k (omega (arith, below, h.count)))))

mapped : (o : Option (List ℕ)) (v b : ℕ) → ((bs : List ℕ) → o ≡ Some bs → number_of bs < b) → option_map number_of o ≡ Some v → v < b
mapped None v b f e = absurd (cc)
mapped (Some bs) v b f e = let same : number_of bs ≡ v = cc in subst (λ (x : ℕ). x < b) same (f bs refl)

pub loaded_fits : (m : Bytes) (at v : ℕ) (kind : LoadKind) → IsMemory m → loaded m at (load_size kind) ≡ Some v → v < 256 ^ load_size kind
loaded_fits m at v Lb is e = mapped _ v _ (λ bs. number_fits m at 1 bs is) e
loaded_fits m at v Lh is e = mapped _ v _ (λ bs. number_fits m at 2 bs is) e
loaded_fits m at v Lw is e = mapped _ v _ (λ bs. number_fits m at 4 bs is) e
loaded_fits m at v Lbu is e = mapped _ v _ (λ bs. number_fits m at 1 bs is) e
loaded_fits m at v Lhu is e = mapped _ v _ (λ bs. number_fits m at 2 bs is) e

-- ==== A byte that is written, from the definition of the map.

pub byte_at-insert : (m : Bytes) (a b q : ℕ) → byte_at (insert m a b) q ≡ cond (q == a) (Some b) (byte_at m q)
byte_at-insert m a b q = get-insert nat_cmp_total m a b q ∙ ap (λ (t : Bool). cond t (Some b) (byte_at m q)) (unsigned_tied q a)
