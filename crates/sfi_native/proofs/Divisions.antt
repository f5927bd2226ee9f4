-- Divisions: what eax has after them.
use Rattle.std.proofs.Common.{◌≡◌, ℕ, zero, suc, ◌+◌, ◌-◌, ◌*◌, ◌/◌, ◌%◌, ◌^◌, ◌<◌, ◌≤◌, ◌==◌, true, false, Some, List, [], ◌∷◌, ◌++◌, length, refl, sym, ap, ◌∙◌, subst, arith, inl, inr, ℤ, pos, negsuc, neg_ℤ, nat_lt, if◌then◌else◌, eqb-true}
use Rattle.std.specs.Option.{option_map}
use Rattle.std.specs.Prelude.{Bool, Ok, bit_and, int_div, int_rem, not}
use Rattle.std.specs.Int.{cast_unsigned, w32}
use Rattle.std.specs.Int.Bits.{and_self}
use Rattle.std.proofs.lemmas.Bool.{cases_Bool, cases_lt, false≢true, le-leb, le-ltb, lt-leb, lt-ltb}
use Rattle.std.proofs.lemmas.Int.{ints}
use Rattle.std.proofs.Math.Nat.{div-le_self, mod-le}
use Rattle.rv_word.specs.declared.instr.RegOp.TheVariants.{Div, Divu, Rem, Remu}
use Rattle.rv_step.specs.Step.{result_of, signed, word}
use Rattle.rv_step.proofs.States.{word_fits}
use Rattle.x86_instr.specs.declared.operand.Register.TheVariants.{Rax, Rcx, Rdx}
use Rattle.x86_instr.specs.declared.operand.Operand.TheVariants.{Reg}
use Rattle.x86_instr.specs.declared.instr.Width.TheVariants.{Dword, Qword}
use Rattle.x86_instr.specs.declared.instr.UnaryOp.TheVariants.{Neg}
use Rattle.x86_instr.specs.declared.instr.DivideOp.TheVariants as divide
use Rattle.x86_instr.specs.declared.instr.Condition.TheVariants.{Equal, NotEqual}
use Rattle.x86_instr.specs.declared.instr.Instr.{Instr as Native}
use Rattle.x86_instr.specs.declared.instr.Instr.TheVariants.{Mov, MovImm, Unary}
unfoldable use Rattle.x86_instr.specs.Spelling.{spelling, rex}
use Rattle.x86_step.specs.declared.machine.Flags.{Flags}
use Rattle.x86_step.specs.State.{Core, with_flags, with_register}
use Rattle.x86_step.specs.Step.{difference, fits, is_met, is_negative, logical, low, parts, signed as signed_of, unknown}
unfoldable use Rattle.x86_step.specs.Step.{computes}
use Rattle.x86_step.specs.Running.{is_straight, spellings}
use Rattle.sfi_native.specs.Code.{avoid_minus_one, avoid_zero, compare_divisor, divide_by_one, divide_signed, divide_unsigned, remainder, test_divisor, unless}
use Rattle.sfi_native.proofs.Arithmetic.{equal_is, low_is}
use Rattle.sfi_native.proofs.Kept.{Computed, Kept, behind, kept_flags, kept_join, kept_register}
use Rattle.sfi_native.proofs.Runs.{Runs, into, over, runs_join, straight_runs}

-- ==== Quotients that fit.

fits_plus : (n : ℕ) → n < 2 ^ 31 → fits Dword (pos n) ≡ true
fits_plus n small = rw (lt-ltb n (2 ^ 31) small) refl

fits_minus : (n : ℕ) → n ≤ 2 ^ 31 → fits Dword (neg_ℤ (pos n)) ≡ true
fits_minus zero small = refl
fits_minus (suc n) small = rw (le-leb n (2 ^ 31 - 1) (omega (arith, small))) refl

-- halved at least
halved_below : (a b : ℕ) → suc a ≤ 2 ^ 31 → suc a / suc (suc b) < 2 ^ 31
halved_below a b small = omega (arith, small)

-- a dividend and a divisor of 32 bits, whose quotient fits
data AreDivided : ℤ → ℤ → Type 0 where
  plus_plus : (a b : ℕ) → a < 2 ^ 31 → AreDivided (pos a) (pos b)
  plus_minus : (a b : ℕ) → a < 2 ^ 31 → AreDivided (pos a) (negsuc b)
  minus_plus : (a b : ℕ) → a < 2 ^ 31 → AreDivided (negsuc a) (pos b)
  minus_minus : (a b : ℕ) → a < 2 ^ 31 → AreDivided (negsuc a) (negsuc (suc b))

quotient_fits : (z d : ℤ) → AreDivided z d → fits Dword (int_div z d) ≡ true
quotient_fits z d (plus_plus a b small) = fits_plus (a / b) (omega (arith, div-le_self a b, small))
quotient_fits z d (plus_minus a b small) = fits_minus (a / suc b) (omega (arith, div-le_self a (suc b), small))
quotient_fits z d (minus_plus a b small) = fits_minus (suc a / b) (omega (arith, div-le_self (suc a) b, small))
quotient_fits z d (minus_minus a b small) = fits_plus (suc a / suc (suc b)) (halved_below a b (omega (arith, small)))

signed_plus : (a : ℕ) → a < 2 ^ 31 → signed a ≡ pos a
signed_plus a plus = omega (arith, ints, plus)

signed_minus : (a : ℕ) → a < 2 ^ 32 → 2 ^ 31 ≤ a → signed a ≡ negsuc (2 ^ 32 - 1 - a)
signed_minus a small minus =
    let e : 2 ^ 32 - suc a ≡ 2 ^ 32 - 1 - a = omega (arith, small) in
    rw (le-ltb a (2 ^ 31) minus) (ap negsuc e)

are_divided : (a b : ℕ) → a < 2 ^ 32 → b < 2 ^ 32 → (b ≡ 2 ^ 32 - 1 → ⊥) → AreDivided (signed a) (signed b)
are_divided a b fa fb other = elim (cases_lt a (2 ^ 31)) [
  | inl p ↦ elim (cases_lt b (2 ^ 31)) [
    | inl q ↦ rw (signed_plus a p, signed_plus b q) (plus_plus a b p)
    | inr q ↦ rw (signed_plus a p, signed_minus b fb q) (plus_minus a (2 ^ 32 - 1 - b) p)
  ]
  | inr p ↦
      let k = 2 ^ 32 - 1 - a in
      let few : k < 2 ^ 31 = omega (arith, p, fa) in
      elim (cases_lt b (2 ^ 31)) [
        | inl q ↦ rw (signed_minus a fa p, signed_plus b q) (minus_plus k b few)
        | inr q ↦
            let n = 2 ^ 32 - 2 - b in
            let e : 2 ^ 32 - 1 - b ≡ suc n = omega (arith, fb, other) in
            rw (signed_minus a fa p, signed_minus b fb q, e) (minus_minus k n few)
      ]
]

-- ==== What a processor's division answers.

word_plus : (n : ℕ) → n ≤ 2 ^ 31 → cast_unsigned w32 (pos n) ≡ word (pos n)
word_plus n small = omega (arith, small)

word_minus : (n : ℕ) → n ≤ 2 ^ 31 → cast_unsigned w32 (neg_ℤ (pos n)) ≡ word (neg_ℤ (pos n))
word_minus zero small = refl
word_minus (suc n) small = omega (arith, small)

quotient_word : (z d : ℤ) → AreDivided z d → cast_unsigned w32 (int_div z d) ≡ word (int_div z d)
quotient_word z d (plus_plus a b small) = word_plus (a / b) (omega (arith, div-le_self a b, small))
quotient_word z d (plus_minus a b small) = word_minus (a / suc b) (omega (arith, div-le_self a (suc b), small))
quotient_word z d (minus_plus a b small) = word_minus (suc a / b) (omega (arith, div-le_self (suc a) b, small))
quotient_word z d (minus_minus a b small) = word_plus (suc a / suc (suc b)) (omega (arith, div-le_self (suc a) (suc (suc b)), small))

rest_word : (z d : ℤ) → AreDivided z d → cast_unsigned w32 (int_rem z d) ≡ word (int_rem z d)
rest_word z d (plus_plus a b small) = word_plus (a % b) (omega (arith, mod-le a b, small))
rest_word z d (plus_minus a b small) = word_plus (a % suc b) (omega (arith, mod-le a (suc b), small))
rest_word z d (minus_plus a b small) = word_minus (suc a % b) (omega (arith, mod-le (suc a) b, small))
rest_word z d (minus_minus a b small) = word_minus (suc a % suc (suc b)) (omega (arith, mod-le (suc a) (suc (suc b)), small))

-- edx has the sign of eax
dividend_is : (a : ℕ) → a < 2 ^ 32 → signed_of Qword (low Dword (if is_negative Dword a then 2 ^ 32 - 1 else 0) * 2 ^ 32 + a) ≡ signed a
dividend_is a small = elim (cases_lt a (2 ^ 31)) [
  | inl plus ↦ rw (lt-leb (2 ^ 31) a plus) (omega (arith, ints, plus))
  | inr minus ↦
      let x = low Dword (2 ^ 32 - 1) * 2 ^ 32 + a in
      rw (le-leb (2 ^ 31) a minus, signed_minus a small minus, le-ltb x (2 ^ 63) (omega (arith, minus))) (ap negsuc (omega (arith, small)))
]

signed_parts : (a b : ℕ) → a < 2 ^ 32 → b < 2 ^ 32 → b == 0 ≡ false → (b ≡ 2 ^ 32 - 1 → ⊥)
    → parts divide.Idiv (low Dword (if is_negative Dword a then 2 ^ 32 - 1 else 0) * 2 ^ 32 + a) b ≡ Some (word (int_div (signed a) (signed b)), word (int_rem (signed a) (signed b)))
signed_parts a b fa fb some other =
    let are = are_divided a b fa fb other in
    rw (some, dividend_is a fa, quotient_fits (signed a) (signed b) are, quotient_word (signed a) (signed b) are, rest_word (signed a) (signed b) are) refl

unsigned_parts : (a b : ℕ) → a < 2 ^ 32 → b == 0 ≡ false → parts divide.Div (low Dword 0 * 2 ^ 32 + a) b ≡ Some (a / b, a % b)
unsigned_parts a b fa some =
    let e : low Dword 0 * 2 ^ 32 + a ≡ a = omega arith in
    rw (some, e, lt-ltb (a / b) (2 ^ 32) (omega (arith, fa, div-le_self a b))) refl

-- eax has the quotient, edx the remainder
pub record Divided (is : List Native) (c : Core) (q r : ℕ) : Type 0 where
  pub after : Core
  pub runs : Runs is c after
  pub quotient : after.registers 0 ≡ q
  pub rest : after.registers 2 ≡ r
  pub kept : Kept c after

divides_unsigned : (c : Core) → c.registers 0 < 2 ^ 32 → c.registers 1 < 2 ^ 32 → c.registers 1 == 0 ≡ false
    → Divided divide_unsigned c (c.registers 0 / c.registers 1) (c.registers 0 % c.registers 1)
unfolding computes
divides_unsigned c fa fb some =
    let a = c.registers 0 in
    let b = c.registers 1 in
    let k1 = with_register c 2 0 in
    let k2 = with_register k1 0 (a / b) in
    let k3 = with_register k2 2 (a % b) in
    record {
      after = with_flags k3 unknown;
      runs = straight_runs divide_unsigned c (with_flags k3 unknown) refl (rw (low_is a fa, low_is b fb, unsigned_parts a b fa some) refl);
      quotient = refl;
      rest = refl;
      kept = kept_join c k3 (with_flags k3 unknown) (kept_join c k2 k3 (kept_join c k1 k2 (kept_register c 2 0 (omega arith)) (kept_register k1 0 (a / b) (omega arith))) (kept_register k2 2 (a % b) (omega arith))) (kept_flags k3 unknown);
    }

divides_signed : (c : Core) → c.registers 0 < 2 ^ 32 → c.registers 1 < 2 ^ 32 → c.registers 1 == 0 ≡ false → (c.registers 1 ≡ 2 ^ 32 - 1 → ⊥)
    → Divided divide_signed c (word (int_div (signed (c.registers 0)) (signed (c.registers 1)))) (word (int_rem (signed (c.registers 0)) (signed (c.registers 1))))
unfolding computes
divides_signed c fa fb some other =
    let a = c.registers 0 in
    let b = c.registers 1 in
    let q = word (int_div (signed a) (signed b)) in
    let r = word (int_rem (signed a) (signed b)) in
    let e = if is_negative Dword a then 2 ^ 32 - 1 else 0 in
    let k1 = with_register c 2 e in
    let k2 = with_register k1 0 q in
    let k3 = with_register k2 2 r in
    record {
      after = with_flags k3 unknown;
      runs = straight_runs divide_signed c (with_flags k3 unknown) refl (rw (low_is a fa, low_is b fb, signed_parts a b fa fb some other) refl);
      quotient = refl;
      rest = refl;
      kept = kept_join c k3 (with_flags k3 unknown) (kept_join c k2 k3 (kept_join c k1 k2 (kept_register c 2 e (omega arith)) (kept_register k1 0 q (omega arith))) (kept_register k2 2 r (omega arith))) (kept_flags k3 unknown);
    }

quotient_computed : (c : Core) (is : List Native) (q r : ℕ) → Divided is c q r → Computed is c q
quotient_computed c is q r d = record { after = d.after; runs = d.runs; result = d.quotient; kept = d.kept }

-- the remainder goes to eax
rest_computed : (c : Core) (is : List Native) (q r : ℕ) → Divided is c q r → r < 2 ^ 32 → Computed (is ++ (Mov Dword Rax (Reg Rdx) ∷ [])) c r
unfolding computes
rest_computed c is q r d small =
    let v = low Dword (d.after.registers 2) in
    let k = with_register d.after 0 v in
    record {
      after = k;
      runs = runs_join is (Mov Dword Rax (Reg Rdx) ∷ []) c d.after k d.runs (straight_runs (Mov Dword Rax (Reg Rdx) ∷ []) d.after k refl refl);
      result = ap (low Dword) d.rest ∙ low_is r small;
      kept = kept_join c d.after k d.kept (kept_register d.after 0 v (omega arith));
    }

-- ==== Divisors without a division.

zero_met : (b : ℕ) → b < 2 ^ 32 → is_met Equal (logical Dword (bit_and (low Dword b) (low Dword b))).flags ≡ Some (b == 0)
zero_met b small = rw (low_is b small, and_self b) refl

minus_met : (b : ℕ) → b < 2 ^ 32 → is_met NotEqual (difference Dword (low Dword b) (2 ^ 32 - 1)).flags ≡ Some (not (b == (2 ^ 32 - 1)))
minus_met b small = ap (λ x. is_met NotEqual (difference Dword x (2 ^ 32 - 1)).flags) (low_is b small) ∙ ap (λ t. Some (not t)) (equal_is b (2 ^ 32 - 1) small (omega arith))

not_zero : (b : ℕ) → b == 0 ≡ false → b ≡ 0 → ⊥
not_zero b some e = false≢true (sym some ∙ ap (λ x. x == 0) e)

-- with other values in eax and ecx
kept_two : (c : Core) (f : Flags) (a b : ℕ) → Kept c (with_register (with_register (with_flags c f) 0 a) 1 b)
kept_two c f a b =
    let k1 = with_flags c f in
    let k2 = with_register k1 0 a in
    let k3 = with_register k2 1 b in
    kept_join c k2 k3 (kept_join c k1 k2 (kept_flags c f) (kept_register k1 0 a (omega arith))) (kept_register k2 1 b (omega arith))

module _ (c : Core) (fa : c.registers 0 < 2 ^ 32) (fb : c.registers 1 < 2 ^ 32) where
  abbrev a : ℕ
  a = c.registers 0

  abbrev b : ℕ
  b = c.registers 1

  abbrev tested_flags : Flags
  tested_flags = (logical Dword (bit_and (low Dword b) (low Dword b))).flags

  abbrev compared_flags : Flags
  compared_flags = (difference Dword (low Dword b) (2 ^ 32 - 1)).flags

  zero_unmet : is_met NotEqual tested_flags ≡ Some (not (b == 0))
  zero_unmet = ap (option_map not) (zero_met b fb)

  -- instructions that are done where the divisor is one without a division, and the rest
  branched : (test : Native) (is rest : List Native) (v : ℕ) (f : Flags) (d : Core) (t : Bool) → is_straight test ≡ true → computes test c ≡ Ok (with_flags c f)
      → nat_lt (length (spellings is)) (2 ^ 31) ≡ true → is_met NotEqual f ≡ Some (not t) → Runs is (with_flags c f) d → Kept c d
      → (t ≡ true → Computed rest d v) → (t ≡ false → Computed rest (with_flags c f) v) → Computed ((test ∷ unless NotEqual is) ++ rest) c v
  branched test is rest v f d true straight tests few met runs kept if_so if_not =
      behind c d (test ∷ unless NotEqual is) rest v (into test NotEqual is c (with_flags c f) straight tests few d met runs) kept (if_so refl)
  branched test is rest v f d false straight tests few met runs kept if_so if_not =
      behind c (with_flags c f) (test ∷ unless NotEqual is) rest v (over test NotEqual is c (with_flags c f) straight tests few met) (kept_flags c f) (if_not refl)

  -- a remainder, where the divisor isn't 0
  rest_of : (division : List Native) (v : ℕ) → nat_lt (length (spellings (division ++ (Mov Dword Rax (Reg Rdx) ∷ [])))) (2 ^ 31) ≡ true
      → (b == 0 ≡ true → a ≡ v) → (b == 0 ≡ false → Computed (division ++ (Mov Dword Rax (Reg Rdx) ∷ [])) (with_flags c tested_flags) v)
      → Computed (remainder division) c v
  unfolding computes
  rest_of division v few zero_is other = elim (cases_Bool (b == 0)) [
    | inl e ↦ record {
      after = with_flags c tested_flags;
      runs = over test_divisor Equal (division ++ (Mov Dword Rax (Reg Rdx) ∷ [])) c (with_flags c tested_flags) refl refl few (zero_met b fb ∙ ap Some e);
      result = zero_is e;
      kept = kept_flags c tested_flags;
    }
    | inr e ↦
        let done = other e in
        record {
          after = done.after;
          runs = into test_divisor Equal (division ++ (Mov Dword Rax (Reg Rdx) ∷ [])) c (with_flags c tested_flags) refl refl few done.after (zero_met b fb ∙ ap Some e) done.runs;
          result = done.result;
          kept = kept_join c (with_flags c tested_flags) done.after (kept_flags c tested_flags) done.kept;
        }
  ]

  -- ---- unsigned

  pub remainder_unsigned : Computed (remainder divide_unsigned) c (result_of Remu a b)
  unfolding spelling rex
  remainder_unsigned =
      let k = with_flags c tested_flags in
      rest_of divide_unsigned (result_of Remu a b) refl (λ e. rw e refl) (λ e.
      subst (λ v. Computed (divide_unsigned ++ (Mov Dword Rax (Reg Rdx) ∷ [])) k v) (rw e refl)
      (rest_computed k divide_unsigned (a / b) (a % b) (divides_unsigned k fa fb e) (omega (arith, fa, mod-le a b))))

  abbrev one_core : Core
  one_core = with_register (with_register (with_flags c tested_flags) 0 (2 ^ 32 - 1)) 1 1

  zero_avoided : (rest : List Native) (v : ℕ) → (b == 0 ≡ true → Computed rest one_core v) → (b == 0 ≡ false → Computed rest (with_flags c tested_flags) v)
      → Computed (avoid_zero ++ rest) c v
  unfolding spelling rex computes
  zero_avoided rest v if_so if_not =
      let is = MovImm Rax (2 ^ 32 - 1) ∷ MovImm Rcx 1 ∷ [] in
      branched test_divisor is rest v tested_flags one_core (b == 0) refl refl refl zero_unmet (straight_runs is (with_flags c tested_flags) one_core refl refl)
      (kept_two c tested_flags (2 ^ 32 - 1) 1) if_so if_not

  pub divided_unsigned : Computed (avoid_zero ++ divide_unsigned) c (result_of Divu a b)
  divided_unsigned =
      let k = with_flags c tested_flags in
      zero_avoided divide_unsigned (result_of Divu a b)
      (λ e. subst (λ v. Computed divide_unsigned one_core v) (rw e refl)
      (quotient_computed one_core divide_unsigned (2 ^ 32 - 1) 0 (divides_unsigned one_core (omega arith) (omega arith) refl)))
      (λ e. subst (λ v. Computed divide_unsigned k v) (rw e refl) (quotient_computed k divide_unsigned (a / b) (a % b) (divides_unsigned k fa fb e)))

-- ==== With a sign.

-- the quotient by -1 is that of the negated number by 1
negated_is : (a : ℕ) → a < 2 ^ 32 → word (int_div (signed (low Dword (0 + (2 ^ 32 - a)))) (signed 1)) ≡ word (int_div (signed a) (signed (2 ^ 32 - 1)))
negated_is zero small = refl
negated_is (suc k) small =
    let n = 2 ^ 32 - suc k in
    let e : low Dword (0 + (2 ^ 32 - suc k)) ≡ n = omega (arith, small) in
    elim (cases_lt (suc k) (2 ^ 31)) [
      | inl plus ↦
          let m : 2 ^ 32 - 1 - n ≡ k = omega (arith, plus) in
          rw (e, signed_plus (suc k) plus, signed_minus n (omega arith) (omega (arith, plus)), m) refl
      | inr minus ↦ elim (cases_lt n (2 ^ 31)) [
        | inl q ↦ rw (e, signed_minus (suc k) small minus, signed_plus n q) (omega (arith, small))
        | inr q ↦
            let h : n ≡ 2 ^ 31 = omega (arith, q, minus) in
            let m : 2 ^ 32 - 1 - suc k ≡ 2 ^ 31 - 1 = omega (arith, q, minus) in
            rw (e, signed_minus (suc k) small minus, h, m) refl
      ]
    ]

-- the remainders by 1 and by -1 are one
rest_by_one : (z : ℤ) → int_rem z (pos 1) ≡ int_rem z (negsuc 0)
rest_by_one (pos n) = refl
rest_by_one (negsuc n) = refl

module _ (c : Core) (fa : c.registers 0 < 2 ^ 32) (fb : c.registers 1 < 2 ^ 32) where
  abbrev flags : Flags
  flags = (difference Dword (low Dword (c.registers 1)) (2 ^ 32 - 1)).flags

  abbrev negated : ℕ
  negated = low Dword (0 + (2 ^ 32 - low Dword (c.registers 0)))

  abbrev negated_core : Core
  negated_core = with_register (with_flags (with_register (with_flags c flags) 0 negated) (difference Dword 0 (low Dword (c.registers 0))).flags) 1 1

  negated_kept : Kept c negated_core
  negated_kept =
      let k1 = with_flags c flags in
      let k2 = with_register k1 0 negated in
      let k3 = with_flags k2 (difference Dword 0 (low Dword (c.registers 0))).flags in
      kept_join c k3 negated_core (kept_join c k2 k3 (kept_join c k1 k2 (kept_flags c flags) (kept_register k1 0 negated (omega arith))) (kept_flags k2 _)) (kept_register k3 1 1 (omega arith))

  minus_avoided : c.registers 1 == 0 ≡ false → Computed (avoid_minus_one ++ divide_signed) c (word (int_div (signed (c.registers 0)) (signed (c.registers 1))))
  unfolding spelling rex computes
  minus_avoided some =
      let a = c.registers 0 in
      let b = c.registers 1 in
      let k = with_flags c flags in
      let is = Unary Neg (Reg Rax) ∷ MovImm Rcx 1 ∷ [] in
      branched c fa fb compare_divisor is divide_signed (word (int_div (signed a) (signed b))) flags negated_core (b == (2 ^ 32 - 1)) refl refl refl (minus_met b fb)
      (straight_runs is k negated_core refl refl) negated_kept
      (λ e.
      let same : word (int_div (signed negated) (signed 1)) ≡ word (int_div (signed a) (signed b)) =
      ap (λ x. word (int_div (signed (low Dword (0 + (2 ^ 32 - x)))) (signed 1))) (low_is a fa) ∙ negated_is a fa
      ∙ ap (λ x. word (int_div (signed a) (signed x))) (sym (eqb-true b (2 ^ 32 - 1) e)) in
      subst (λ v. Computed divide_signed negated_core v) same
      (quotient_computed negated_core divide_signed _ _ (divides_signed negated_core (omega arith) (omega arith) refl (λ x. omega (arith, x)))))
      (λ e. quotient_computed k divide_signed _ _ (divides_signed k fa fb some (λ x. false≢true (sym e ∙ ap (λ y. y == (2 ^ 32 - 1)) x))))

  rest_signed : (c.registers 1 ≡ 2 ^ 32 - 1 → ⊥) → Computed (remainder divide_signed) c (result_of Rem (c.registers 0) (c.registers 1))
  unfolding spelling rex
  rest_signed other =
      let a = c.registers 0 in
      let b = c.registers 1 in
      let k = with_flags c (logical Dword (bit_and (low Dword b) (low Dword b))).flags in
      rest_of c fa fb divide_signed (result_of Rem a b) refl (λ e. rw e refl) (λ e.
      subst (λ v. Computed (divide_signed ++ (Mov Dword Rax (Reg Rdx) ∷ [])) k v) (rw e refl)
      (rest_computed k divide_signed _ _ (divides_signed k fa fb e other) (word_fits (int_rem (signed a) (signed b)))))

module _ (c : Core) (fa : c.registers 0 < 2 ^ 32) (fb : c.registers 1 < 2 ^ 32) where
  pub divided_signed : Computed (avoid_zero ++ (avoid_minus_one ++ divide_signed)) c (result_of Div (c.registers 0) (c.registers 1))
  divided_signed =
      let k = with_flags c (tested_flags c fa fb) in
      let one = one_core c fa fb in
      zero_avoided c fa fb (avoid_minus_one ++ divide_signed) (result_of Div (c.registers 0) (c.registers 1))
      (λ e. subst (λ v. Computed (avoid_minus_one ++ divide_signed) one v) (rw e refl) (minus_avoided one (omega arith) (omega arith) refl))
      (λ e. subst (λ v. Computed (avoid_minus_one ++ divide_signed) k v) (rw e refl) (minus_avoided k fa fb e))

  pub remainder_signed : Computed (divide_by_one ++ remainder divide_signed) c (result_of Rem (c.registers 0) (c.registers 1))
  unfolding spelling rex computes
  remainder_signed =
      let a = c.registers 0 in
      let b = c.registers 1 in
      let f = flags c fa fb in
      let k = with_flags c f in
      let one = with_register k 1 1 in
      let is = MovImm Rcx 1 ∷ [] in
      branched c fa fb compare_divisor is (remainder divide_signed) (result_of Rem a b) f one (b == (2 ^ 32 - 1)) refl refl refl (minus_met b fb)
      (straight_runs is k one refl refl) (kept_join c k one (kept_flags c f) (kept_register k 1 1 (omega arith)))
      (λ e.
      let same : result_of Rem a 1 ≡ result_of Rem a b = ap word (rest_by_one (signed a)) ∙ ap (result_of Rem a) (sym (eqb-true b (2 ^ 32 - 1) e)) in
      subst (λ v. Computed (remainder divide_signed) one v) same (rest_signed one fa (omega arith) (λ x. omega (arith, x))))
      (λ e. rest_signed k fa fb (λ x. false≢true (sym e ∙ ap (λ y. y == (2 ^ 32 - 1)) x)))
