-- What the decoder and the encoder compute is the table, and the outline is a halfword's.
use Rattle.rv_comp.specs.mirror.{first_form, first_addi, upper_value, outlined}
use Rattle.rv_comp.proofs.Table.{same, same_int, same-true, all_below, all_below_at, tables, spells, all_read, does}
use Rattle.rv_comp.proofs.Ranges.{signed_at, at_unsigned, at_signed}
use Rattle.rv_word.specs.Outlines.{outline}
use Rattle.rv_word.specs.declared.outline.Outline.{Outline}
use Rattle.std.specs.Option.{option_map}
use Rattle.rv_comp.proofs.Prelude.{◌≡◌, subst, ℕ, ◌+◌, ◌-◌, ◌*◌, ◌^◌, ◌<◌, Bool, true, false, not, ◌&&◌, ◌==◌, refl, ap, sym, Option, Some, None, pos, ℤ, arith, and_parts, ltb-true, nat_lt, nat_le, halfword_of, allowed, expansion, place, is_reg, is_short_reg, is_unsigned, is_signed, is_not_zero, decoded, Form16, CAddi4spn, CLw, CSw, CAddi, CJal, CLi, CAddi16sp, CLui, CSrli, CSrai, CAndi, CSub, CXor, COr, CAnd, CJ, CBeqz, CBnez, CSlli, CLwsp, CJr, CJalr, CMv, CAdd, CEbreak, CSwsp, ◌∙◌, eqb-true, IfSome, IsHalfwordOf, Instr, IsShortSpelling, IsHalfwordThat}

-- ==== What the code computes agrees with the table on each form that its row allows, by computation over the row's values.

is_some_of : Option Form16 → Form16 → Bool
is_some_of None f = false
is_some_of (Some g) f = same g f

is_some_of-true : (o : Option Form16) (f : Form16) → is_some_of o f ≡ true → o ≡ Some f
unfolding is_some_of
is_some_of-true None f h = cc
is_some_of-true (Some g) f h = ap Some (same-true g f h)

-- the first form of what f expands to is f's or in an earlier row
unfoldable pub leads_to : Option Form16 → Form16 → Bool
leads_to None g = false
leads_to (Some f) g = nat_le (place f) (place g)

unfoldable pub leads : Form16 → Bool
leads g = leads_to (first_form (expansion g)) g

-- where the row allows f, its halfword decodes to it, and its expansion's first form isn't in a later row
answers : Form16 → Bool
answers f = elim (allowed f) [ true ↦ is_some_of (decoded (halfword_of f)) f && leads f | false ↦ true ]

-- what the code computes for f is what the table says
pub record Agrees (f : Form16) : Type 0 where
  pub decodes : decoded (halfword_of f) ≡ Some f
  pub first : leads f ≡ true

agrees : (f : Form16) → allowed f ≡ true → answers f ≡ true → Agrees f
unfolding answers
agrees f a h =
    let k = rw (answers, a) at h in
    let p = and_parts (is_some_of (decoded (halfword_of f)) f) (leads f) k in
    record { decodes = is_some_of-true (decoded (halfword_of f)) f p.0; first = p.1 }

-- ---- the values of a field, counted

-- a kind of field: what a row asks of it, and whether each such value passes a test, which computes
record Kind (A : Type 0) : Type 0 where
  holds : A → Bool
  each : (A → Bool) → Bool
  at : (p : A → Bool) → each p ≡ true → (x : A) → holds x ≡ true → p x ≡ true

abbrev short : Kind ℕ
short = record {
  holds = is_short_reg;
  each = λ p. all_below p 16;
  at = λ p box r h. all_below_at p 16 r box (ltb-true r 16 (and_parts (nat_le 8 r) (nat_lt r 16) h).1);
}

abbrev long : Kind ℕ
long = record { holds = is_reg; each = λ p. all_below p 32; at = λ p box r h. all_below_at p 32 r box (ltb-true r 32 h) }

-- the s multiples of m in n bits
abbrev unsigned : (n m s : ℕ) → 0 < m → s * m ≡ 2 ^ n → Kind ℤ
unsigned n m s lt e = record {
  holds = is_unsigned n m;
  each = λ p. all_below (λ j. p (pos (m * j))) s;
  at = λ p box i h.
      let a = at_unsigned n m s lt e i h in
      subst (λ (z : ℤ). p z ≡ true) (sym a.is) (all_below_at (λ j. p (pos (m * j))) s a.index box a.below);
}

abbrev signed : (n m s : ℕ) → 0 < m → s * m ≡ 2 ^ n → 2 ^ (n - 1) + 2 ^ (n - 1) ≡ 2 ^ n → Kind ℤ
signed n m s lt e two = record {
  holds = is_signed n m;
  each = λ p. all_below (λ j. p (signed_at n m j)) s;
  at = λ p box i h.
      let a = at_signed n m s lt e two i h in
      subst (λ (z : ℤ). p z ≡ true) (sym a.is) (all_below_at (λ j. p (signed_at n m j)) s a.index box a.below);
}

-- the items of a kind that pass another test, too
abbrev only : {A : Type 0} → (A → Bool) → Kind A → Kind A
only q a = record { holds = λ x. a.holds x && q x; each = a.each; at = λ p box x h. a.at p box x (and_parts (a.holds x) (q x) h).0 }

abbrev not_stack : Kind ℕ
not_stack = only (λ d. not (d == 2)) long

abbrev positive : Kind ℕ
positive = only (nat_lt 0) long

abbrev stack_address : Kind ℤ
stack_address = unsigned 10 4 256 (omega arith) refl

abbrev word : Kind ℤ
word = unsigned 7 4 32 (omega arith) refl

abbrev shift : Kind ℤ
shift = unsigned 5 1 32 (omega arith) refl

abbrev on_stack : Kind ℤ
on_stack = unsigned 8 4 64 (omega arith) refl

abbrev six : Kind ℤ
six = signed 6 1 64 (omega arith) refl refl

abbrev jump : Kind ℤ
jump = signed 12 2 2048 (omega arith) refl refl

abbrev branch : Kind ℤ
branch = signed 9 2 256 (omega arith) refl refl

abbrev upper : Kind ℤ
upper = signed 18 4096 64 (omega arith) refl refl

-- ---- rows by the kinds of their fields

abbrev All : {A : Type 0} → Kind A → (A → Form16) → Type 0
All a k = a.each (λ x. answers (k x)) ≡ true

abbrev All2 : {A B : Type 0} → Kind A → Kind B → (A → B → Form16) → Type 0
All2 a b k = a.each (λ x. b.each (λ y. answers (k x y))) ≡ true

abbrev All3 : {A B C : Type 0} → Kind A → Kind B → Kind C → (A → B → C → Form16) → Type 0
All3 a b c k = a.each (λ x. b.each (λ y. c.each (λ z. answers (k x y z)))) ≡ true

of_one : {A : Type 0} (a : Kind A) (k : A → Form16) → All a k → (x : A) → a.holds x ≡ true → allowed (k x) ≡ true → Agrees (k x)
of_one a k box x is h = agrees (k x) h (a.at (λ x. answers (k x)) box x is)

of_two : {A B : Type 0} (a : Kind A) (b : Kind B) (k : A → B → Form16) → All2 a b k
    → (x : A) (y : B) → a.holds x && b.holds y ≡ true → allowed (k x y) ≡ true → Agrees (k x y)
of_two a b k box x y are h =
    let p = and_parts (a.holds x) (b.holds y) are in
    of_one b (k x) (a.at (λ x. b.each (λ y. answers (k x y))) box x p.0) y p.1 h

of_three : {A B C : Type 0} (a : Kind A) (b : Kind B) (c : Kind C) (k : A → B → C → Form16) → All3 a b c k
    → (x : A) (y : B) (z : C) → a.holds x && b.holds y && c.holds z ≡ true → allowed (k x y z) ≡ true → Agrees (k x y z)
of_three a b c k box x y z are h =
    let p = and_parts (a.holds x && b.holds y) (c.holds z) are in
    let q = and_parts (a.holds x) (b.holds y) p.0 in
    of_one c (k x y) (b.at (λ y. c.each (λ z. answers (k x y z))) (a.at (λ x. b.each (λ y. c.each (λ z. answers (k x y z)))) box x q.0) y q.1) z p.1 h

-- one name to unfold where a proof computes with the code
boxes : Unit {0}
unfolding tables answers is_some_of same same_int signed_at leads_to leads first_form first_addi upper_value
boxes = tt

-- the rows with most values, of which a declaration can compute two at most
box_stack_address : All2 short stack_address CAddi4spn
unfolding boxes
box_stack_address = refl

box_lw : All3 short short word (λ s d i. CLw d s i)
unfolding boxes
box_lw = refl

box_sw : All3 short short word CSw
unfolding boxes
box_sw = refl

box_six : All2 long six CAddi × All2 long six CLi
unfolding boxes
box_six = (refl, refl)

box_jump : All jump CJal × All jump CJ
unfolding boxes
box_jump = (refl, refl)

box_branch : All2 short branch CBeqz × All2 short branch CBnez
unfolding boxes
box_branch = (refl, refl)

box_on_stack : All2 positive on_stack CLwsp × All2 long on_stack CSwsp
unfolding boxes
box_on_stack = (refl, refl)

box_upper : All2 not_stack upper CLui
unfolding boxes
box_upper = refl

-- what the code computes agrees with the table on each form that its row allows
pub agreed : (f : Form16) → allowed f ≡ true → Agrees f
unfolding boxes
agreed (CAddi4spn d i) h = of_two short stack_address CAddi4spn box_stack_address d i (and_parts _ (is_not_zero i) h).0 h
agreed (CLw d s i) h = of_three short short word (λ s d i. CLw d s i) box_lw s d i h h
agreed (CSw s t i) h = of_three short short word CSw box_sw s t i h h
agreed (CAddi d i) h = of_two long six CAddi box_six.0 d i h h
agreed (CJal i) h = of_one jump CJal box_jump.0 i h h
agreed (CLi d i) h = of_two long six CLi box_six.1 d i h h
agreed (CAddi16sp i) h = of_one (only is_not_zero (signed 10 16 64 (omega arith) refl refl)) CAddi16sp refl i h h
agreed (CLui d i) h = of_two not_stack upper CLui box_upper d i (and_parts _ (is_not_zero i) h).0 h
agreed (CSrli d i) h = of_two short shift CSrli refl d i h h
agreed (CSrai d i) h = of_two short shift CSrai refl d i h h
agreed (CAndi d i) h = of_two short six CAndi refl d i h h
agreed (CSub d t) h = of_two short short CSub refl d t h h
agreed (CXor d t) h = of_two short short CXor refl d t h h
agreed (COr d t) h = of_two short short COr refl d t h h
agreed (CAnd d t) h = of_two short short CAnd refl d t h h
agreed (CJ i) h = of_one jump CJ box_jump.1 i h h
agreed (CBeqz s i) h = of_two short branch CBeqz box_branch.0 s i h h
agreed (CBnez s i) h = of_two short branch CBnez box_branch.1 s i h h
agreed (CSlli d i) h = of_two long shift CSlli refl d i h h
agreed (CLwsp d i) h = of_two positive on_stack CLwsp box_on_stack.0 d i h h
agreed (CJr s) h = of_one positive CJr refl s h h
agreed (CJalr s) h = of_one positive CJalr refl s h h
agreed (CMv d t) h = of_two long long CMv refl d t (and_parts _ (nat_lt 0 t) h).0 h
agreed (CAdd d t) h = of_two long long CAdd refl d t (and_parts _ (nat_lt 0 t) h).0 h
agreed CEbreak h = agrees CEbreak h refl
agreed (CSwsp t i) h = of_two long on_stack CSwsp box_on_stack.1 t i h h

-- ==== What the decoder and the encoder compute is the table.

from_test : (h : ℕ) (o : Option Form16) → spells h o ≡ true → IfSome o (λ f. IsHalfwordOf h f)
unfolding spells
from_test h None e = tt
from_test h (Some f) e = let p = and_parts (allowed f) (h == halfword_of f) e in record { meets = p.0; spelled = eqb-true h (halfword_of f) p.1 }

pub decoded_found : (h : ℕ) → h < 2 ^ 16 → IfSome (decoded h) (λ f. IsHalfwordOf h f)
decoded_found h lt = from_test h (decoded h) (all_read h lt).spelled

pub decoded_only : (h : ℕ) (f : Form16) → IsHalfwordOf h f → decoded h ≡ Some f
decoded_only h f is = ap decoded is.spelled ∙ (agreed f is.meets).decodes

-- ==== What the outline tells of a halfword.

mapped_found : (h : ℕ) (o : Option Form16) → IfSome o (λ f. IsHalfwordOf h f) → IfSome (option_map does o) (IsHalfwordThat h)
mapped_found h (Some f) is = record { instr = expansion f; spelled = record { form = f; gives = is; expands = refl }; does = refl }
mapped_found h None is = tt

pub outlined_found : (h : ℕ) → h < 2 ^ 16 → IfSome (outlined h) (IsHalfwordThat h)
outlined_found h lt = subst (λ (o : Option Outline). IfSome o (IsHalfwordThat h)) (sym (all_read h lt).does_so) (mapped_found h (decoded h) (decoded_found h lt))

pub outlined_only : (h : ℕ) → h < 2 ^ 16 → (i : Instr) → IsShortSpelling h i → outlined h ≡ Some (outline i)
outlined_only h lt i is = (all_read h lt).does_so ∙ ap (λ (o : Option Form16). option_map does o) (decoded_only h is.form is.gives) ∙ ap (λ (j : Instr). Some (outline j)) is.expands
