-- The first form of an instruction is a form of it, and no earlier row has one.
use Rattle.rv_comp.proofs.Prelude.{◌≡◌, ℕ, zero, ◌*◌, ◌/◌, ◌^◌, ◌<◌, ℤ, pos, Bool, true, false, not, cond, ◌&&◌, ◌==◌, refl, ap, ap₂, subst, sym, ◌∙◌, Option, Some, None, arith, eqb-true, ◌⊎◌, inl, inr, and_parts, ltb-true, leb-true, IfSome, IfNone, IsTrue, nat_lt, w32, cast_unsigned, cast_signed, Instr, IsFirst, allowed, expansion, place, is_reg, is_signed, is_not_zero, Form16, CAddi4spn, CLw, CSw, CAddi, CJal, CLi, CAddi16sp, CLui, CSrli, CSrai, CAndi, CSub, CXor, COr, CAnd, CJ, CBeqz, CBnez, CSlli, CLwsp, CJr, CJalr, CMv, CAdd, CSwsp}
use Rattle.rv_comp.specs.mirror.{taken, first_form, first_addi, upper_value}
use Rattle.rv_word.specs.declared.instr.Cond.TheVariants.{Beq, Bne}
use Rattle.rv_word.specs.declared.instr.ImmOp.TheVariants.{Addi, Andi, Slli, Srli, Srai}
use Rattle.rv_word.specs.declared.instr.Instr.TheVariants.{Op, OpImm, Load, Store, Branch, Jal, Jalr, Lui, Ebreak}
use Rattle.rv_word.specs.declared.instr.LoadKind.TheVariants.{Lw}
use Rattle.rv_word.specs.declared.instr.RegOp.TheVariants.{Add, Sub, Xor, Or, And}
use Rattle.rv_word.specs.declared.instr.StoreWidth.TheVariants.{Sw}
use Rattle.std.proofs.lemmas.Int.{of_z-to_z}
use Rattle.rv_comp.proofs.Ranges.{signed_at, at_signed}
use Rattle.rv_comp.proofs.Table.{form, same_int, same_int-true, all_below, all_below_at}
use Rattle.rv_comp.proofs.Exact.{agreed, leads, leads_to}

pub record Gives (i : Instr) (f : Form16) : Type 0 where
  pub meets : allowed f ≡ true
  pub expands : expansion f ≡ i

from_taken : (i : Instr) (b : Bool) (f : Form16) (rest : Option Form16) → (b ≡ true → expansion f ≡ i) → IfSome rest (Gives i) → IfSome (taken b f rest) (Gives i)
from_taken i b f rest then otherwise = at (b && allowed f) refl
  where
    at : (t : Bool) → b && allowed f ≡ t → IfSome (cond t (Some f) rest) (Gives i)
    at true e = let p = and_parts b (allowed f) e in record { meets = p.1; expands = then p.0 }
    at false e = otherwise

upper_again : (n : ℕ) → n < 2 ^ 20 → cast_unsigned w32 (upper_value n) / 2 ^ 12 ≡ n
unfolding upper_value
upper_again n h =
    let l : n * 2 ^ 12 < 2 ^ 32 = omega arith in
    let e : cast_unsigned w32 (cast_signed w32 (n * 2 ^ 12)) ≡ n * 2 ^ 12 = of_z-to_z w32 (n * 2 ^ 12) l in
    ap (λ (v : ℕ). v / 2 ^ 12) e ∙ (let q : n * 2 ^ 12 / 2 ^ 12 ≡ n = omega arith in q)

same_reg : (k : ℕ → Instr) (a b : ℕ) → (a == b) ≡ true → k a ≡ k b
same_reg k a b h = ap k (eqb-true a b h)

gives_addi : (d s : ℕ) (i : ℤ) → IfSome (first_addi d s i) (Gives (OpImm Addi d s i))
unfolding first_addi
gives_addi d s i =
    from_taken _ (s == 2) (CAddi4spn d i) _ (λ h. sym (same_reg (λ r. OpImm Addi d r i) s 2 h))
    (from_taken _ (d == s) (CAddi d i) _ (λ h. same_reg (λ r. OpImm Addi d r i) d s h)
    (from_taken _ (s == 0) (CLi d i) _ (λ h. sym (same_reg (λ r. OpImm Addi d r i) s 0 h))
    (from_taken _ (d == 2 && s == 2) (CAddi16sp i) None
    (λ h. let p = and_parts (d == 2) (s == 2) h in sym (same_reg (λ r. OpImm Addi r s i) d 2 p.0 ∙ same_reg (λ r. OpImm Addi 2 r i) s 2 p.1)) tt)))

pub first_gives : (i : Instr) → IfSome (first_form i) (Gives i)
unfolding first_form
first_gives (OpImm Addi d s i) = gives_addi d s i
first_gives (OpImm Andi d s i) = from_taken _ (d == s) (CAndi d i) None (λ h. same_reg (λ r. OpImm Andi d r i) d s h) tt
first_gives (OpImm Slli d s i) = from_taken _ (d == s) (CSlli d i) None (λ h. same_reg (λ r. OpImm Slli d r i) d s h) tt
first_gives (OpImm Srli d s i) = from_taken _ (d == s) (CSrli d i) None (λ h. same_reg (λ r. OpImm Srli d r i) d s h) tt
first_gives (OpImm Srai d s i) = from_taken _ (d == s) (CSrai d i) None (λ h. same_reg (λ r. OpImm Srai d r i) d s h) tt
first_gives (Op Add d s t) =
    from_taken _ (s == 0) (CMv d t) _ (λ h. sym (same_reg (λ r. Op Add d r t) s 0 h))
    (from_taken _ (d == s) (CAdd d t) None (λ h. same_reg (λ r. Op Add d r t) d s h) tt)
first_gives (Op Sub d s t) = from_taken _ (d == s) (CSub d t) None (λ h. same_reg (λ r. Op Sub d r t) d s h) tt
first_gives (Op Xor d s t) = from_taken _ (d == s) (CXor d t) None (λ h. same_reg (λ r. Op Xor d r t) d s h) tt
first_gives (Op Or d s t) = from_taken _ (d == s) (COr d t) None (λ h. same_reg (λ r. Op Or d r t) d s h) tt
first_gives (Op And d s t) = from_taken _ (d == s) (CAnd d t) None (λ h. same_reg (λ r. Op And d r t) d s h) tt
first_gives (Load Lw d s i) =
    from_taken _ true (CLw d s i) _ (λ h. refl)
    (from_taken _ (s == 2) (CLwsp d i) None (λ h. sym (same_reg (λ r. Load Lw d r i) s 2 h)) tt)
first_gives (Store Sw s t i) =
    from_taken _ true (CSw s t i) _ (λ h. refl)
    (from_taken _ (s == 2) (CSwsp t i) None (λ h. sym (same_reg (λ r. Store Sw r t i) s 2 h)) tt)
first_gives (Jal d i) =
    from_taken _ (d == 1) (CJal i) _ (λ h. sym (same_reg (λ r. Jal r i) d 1 h))
    (from_taken _ (d == 0) (CJ i) None (λ h. sym (same_reg (λ r. Jal r i) d 0 h)) tt)
first_gives (Jalr d s (pos zero)) =
    from_taken _ (d == 0) (CJr s) _ (λ h. sym (same_reg (λ r. Jalr r s (pos 0)) d 0 h))
    (from_taken _ (d == 1) (CJalr s) None (λ h. sym (same_reg (λ r. Jalr r s (pos 0)) d 1 h)) tt)
first_gives (Branch Beq s t i) = from_taken _ (t == 0) (CBeqz s i) None (λ h. sym (same_reg (λ r. Branch Beq s r i) t 0 h)) tt
first_gives (Branch Bne s t i) = from_taken _ (t == 0) (CBnez s i) None (λ h. sym (same_reg (λ r. Branch Bne s r i) t 0 h)) tt
first_gives (Lui d n) = from_taken _ (nat_lt n (2 ^ 20)) (CLui d (upper_value n)) None (λ h. ap (Lui d) (upper_again n (ltb-true n (2 ^ 20) h))) tt
first_gives Ebreak = record { meets = refl; expands = refl }
first_gives _ = tt

leads_at : (g : Form16) (i : Instr) → IsTrue (allowed g) → expansion g ≡ i → leads_to (first_form i) g ≡ true
unfolding leads
leads_at g i a x = subst (λ (j : Instr). leads_to (first_form j) g ≡ true) x (agreed g a).first

-- where the first form is f, f is a form of i, and no value of an earlier row expands to i
first_found : (i : Instr) (o : Option Form16) → first_form i ≡ o → IfSome o (Gives i) → IfSome o (λ f. IsFirst i f)
unfolding leads_to
first_found i None e h = tt
first_found i (Some f) e h =
    record {
      meets = h.meets;
      expands = h.expands;
      first = λ g a x. leb-true (place f) (place g) (subst (λ (o : Option Form16). leads_to o g ≡ true) e (leads_at g i a x));
    }

first_none : (i : Instr) (o : Option Form16) → first_form i ≡ o → IfNone o ((f : Form16) → IsTrue (allowed f) → expansion f ≡ i → ⊥)
unfolding leads_to
first_none i None e = λ g a x. let no : false ≡ true = subst (λ (o : Option Form16). leads_to o g ≡ true) e (leads_at g i a x) in cc
first_none i (Some f) e = tt

pub form_found : (i : Instr) (o : Option Form16) → o ≡ first_form i → IfSome o (λ f. IsFirst i f)
form_found i o e = first_found i o (sym e) (subst (λ (p : Option Form16). IfSome p (Gives i)) (sym e) (first_gives i))

pub form_none : (i : Instr) (o : Option Form16) → o ≡ first_form i → IfNone o ((f : Form16) → IsTrue (allowed f) → expansion f ≡ i → ⊥)
form_none i o e = first_none i o (sym e)

-- the fields of the form of this row that expands to i
abbrev rd_of : Instr → ℕ
rd_of (Op _ d _ _) = d
rd_of (OpImm _ d _ _) = d
rd_of (Load _ d _ _) = d
rd_of (Lui d _) = d
rd_of _ = 0

abbrev rs1_of : Instr → ℕ
rs1_of (Load _ _ s _) = s
rs1_of (Store _ s _ _) = s
rs1_of (Branch _ s _ _) = s
rs1_of (Jalr _ s _) = s
rs1_of _ = 0

abbrev rs2_of : Instr → ℕ
rs2_of (Op _ _ _ t) = t
rs2_of (Store _ _ t _) = t
rs2_of _ = 0

abbrev imm_of : Instr → ℤ
imm_of (OpImm _ _ _ i) = i
imm_of (Load _ _ _ i) = i
imm_of (Store _ _ _ i) = i
imm_of (Branch _ _ _ i) = i
imm_of (Jal _ i) = i
imm_of (Lui _ n) = cast_signed w32 (n * 2 ^ 12)
imm_of _ = pos 0

abbrev from_expansion : ℕ → Instr → Form16
from_expansion p i = form p (record { rd = rd_of i; rs1 = rs1_of i; rs2 = rs2_of i; imm = imm_of i })

box_upper : all_below (λ j. same_int (cast_signed w32 (cast_unsigned w32 (signed_at 18 4096 j) / 2 ^ 12 * 2 ^ 12)) (signed_at 18 4096 j)) 64 ≡ true
unfolding all_below same_int signed_at
box_upper = refl

upper_back : (d : ℕ) (i : ℤ) → allowed (CLui d i) ≡ true → cast_signed w32 (cast_unsigned w32 i / 2 ^ 12 * 2 ^ 12) ≡ i
upper_back d i h =
    let p0 = and_parts (is_reg d && not (d == 2) && is_signed 18 4096 i) (is_not_zero i) h in
    let p1 = and_parts (is_reg d && not (d == 2)) (is_signed 18 4096 i) p0.0 in
    let a = at_signed 18 4096 64 (omega arith) refl refl i p1.1 in
    let e = a.is in
    let test = all_below_at (λ j. same_int (cast_signed w32 (cast_unsigned w32 (signed_at 18 4096 j) / 2 ^ 12 * 2 ^ 12)) (signed_at 18 4096 j)) 64 a.index box_upper a.below in
    same_int-true _ _ (subst (λ (z : ℤ). same_int (cast_signed w32 (cast_unsigned w32 z / 2 ^ 12 * 2 ^ 12)) z ≡ true) (sym e) test)

-- a form is known by its row and its expansion
form_back : (f : Form16) → allowed f ≡ true → from_expansion (place f) (expansion f) ≡ f
form_back (CLui d i) h = ap (CLui d) (upper_back d i h)
form_back _ h = refl

-- two forms of one row that expand to one instruction are one
pub first_one : (i : Instr) (f g : Form16) → IsFirst i f → IsFirst i g → f ≡ g
first_one i f g s t =
    let up = s.first g t.meets t.expands in
    let down = t.first f s.meets s.expands in
    let row : place f ≡ place g = omega arith in
    let same : expansion f ≡ expansion g = s.expands ∙ sym t.expands in
    sym (form_back f s.meets) ∙ ap₂ from_expansion row same ∙ form_back g t.meets

pub form_only : (i : Instr) (o : Option Form16) → o ≡ first_form i → (f : Form16) → IsFirst i f → o ≡ Some f
form_only i o e f s = at o (form_found i o e) (form_none i o e)
  where
    at : (p : Option Form16) → IfSome p (λ g. IsFirst i g) → IfNone p ((g : Form16) → IsTrue (allowed g) → expansion g ≡ i → ⊥) → p ≡ Some f
    at None found none = absurd (none f s.meets s.expands)
    at (Some g) found none = ap Some (first_one i g f found s)

-- there is a first form, or none
pub some_first : (i : Instr) → ((f : Form16) × IsFirst i f) ⊎ ((f : Form16) → IsTrue (allowed f) → expansion f ≡ i → ⊥)
some_first i = at (first_form i) (form_found i (first_form i) refl) (form_none i (first_form i) refl)
  where
    at : (o : Option Form16) → IfSome o (λ f. IsFirst i f) → IfNone o ((f : Form16) → IsTrue (allowed f) → expansion f ≡ i → ⊥)
        → ((f : Form16) × IsFirst i f) ⊎ ((f : Form16) → IsTrue (allowed f) → expansion f ≡ i → ⊥)
    at None found none = inr none
    at (Some f) found none = inl (f, found)
