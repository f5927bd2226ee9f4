-- Operands: how they are read, and where they fit their form.
use Rattle.rv_word.specs.Spelling.{is_shift, InRange}
use Rattle.rv_word.specs.declared.instr.Instr.TheVariants as instr
use Rattle.sfi_text.specs.declared.cause.TextCause.TheVariants as cause
use Rattle.sfi_text.proofs.Prelude.{ℕ, ◌<◌, ◌^◌, Bool, true, false, arith, rules, ℤ, pos, MatchBool, if◌then◌else◌, ints, Instr, IsBetween, IsImm12, Immediate, ShiftAmount, IsNumberOf, operand_parts, AllSuit, mnemonic_of, operands_of, full_fence, ◌≡◌, List, [], ◌∷◌, length, inl, inr, ◌≤◌, refl, sym, ◌∙◌, subst, nat_lt, Result, Ok, Err, OnOk, IfErr, IsTrue, ◌==◌, and_parts, or_cases, not-true, nat_tests, on_ok_weaker, OperandPart, Name, Comma, Open, Close, TextCause, Takes, IsBlank, IsStuck, IsLabel, OperandValues, Stands, Departs, part_cause, Reads, SameAt, Suits, slot, is_fresh, has_no_repeat, KeepsOthers}

-- ==== An instruction is in range where its operands fit its form.

abbrev IsImmediate : Bool → ℤ → Type 0
IsImmediate shift z = MatchBool shift (IsBetween (pos 0) (pos 31) z) (IsImm12 z)

kind_immediate : (shift : Bool) (z : ℤ) → IsNumberOf (if shift then ShiftAmount else Immediate) z → IsImmediate shift z
kind_immediate true z h = h
kind_immediate false z h = h

immediate_kinds : (shift : Bool) (z : ℤ) → IsImmediate shift z → IsNumberOf (if shift then ShiftAmount else Immediate) z
immediate_kinds true z h = h
immediate_kinds false z h = h

below_upper : (n : ℕ) → IsBetween (pos 0) (pos 1048575) (pos n) → n < 2 ^ 20
below_upper n h = omega (arith, ints)

upper_between : (n : ℕ) → n < 2 ^ 20 → IsBetween (pos 0) (pos 1048575) (pos n)
upper_between n h = (omega (arith, ints), omega (arith, ints))

below_fence : (n : ℕ) → IsBetween (pos 0) (pos 4095) (pos n) → n < 2 ^ 12
below_fence n h = omega (arith, ints)

fence_between : (n : ℕ) → n < 2 ^ 12 → IsBetween (pos 0) (pos 4095) (pos n)
fence_between n h = (omega (arith, ints), omega (arith, ints))

pub fits_in_range : (i : Instr) → AllSuit (operands_of i) (operand_parts (mnemonic_of i)) → InRange i
unfolding InRange
fits_in_range (instr.OpImm op rd rs1 imm) h = (h.0, h.1.1.0, kind_immediate (is_shift op) imm h.1.1.1.1.0)
fits_in_range (instr.Lui rd imm) h = (h.0, below_upper imm h.1.1.0)
fits_in_range (instr.Auipc rd imm) h = (h.0, below_upper imm h.1.1.0)
fits_in_range (instr.Fence imm rd rs1) h = (below_fence imm h.0, h.1.1.0, h.1.1.1.1.0)
fits_in_range _ h = search rules

pub in_range_fits : (i : Instr) → InRange i → AllSuit (operands_of i) (operand_parts (mnemonic_of i))
unfolding InRange
in_range_fits (instr.OpImm op rd rs1 imm) h = (h.0, (tt, (h.1, (tt, (immediate_kinds (is_shift op) imm h.2, tt)))))
in_range_fits (instr.Lui rd imm) h = (h.0, (tt, (upper_between imm h.1, tt)))
in_range_fits (instr.Auipc rd imm) h = (h.0, (tt, (upper_between imm h.1, tt)))
in_range_fits (instr.Fence imm rd rs1) h = (fence_between imm h.0, (tt, (h.1, (tt, (h.2, tt)))))
in_range_fits _ h = search rules

pub full_fence_in_range : InRange full_fence
unfolding InRange
full_fence_in_range = (omega arith, omega arith, omega arith)

-- ==== How operands are read, part by part.

-- a token stands at a part by the operand there
pub stands_by_operand : (a b : OperandValues) (part : OperandPart) (token : List ℕ) → SameAt part a b → Stands b part token → Stands a part token
stands_by_operand a b Comma token e h = h
stands_by_operand a b Open token e h = h
stands_by_operand a b Close token e h = h
stands_by_operand a b _ token e h = rw e h

-- a mark has one operand
same_at_mark : (a b : OperandValues) (part : OperandPart) → nat_lt 6 (slot part) ≡ true → SameAt part a b
same_at_mark a b Comma h = tt
same_at_mark a b Open h = tt
same_at_mark a b Close h = tt
same_at_mark a b _ h = cc

same_through : (part : OperandPart) (a b c : OperandValues) → SameAt part a b → SameAt part b c → SameAt part a c
same_through Comma a b c e f = tt
same_through Open a b c e f = tt
same_through Close a b c e f = tt
same_through _ a b c e f = e ∙ f

-- what is read at the part first stays while the rest is read
pub reads_part : (first all : OperandValues) (part : OperandPart) (form : List OperandPart) (text token rest : List ℕ) → has_no_repeat (part ∷ form) ≡ true → Takes text token rest → Stands first part token → Reads all form rest → ((p : OperandPart) → IsTrue (is_fresh p form) → SameAt p all first) → Reads all (part ∷ form) text
reads_part first all part form text token rest fresh takes stands reads keeps =
    let parts = and_parts _ _ fresh in
    let same : SameAt part all first = elim (or_cases _ _ parts.0) [ inl mark ↦ same_at_mark all first part mark | inr f ↦ keeps part f ] in
    (token, rest, takes, stands_by_operand all first part token same stands, reads)

pub more_has_no_repeat : (part : OperandPart) (form : List OperandPart) → has_no_repeat (part ∷ form) ≡ true → has_no_repeat form ≡ true
more_has_no_repeat part form h = (and_parts _ _ h).1

slot_differs : (p part : OperandPart) → (slot part == slot p) ≡ false → slot p ≡ slot part → ⊥
slot_differs p part h e = grind (arith, nat_tests)

-- the operands at the other parts are kept
pub keeps_part : (old first all : OperandValues) (part : OperandPart) (form : List OperandPart) → KeepsOthers part old first → ((p : OperandPart) → IsTrue (is_fresh p form) → SameAt p all first) → (p : OperandPart) → IsTrue (is_fresh p (part ∷ form)) → SameAt p all old
keeps_part old first all part form others keeps p fresh =
    let parts = and_parts _ _ fresh in
    same_through p all first old (keeps p parts.1) (others p (slot_differs p part (not-true _ parts.0)))

module _ {A : Type 0} (r : Result A TextCause) (whole : List OperandPart) (part : OperandPart) (form : List OperandPart) (same : whole ≡ part ∷ form) (all first : OperandValues) where
  pub reads_result : (text token rest : List ℕ) → has_no_repeat whole ≡ true → Takes text token rest → Stands first part token
      → OnOk r (Reads all form rest) → OnOk r ((p : OperandPart) → IsTrue (is_fresh p form) → SameAt p all first) → OnOk r (Reads all whole text)
  reads_result text token rest fresh takes stands reads keeps =
      elim r as (λ o. OnOk o (Reads all form rest) → OnOk o ((p : OperandPart) → IsTrue (is_fresh p form) → SameAt p all first) → OnOk o (Reads all whole text)) [
        | Ok u ↦ λ h k. subst (λ f. Reads all f text) (sym same) (reads_part first all part form text token rest (subst (λ f. has_no_repeat f ≡ true) same fresh) takes stands h k)
        | Err e ↦ λ h k. tt
      ] reads keeps

  pub keeps_result : (old : OperandValues) → KeepsOthers part old first
      → OnOk r ((p : OperandPart) → IsTrue (is_fresh p form) → SameAt p all first) → OnOk r ((p : OperandPart) → IsTrue (is_fresh p whole) → SameAt p all old)
  keeps_result old others keeps =
      on_ok_weaker r (λ k. subst (λ f. (p : OperandPart) → IsTrue (is_fresh p f) → SameAt p all old) (sym same) (keeps_part old first all part form others k)) keeps

-- the causes for which a text departs from a form
pub departs_stuck : (form : List OperandPart) (text : List ℕ) → IsStuck text → Departs form text cause.Word
departs_stuck [] text stuck = inl (stuck, refl)
departs_stuck (part ∷ form) text stuck = inl (stuck, refl)

pub departs_beyond : (form : List OperandPart) (text token rest : List ℕ) → length form ≡ 0 → Takes text token rest → Departs form text cause.Operands
departs_beyond [] text token rest e takes = inr (token, rest, takes, refl)
departs_beyond (part ∷ form) text token rest e takes = absurd (omega arith)

module _ (whole : List OperandPart) (part : OperandPart) (form : List OperandPart) (same : whole ≡ part ∷ form) (text : List ℕ) where
  pub departs_missing : IsBlank text → Departs whole text cause.Operands
  departs_missing blank = subst (λ f. Departs f text cause.Operands) (sym same) (inr (inl (blank, refl)))

  pub departs_other : (token rest : List ℕ) (e : TextCause) → Takes text token rest → ((o : OperandValues) → Stands o part token → ⊥) → e ≡ part_cause part token → Departs whole text e
  departs_other token rest e takes none is = subst (λ f. Departs f text e) (sym same) (inr (inr (token, rest, takes, inl (none, is))))

  pub departs_later : {A : Type 0} (r : Result A TextCause) (first : OperandValues) (token rest : List ℕ) → Takes text token rest → Stands first part token → IfErr r (λ e. Departs form rest e) → IfErr r (λ e. Departs whole text e)
  departs_later (Ok u) first token rest takes stands h = tt
  departs_later (Err e) first token rest takes stands h = subst (λ f. Departs f text e) (sym same) (inr (inr (token, rest, takes, inr (first, stands, h))))

-- what is read fits its form
pub stands_suits : (o : OperandValues) (part : OperandPart) (token : List ℕ) → Stands o part token → Suits o part
stands_suits o Name token h = (subst IsLabel h.2 h.0, subst (λ (t : List ℕ). length t ≤ 64) h.2 h.1)
stands_suits o _ token h = search rules

pub reads_fit : (o : OperandValues) (form : List OperandPart) (text : List ℕ) → Reads o form text → AllSuit o form
reads_fit o [] text h = tt
reads_fit o (part ∷ form) text (t, r, takes, stands, reads) = (stands_suits o part t stands, reads_fit o form r reads)
