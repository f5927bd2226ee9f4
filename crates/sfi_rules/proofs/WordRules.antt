-- At a place of code in words: none of the rules is found just where each is kept.
use Rattle.sfi_rules.proofs.Prelude.{◌≡◌, Bool, true, false, cond, Option, Some, None, refl, sym, ◌∙◌, Rule}
use Rattle.sfi_rules.specs.declared.rule.Rule.TheVariants.{V3, V4, V5, V6, V7, V8, V10, V11, V12}
use Rattle.sfi_rules.specs.words.Rules.{breaks_ecall, breaks_reserved, breaks_access, breaks_jump, breaks_target, breaks_offset}
use Rattle.sfi_rules.specs.words.Findings.{InstrInWord, is_at_gate, breaks_last, fails_data, fails_code, lowest}

pub record AreFalse (b3 b4 b5 b6 b7 b8 b10 b11 b12 : Bool) : Type 0 where
  pub v3 : b3 ≡ false
  pub v4 : b4 ≡ false
  pub v5 : b5 ≡ false
  pub v6 : b6 ≡ false
  pub v7 : b7 ≡ false
  pub v8 : b8 ≡ false
  pub v10 : b10 ≡ false
  pub v11 : b11 ≡ false
  pub v12 : b12 ≡ false

first_true : (b3 b4 b5 b6 b7 b8 b10 b11 b12 : Bool) → Option Rule
first_true b3 b4 b5 b6 b7 b8 b10 b11 b12 =
    cond b3 (Some V3) (cond b4 (Some V4) (cond b5 (Some V5) (cond b6 (Some V6) (cond b7 (Some V7) (cond b8 (Some V8) (cond b10 (Some V10) (cond b11 (Some V11) (cond b12 (Some V12) None))))))))

none_true : (b3 b4 b5 b6 b7 b8 b10 b11 b12 : Bool) → first_true b3 b4 b5 b6 b7 b8 b10 b11 b12 ≡ None → AreFalse b3 b4 b5 b6 b7 b8 b10 b11 b12
unfolding first_true
none_true true b4 b5 b6 b7 b8 b10 b11 b12 e = absurd cc
none_true false true b5 b6 b7 b8 b10 b11 b12 e = absurd cc
none_true false false true b6 b7 b8 b10 b11 b12 e = absurd cc
none_true false false false true b7 b8 b10 b11 b12 e = absurd cc
none_true false false false false true b8 b10 b11 b12 e = absurd cc
none_true false false false false false true b10 b11 b12 e = absurd cc
none_true false false false false false false true b11 b12 e = absurd cc
none_true false false false false false false false true b12 e = absurd cc
none_true false false false false false false false false true e = absurd cc
none_true false false false false false false false false false e =
    record { v3 = refl; v4 = refl; v5 = refl; v6 = refl; v7 = refl; v8 = refl; v10 = refl; v11 = refl; v12 = refl }

all_false : (b3 b4 b5 b6 b7 b8 b10 b11 b12 : Bool) → AreFalse b3 b4 b5 b6 b7 b8 b10 b11 b12 → first_true b3 b4 b5 b6 b7 b8 b10 b11 b12 ≡ None
unfolding first_true
all_false b3 b4 b5 b6 b7 b8 b10 b11 b12 h = rw (h.v3, h.v4, h.v5, h.v6, h.v7, h.v8, h.v10, h.v11, h.v12) refl

-- each rule, but V1 and V2, which are broken where no instruction stands, and V9, which is none of code in words
abbrev pub AreKept : InstrInWord → Type 0
AreKept x = AreFalse (breaks_ecall (is_at_gate x.bundle x.address) x.instr) (breaks_reserved x.bundle.format x.instr) (breaks_access x.bundle.format x.instr) (breaks_jump x.instr) (breaks_target x.bundle.code_base x.bundle.code_size x.address x.instr) (breaks_last x)
    (fails_data x.bundle.format x.owed x.instr) (fails_code x.bundle.format x.owed x.instr) (breaks_offset x.bundle.format x.instr)

lowest_is : (x : InstrInWord) → lowest x ≡ first_true (breaks_ecall (is_at_gate x.bundle x.address) x.instr) (breaks_reserved x.bundle.format x.instr) (breaks_access x.bundle.format x.instr) (breaks_jump x.instr) (breaks_target x.bundle.code_base x.bundle.code_size x.address x.instr) (breaks_last x)
    (fails_data x.bundle.format x.owed x.instr) (fails_code x.bundle.format x.owed x.instr) (breaks_offset x.bundle.format x.instr)
unfolding first_true
lowest_is x = refl

pub kept_of : (x : InstrInWord) → lowest x ≡ None → AreKept x
kept_of x e = none_true _ _ _ _ _ _ _ _ _ (sym (lowest_is x) ∙ e)

pub none_of : (x : InstrInWord) → AreKept x → lowest x ≡ None
none_of x h = lowest_is x ∙ all_false _ _ _ _ _ _ _ _ _ h
