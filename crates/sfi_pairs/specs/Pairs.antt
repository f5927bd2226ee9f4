-- The masked pairs (Wahbe and others, "Efficient Software-Based Fault Isolation", 1993): an `and`
-- keeps an address's offset in the region, of a code address the offset of its bundle, or in code in
-- words of its word, and an `or` sets the region's bits. And the accesses that may stand in the place
-- of a pair.
use Rattle.std.specs.Prelude.{◌==◌, ◌&&◌, ℕ, ℤ, pos, negsuc, nat_le, nat_lt, not, List, [], ◌∷◌, ◌++◌, Bool, false}
use Rattle.rv_word.specs.declared.instr.RegOp.TheVariants.{And, Or}
use Rattle.rv_word.specs.declared.instr.Instr.{Instr}
use Rattle.rv_word.specs.declared.instr.Instr.TheVariants.{Op, Load, Store, Jalr, Ecall}
use Rattle.sfi_formats.specs.Limits.{slack}
use Rattle.sfi_formats.specs.Formats.{code_base_register, code_mask_register, data_base_register, data_mask_register, scratch, return_register}

-- ---- the pairs

-- the instruction `and target, a, mask`
abbrev pub masking_instr : ℕ → ℕ → ℕ → Instr
masking_instr mask target a = Op And target a mask

-- the instruction `or target, target, base`
abbrev pub placing_instr : ℕ → ℕ → Instr
placing_instr base target = Op Or target target base

-- the masking instruction, and then the placing one
abbrev pub pair : ℕ → ℕ → ℕ → ℕ → List Instr
pair mask base target a = masking_instr mask target a ∷ placing_instr base target ∷ []

-- `and target, a, x27`, `or target, target, x26`: the target becomes an address of the data region
abbrev pub data_pair : ℕ → ℕ → List Instr
data_pair target a = pair data_mask_register data_base_register target a

-- `and target, a, x25`, `or target, target, x24`: the target becomes a bundle start of the code
-- region, or in code in words a word's start
abbrev pub code_pair : ℕ → ℕ → List Instr
code_pair target a = pair code_mask_register code_base_register target a

-- ---- tests for the pairs

-- the instruction is `and target, a, mask`, where a is any register
abbrev pub is_masking : ℕ → ℕ → Instr → Bool
is_masking mask target (Op And rd rs1 rs2) = (rd == target) && (rs2 == mask)
is_masking mask target _ = false

-- the instruction is `or target, target, base`
abbrev pub is_placing : ℕ → ℕ → Instr → Bool
is_placing base target (Op Or rd rs1 rs2) = (rd == target) && (rs1 == target) && (rs2 == base)
is_placing base target _ = false

-- the two instructions are a pair on the target, of any register
abbrev pub is_pair : ℕ → ℕ → ℕ → Instr → Instr → Bool
is_pair mask base target first second =
    is_masking mask target first && is_placing base target second

-- ---- what may follow a step of a data register, in code in words, in the place of its mask

-- the offset is from -1020 to 1020
abbrev pub is_small : ℤ → Bool
is_small (pos n) = nat_le n slack
is_small (negsuc n) = nat_lt n slack

-- A load or store on d with an offset from -1020 to 1020. A load into x0 is none: a processor may
-- drop it, and then it doesn't trap in a guard zone.
abbrev pub uses : ℕ → Instr → Bool
uses d (Load kind rd rs1 imm) = (rs1 == d) && is_small imm && not (rd == 0)
uses d (Store width rs1 rs2 imm) = (rs1 == d) && is_small imm
uses d _ = false

-- ---- a gate

-- a gate's bundle, in code in bundles: an ecall, the code pair that makes a bundle start of x1 in x31,
-- and a jump to that
abbrev pub gate_stub : List Instr
gate_stub = Ecall ∷ (code_pair scratch return_register ++ Jalr 0 scratch (pos 0) ∷ [])

-- the bytes of a gate's bundle
abbrev pub stub : List ℕ
stub =
    0x73 ∷ 0x00 ∷ 0x00 ∷ 0x00 ∷ 0xb3 ∷ 0xff ∷ 0x90 ∷ 0x01
    ∷ 0xb3 ∷ 0xef ∷ 0x8f ∷ 0x01 ∷ 0x67 ∷ 0x80 ∷ 0x0f ∷ 0x00 ∷ []
