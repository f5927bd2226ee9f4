-- Small sandboxes as data, in code in bundles: for each rule one whose code breaks it (for V5 two),
-- some that break one and are safe, and one that is accepted.
use Rattle.std.specs.Prelude.{pos, ℕ, List, [], ◌∷◌, ◌++◌, map, replicate}
use Rattle.std.specs.List.{flat_map}
use Rattle.std.specs.Int.{w32, to_le_bytes}
use Rattle.rv_word.specs.declared.instr.ImmOp.TheVariants.{Addi}
use Rattle.rv_word.specs.declared.instr.StoreWidth.TheVariants.{Sb, Sw}
use Rattle.rv_word.specs.declared.instr.Instr.{Instr}
use Rattle.rv_word.specs.declared.instr.Instr.TheVariants.{OpImm, Store, Jal, Jalr, Ecall, Ebreak}
use Rattle.rv_word.specs.Spelling.{minus, spelling}
use Rattle.sfi_formats.specs.Limits.{region_least}
use Rattle.sfi_formats.specs.Formats.{data_base_register, scratch, stack_pointer, return_register}
use Rattle.sfi_pairs.specs.Pairs.{data_pair, code_pair}
use Rattle.sfi_formats.specs.declared.format.Format.{Format}
use Rattle.sfi_formats.specs.declared.format.Format.TheVariants.{Sfi1, Sfi2}
use Rattle.sfi_image.specs.declared.part.Gate.{Gate}
use Rattle.sfi_image.specs.Spelling.{Part}

-- ---- what a sample is made of

-- the words of instructions
abbrev pub words_of : List Instr → List ℕ
words_of is = map spelling is

-- the bytes of words, the low byte of each first
abbrev pub bytes_of : List ℕ → List ℕ
bytes_of words = flat_map (λ w. to_le_bytes w32 w) words

-- what a sample has of its own
pub record Sample : Type 0 where
  pub format : Format
  pub gates : List Gate
  pub first_words : List ℕ  -- the 8 words of its first two bundles
  pub last_words : List ℕ  -- the 4 words of its last one

-- 256 bytes of code at 01000000, in which 52 ebreaks stand between those words,
-- and 256 bytes of data at 02000000
abbrev pub sandbox : Sample → Part
sandbox s = record {
  format = s.format;
  code_base = 0x01000000;
  data_base = 0x02000000;
  data_size = region_least;
  start = 0x01000000;
  gates = s.gates;
  code = bytes_of (s.first_words ++ (words_of (replicate 52 Ebreak) ++ s.last_words));
  init = [];
}

-- a last bundle of ebreaks
abbrev pub ebreaks : List ℕ
ebreaks = words_of (replicate 4 Ebreak)

-- 8 instructions and then ebreaks, without a gate
abbrev pub code_as : Format → List Instr → Sample
code_as f is = record { format = f; gates = []; first_words = words_of is; last_words = ebreaks }

-- 8 instructions and then ebreaks, without a gate, in the first format
abbrev pub code : List Instr → Sample
code is = code_as Sfi1 is

-- `addi x0, x0, 0`
abbrev pub nop : Instr
nop = OpImm Addi 0 0 (pos 0)

-- ---- V1 to V9, in any format whose code is in bundles, and V10

-- V1: a word that spells no instruction
abbrev pub undecodable : Format → Sample
undecodable f = record {
  format = f;
  gates = [];
  first_words = 0xffffffff ∷ words_of (replicate 7 Ebreak);
  last_words = ebreaks;
}

-- V2: `sw x1, 0(x6)`, of which two bytes (23 20) end a bundle after a c.nop (01 00), and two (13
-- 00) begin the next one, which is read as a nop
abbrev pub crossing_store : Format → Sample
crossing_store f = record {
  format = f;
  gates = [];
  first_words = words_of (replicate 3 nop)
      ++ (0x20230001 ∷ 0x00000013 ∷ words_of (replicate 3 Ebreak));
  last_words = ebreaks;
}

-- V3: an ecall where no gate is listed
abbrev pub ecall_at_no_gate : Format → Sample
ecall_at_no_gate f =
    code_as f (Ecall ∷ Ebreak ∷ Ebreak ∷ Ebreak ∷ Ebreak ∷ Ebreak ∷ Ebreak ∷ Ebreak ∷ [])

-- V4: a jal that writes x26, and a store after a pair
abbrev pub written_rd_forgotten : Format → Sample
written_rd_forgotten f = code_as f (
    Jal data_base_register (pos 16) ∷ Ebreak ∷ Ebreak ∷ Ebreak
    ∷ (data_pair scratch 10 ++ (Store Sw scratch 11 (pos 0) ∷ Ebreak ∷ []))
    )

-- V5: a pair and a store on x0, which stays 0
abbrev pub pair_on_x0 : Format → Sample
pair_on_x0 f = code_as f (
    data_pair 0 10 ++ (Store Sw 0 11 (pos 0) ∷ Ebreak ∷ Ebreak ∷ Ebreak ∷ Ebreak ∷ Ebreak ∷ [])
    )

-- V5: a pair at the end of a bundle, and the store at the start of the next,
-- where a run may be entered
abbrev pub pair_across_bundles : Format → Sample
pair_across_bundles f = code_as f (
    Ebreak ∷ Ebreak ∷ (data_pair scratch 10
    ++ (Store Sw scratch 11 (pos 0) ∷ Ebreak ∷ Ebreak ∷ Ebreak ∷ []))
    )

-- V6: a jalr after its pair, to 16 bytes past a bundle start,
-- and after the region's last bundle there is no code
abbrev pub jalr_offset_ignored : Format → Sample
jalr_offset_ignored f = code_as f (
    code_pair scratch 10 ++ (Jalr 0 scratch (pos 16) ∷ Ebreak
    ∷ Ebreak ∷ Ebreak ∷ Ebreak ∷ Ebreak ∷ [])
    )

-- V7: a jump back onto the store after a pair
abbrev pub jump_to_any_start : Format → Sample
jump_to_any_start f = code_as f (
    data_pair scratch 10 ++ (Store Sw scratch 11 (pos 0) ∷ Ebreak
    ∷ Jal 0 (minus 8) ∷ Ebreak ∷ Ebreak ∷ Ebreak ∷ [])
    )

-- V8: nops up to the region's end
abbrev pub running_off_the_end : Format → Sample
running_off_the_end f = record {
  format = f;
  gates = [];
  first_words = words_of (replicate 8 Ebreak);
  last_words = words_of (replicate 4 nop);
}

-- V9: a listed gate whose jalr goes back to 16 bytes past a bundle start
abbrev pub gate_comes_back_elsewhere : Format → Sample
gate_comes_back_elsewhere f = record {
  format = f;
  gates = record { address = 0x01000000; service = 0 } ∷ [];
  first_words = words_of (
      Ecall ∷ (code_pair scratch return_register ++ (Jalr 0 scratch (pos 16)
      ∷ Ebreak ∷ Ebreak ∷ Ebreak ∷ Ebreak ∷ []))
      );
  last_words = ebreaks;
}

-- V10: x2 becomes 0, and a store on it
abbrev pub stack_not_put_back : Sample
stack_not_put_back = code_as Sfi2 (OpImm Addi stack_pointer 0 (pos 0)
    ∷ Store Sw stack_pointer 11 (pos 0) ∷ Ebreak ∷ Ebreak ∷ Ebreak ∷ Ebreak ∷ Ebreak ∷ Ebreak ∷ [])

-- ---- samples that are refused, and safe: an ebreak stands before what breaks the rule, and at the
-- start of each other bundle

-- V1: a word that spells no instruction
abbrev pub undecodable_after_ebreak : Sample
undecodable_after_ebreak = record {
  format = Sfi1;
  gates = [];
  first_words = spelling Ebreak ∷ 0xffffffff ∷ words_of (replicate 6 Ebreak);
  last_words = ebreaks;
}

-- V2: as above, but for `sw x7, 0(x6)`, of which two bytes (73 00) begin an ebreak
abbrev pub crossing_after_ebreak : Sample
crossing_after_ebreak = record {
  format = Sfi1;
  gates = [];
  first_words = words_of (Ebreak ∷ nop ∷ nop ∷ []) ++ (0x20230001 ∷ words_of (replicate 4 Ebreak));
  last_words = ebreaks;
}

-- V3: an ecall
abbrev pub ecall_after_ebreak : Sample
ecall_after_ebreak =
    code (Ebreak ∷ Ecall ∷ Ebreak ∷ Ebreak ∷ Ebreak ∷ Ebreak ∷ Ebreak ∷ Ebreak ∷ [])

-- V8: nops up to the region's end
abbrev pub nops_after_ebreak : Sample
nops_after_ebreak = record {
  format = Sfi1;
  gates = [];
  first_words = words_of (replicate 8 Ebreak);
  last_words = words_of (Ebreak ∷ nop ∷ nop ∷ nop ∷ []);
}

-- ---- a sample that breaks no rule

-- a store after its pair, and a jump back
abbrev pub sandboxed_store : Sample
sandboxed_store = code (
    data_pair scratch 10 ++ (Store Sb scratch 10 (pos 0) ∷ Jal 0 (minus 12)
    ∷ Ebreak ∷ Ebreak ∷ Ebreak ∷ Ebreak ∷ [])
    )
