-- The samples in code in words, in each format of such code: for each of its rules one whose code
-- breaks it, and one that is accepted.
use Rattle.std.specs.Prelude.{pos, List, [], ◌∷◌, ◌++◌, replicate, if◌then◌else◌}
use Rattle.rv_word.specs.declared.instr.ImmOp.TheVariants.{Addi}
use Rattle.rv_word.specs.declared.instr.RegOp.TheVariants.{And, Or}
use Rattle.rv_word.specs.declared.instr.StoreWidth.TheVariants.{Sb, Sw}
use Rattle.rv_word.specs.declared.instr.Instr.{Instr}
use Rattle.rv_word.specs.declared.instr.Instr.TheVariants.{OpImm, Op, Lui, Store, Jal, Jalr, Ecall, Ebreak}
use Rattle.rv_word.specs.Spelling.{minus}
use Rattle.sfi_formats.specs.Formats.{code_base_register, data_base_register, data_mask_register, code_register, offset_register, has_single_mask}
use Rattle.sfi_formats.specs.declared.format.Format.{Format}
use Rattle.sfi_formats.specs.declared.format.Format.TheVariants.{Sfiw}
use Rattle.sfi_safety.specs.Samples.{Sample, words_of, code_as, ebreaks, nop}

-- four instructions and then ebreaks
abbrev pub in_words : Format → List Instr → Sample
in_words f is = code_as f (is ++ replicate 4 Ebreak)

-- ---- V1 to V8, V10 and V11, in any format whose code is in words

-- V1: a word that spells no instruction
abbrev pub undecodable_word : Format → Sample
undecodable_word f = record {
  format = f;
  gates = [];
  first_words = 0xffffffff ∷ words_of (replicate 7 Ebreak);
  last_words = ebreaks;
}

-- V2: `sw x1, 0(x6)`, of which two bytes (23 20) end a word after a c.nop (01 00), and two (13 00)
-- begin the next one, which is read as a nop
abbrev pub crossing_words : Format → Sample
crossing_words f = record {
  format = f;
  gates = [];
  first_words = 0x20230001 ∷ 0x00000013 ∷ words_of (replicate 6 Ebreak);
  last_words = ebreaks;
}

-- V3: an ecall where no gate is listed
abbrev pub ecall_in_words : Format → Sample
ecall_in_words f = in_words f (Ecall ∷ Ebreak ∷ Ebreak ∷ Ebreak ∷ [])

-- V4: x24 becomes 02000000, x30 gets that bit beside its own, and a jump to it
abbrev pub code_base_written : Format → Sample
code_base_written f = in_words f (
    Lui code_base_register 0x2000 ∷ Op Or code_register code_register code_base_register
    ∷ Jalr 0 code_register (pos 0) ∷ Ebreak ∷ []
    )

-- V5: a store on x24, which has no type, at the code's first address
abbrev pub untyped_base : Format → Sample
untyped_base f =
    in_words f (Store Sw code_base_register 11 (pos 0) ∷ Ebreak ∷ Ebreak ∷ Ebreak ∷ [])

-- V6: a jalr to the word after the one that x30 leads to, which may be the last
abbrev pub jump_past_its_register : Format → Sample
jump_past_its_register f =
    in_words f (Jalr 0 code_register (pos 4) ∷ Ebreak ∷ Ebreak ∷ Ebreak ∷ [])

-- V7: a jump past the region's end
abbrev pub jump_out : Format → Sample
jump_out f = in_words f (Jal 0 (pos 256) ∷ Ebreak ∷ Ebreak ∷ Ebreak ∷ [])

-- V8: a nop as the last word
abbrev pub nop_at_the_end : Format → Sample
nop_at_the_end f = record {
  format = f;
  gates = [];
  first_words = words_of (replicate 8 Ebreak);
  last_words = words_of (Ebreak ∷ Ebreak ∷ Ebreak ∷ nop ∷ []);
}

-- V10: x2 becomes the code base, and a store on it
abbrev pub data_register_not_put_back : Format → Sample
data_register_not_put_back f = in_words f (
    OpImm Addi 2 code_base_register (pos 0) ∷ Store Sw 2 11 (pos 0) ∷ Ebreak ∷ Ebreak ∷ []
    )

-- V11: x30 becomes 0, and a jump to it
abbrev pub code_register_not_put_back : Format → Sample
code_register_not_put_back f = in_words f (
    OpImm Addi code_register 0 (pos 0) ∷ Jalr 0 code_register (pos 0) ∷ Ebreak ∷ Ebreak ∷ []
    )

-- ---- V12, where masks of data have two steps

-- V12: x31 becomes all ones, x2 gets the data base's bits beside them, and a store on x2 goes on at
-- address 0
abbrev pub offset_not_masked : Sample
offset_not_masked = in_words Sfiw (
    OpImm Addi offset_register 0 (minus 1) ∷ Op Or 2 offset_register data_base_register
    ∷ Store Sw 2 11 (pos 0) ∷ Ebreak ∷ []
    )

-- ---- a sample that breaks no rule

-- two instructions that leave an address of the data in x2: a mask of x10, with a nop after it where
-- masks are single
abbrev pub data_address : Format → List Instr
data_address f =
    if has_single_mask f then Op And 2 10 data_mask_register ∷ nop ∷ []
    else Op And offset_register 10 data_mask_register
    ∷ Op Or 2 offset_register data_base_register ∷ []

-- x2 becomes an address of the data, a store on it, and a jump back
abbrev pub stored_in_words : Format → Sample
stored_in_words f = in_words f (
    data_address f ++ (Store Sb 2 10 (pos 0) ∷ Jal 0 (minus 12) ∷ [])
    )
