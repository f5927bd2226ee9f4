-- Words of std and of definitions that many proofs of this crate use.
pub use Rattle.std.proofs.Common.{◌≡◌, ℕ, ◌+◌, ◌*◌, ◌^◌, ◌<◌, Bool, true, false, ◌&&◌, ◌==◌, Some, None, refl, sym, ap, ◌∙◌, subst, inl, inr, arith, eqb-true, nat_lt, if◌then◌else◌, ◌/◌, ◌%◌, ℤ, pos, negsuc, ◌⊎◌, Option, ◌≢◌, IfNone, ◌-◌, List, [], ◌∷◌, IfSome, eq-eqb, bit_and}
pub use Rattle.std.specs.Prelude.{◌||◌, not, ◌≤ℤ◌, MatchBool, slice_index}
pub use Rattle.std.proofs.lemmas.Bool.{and_parts, cases_eq, ltb-true, cases_lt, agree_below, agree_below_at, ne_eqb}
pub use Rattle.rv_word.specs.Spelling.{load_funct3, store_funct3, op_funct3, op_funct7, imm_funct3, cond_funct3, is_shift, shift_funct7, bits, modulo, minus, IsBetween, IsEven, IsWordOf, IsImm12, IsImmOf, IsBranchOffset, IsJumpOffset}
pub use Rattle.rv_word.specs.Laws.{WordIsDecided, OneSpelling, SpellingsAreWide}
unfoldable pub use Rattle.rv_word.specs.Spelling.{spelling, InRange}
pub use Rattle.rv_word.specs.declared.instr.ImmOp.{ImmOp}
pub use Rattle.rv_word.specs.declared.instr.ImmOp.TheVariants.{Addi, Slti, Sltiu, Xori, Ori, Andi, Slli, Srli, Srai}
pub use Rattle.rv_word.specs.declared.instr.Instr.{Instr}
pub use Rattle.rv_word.specs.declared.instr.Instr.TheVariants.{Load, Store, Op, OpImm, Branch, Jal, Jalr, Lui, Auipc, Fence, Ecall, Ebreak}
pub use Rattle.rv_word.specs.declared.instr.LoadKind.{LoadKind}
pub use Rattle.rv_word.specs.declared.instr.RegOp.{RegOp}
pub use Rattle.rv_word.specs.declared.instr.StoreWidth.{StoreWidth}
pub use Rattle.rv_word.specs.declared.word_fields.WordFields.{WordFields}
pub use Rattle.rv_word.specs.private.{word_of, Fits, is_access, SpellsNone}
