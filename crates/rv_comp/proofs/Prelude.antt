-- Words of std and of definitions that many proofs of this crate use.
pub use Rattle.std.proofs.Common.{◌≡◌, subst, ℕ, ◌+◌, ◌-◌, ◌*◌, ◌^◌, ◌<◌, Bool, true, false, not, ◌&&◌, ◌==◌, refl, ap, sym, Option, Some, None, pos, ℤ, arith, ◌%◌, ◌≤◌, ◌∙◌, List, [], ◌∷◌, length, get_or, take, ◌≢◌, eqb-true, IfSome, zero, ◌/◌, cond, ap₂, ◌⊎◌, inl, inr, suc, negsuc, map, drop, slice_index_or, eqb}
pub use Rattle.std.specs.Prelude.{nat_lt, nat_le, bit_and, IfNone, IsTrue, slice_index}
pub use Rattle.std.proofs.lemmas.Bool.{and_parts, ltb-true, ne_eqb, leb-true, cases_lt, cases_eq, cases_Bool, lt-ltb, le-ltb, cond-true, cond-false, agree_below, agree_below_at}
pub use Rattle.std.proofs.lemmas.Nat.{and_mask, div_below, div-add-mod', from_le_bytes-to_le_bytes_4}
pub use Rattle.std.specs.Int.{w16, w32, from_le_bytes, cast_unsigned, cast_signed, to_le_bytes}
pub use Rattle.rv_word.specs.Spelling.{IsWordOf, IsImm12, IsBranchOffset, IsJumpOffset, spelling}
unfoldable pub use Rattle.rv_word.specs.Spelling.{InRange}
pub use Rattle.rv_word.specs.declared.instr.Instr.{Instr}
pub use Rattle.rv_comp.specs.Fronts.{SpellsShort, SpellsWide, IsFront, Spells, IsCutShort, SpellsNothing, halfword_of, IsShortSpelling, IsHalfwordOf, IsFirst, IsHalfwordThat}
pub use Rattle.rv_comp.specs.Laws.{SomeFront, OneFront, SpelledInRange, OneSpelling, TwoLengths, EcallIsWide}
pub use Rattle.rv_comp.specs.Table.{allowed, expansion, place, is_reg, is_short_reg, is_unsigned, is_signed, is_not_zero, row, fields_of}
pub use Rattle.rv_comp.specs.declared.form.Form16.{Form16}
pub use Rattle.rv_comp.specs.declared.form.Form16.TheVariants.{CAddi4spn, CLw, CSw, CAddi, CJal, CLi, CAddi16sp, CLui, CSrli, CSrai, CAndi, CSub, CXor, COr, CAnd, CJ, CBeqz, CBnez, CSlli, CLwsp, CJr, CJalr, CMv, CAdd, CEbreak, CSwsp}
unfoldable pub use Rattle.rv_comp.specs.mirror.{decoded, quadrant0, quadrant1, quadrant2, arithmetic, upper, jump_or_move, extended, word_offset, six, jump_offset, branch_offset, stack_step, stack_address, load_offset, store_offset, row_number}
pub use Rattle.rv_comp.specs.mirror.{row_bit, row_fields, is_low, AreLow}
