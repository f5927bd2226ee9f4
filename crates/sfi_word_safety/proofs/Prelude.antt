-- Words of std and of definitions that the proofs of this crate use.
pub use Rattle.std.proofs.Common.{◌≡◌, ◌≢◌, ℕ, ◌+◌, ◌-◌, ◌*◌, ◌%◌, ◌^◌, ◌<◌, ◌≤◌, ◌⊎◌, List, [], ◌∷◌, length, take, drop, Bool, true, false, cond, not, ◌&&◌, ◌||◌, ◌==◌, refl, sym, ap, ◌∙◌, subst, inl, inr, ⊎_elim, arith, Option, Some, None, add-zero, ◌↔◌, append_assoc, suc, ◌++◌}
pub use Rattle.std.specs.Prelude.{ℤ, pos, negsuc, slice_index, is_some, bit_and, bit_or}
pub use Rattle.std.proofs.lemmas.Bool.{cases_lt, and_parts, or_cases, eqb-true, eq-eqb, not-false, false≢true, cases_Bool, leb-true, ltb-true, and_from}
pub use Rattle.std.proofs.lemmas.List.{length-drop, drop-drop, drop-take, take-take, append-nil}
pub use Rattle.rv_word.specs.Spelling.{offset_by, IsImm12}
unfoldable pub use Rattle.rv_word.specs.Spelling.{InRange}
pub use Rattle.rv_word.specs.Outlines.{destination, is_register, writes_register}
pub use Rattle.rv_word.specs.declared.instr.Instr.{Instr}
pub use Rattle.rv_word.specs.declared.instr.Instr.TheVariants.{Load, Store, Ecall, Op, OpImm, Branch, Jal, Jalr, Lui, Auipc, Fence, Ebreak}
pub use Rattle.rv_word.specs.declared.instr.RegOp.{RegOp}
pub use Rattle.rv_word.specs.declared.instr.RegOp.TheVariants.{And, Or, Add}
pub use Rattle.rv_word.specs.declared.instr.ImmOp.TheVariants.{Addi}
pub use Rattle.rv_word.specs.declared.instr.LoadKind.{LoadKind}
pub use Rattle.rv_comp.specs.Fronts.{Spells}
pub use Rattle.rv_mem.specs.Bytes.{Bytes, bytes_at, address_after, addresses, loaded}
pub use Rattle.rv_step.specs.Step.{Accesses, Stepped, Stands, IsStep, effect, after_load, next, unchanged, word, result_of, load_size, store_size, is_taken, extended}
pub use Rattle.rv_step.specs.State.{Hart, State, register, with_register, with_pc, past, even_of}
pub use Rattle.rv_step.specs.declared.outcome.Outcome.{Outcome}
pub use Rattle.rv_step.specs.declared.outcome.Outcome.TheVariants.{Next, Call, Trap}
pub use Rattle.sfi_pairs.specs.Pairs.{is_masking, is_placing, is_small, uses}
pub use Rattle.sfi_formats.specs.Formats.{is_reserved, is_reserved_in, is_data_register_in, has_words, has_single_mask}
pub use Rattle.sfi_image.specs.Spelling.{Part, IsNear, IsNearIn}
pub use Rattle.sfi_image.specs.Parts.{is_gate_of, IsRightPart, HasReserved, IsWordStart}
pub use Rattle.sfi_rules.specs.Readings.{Piece, IsReading, rest_of, is_jump}
pub use Rattle.sfi_rules.specs.Rules.{is_empty, ends_region}
pub use Rattle.sfi_safe_runs.specs.Runs.{InData, InGuard, IsGate, HasCode, IsReply, IsChange, IsTurn, Turn, Steps, Replies, Changes, after_step, after_turn, AreWordsTyped}
pub use Rattle.sfi_safe_runs.specs.Safety.{IsSafeState, IsSafeStep}
pub use Rattle.sfi_rules.specs.words.Rules.{is_or, places, masks, begins_placing, begins_masking, is_pointer_step, begins_using, begins_code, breaks_width, breaks_ecall, breaks_reserved, may_access, breaks_access, breaks_jump, is_word_start, breaks_target, may_write_data, breaks_data_of, breaks_data, may_write_code, breaks_code, breaks_offset, left, owed_by_data, owed_by_code, owed_of, owed_by, owed_next}
pub use Rattle.sfi_word_safety.specs.Code.{BreakNone, IsCleanInWords, AreWordsClean, IsKnown, IsCodeKnown, AreKnown, IsPlace, IsAtPlaceInWords, IsGoodInWords, IsGoodInWordsIf}
pub use Rattle.sfi_word_safety.specs.Laws.{EntryIsGoodInWords, TurnKeepsInWords, CleanWordsRunSafely}
pub use Rattle.sfi_rules.specs.declared.owed.Owed.{Owed}
pub use Rattle.sfi_rules.specs.declared.rule.Rule.{Rule}
pub use Rattle.sfi_rules.specs.declared.finding.Finding.{Finding}
pub use Rattle.sfi_rules.specs.declared.owed.Owed.TheVariants.{Nothing, Mask, PlaceOnly, MaskOrUse, Code}
pub use Rattle.sfi_rules.specs.words.Findings.{fails_data, fails_code}
pub use Rattle.sfi_formats.specs.declared.format.Format.{Format}
