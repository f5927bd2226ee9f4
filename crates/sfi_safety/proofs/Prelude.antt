-- Words of std and of definitions that many proofs of this crate use.
pub use Rattle.std.proofs.Common.{◌≡◌, ◌≢◌, ℕ, suc, ◌+◌, ◌-◌, ◌%◌, ◌^◌, ◌<◌, ◌≤◌, ◌⊎◌, List, length, get_or, false, ◌||◌, ◌==◌, refl, sym, ◌∙◌, subst, inl, inr, ⊎_elim, arith, zero, ◌*◌, Bool, true, [], ◌++◌, take, drop, ap, ◌∷◌, Option, Some, None, cond, ◌/◌, not, ◌&&◌, add-zero, get_or-take, get_or-drop, replicate, length-drop, length-take}
pub use Rattle.std.specs.Prelude.{ℤ, pos, negsuc, slice_index, is_some, filter, nat_lt}
pub use Rattle.std.proofs.lemmas.Bool.{cases_lt, eqb-false, and_parts, or_cases, eqb-true, not-false, and_from, not-true, false≢true, ltb-true, cases_Bool, or_left, or_right}
pub use Rattle.std.proofs.lemmas.Int.{ints}
pub use Rattle.std.proofs.lemmas.List.{drop-drop, append-nil}
pub use Rattle.std.specs.List.{Contains, All, list_all}
pub use Rattle.rv_word.specs.Spelling.{offset_by, minus, IsImm12, IsWordOf}
unfoldable pub use Rattle.rv_word.specs.Spelling.{InRange, spelling}
pub use Rattle.rv_word.specs.declared.instr.Instr.{Instr}
pub use Rattle.rv_word.specs.declared.instr.Instr.TheVariants.{Load, Store, Ecall, Op, OpImm, Branch, Jal, Jalr, Lui, Auipc, Fence, Ebreak}
pub use Rattle.rv_word.specs.declared.instr.RegOp.TheVariants.{And, Or}
pub use Rattle.rv_word.specs.declared.instr.StoreWidth.TheVariants.{Sb, Sw}
pub use Rattle.rv_comp.specs.Fronts.{Spells}
pub use Rattle.rv_mem.specs.Bytes.{address_after, addresses, Bytes, bytes_at, loaded, stored, byte_at, in_front}
pub use Rattle.rv_step.specs.Step.{Accesses, Stands, effect, after_load, next, unchanged, Stepped, IsStep, load_size, store_size, extended, is_taken, result_of}
pub use Rattle.rv_step.specs.State.{Hart, with_register, State, register, with_pc, past, even_of, IsHart}
pub use Rattle.rv_step.specs.declared.outcome.Outcome.TheVariants.{Next, Call, Trap}
pub use Rattle.sfi_formats.specs.Formats.{code_most, data_most, has_stack, has_words, is_stack, unit, is_reserved}
pub use Rattle.sfi_formats.specs.declared.format.Format.{Format}
pub use Rattle.sfi_formats.specs.declared.format.Format.TheVariants.{Sfi1, Sfi2, Sfiw, Sfis}
pub use Rattle.sfi_image.specs.Parts.{is_gate_of, AreGates, IsRightPart, AreRight, IsRightLayout, AreOf, IsBundleStart, HasReserved}
pub use Rattle.sfi_image.specs.Spelling.{code_region, AreApart, guarded_region, Part}
pub use Rattle.sfi_image.specs.Numbers.{AreGateWords}
pub use Rattle.sfi_image.specs.declared.part.Gate.{Gate}
pub use Rattle.sfi_rules.specs.Readings.{bundle_place, bundle_bytes, Piece, rest_of, IsReading, IsLongestReading, writes_stack, is_jump, follows_data_pair}
pub use Rattle.sfi_rules.specs.Findings.{AreBundleFindings, AreReadingFindings, AreFindings, AreFindingsInBundles, AreFindingsFrom, all_rules, lowest, findings_from, rest_finding, AreFindingsOfFirst}
pub use Rattle.sfi_rules.specs.Rules.{InstrInBundle, is_empty, is_bundle_start, breaks_ecall, breaks_reserved, breaks_access, breaks_jump, breaks_target, breaks_stack, may_access, ends_region, breaks, breaks_end, may_write_stack}
pub use Rattle.sfi_image.specs.declared.bundle.BundlePlace.{BundlePlace}
pub use Rattle.sfi_rules.specs.declared.finding.Finding.{Finding}
pub use Rattle.sfi_safety.specs.Laws.{CleanCallsTyped, InstructionLeaves, TurnKeeps, EntryIsGood, CleanRunsSafely}
pub use Rattle.sfi_safety.specs.Places.{Leaves, WritesResult, follows_mask, IsCleanPart, AreCleanBundles, IsGood, IsGoodIf, StackInDataBefore, IsAtPlace}
pub use Rattle.sfi_safety.specs.Needed.{BreaksAloneInBundle, IsNeeded, EachRuleIsNeeded, HasOneFinding, HasUnsafeRun, StoresByte, IsAcceptedAndRuns, IsStricter, BreaksNoOther, BreaksAlone, BreaksAloneInWord, IsOwedBefore}
pub use Rattle.sfi_safe_runs.specs.Runs.{InData, InGuard, IsGate, HasCode, IsUnitStart, InCode, StackInData, IsTyped, Turn, IsRun, after_turn, IsEntry, Steps, Replies, IsReply, IsTurn, after_step, KeepsBytes, Changes, IsChange}
pub use Rattle.sfi_safe_runs.specs.Safety.{AllRunSafely, IsSafeRun, RunsSafely, IsSafeStep, IsSafeState}
pub use Rattle.sfi_safe_runs.specs.Calling.{after_turns, CallsTyped}
pub use Rattle.sfi_safety.specs.Clean.{IsClean, IsAccepted, MayRun}
pub use Rattle.rv_step.specs.declared.outcome.Outcome.{Outcome}
pub use Rattle.rv_word.specs.declared.instr.ImmOp.TheVariants.{Addi}
pub use Rattle.sfi_rules.specs.declared.rule.Rule.{Rule}
pub use Rattle.sfi_rules.specs.declared.rule.Rule.TheVariants.{V1, V2, V3, V4, V5, V6, V7, V8, V9, V10, V11, V12}
pub use Rattle.rv_comp.specs.declared.form.Form16.TheVariants.{CAddi}
pub use Rattle.sfi_safety.specs.Samples.{Sample, sandbox, nop, undecodable, crossing_store, running_off_the_end, gate_comes_back_elsewhere, bytes_of, words_of}
pub use Rattle.rv_word.specs.declared.instr.RegOp.{RegOp}
pub use Rattle.sfi_pairs.specs.Pairs.{is_masking, is_placing}
pub use Rattle.std.specs.Int.{w32, to_le_bytes}
pub use Rattle.sfi_rules.specs.declared.owed.Owed.TheVariants.{Nothing}
