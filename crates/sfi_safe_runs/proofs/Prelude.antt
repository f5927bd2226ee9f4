-- Words of std and of definitions that many proofs of this crate use.
pub use Rattle.std.proofs.Common.{◌≡◌, ◌≢◌, ℕ, zero, suc, ◌+◌, ◌-◌, ◌%◌, ◌^◌, ◌<◌, ◌≤◌, ◌⊎◌, List, [], ◌∷◌, length, get_or, set, map, Bool, true, false, cond, ◌||◌, ◌==◌, refl, sym, ap, ◌∙◌, subst, inl, inr, ⊎_elim, arith, Option, Some, None, add-zero}
pub use Rattle.std.specs.Prelude.{ℤ, pos, negsuc, ◌+ℤ◌, slice_index, slice_get, is_some, IsSome}
pub use Rattle.std.proofs.lemmas.Bool.{cases_lt, or_parts, eqb-false, cond_both, or_cases, eqb-true, false≢true}
pub use Rattle.std.proofs.lemmas.Int.{ints}
pub use Rattle.std.proofs.lemmas.List.{get_or-set_other, length-set, length-map}
pub use Rattle.std.specs.List.{Contains, range_with_len}
pub use Rattle.rv_word.specs.Spelling.{offset_by, IsImm12}
unfoldable pub use Rattle.rv_word.specs.Spelling.{InRange}
pub use Rattle.rv_word.specs.declared.instr.Instr.{Instr}
pub use Rattle.rv_word.specs.declared.instr.Instr.TheVariants.{Load, Store, Ecall}
pub use Rattle.rv_word.specs.declared.instr.LoadKind.{LoadKind}
pub use Rattle.rv_word.specs.declared.instr.LoadKind.TheVariants.{Lb, Lh, Lw, Lbu, Lhu}
pub use Rattle.rv_word.specs.declared.instr.StoreWidth.{StoreWidth}
pub use Rattle.rv_word.specs.declared.instr.StoreWidth.TheVariants.{Sb, Sh, Sw}
pub use Rattle.rv_mem.specs.Bytes.{Bytes, IsMemory, byte_at, bytes_at, address_after, addresses, loaded}
pub use Rattle.rv_step.specs.Step.{Accesses, Stands, effect, after_load, next, unchanged, Stepped, IsStep, word, load_size, store_size}
pub use Rattle.rv_step.specs.State.{Hart, IsHart, State, register, with_register}
pub use Rattle.rv_step.specs.declared.outcome.Outcome.{Outcome}
pub use Rattle.rv_step.specs.declared.outcome.Outcome.TheVariants.{Next, Call, Trap}
pub use Rattle.sfi_image.specs.Parts.{is_gate_of, IsRightPart, HasGuardRoom, HasReserved, IsWordStart}
pub use Rattle.sfi_image.specs.Spelling.{code_region, AreApart, guarded_region, Holds, Part, IsNear}
pub use Rattle.sfi_image.specs.declared.part.Gate.{Gate}
pub use Rattle.sfi_safe_runs.specs.Laws.{SafeTurns, SafeStaysSafe, SafeFetches, GoesOnSafely, CanBeEntered}
pub use Rattle.sfi_safe_runs.specs.Runs.{InData, InGuard, IsUnitStart, IsGate, HasCode, HasEmptyGuards, IsTyped, Turn, IsTurn, IsRun, after_turn, IsEntry, Steps, Replies, IsReply, KeepsBytes, Changes, IsChange}
pub use Rattle.sfi_safe_runs.specs.Safety.{IsSafeRun, RunsSafelyFrom, RunsSafely, IsSafeStep, IsTrap, IsSafeState, IsSafeTurn}
pub use Rattle.sfi_safe_runs.specs.Calling.{after_turns, CallsTyped, KeepsAll}
pub use Rattle.sfi_formats.specs.declared.format.Format.{Format}
pub use Rattle.sfi_formats.specs.declared.format.Format.TheVariants.{Sfi1, Sfi2, Sfiw, Sfis}
pub use Rattle.sfi_formats.specs.Formats.{unit, has_words}
