-- What holds of every sandbox without a finding, and that each rule is needed: the laws, for proofs here and in the crates above.
use Rattle.std.specs.Prelude.{◌≡◌, false, true}
use Rattle.sfi_formats.specs.declared.format.Format.{Format}
use Rattle.sfi_formats.specs.Formats.{has_words}
use Rattle.sfi_rules.specs.declared.rule.Rule.TheVariants.{V1, V2, V3, V4, V5, V6, V7, V8, V9, V10, V11, V12}
use Rattle.sfi_safety.specs.Laws.{InstructionLeaves, TurnKeeps, EntryIsGood, CleanRunsSafely, CleanCallsTyped, CleanRunsSafelyAs, CleanCallsTypedAs}
use Rattle.sfi_safety.specs.Needed.{IsNeeded, EachRuleIsNeeded, EachRuleOfWordsIsNeeded, IsStricter, IsAcceptedAndRuns}
use Rattle.sfi_safety.specs.Samples.{sandbox, undecodable, crossing_store, ecall_at_no_gate, written_rd_forgotten, pair_on_x0, pair_across_bundles, jalr_offset_ignored, jump_to_any_start, running_off_the_end, gate_comes_back_elsewhere, stack_not_put_back, undecodable_after_ebreak, crossing_after_ebreak, ecall_after_ebreak, nops_after_ebreak, sandboxed_store}
use Rattle.sfi_safety.specs.WordSamples.{undecodable_word, crossing_words, ecall_in_words, code_base_written, untyped_base, jump_past_its_register, jump_out, nop_at_the_end, data_register_not_put_back, code_register_not_put_back, offset_not_masked, stored_in_words}
use Rattle.sfi_safety.proofs.Needed as needed
use Rattle.sfi_safety.proofs.NeededWords as words
use Rattle.sfi_safety.proofs.Sandboxed as sandboxed
use Rattle.sfi_safety.proofs.Stricter as stricter
use Rattle.sfi_safety.proofs.Registers.{leaves_after}
use Rattle.sfi_safety.proofs.Safe.{clean_runs, clean_calls, clean_runs_as, clean_calls_as}
use Rattle.sfi_safety.proofs.Stepping as invariant

pub instruction_leaves : InstructionLeaves
instruction_leaves = leaves_after

pub turn_keeps : TurnKeeps
turn_keeps = invariant.turn_keeps

pub entry_is_good : EntryIsGood
entry_is_good = invariant.entry_good

pub clean_runs_safely : CleanRunsSafely
clean_runs_safely = clean_runs

pub clean_calls_typed : CleanCallsTyped
clean_calls_typed = clean_calls

pub clean_runs_safely_as : CleanRunsSafelyAs
clean_runs_safely_as = clean_runs_as

pub clean_calls_typed_as : CleanCallsTypedAs
clean_calls_typed_as = clean_calls_as

-- ---- each rule is needed

pub each_rule_is_needed : EachRuleIsNeeded
each_rule_is_needed = needed.each_rule

pub each_rule_of_words_is_needed : EachRuleOfWordsIsNeeded
each_rule_of_words_is_needed = words.each_rule_of_words

-- ---- the samples that show it

pub undecodable_is_unsafe : (f : Format) → has_words f ≡ false → IsNeeded V1 0x01000000 (sandbox (undecodable f))
undecodable_is_unsafe = needed.undecodable_unsafe

pub crossing_store_is_unsafe : (f : Format) → has_words f ≡ false → IsNeeded V2 0x0100000e (sandbox (crossing_store f))
crossing_store_is_unsafe = needed.crossing_store_unsafe

pub ecall_at_no_gate_is_unsafe : (f : Format) → has_words f ≡ false → IsNeeded V3 0x01000000 (sandbox (ecall_at_no_gate f))
ecall_at_no_gate_is_unsafe = needed.ecall_at_no_gate_unsafe

pub written_rd_forgotten_is_unsafe : (f : Format) → has_words f ≡ false → IsNeeded V4 0x01000000 (sandbox (written_rd_forgotten f))
written_rd_forgotten_is_unsafe = needed.written_rd_forgotten_unsafe

pub pair_on_x0_is_unsafe : (f : Format) → has_words f ≡ false → IsNeeded V5 0x01000008 (sandbox (pair_on_x0 f))
pair_on_x0_is_unsafe = needed.pair_on_x0_unsafe

pub pair_across_bundles_is_unsafe : (f : Format) → has_words f ≡ false → IsNeeded V5 0x01000010 (sandbox (pair_across_bundles f))
pair_across_bundles_is_unsafe = needed.pair_across_bundles_unsafe

pub jalr_offset_ignored_is_unsafe : (f : Format) → has_words f ≡ false → IsNeeded V6 0x01000008 (sandbox (jalr_offset_ignored f))
jalr_offset_ignored_is_unsafe = needed.jalr_offset_ignored_unsafe

pub jump_to_any_start_is_unsafe : (f : Format) → has_words f ≡ false → IsNeeded V7 0x01000010 (sandbox (jump_to_any_start f))
jump_to_any_start_is_unsafe = needed.jump_to_any_start_unsafe

pub running_off_the_end_is_unsafe : (f : Format) → has_words f ≡ false → IsNeeded V8 0x010000fc (sandbox (running_off_the_end f))
running_off_the_end_is_unsafe = needed.running_off_the_end_unsafe

pub gate_comes_back_elsewhere_is_unsafe : (f : Format) → has_words f ≡ false → IsNeeded V9 0x01000000 (sandbox (gate_comes_back_elsewhere f))
gate_comes_back_elsewhere_is_unsafe = needed.gate_comes_back_elsewhere_unsafe

pub stack_not_put_back_is_unsafe : IsNeeded V10 0x01000000 (sandbox stack_not_put_back)
stack_not_put_back_is_unsafe = needed.stack_not_put_back_unsafe

pub undecodable_word_is_unsafe : (f : Format) → has_words f ≡ true → IsNeeded V1 0x01000000 (sandbox (undecodable_word f))
undecodable_word_is_unsafe = words.undecodable_word_unsafe

pub crossing_words_is_unsafe : (f : Format) → has_words f ≡ true → IsNeeded V2 0x01000002 (sandbox (crossing_words f))
crossing_words_is_unsafe = words.crossing_words_unsafe

pub ecall_in_words_is_unsafe : (f : Format) → has_words f ≡ true → IsNeeded V3 0x01000000 (sandbox (ecall_in_words f))
ecall_in_words_is_unsafe = words.ecall_in_words_unsafe

pub code_base_written_is_unsafe : (f : Format) → has_words f ≡ true → IsNeeded V4 0x01000000 (sandbox (code_base_written f))
code_base_written_is_unsafe = words.code_base_written_unsafe

pub untyped_base_is_unsafe : (f : Format) → has_words f ≡ true → IsNeeded V5 0x01000000 (sandbox (untyped_base f))
untyped_base_is_unsafe = words.untyped_base_unsafe

pub jump_past_its_register_is_unsafe : (f : Format) → has_words f ≡ true → IsNeeded V6 0x01000000 (sandbox (jump_past_its_register f))
jump_past_its_register_is_unsafe = words.jump_past_its_register_unsafe

pub jump_out_is_unsafe : (f : Format) → has_words f ≡ true → IsNeeded V7 0x01000000 (sandbox (jump_out f))
jump_out_is_unsafe = words.jump_out_unsafe

pub nop_at_the_end_is_unsafe : (f : Format) → has_words f ≡ true → IsNeeded V8 0x010000fc (sandbox (nop_at_the_end f))
nop_at_the_end_is_unsafe = words.nop_at_the_end_unsafe

pub data_register_not_put_back_is_unsafe : (f : Format) → has_words f ≡ true → IsNeeded V10 0x01000004 (sandbox (data_register_not_put_back f))
data_register_not_put_back_is_unsafe = words.data_register_not_put_back_unsafe

pub code_register_not_put_back_is_unsafe : (f : Format) → has_words f ≡ true → IsNeeded V11 0x01000000 (sandbox (code_register_not_put_back f))
code_register_not_put_back_is_unsafe = words.code_register_not_put_back_unsafe

pub offset_not_masked_is_unsafe : IsNeeded V12 0x01000000 (sandbox offset_not_masked)
offset_not_masked_is_unsafe = words.offset_not_masked_unsafe

-- ---- code that is refused and safe, and code that is accepted and stores

pub undecodable_after_ebreak_is_safe : IsStricter V1 0x01000004 (sandbox undecodable_after_ebreak)
undecodable_after_ebreak_is_safe = stricter.undecodable_stricter

pub crossing_after_ebreak_is_safe : IsStricter V2 0x0100000e (sandbox crossing_after_ebreak)
crossing_after_ebreak_is_safe = stricter.crossing_stricter

pub ecall_after_ebreak_is_safe : IsStricter V3 0x01000004 (sandbox ecall_after_ebreak)
ecall_after_ebreak_is_safe = stricter.ecall_stricter

pub nops_after_ebreak_is_safe : IsStricter V8 0x010000fc (sandbox nops_after_ebreak)
nops_after_ebreak_is_safe = stricter.nops_stricter

pub sandboxed_store_is_accepted : IsAcceptedAndRuns (sandbox sandboxed_store)
sandboxed_store_is_accepted = sandboxed.accepted_and_runs

pub stored_in_words_is_accepted : (f : Format) → has_words f ≡ true → IsAcceptedAndRuns (sandbox (stored_in_words f))
stored_in_words_is_accepted = sandboxed.accepted_words_run
