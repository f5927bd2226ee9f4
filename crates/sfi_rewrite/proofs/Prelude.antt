-- Words of std and of definitions that many proofs of this crate use.
pub use Rattle.std.proofs.Common.{◌≡◌, ◌≢◌, ℕ, ◌+◌, ◌%◌, ◌^◌, ◌<◌, ◌==◌, Bool, true, false, cond, List, length, length-set, set, get_or, Option, Some, None, is_some, refl, sym, ap, ◌∙◌, subst, arith, ⊎_elim, ℤ, pos, negsuc, ◌+ℤ◌, replicate, ◌-◌, ◌≤◌, ◌*◌, [], ◌∷◌, ◌++◌, append_assoc, append-nil, length-append, zero, suc, inl, inr, take, drop, map, ◌/◌, get_or-drop, length-take, Fits, w64, rules, ◌⊎◌, ◌&&◌}
pub use Rattle.std.specs.Prelude.{MatchBool, IfOk, IfErr, slice_get, slice_index, IsTrue, ◌↔◌, Contains, MatchOption, nat_lt, Err, bit_and, bit_or, not, ◌||◌, if◌then◌else◌}
pub use Rattle.std.proofs.lemmas.Bool.{cases_lt, eqb-true, eqb-false, cases_order, and_parts, ltb-true, cases_eq, cases_Bool, false≢true, true≢false, and_right, or_parts}
pub use Rattle.std.proofs.lemmas.List.{get_or-set_same, get_or-set_other, get_or_past, get_or_push, take_more, get_or_append_left, get_or-take, take-take, take_all, length-take-le, length-map, get_or_default, drop_more, take-append-drop, drop_all}
pub use Rattle.std.proofs.lemmas.List.Elements.{All-push, All-nil, All-cons, All-head, All-tail, All-append, All-replicate, All-map, All-contains_itself, Contains-append_right, All-get_or}
pub use Rattle.std.proofs.lemmas.Option.{slice_get-get_or, slice_get_within, get_or_from_slice_get}
pub use Rattle.std.specs.List.{All, AllZip, flat_map, list_all}
pub use Rattle.rv_word.specs.declared.instr.Instr.{Instr}
pub use Rattle.rv_word.specs.declared.instr.Instr.TheVariants.{Load, Store, Jalr, Op, OpImm, Ecall, Branch, Jal, Lui, Auipc}
pub use Rattle.rv_word.specs.declared.instr.LoadKind.{LoadKind}
pub use Rattle.rv_word.specs.declared.instr.RegOp.TheVariants.{And, Or, Add}
pub use Rattle.rv_mem.specs.Bytes.{Bytes, bytes_at, addresses, address_after, loaded, stored, IsMemory, byte_at, with_bytes, number_of}
pub use Rattle.rv_step.specs.State.{Hart, register, with_register, with_pc, past, even_of, IsHart, State, IsState}
pub use Rattle.rv_step.specs.Step.{next, unchanged, after_load, effect, Stands, Stepped, IsStep, load_size}
pub use Rattle.rv_step.specs.Rows.{further, StandInRow, LeadsTo, LeadTo}
pub use Rattle.sfi_source.specs.Source.{IsBody, Sandbox, named, IsSandbox, IsThere, IsSource}
pub use Rattle.sfi_source.specs.declared.item.Body.{Body}
pub use Rattle.sfi_source.specs.declared.item.Body.TheVariants.{Plain, To, High, Low, Base}
pub use Rattle.sfi_source.specs.declared.item.Item.{Item}
pub use Rattle.sfi_source.specs.declared.item.Named.{Named}
pub use Rattle.sfi_source.specs.declared.item.Named.TheVariants.{Code, Unknown, Gate, Data}
pub use Rattle.sfi_formats.specs.Formats.{is_stack, code_most, data_most, built_code_most, has_stack, has_words, has_single_mask, is_data_register}
pub use Rattle.sfi_formats.specs.declared.format.Format.{Format}
pub use Rattle.sfi_rewrite.specs.Expansion.{jump_slots, IsAlone, IsMasked, IsExpansionOf, IsExpansion, code_pair_slots, jump_to_x31, is_call, data_pair_slots, size_of, slots_of, c_nop, slot_size, writes_stack, is_on_stack, stack_pair, put_back, is_stack_write, jumps_or_loads_x2, item_names_withheld, is_ecall, names_withheld, is_withheld}
pub use Rattle.sfi_rewrite.specs.Rewriting.{IsPermitted, AreFaultless, HasItemFault, HasFault, UnlessMemory, IsItemFault, AreTooLarge, IsFaultless, IsSourceFault, IsSandboxFault, IsRewritten, AreRewritten, AnswersFault}
pub use Rattle.sfi_rewrite.specs.Laws.{TransparencyCanBeMet, SomeRewriting, ExpansionsAreTransparent, RewrittenIsTransparent}
pub use Rattle.sfi_rewrite.specs.Placed.{Encodes, IsNamedBelow, AreWhole, IsPlacedThere, IsPlacedGate, IsPlacedPart, IsPlaced, AreOf, format_of, nothing, padding}
pub use Rattle.sfi_rewrite.specs.Placement.{AreBundles, Placement, IsPlacedName, HasEndLabel, FillsEnd, IsPlacement, AreLaidIn, FillsEndIn, IsLabelAt, label_place, AreLaidFrom, FillsGap, IsNext, next_bundle, AreLaid}
pub use Rattle.sfi_rewrite.specs.Transparency.{IsSameAside, AreRegions, IsAskedOf, SlotStands, IsTransparent, put_back_at, KeepsStack, ActsAs, IsAimed, MayBe, DoesAs, masked, SlotsStand}
pub use Rattle.sfi_image.specs.Parts.{HasReserved}
pub use Rattle.sfi_rewrite.specs.Standing.{StandTransparent}
pub use Rattle.sfi_rewrite.specs.declared.fault.RewriteFault.{RewriteFault}
pub use Rattle.sfi_rewrite.specs.declared.placed.PlacedName.{PlacedName}
pub use Rattle.sfi_rewrite.specs.declared.slot.BundleSlot.{BundleSlot}
pub use Rattle.sfi_rewrite.specs.declared.slot.BundleSlot.TheVariants.{Wide, Upper, Lower, Region, Short, Jump}
pub use Rattle.sfi_rewrite.specs.private.{IsFull, IsFilled, largest, HasNext, HaveBodies, AreLabels, HasLabel, placed_of, HasEnd, IsTooLarge, so_far, bytes_of, AreOfFirst, with_slots, ended, HasNoRoom}
pub use Rattle.rv_step.specs.declared.outcome.Outcome.TheVariants.{Trap, Next}
pub use Rattle.rv_word.specs.Spelling.{offset_by, spelling, InRange}
pub use Rattle.rv_word.specs.declared.instr.StoreWidth.{StoreWidth}
pub use Rattle.std.proofs.lemmas.Int.{ints}
pub use Rattle.sfi_formats.specs.Limits.{bundle_size}
pub use Rattle.rv_word.specs.declared.instr.ImmOp.TheVariants.{Addi}
pub use Rattle.rv_comp.specs.declared.form.Form16.{Form16}
pub use Rattle.sfi_image.specs.Spelling.{Holds}
pub use Rattle.sfi_image.specs.declared.span.Span.{Span}
pub use Rattle.sfi_formats.specs.declared.format.Format.TheVariants.{Sfi1, Sfi2, Sfiw, Sfis}
pub use Rattle.sfi_rewrite.specs.declared.fault.RewriteFault.TheVariants.{TooLarge, Memory}
pub use Rattle.std.proofs.Math.Seq.{drop-cons}
pub use Rattle.sfi_source.specs.declared.item.SourceGate.{SourceGate}
pub use Rattle.rv_word.specs.declared.instr.LoadKind.TheVariants.{Lw}
pub use Rattle.sfi_rewrite.specs.words.Expansion.{IsConfined, IsAround, is_made_on_x26, base_of, before, after, is_move, moved, mask_after, is_step_before_use, data_mask, Marked, marked, alone, in_words, AreExpanded, AreLaidBefore}
pub use Rattle.std.proofs.lemmas.Slice.Zip.{AllZip-long}
pub use Rattle.rv_comp.specs.Table.{expansion}
pub use Rattle.std.proofs.lemmas.Result.{IfOk-weaker, IfErr-weaker, err_from_is_err_and}
pub use Rattle.rv_word.specs.Outlines.{destination}
pub use Rattle.sfi_rewrite.specs.Samples.{sample_load, sample_jump, sample_push, sample_upper, sample_pop}
pub use Rattle.sfi_rewrite.specs.words.Transparency.{AreAsLaid}
