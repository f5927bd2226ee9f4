-- Words of std and of definitions that many proofs of this crate use.
pub use Rattle.std.proofs.Common.{◌≡◌, ℕ, List, [], ◌∷◌, ap, subst, subst₂, ◌⊎◌, inl, inr, Vec, Global, zero, suc, ◌+◌, ◌^◌, ◌<◌, ◌≤◌, ◌++◌, length, Option, Some, None, Bool, true, false, refl, sym, ◌∙◌, arith, append_assoc, replicate, ◌==◌, take, drop, length-append, ◌-◌, ◌*◌, ◌/◌, get_or, append-nil, map, ◌%◌, drop-cons, add-one, length-take, ⊎_elim}
pub use Rattle.std.specs.Prelude.{Result, Ok, Err, IfOk, IfErr, ℤ, pos, negsuc, ◌-ℤ◌, ◌&&◌, ◌||◌, not, MatchBool, ◌+ℤ◌, slice_get, max, slice_index, IsTrue, nat_lt}
pub use Rattle.std.proofs.lemmas.Bool.{and_right, or_parts, cases_lt, eq-eqb, eqb-true, or_right, or_cases, cases_eq, ne_eqb, and_left, not_from_true, and_parts, ltb-true, OnTrue_at, OnFalse_at}
pub use Rattle.std.proofs.lemmas.Int.{ints}
pub use Rattle.std.proofs.lemmas.List.{length-replicate, get_or-replicate, replicate-append-replicate, length-map, length-take-le, map_push, take_more, take-append-drop, get_or_append_left, get_or-append-add}
pub use Rattle.std.proofs.lemmas.List.Elements.{All-head, All-tail, All-cons, All-replicate, All-push, All-nil, All-append}
pub use Rattle.std.proofs.lemmas.Result.{err_from_is_err_and}
pub use Rattle.std.specs.Int.{w32, to_le_bytes, w16, bit_at}
pub use Rattle.std.specs.List.{All, AllPairs, repeat, flat_map}
pub use Rattle.rv_word.specs.Spelling.{IsReg, IsImm12, IsBranchOffset, IsJumpOffset}
unfoldable pub use Rattle.rv_word.specs.Spelling.{InRange, spelling}
pub use Rattle.rv_word.specs.declared.instr.ImmOp.TheVariants.{Addi}
pub use Rattle.rv_word.specs.declared.instr.Instr.{Instr}
pub use Rattle.rv_word.specs.declared.instr.Instr.TheVariants.{Op, OpImm, Load, Store, Branch, Jal, Jalr, Lui, Fence, Ecall, Ebreak, Auipc}
pub use Rattle.rv_comp.specs.Fronts.{Spells}
pub use Rattle.rv_comp.specs.Table.{expansion, row, allowed}
pub use Rattle.sfi_source.specs.Source.{upper, lower, Sandbox, IsBody, IsSandbox}
pub use Rattle.sfi_formats.specs.Formats.{has_stack, is_stack, code_most, data_most, built_code_most}
pub use Rattle.sfi_pairs.specs.Pairs.{is_masking, is_placing, stub}
unfoldable pub use Rattle.sfi_link.specs.Code.{stub_of}
pub use Rattle.sfi_formats.specs.declared.format.Format.{Format}
pub use Rattle.sfi_formats.specs.Places.{place_of}
pub use Rattle.sfi_formats.specs.declared.place.Place.{Place}
pub use Rattle.sfi_image.specs.Spelling.{AreApart, with_guards, spans, spans_of, zone_ends, zone_ends_of, AreClear, code_region, Part, fields_of, format_of, views, view}
pub use Rattle.sfi_image.specs.declared.span.Span.{Span}
pub use Rattle.sfi_rules.specs.Readings.{Piece, IsReading, rest_of, IsLongestReading}
pub use Rattle.sfi_rewrite.specs.Placed.{AreWhole, nothing, padding, IsPlacedPart, IsPlacedThere, IsPlaced, Encodes}
pub use Rattle.sfi_rewrite.specs.Placement.{Placement, AreBundles}
pub use Rattle.sfi_rewrite.specs.Expansion.{slot_size, size_of, c_nop, slots_of}
pub use Rattle.sfi_rewrite.specs.declared.placed.PlacedName.{PlacedName}
pub use Rattle.sfi_rewrite.specs.declared.slot.BundleSlot.{BundleSlot}
pub use Rattle.sfi_rewrite.specs.declared.slot.BundleSlot.TheVariants.{Wide, Short, Jump, Upper, Lower, Region}
pub use Rattle.sfi_link.specs.Code.{IsInReach, AreInReach, target_at, value_at, base_at, with_offset, bases_of, of_name, target_of, stub_size, resolved, made_of, AreSlots, IsSlot}
pub use Rattle.sfi_link.specs.Faults.{IsLinkFault, MayLie, IsSlotFault, HasPartFault, IsPartFault, HasSlotFault}
pub use Rattle.sfi_link.specs.Linked.{c_ebreak, needed, gates_from, part_with, IsLinked, AreLinkedFrom, HasRoom, IsCodeSize, IsLinkedCode, AreLinked, IsRightPlace, spans_at, ends_at, LieApart, contents, parts_with, AreLinkedCodes, with_bytes, each_with}
pub use Rattle.sfi_link.specs.Names.{kind_of, entry_of, entries_of, entries_in, map_from}
pub use Rattle.sfi_link.specs.declared.bases.Bases.{Bases}
pub use Rattle.sfi_link.specs.declared.fault.LinkFault.{LinkFault}
pub use Rattle.sfi_link.specs.private.{ends_in, LiesBeside, HasRoomFor, AreWritten, IsCodeBeside, AreCodes, Links, IsPushed, set_init}
