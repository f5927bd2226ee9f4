-- Words of std and of definitions that many proofs of this crate use.
pub use Rattle.std.proofs.Common.{◌≡◌, ℕ, ◌+◌, ◌-◌, ◌*◌, ◌^◌, ◌<◌, ◌≤◌, length, ap, ◌∙◌, ⊎_elim, arith, List, [], ◌∷◌, ◌++◌, take, refl, sym, append_assoc, inl, inr, ◌⊎◌, ◌%◌, suc, Option, Some, None, subst, subst₂, get_or, drop, map, lt_trans, ltb, ◌↔◌, IsTrue, Bool, true, Result, Ok, Err, eqb, ◌/◌, false, zero, below_more, ◌==◌, rules}
pub use Rattle.std.specs.Prelude.{count_ones, slice_get, nat_lt, IfErr, nat_le, ◌≢◌, slice_index_or}
pub use Rattle.std.proofs.lemmas.Bool.{cases_lt, cases_eq, eqb-true, eq-eqb, ltb-true, lt-ltb, cases_Bool, ne_eqb}
pub use Rattle.std.proofs.lemmas.Bool.Decides.{eqb_tells, nat_tests, Decides-eqb}
pub use Rattle.std.proofs.lemmas.Grind.{flat_map-append}
pub use Rattle.std.proofs.lemmas.List.{append_cancel_left, length-append, append-nil, take-append-drop, length-take, length-drop, get_or-drop, get_or_past, length-map, length_push, get_or_append_left, get_or_push, get_or-take, take_more, map_push, get_or_default, get_or-append_right, drop-drop, take_all, take-map}
pub use Rattle.std.proofs.lemmas.List.Elements.{All-head, All-tail, All-nil, All-cons, All-push, All-append, All-from_recursion, All-map, All-weaker}
pub use Rattle.std.proofs.lemmas.Nat.{pow-add, pow_below, from_le_bytes-to_le_bytes_4, le_bytes_4, zero_from_ones, ones_le_self}
pub use Rattle.std.proofs.lemmas.Result.{err_from_is_err_and}
pub use Rattle.std.specs.List.{All, flat_map, AllPairs, AllByRecursion}
pub use Rattle.sfi_formats.specs.Formats.{code_most, data_most, has_single_mask}
unfoldable pub use Rattle.sfi_formats.specs.Formats.{magic}
pub use Rattle.sfi_formats.specs.Limits.{bundle_size, gates_most, service_most}
pub use Rattle.sfi_formats.specs.declared.format.Format.{Format}
pub use Rattle.sfi_formats.specs.declared.format.Format.TheVariants.{Sfi1, Sfi2, Sfiw, Sfis}
pub use Rattle.sfi_image.specs.Sources.{IsBounded}
pub use Rattle.sfi_image.specs.Faults.{IsFault, IsBodyFault, IsPartFault, ArePartsFault, IsCountFault, IsGateShort, IsGateWrong, AreContentsShort, IfLayout}
pub use Rattle.sfi_image.specs.Prefixes.{prefix_bytes, head, IsRightPrefix, CutShort, Trails, WholeIsImage, ImagePrefix, IsHead, IsOpened, part_of, after_parts, after_init, after_code, after_gates, Follows, want_of, HasFaultWhateverFollows, IsLengthOf, AreBundlesWithin, IsLongestStretch, IsStretchLength}
pub use Rattle.sfi_image.specs.Prefixes.ImagePrefix.{Empty, AfterMagic, AfterCount, InGates, InCode, InInit, Whole}
pub use Rattle.sfi_image.specs.Parts.{AreGates, is_gate_of, IsImage, IsRightPart, AreOf, AreRight, IsRightLayout, IsCodeRegion, IsRegion, HasGuardRoom, IsBundleStart, IsOneBit, IsMaskedBase, IsClearOfZero, HasZoneRoom}
pub use Rattle.sfi_image.specs.FieldTests.{FieldTest, AreApartWith, Passes, IsFirstFault, fault_of, field_tests}
pub use Rattle.sfi_image.specs.Keeping.{LayoutReader, StandsFor, Leads, AreAhead, is_one_of, KeepsHead, KeepsFields, KeepsCode, AreRest}
pub use Rattle.sfi_image.specs.Spelling.{Holds, AreApart, IsClear, AreClear, zone_ends_of, zone_ends, zone_end, code_span, spans_of, spans, code_region, data_span, guarded_span, Part, fields_of, IsWord, format_of, views, view}
pub use Rattle.sfi_image.specs.Numbers.{AreWords, AreFieldWords, AreGateWords}
unfoldable pub use Rattle.sfi_image.specs.Spelling.{number, fields, gate, part, spelling}
pub use Rattle.sfi_image.specs.declared.fault.LayoutFault.{LayoutFault}
pub use Rattle.sfi_image.specs.declared.fault.LayoutFault.TheVariants.{Count, Short, Trailing, Magic}
pub use Rattle.sfi_image.specs.declared.fields.Fields.{Fields}
pub use Rattle.sfi_image.specs.declared.part.Gate.{Gate}
pub use Rattle.sfi_image.specs.declared.span.Span.{Span}
pub use Rattle.sfi_image.specs.private.{IsReader, MayTake, TakesLength, stage_after_code, is_first, first_or, count_below, stage_after_part, stage_after_init, stage_after_gates}
