-- Words of std and of definitions that many proofs of this crate use.
pub use Rattle.std.proofs.Common.{◌≡◌, ℕ, ◌+◌, ◌-◌, ◌*◌, ◌/◌, ◌%◌, ◌^◌, ◌<◌, inl, inr, ap, ◌∙◌, arith, ℤ, pos, negsuc, ◌+ℤ◌, ◌-ℤ◌, List, Result, Ok, Err, IfOk, IfErr, sym, ◌≤◌, [], ◌∷◌, ◌++◌, Option, Some, length, length-append, ◌==◌, Bool, true, false, ◌⊎◌, refl, bytes_eq, take, drop, subst, neg_ℤ, None, IsTrue, codes, take-append-drop, rules, nat_lt, OnOk, subst₂, IfSome, IfNone, slice_index, slice_index_or, ◌↔◌, not, true≢false, Bor, MatchOption, cond, get_or, ⊎_elim, lit<, zero, suc, ◌||◌, ◌≢◌, if◌then◌else◌, map, slice_get, Contains, ◌&&◌, zero-add, length-take-le, length-drop, take_all}
pub use Rattle.std.proofs.lemmas.Bool.{cases_lt, false≢true, cases_eq, and_parts, or_cases, not-true, ltb-true, cases_Bool, cond_both, eqb-true, eq-eqb}
pub use Rattle.std.proofs.lemmas.Bool.Decides.{nat_tests}
pub use Rattle.std.proofs.lemmas.Int.{ints}
pub use Rattle.std.proofs.lemmas.List.Sums.{count_by-le-length, prefix_len-le-length, AllPass-from_list_all, fails_before_first, split_at_first}
pub use Rattle.std.proofs.lemmas.Option.{slice_get-get_or, same_Some, none-some, get_or_from_slice_get, slice_get_within}
pub use Rattle.std.proofs.lemmas.Result.{IfOk-weaker, on_ok_weaker}
pub use Rattle.std.proofs.lemmas.Slice.Eq.{bytes_eq-Decides}
pub use Rattle.std.specs.List.{AllByRecursion, prefix_len, flat_map, list_all, range_with_len, All, before_first, after_first}
pub use Rattle.std.specs.Prelude.{◌≤ℤ◌, MatchResult, unsigned_abs, count_ones, MatchBool}
pub use Rattle.sfi_source.specs.Names.{meaning, place_of, placed, met, begins_name, continues_name, IsName, begins_label, IsLabel, IsShortLabel}
pub use Rattle.sfi_source.specs.Source.{IsDataSize, IsStraight, Sandbox, IsBody, IsThere, IsEntry, IsGate, IsSandbox, AreOf, format_of}
pub use Rattle.sfi_source.specs.declared.item.Named.{Named}
pub use Rattle.sfi_source.specs.declared.item.Named.TheVariants.{Unknown, Gate, Code, Data}
pub use Rattle.sfi_text.specs.SoFar.{constant, data_bytes, fits_addi, add_lower, Does, IsFree, Labels, RefusesLabel, Fits, GoesOn, with_stated, HasNoRoom, MayCome, Begun, SoFar, nothing, begin, format_or_sfi1, last_sandbox, sandboxes, with_label, with_names, with_gate, with_export, with_import, listed, address_bodies, address_count, SharedNames, tables, has_tables, items_of, with_bodies, with_bytes, Stated, format, sandbox, within, gate, exported, imported, movable, compressed, bytes, plain, jump, address, StatedWithin, data_part}
pub use Rattle.sfi_text.specs.Operands.{IsNumberOf, operand_parts, name_of, OperandValues, Stands, SaysFormat, mode_name, Departs, part_cause, Unformed, Missing, Differs, HasForm}
pub use Rattle.sfi_text.specs.Keywords.{keyword_name, directive_form, directive_states, pseudo_form, pseudo_states, branch_form, branch_states, jal_form, jal_states, data_kind, position_of_keyword, is_added, makes_gate}
pub use Rattle.sfi_text.specs.Laws.{ConstantsAddUp, OneMeaning, MeaningsAreInRange, LeadsOnce, LeadingIsNotRefused, RefusedOnce, OneSource, OneText, OneFault, MeantHasNoFault, OneCause, MeantIsNotRefused, PrintedReadsBack, SomeMeaning, SomeSource}
pub use Rattle.sfi_text.specs.Texts.{LabelsLead, RestLeads, BeginsWithName, BeginsWithLabel, HasNoLabel, IsTaken, LabelRefused, PassesLabels, LeadsAfter, PassesLimit, OperandsRefused, IsKnown, KnownRefused, RefusedAfter, RefusedFrom, StatementRefused, Leads, IsGateTwice, LineRefused, uncommented, lines, LinesLead, LeadsFromNothing, FirstRefused, most_bytes, first_line, LineFault, MeansSource, MeansText, IsFault}
pub use Rattle.sfi_text.specs.Lines.{Writes, AreMore, IsRow, IsData, StatesAfter, InstrDeparts, RefusedWith, LeadsByMore, NumberDeparts, MoreDeparts, ListDeparts, NameRefused, After}
pub use Rattle.sfi_text.specs.Statement.{number_text, format_name, part_text, operands_text, printed, Means, Refused, RefusedAt, operands, mnemonic_of, operands_of, Spells, OperandsDepart, full_fence, IsBareFence}
pub use Rattle.sfi_text.specs.Tokens.{Takes, IsBlank, is_mark, IsMark, IsNumber, IsToken, IsStuck, is_space, IsMagnitude, AreTokens, LeadsTo}
pub use Rattle.sfi_text.specs.declared.cause.TextCause.{TextCause}
pub use Rattle.sfi_text.specs.declared.form.NumberKind.{NumberKind}
pub use Rattle.sfi_text.specs.declared.form.NumberKind.TheVariants.{Immediate, ShiftAmount, BranchOffset, JumpOffset, Upper, DataSize}
pub use Rattle.sfi_text.specs.declared.form.OperandPart.{OperandPart}
pub use Rattle.sfi_text.specs.declared.form.OperandPart.TheVariants.{Rd, Rs1, Rs2, Number, Name, Mode, ImageFormat, Comma, Open, Close}
pub use Rattle.sfi_text.specs.declared.keyword.DataWidth.{DataWidth}
pub use Rattle.sfi_text.specs.declared.keyword.Keyword.{Keyword}
pub use Rattle.sfi_text.specs.declared.keyword.Pseudo.TheVariants.{Nop, Ret, Li}
pub use Rattle.sfi_text.specs.declared.mnemonic.Mnemonic.{Mnemonic}
pub use Rattle.sfi_text.specs.private.Reading.{FollowsToken, Reads, SameAt, Suits, AllSuit, slot, is_fresh, has_no_repeat, KeepsOthers, AgreesOn, FollowsName, Follows, body_of, token_len, begins_hex, after_sign}
pub use Rattle.sfi_text.specs.private.Lines.{stated, IsRightStatement, position_of_stated, IsRightWithin, position_within}
pub use Rattle.rv_word.specs.Spelling.{modulo, IsBetween, InRange, IsImm12}
pub use Rattle.rv_word.specs.declared.instr.Instr.{Instr}
