-- Words of std and of definitions that many proofs of this crate use.
pub use Rattle.std.proofs.Common.{◌≡◌, ℕ, suc, ◌≤◌, List, [], ◌∷◌, length, take, drop, Option, Some, refl, sym, ap, ◌∙◌, subst, arith, zero, ◌+◌, ◌-◌, ◌*◌, ◌/◌, ◌%◌, ◌^◌, ◌<◌, ◌≢◌, min, Bool, true, false, not, ◌&&◌, ◌==◌, ◌⊎◌, inl, inr, w64, mul_assoc, bit_and, nat_le, ◌++◌, None, ℤ, pos, negsuc, of_z, to_z, SFits, ◌||◌, cond, get_or, length-drop, mod-lt, pow_pos, ap₂, IfSome, append_assoc, w8, eq-eqb}
pub use Rattle.std.specs.Prelude.{nat_eq, slice_index, is_some}
pub use Rattle.std.proofs.lemmas.Bool.{cases_order, agree_below_at, and_parts, eqb-true, and_right, or_parts, ne_eqb, agree_below, OnTrue_at, and_from, both_ways, cases_lt, false_from_ne_true, not-true, or_left}
pub use Rattle.std.proofs.lemmas.List.{append-nil, drop-drop, drop-take, take-take, length-take, length-append, drop_all, take_all}
pub use Rattle.std.proofs.lemmas.Nat.{shl-shr, shr-shr, and_mask, and_block, and_le_r}
pub use Rattle.std.specs.Bool.{OnTrue}
pub use Rattle.std.specs.Int.{Width, bit_at, bit_not, trailing_zeros, w16, w32, from_le_bytes}
pub use Rattle.rv_word.specs.Outlines.{outline, IsWordThat, IsAccessOf, access, destination}
pub use Rattle.rv_word.specs.Spelling.{IsWordOf, bits}
unfoldable pub use Rattle.rv_word.specs.Spelling.{spelling, InRange}
pub use Rattle.rv_word.specs.declared.instr.Instr.{Instr}
pub use Rattle.rv_word.specs.declared.instr.Instr.TheVariants.{Op, OpImm, Load, Store, Branch, Jal, Jalr, Lui, Auipc, Fence, Ecall, Ebreak}
pub use Rattle.rv_word.specs.declared.instr.RegOp.TheVariants.{And, Or}
pub use Rattle.rv_comp.specs.Fronts.{Spells, IsCutShort, SpellsNothing, IsHalfwordThat, IsShortSpelling}
pub use Rattle.rv_comp.specs.declared.front.Front.TheVariants.{Read, Short}
pub use Rattle.sfi_formats.specs.Formats.{has_stack, is_stack, is_reserved, stack_pointer, is_data_register}
pub use Rattle.sfi_image.specs.Spelling.{Part, view}
pub use Rattle.sfi_masks.specs.Masks.{is_in, AreMasks, IsFreeAccess, may_write, is_free, IsFreeHalf, IsFreeWord}
pub use Rattle.sfi_rules.specs.Readings.{bundle_place, bundle_bytes, block_bundle, bundle_at, IsWithinBlock, IsWithin, follows_data_pair, follows_pair, follows_code_pair, Piece, IsReading, IsLongestReading, rest_of}
pub use Rattle.sfi_rules.specs.Findings.{broken, lowest, all_rules, rule_of_length, findings_from, rest_finding, AreReadingFindings, AreBundleFindings, AreFindingsOfFirst, AreFoundUpTo}
pub use Rattle.sfi_rules.specs.Rules.{InstrInBundle, may_access, is_last_bundle, is_bundle_start, is_empty, breaks_ecall}
pub use Rattle.sfi_scan.specs.declared.before.Before.{Before}
pub use Rattle.sfi_image.specs.declared.bundle.BundlePlace.{BundlePlace}
pub use Rattle.sfi_rules.specs.declared.finding.Finding.{Finding}
pub use Rattle.sfi_rules.specs.declared.rule.Rule.{Rule}
pub use Rattle.sfi_scan.specs.private.Blocks.{AreStarts, AreAfterTwo, offset, words_from, IsSpelledAt, IsCleanIn, IsCleanAt, IsWritten, IsOfWrite, AreThreeWords, IsWithout, IsWordOr0, AreBefore, is_protected, is_clean, is_zero, word_at, AreWordsFrom, IsCleanOne, IsStackWrite, AreStackPair, half_at, is_clean_access, ahead, near, finding_of}
pub use Rattle.rv_word.specs.declared.access.Access.{Access}
pub use Rattle.rv_word.specs.declared.outline.Outline.{Outline}
pub use Rattle.rv_word.specs.declared.outline.Outline.TheVariants.{Computes, Loads}
pub use Rattle.sfi_rules.specs.declared.owed.Owed.{Owed}
pub use Rattle.sfi_rules.specs.declared.owed.Owed.TheVariants.{Code, MaskOrUse, Nothing}
pub use Rattle.sfi_rules.specs.declared.rule.Rule.TheVariants.{V1, V2}
pub use Rattle.sfi_rules.specs.words.Findings.{IsWordFound}
pub use Rattle.sfi_rules.specs.words.Rules.{left, owed_by}
pub use Rattle.sfi_pairs.specs.Pairs.{uses}
pub use Rattle.sfi_scan.specs.Stretches.{AreStretchFindings, AreWordStretchFindings, IsScanned, stretch_place}
pub use Rattle.sfi_scan.specs.declared.clean.Words.{Words}
pub use Rattle.sfi_scan.specs.private.Scanning.{AreBundlesTo, IsWordCodeScanned}
pub use Rattle.sfi_scan.specs.private.Words.{AreCleanWords, IsCleanWord, IsPairAt, IsSteppedWord, IsBeforeEnd, IsQuiet, IsQuietThere, is_reserved_or_typed, is_clean_alone}
pub use Rattle.std.proofs.Math.Facts.{Fits-lt-pow}
