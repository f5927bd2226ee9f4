-- Words of std and of definitions that many proofs of this crate use.
pub use Rattle.std.proofs.Common.{◌≡◌, ℕ, suc, List, [], ◌∷◌, length, take, drop, refl, sym, ap, ◌∙◌, subst, arith, zero, ◌+◌, ◌-◌, ◌%◌, ◌<◌, ◌≤◌, ◌≢◌, Bool, true, false, not, ◌&&◌, ◌==◌, inl, inr, nat_le, nat_lt, ◌++◌, pos, negsuc, ◌||◌, cond, get_or, get_or-take, ◌*◌, Option, Some, None}
pub use Rattle.std.proofs.lemmas.Bool.{and_parts, and_from, leb-true, ltb-true, eqb-true, le-leb, lt-ltb, eq-eqb}
pub use Rattle.std.specs.List.{All}
pub use Rattle.rv_word.specs.declared.instr.Instr.{Instr}
pub use Rattle.rv_word.specs.declared.instr.Instr.TheVariants.{Load, Store, Branch, Jal, Jalr, Ecall}
pub use Rattle.rv_comp.specs.Fronts.{Spells}
pub use Rattle.sfi_formats.specs.Formats.{has_stack, has_words}
pub use Rattle.sfi_image.specs.Spelling.{Part}
pub use Rattle.sfi_rules.specs.Readings.{bundle_place, bundle_bytes, follows_data_pair, Piece, IsReading, IsLongestReading, rest_of}
pub use Rattle.sfi_rules.specs.Findings.{broken, lowest, all_rules, rule_of_length, findings_from, rest_finding, AreReadingFindings, AreBundleFindings, AreFindingsOfFirst, AreFindingsInBundles, AreFindings, AreFindingsFrom}
pub use Rattle.sfi_rules.specs.Rules.{InstrInBundle, breaks, breaks_stack, may_access, is_empty, breaks_ecall, breaks_access, breaks_jump, breaks_target}
pub use Rattle.sfi_image.specs.declared.bundle.BundlePlace.{BundlePlace}
pub use Rattle.sfi_rules.specs.declared.finding.Finding.{Finding}
pub use Rattle.sfi_rules.specs.declared.rule.Rule.{Rule}
pub use Rattle.sfi_rules.specs.declared.owed.Owed.{Owed}
pub use Rattle.sfi_formats.specs.declared.format.Format.{Format}
pub use Rattle.sfi_formats.specs.declared.format.Format.TheVariants.{Sfi1}
pub use Rattle.std.proofs.lemmas.List.Elements.{All-append, All-cons, All-nil}
pub use Rattle.std.specs.Prelude.{MatchBool}
pub use Rattle.sfi_rules.specs.declared.owed.Owed.TheVariants.{Nothing}
pub use Rattle.sfi_rules.specs.words.Findings.{AreFoundOfFirst, AreFindingsInWords}
pub use Rattle.sfi_rules.specs.declared.rule.Rule.TheVariants.{V1}
