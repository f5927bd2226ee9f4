-- Words of std and of definitions that many proofs of this crate use.
pub use Rattle.std.proofs.Common.{◌≡◌, ◌≢◌, ℕ, suc, ◌+◌, ◌-◌, ◌<◌, ◌≤◌, ◌⊎◌, List, length, get_or, false, ◌||◌, refl, sym, ◌∙◌, subst, inl, inr, arith, zero, ◌*◌, ◌^◌, Bool, true, [], ◌++◌, take, drop, ap, append_assoc, ◌∷◌, Option, Some, None, cond, Result, Ok, Err, ◌/◌, add-zero, eqb, ne_eqb, ◌==◌, rules}
pub use Rattle.std.specs.Prelude.{slice_get, Vec, IfOk, IfErr, is_some}
pub use Rattle.std.proofs.Math.Seq.{take-append_seam, take-append-add}
pub use Rattle.std.proofs.lemmas.Bool.{lt-ltb, eqb-true, cases_Bool, eq-eqb}
pub use Rattle.std.proofs.lemmas.List.{length-map, length-append, length-take, length-drop, drop-drop, append-nil, take_all, take_more, get_or-map, take-append-drop, length_push, drop-take}
pub use Rattle.std.specs.List.{All}
pub use Rattle.sfi_formats.specs.Formats.{code_most, has_words}
unfoldable pub use Rattle.sfi_formats.specs.Formats.{magic}
pub use Rattle.sfi_formats.specs.declared.format.Format.{Format}
pub use Rattle.sfi_formats.specs.declared.format.Format.TheVariants.{Sfi1, Sfi2}
pub use Rattle.sfi_image.specs.Faults.{IsFault}
pub use Rattle.sfi_image.specs.Prefixes.{ImagePrefix, AreBundlesWithin, IsStretchLength, Follows, want_of, IsLess, HasFaultWhateverFollows, prefix_bytes, IsRightPrefix, IsLengthOf, part_of, after_parts, after_init, after_code, after_gates}
pub use Rattle.sfi_image.specs.Prefixes.ImagePrefix.{Empty, AfterMagic, AfterCount, InGates, InCode, InInit, Whole}
pub use Rattle.sfi_image.specs.Parts.{is_gate_of, IsRightPart, IsRightLayout, IsCodeRegion, IsImage}
pub use Rattle.sfi_image.specs.declared.layout_reader.LayoutReader.{LayoutReader}
pub use Rattle.sfi_image.specs.Keeping.{StandsFor, Leads, left, left_most}
pub use Rattle.sfi_image.specs.Spelling.{spans, Part, view, views, format_of}
pub use Rattle.sfi_image.specs.declared.part.Gate.{Gate}
pub use Rattle.sfi_image.specs.declared.part.SandboxPart.{SandboxPart}
pub use Rattle.sfi_rules.specs.Readings.{block_bundle, bundle_at, IsWithin, bundle_place, bundle_bytes}
pub use Rattle.sfi_rules.specs.Findings.{AreBundleFindings, AreReadingFindings, AreFindings, AreFindingsFrom, AreImageFindings, AreFoundUpTo}
pub use Rattle.sfi_image.specs.declared.bundle.BundlePlace.{BundlePlace}
pub use Rattle.sfi_rules.specs.declared.finding.Finding.{Finding}
pub use Rattle.sfi_check.specs.Feeds.{IsFed, IsFedFinding, IsFedBy, IsHeld, owed_after, AreFindingsSoFar, IsSoFar, Tallies, IsCut, AreFindingsWithin}
pub use Rattle.sfi_safe_runs.specs.Safety.{AllRunSafely}
pub use Rattle.sfi_check.specs.Verdict.{IsVerdictOn, AreHandedOver, AreCounted, HasFindings, bundle_count}
pub use Rattle.sfi_safety.specs.Clean.{IsAccepted}
pub use Rattle.sfi_check.specs.declared.stream_answer.StreamAnswer.{StreamAnswer}
pub use Rattle.sfi_check.specs.declared.tally.Tally.{Tally}
pub use Rattle.sfi_scan.specs.Stretches.{findings_most, IsStretch, AreFoundInStretch, stretch_place}
pub use Rattle.sfi_check.specs.private.{AddsFindings, Counts, verdict_of, verdict_by, HoldsOfSome, LeadsOn, left_to_feed}
pub use Rattle.sfi_check.specs.OneVerdict.{IfLayoutFault}
pub use Rattle.sfi_check.specs.declared.refusal.Refusal.{Refusal}
pub use Rattle.sfi_image.specs.declared.fault.LayoutFault.{LayoutFault}
pub use Rattle.sfi_image.specs.declared.fields.Fields.{Fields}
