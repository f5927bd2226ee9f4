-- Words of std and of definitions that many proofs of this crate use.
pub use Rattle.std.proofs.Common.{◌++◌, ap, ◌∙◌, ◌≡◌, List, take, ℕ, subst, ◌-◌, [], sym, arith, drop, length, refl, ◌+◌, ◌∷◌, get_or, inl, inr, suc, zero, Some, append_assoc, ◌*◌, ◌≤◌}
pub use Rattle.std.proofs.lemmas.List.{take_all, append-nil, drop-drop, length-take}
pub use Rattle.std.proofs.lemmas.Result.{on_ok_weaker}
pub use Rattle.std.specs.List.{flat_map}
pub use Rattle.std.specs.Prelude.{string_bytes}
pub use Rattle.rv_comp.specs.declared.front.Front.TheVariants.{Read}
pub use Rattle.sfi_image.specs.Spelling.{view, format_of, Part}
pub use Rattle.sfi_image.specs.declared.part.SandboxPart.{SandboxPart}
pub use Rattle.sfi_formats.specs.declared.format.Format.{Format}
pub use Rattle.sfi_rules.specs.declared.finding.Finding.{Finding}
pub use Rattle.sfi_rules.specs.declared.rule.Rule.TheVariants.{V1}
pub use Rattle.sfi_report.specs.Listing.{gate_line, IsUnitListing, IsSandboxListing}
unfoldable pub use Rattle.sfi_report.specs.Listing.{format_line}
pub use Rattle.sfi_report.specs.Report.{IsFindingLine, IsReport}
pub use Rattle.sfi_report.specs.State.{registers_text}
pub use Rattle.sfi_report.specs.private.{Adds, Stands}
