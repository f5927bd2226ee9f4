-- Words of std and of definitions that many proofs of this crate use.
pub use Rattle.sfi_image.specs.Keeping.{IsSandboxOf, sandbox_offset, IsViewOf}
pub use Rattle.sfi_c.specs.Parts.{with_findings}
pub use Rattle.sfi_check.specs.ForC.{finding_for_c}
pub use Rattle.sfi_c.specs.declared.looking.Lookup.TheVariants.{Beyond, Found}
pub use Rattle.sfi_image.specs.Spelling.{Part}
pub use Rattle.sfi_rules.specs.declared.finding.Finding.{Finding}
pub use Rattle.std.proofs.Common.{List, Some, [], ap, arith, drop, inr, length, refl, subst, suc, sym, take, ℕ, ◌*◌, ◌++◌, ◌+◌, ◌-◌, ◌<◌, ◌∙◌, ◌∷◌, ◌≡◌}
pub use Rattle.std.proofs.lemmas.List.{length-append}
pub use Rattle.std.proofs.lemmas.Option.{get_or_from_slice_get, slice_get_within}
pub use Rattle.std.specs.Prelude.{min}
