-- Words of std and of definitions that many proofs of this crate use.
pub use Rattle.std.proofs.Common.{subst, ◌≡◌, List, arith, ◌∙◌, ap, sym, ℕ, length, refl, Bool, Result, inl, slice_get}
pub use Rattle.std.specs.Prelude.{string_bytes}
pub use Rattle.sfi_host.specs.Worlds.{slots_of}
pub use Rattle.sfi_image.specs.Spelling.{view, Part, views}
pub use Rattle.sfi_tool.specs.Running.{AreStates, round_of}
pub use Rattle.sfi_report.specs.private.{Adds}
