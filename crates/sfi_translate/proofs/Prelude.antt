-- Words of std and of definitions that many proofs of this crate use.
pub use Rattle.std.proofs.Common.{◌++◌, ap, ◌∙◌, ◌≡◌, List, take, ℕ, subst, ◌-◌, [], sym, arith, drop, length, refl, ◌+◌, ◌∷◌, get_or, inl, inr, suc, zero, append_assoc, ◌*◌, ◌≤◌}
pub use Rattle.std.proofs.lemmas.List.{take_all, append-nil, drop-drop, length-take}
pub use Rattle.std.proofs.lemmas.Result.{on_ok_weaker}
pub use Rattle.std.specs.List.{flat_map}
pub use Rattle.std.specs.Prelude.{string_bytes}
pub use Rattle.rv_comp.specs.declared.front.Front.TheVariants.{Read}
pub use Rattle.sfi_image.specs.Spelling.{view, format_of, Part}
pub use Rattle.sfi_image.specs.declared.part.SandboxPart.{SandboxPart}
pub use Rattle.sfi_formats.specs.declared.format.Format.{Format}
pub use Rattle.sfi_translate.specs.Lines.{Line, Function, End, Entry, Head, Does, AreLines, AreUnitLines, reading_lines}
pub use Rattle.sfi_translate.specs.Translation.{line_text, spell, spelled, gate_line, IsSandboxText, IsCodeText}
pub use Rattle.sfi_translate.specs.private.{Adds, IsReadingText, IsUnitText}
