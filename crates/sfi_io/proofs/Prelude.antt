-- Words of std and of definitions that many proofs of this crate use.
pub use Rattle.std.proofs.Common.{ℕ, arith, ◌≡◌, length, sym, ◌+◌, ap, ◌∙◌, List, take, drop, subst, ◌-◌, ◌≤◌, ◌++◌, refl, slice_index, ◌*◌, None, Ok, Option, Some, [], inr, Bool, false, inl, true, ◌%◌, ◌<◌, Err, Result, nat_lt, append_assoc, rules, ◌∷◌, ◌==◌}
pub use Rattle.std.proofs.lemmas.Bool.Decides.{nat_tests}
pub use Rattle.std.proofs.lemmas.List.{length-drop, length-take-le, take-append-drop, take_all}
pub use Rattle.std.specs.Prelude.{filter, if◌then◌else◌, not}
pub use Rattle.hex.specs.Hex.{hex_digit_value, decode_of, digit_or_error}
unfoldable pub use Rattle.hex.specs.Hex.{decode_pairs}
pub use Rattle.hex.specs.declared.error.FromHexError.{FromHexError}
pub use Rattle.hex.specs.declared.error.FromHexError.TheVariants.{InvalidHexCharacter, InvalidStringLength, OddLength, OutOfMemory}
pub use Rattle.sfi_io.specs.Hexadecimal.{is_kept, limit}
pub use Rattle.sfi_io.specs.Pieces.{ahead, Leads, or_fault, outcome, prepend, waiting}
pub use Rattle.sfi_io.specs.declared.text.TextStop.TheVariants.{TooLarge, Fault}
pub use Rattle.sfi_io.specs.private.{SpellsFront, GoesOn, IsByteOf}
