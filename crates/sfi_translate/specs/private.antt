-- Words that private contracts and proofs alone cite: no public statement rests on them.
use Rattle.std.specs.Prelude.{◌≡◌, ℕ, List}
pub use Rattle.sfi_report.specs.private.{Adds}
use Rattle.sfi_rules.specs.Readings.{Piece, IsLongestReading}
use Rattle.sfi_translate.specs.Lines.{Line, reading_lines, AreUnitLines}
use Rattle.sfi_translate.specs.Translation.{spelled}

-- the lines of the longest reading of the bytes at that address, spelled
pub record IsReadingText (at : ℕ) (bytes text : List ℕ) : Type 0 where
  pub reading : List Piece
  pub longest : IsLongestReading bytes reading
  pub text_is : text ≡ spelled (reading_lines at reading)

-- the lines of the unit of that offset, of these bytes, spelled
pub record IsUnitText (sandbox offset at : ℕ) (bytes text : List ℕ) : Type 0 where
  pub lines : List Line
  pub lines_are : AreUnitLines sandbox offset at bytes lines
  pub text_is : text ≡ spelled lines
