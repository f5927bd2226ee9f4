-- Words that private contracts and proofs alone cite: no public statement rests on them.
use Rattle.std.specs.Prelude.{◌≡◌, ℕ, ◌<◌, true, false, Some, List, ◌++◌, map}
use Rattle.sfi_rules.specs.Readings.{Piece, IsLongestReading}
use Rattle.sfi_translate.specs.Lines.{Line, reading_lines}
use Rattle.x86_instr.specs.declared.operand.Register.{Register}
use Rattle.sfi_native.specs.declared.line.Line.{Line as Held}
use Rattle.sfi_native.specs.declared.plan.Plan.{Plan}
use Rattle.sfi_native.specs.Registers.{assigned, is_assignable, is_fixed}
use Rattle.sfi_native.specs.Lines.{line_of}

-- the lines of the longest reading of the bytes at that address
pub record AreReadingLines (at : ℕ) (bytes : List ℕ) (lines : List Line) : Type 0 where
  pub reading : List Piece
  pub longest : IsLongestReading bytes reading
  pub lines_are : lines ≡ reading_lines at reading

-- such lines were added
pub record AddsLines (old new : List Held) (holds : List Line → Type 0) : Type 0 where
  pub lines : List Line
  pub holds_of : holds lines
  pub new_is : map line_of new ≡ map line_of old ++ lines

-- register n lies in the frame, or in one that code has no other use for and none before it lies in
abbrev pub IsRightAt : Plan → ℕ → Type 0
IsRightAt plan n =
    (q : Register) → assigned plan n ≡ Some q
    → (is_assignable q ≡ true) × (is_fixed plan.format n ≡ false) × ((r : ℕ) → r < n → assigned plan r ≡ Some q → ⊥)
