-- What holds of the definitions themselves.
use Rattle.std.specs.Prelude.{◌≡◌, ◌↔◌, ◌≤◌, ℕ, List, length, Ok, Err}
use Rattle.sfi_io.specs.Hexadecimal.{SpellsBytes, IsHexFault, BeginsAsImage, limit}
use Rattle.sfi_io.specs.Pieces.{outcome, start_of}
use Rattle.sfi_io.specs.declared.hexadecimal.HexFault.{HexFault}
use Rattle.sfi_io.specs.declared.text.TextStop.TheVariants.{Fault}

-- a text of which none was read comes to these bytes exactly if it spells them
abbrev pub ComesToItsBytes : Type 0
ComesToItsBytes =
    (text bytes : List ℕ) → (outcome (start_of text) ≡ Ok bytes) ↔ SpellsBytes text bytes

-- and to this fault exactly if it keeps its limit and has it
abbrev pub ComesToItsFault : Type 0
ComesToItsFault =
    (text : List ℕ) (fault : HexFault)
    → (outcome (start_of text) ≡ Err (Fault fault)) ↔ ((length text ≤ limit) × IsHexFault text fault)

-- a text that spells bytes doesn't begin as an image
abbrev pub TextsBeginAsNone : Type 0
TextsBeginAsNone = (text bytes : List ℕ) → SpellsBytes text bytes → ¬ BeginsAsImage text
