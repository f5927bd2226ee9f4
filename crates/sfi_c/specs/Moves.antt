-- Where sandboxes lie by what C is told of them, and that two lie apart.
use Rattle.sfi_image.specs.declared.bounds.Bounds.{Bounds}
use Rattle.sfi_image.specs.Bounds.{AreBoundsApart}
use Rattle.sfi_c.specs.declared.part.SfiPart.{SfiPart}
use Rattle.sfi_formats.specs.Numbers.{format_numbered}
use Rattle.std.specs.Prelude.{ℕ}
use Rattle.sfi_formats.specs.declared.place.Place.{Place}
use Rattle.sfi_c.specs.declared.moving.MoveAnswer.{MoveAnswer}
use Rattle.sfi_c.specs.declared.moving.MoveAnswer.TheVariants.{Moved, Beyond, NoImage, NoPlace}

-- where the sandbox lies, and its image's format
abbrev pub told_bounds : SfiPart → Bounds
told_bounds t = record {
  format = format_numbered t.format;
  code_base = t.code_base;
  code_size = t.code_size;
  data_base = t.data_base;
  data_size = t.data_size;
}

-- no region or guard zone of one meets one of the other, nor a zone at zero of the other
abbrev pub AreToldApart : SfiPart → SfiPart → Type 0
AreToldApart one other = AreBoundsApart (told_bounds one) (told_bounds other)

-- ==== What C is told of a sandbox that was to be moved.

-- where the code and the data are to begin
abbrev pub to_place : ℕ → ℕ → Place
to_place code_base data_base = record { code_base = code_base; data_base = data_base }

-- the number by which C knows how a move ended
abbrev pub move_number : MoveAnswer → ℕ
move_number Moved = 0
move_number Beyond = 1
move_number NoImage = 2
move_number NoPlace = 3
