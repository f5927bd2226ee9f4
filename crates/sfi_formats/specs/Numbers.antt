-- Formats by their numbers, as C has them.
use Rattle.std.specs.Prelude.{◌==◌, ℕ, if◌then◌else◌}
use Rattle.sfi_formats.specs.declared.format.Format.{Format}
use Rattle.sfi_formats.specs.declared.format.Format.TheVariants.{Sfi1, Sfi2, Sfiw, Sfis}

-- a format's number
abbrev pub format_number : Format → ℕ
format_number Sfi1 = 1
format_number Sfi2 = 2
format_number Sfiw = 3
format_number Sfis = 4

-- the format of that number; each but 1, 2 and 3 counts as that of the fourth, which asks most of others
abbrev pub format_numbered : ℕ → Format
format_numbered number =
    if number == 1 then Sfi1 else if number == 2 then Sfi2 else if number == 3 then Sfiw else Sfis
