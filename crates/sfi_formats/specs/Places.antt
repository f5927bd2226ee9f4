-- Where the regions of each sandbox lie if nobody says another place.
use Rattle.std.specs.Prelude.{ℕ, ◌+◌, ◌-◌, ◌*◌, ◌^◌, List, slice_get, Option, Some, None, if◌then◌else◌}
use Rattle.sfi_formats.specs.declared.place.Place.{Place}
use Rattle.sfi_formats.specs.declared.format.Format.{Format}
use Rattle.sfi_formats.specs.Formats.{has_single_mask}

-- the first code base, and how far the code of one sandbox lies from that of the next
abbrev pub sandbox_stride : ℕ
sandbox_stride = 0x01000000

-- how far the data lies from the code; where masks of data are single, the code lies so far up itself
abbrev pub data_offset : ℕ
data_offset = 0x00800000

-- Where sandbox `number` lies if nobody says another place. Where masks of data are single, the data of
-- each begin at a bit of its own, the first one's at the highest.
abbrev pub usual : Format → ℕ → Place
usual format number =
    let low = sandbox_stride * (number + 1) in
    if has_single_mask format then record { code_base = low + data_offset; data_base = 2 ^ (31 - number) }
    else record { code_base = low; data_base = low + data_offset }

-- this place, or else the usual one of that number
abbrev pub or_usual : Format → ℕ → Option Place → Place
or_usual format number (Some place) = place
or_usual format number None = usual format number

-- where sandbox `number` lies: at the place that is given for it, or else at its usual one
abbrev pub place_of : List Place → Format → ℕ → Place
place_of given format number = or_usual format number (slice_get given number)
