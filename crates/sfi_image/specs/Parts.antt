-- Right sandboxes: regions, reserved registers and gates; and images of them.
use Rattle.std.specs.Prelude.{◌≡◌, ℕ, ◌+◌, ◌*◌, ◌%◌, ◌^◌, ◌≤◌, ◌-◌, ◌<◌, ◌==◌, ◌||◌, Bool, true, false, if◌then◌else◌, List, [], ◌∷◌, length, slice_index}
use Rattle.sfi_formats.specs.Limits.{bundle_size, word_size, guard, region_least, service_most, gates_most, sandboxes_most}
use Rattle.sfi_formats.specs.declared.format.Format.{Format}
use Rattle.sfi_formats.specs.Formats.{code_most, data_most, unit, code_base_register, code_mask_register, data_base_register, data_mask_register, has_single_mask}
use Rattle.sfi_image.specs.declared.span.Span.{Span}
use Rattle.sfi_image.specs.Spelling.{Holds, code_region, data_region, AreApart, spans, zone_end, zone_ends, AreClear, Part, format_of, IsWord, spelling}
use Rattle.sfi_image.specs.declared.reserved.Reserved.{Reserved}
use Rattle.std.specs.List.{All, AllPairs}
use Rattle.sfi_image.specs.declared.part.Gate.{Gate}

-- ==== Where the regions of a sandbox may lie.

-- the size is a power of two within the bounds, the base a multiple of it
pub record IsRegion (base size least most : ℕ) : Type 0 where
  pub power : ℕ
  pub size_is : size ≡ 2 ^ power
  pub at_least : least ≤ size
  pub at_most : size ≤ most
  pub multiple : ℕ
  pub base_is : base ≡ multiple * size

-- a code region of this format may have this base and size
abbrev pub IsCodeRegion : Format → ℕ → ℕ → Type 0
IsCodeRegion format base size = IsRegion base size region_least (code_most format)

-- a data region of this format may have this base and size
abbrev pub IsDataRegion : Format → ℕ → ℕ → Type 0
IsDataRegion format base size = IsRegion base size region_least (data_most format)

-- a guard zone has room below the data, and another between its end and 2 ^ 32
pub record HasGuardRoom (base size : ℕ) : Type 0 where
  pub below : guard ≤ base
  pub above : base + size + guard ≤ 2 ^ 32

-- ---- of formats whose masks of data are single; of others nothing is asked

-- The base is a single bit, and no lower than the size. So what a number has in common with the mask,
-- base + size - 1, lies below the size, or in the data.
pub record IsOneBit (base size : ℕ) : Type 0 where
  pub power : ℕ
  pub base_is : base ≡ 2 ^ power
  pub no_lower : size ≤ base

-- a data region of this format may have this base, as far as its masks need it
abbrev pub IsMaskedBase : Format → ℕ → ℕ → Type 0
IsMaskedBase format base size = has_single_mask format ≡ true → IsOneBit base size

-- the zone at zero ends below the code and below the data, and its last addresses begin above the code
pub record IsClearOfZero (code_at data_at : Span) : Type 0 where
  pub code_above : zone_end data_at.size ≤ code_at.base
  pub data_above : zone_end data_at.size ≤ data_at.base
  pub code_below : code_at.base + code_at.size + guard ≤ 2 ^ 32

-- a sandbox of this format may have these regions, as far as its own zone at zero goes
abbrev pub HasZoneRoom : Format → Span → Span → Type 0
HasZoneRoom format code_at data_at = has_single_mask format ≡ true → IsClearOfZero code_at data_at

-- ---- units of code

-- the address is a multiple of `size`, the bytes of a unit of code, in the region
pub record IsStart (size : ℕ) (region : Span) (at : ℕ) : Type 0 where
  pub held : Holds region at
  pub aligned : at % size ≡ 0

-- a bundle's start in the region
abbrev pub IsBundleStart : Span → ℕ → Type 0
IsBundleStart = IsStart bundle_size

-- a word's start in the region
abbrev pub IsWordStart : Span → ℕ → Type 0
IsWordStart = IsStart word_size

-- ==== What the reserved registers hold.

-- The mask of a data address: the data size less 1. Where masks are single, it has the base's bit, too.
abbrev pub data_mask_of : Format → Span → ℕ
data_mask_of format data_at =
    if has_single_mask format then data_at.base + data_at.size - 1 else data_at.size - 1

-- what the reserved registers hold while a sandbox of this format runs whose code lies in the first span,
-- and its data in the second; x26 only at first, where masks are single
abbrev pub reserved_for : Format → Span → Span → Reserved
reserved_for format code_at data_at = record {
  code_base = code_at.base;
  code_mask = code_at.size - unit format;
  data_base = data_at.base;
  data_mask = data_mask_of format data_at;
}

-- what the reserved registers hold while this sandbox runs
abbrev pub reserved_of : Part → Reserved
reserved_of p = reserved_for p.format (code_region p) (data_region p)

-- The reserved registers of this format hold these values. Where masks are single, x26 is none of them,
-- but a data register.
pub record HasReserved (format : Format) (values : Reserved) (registers : List ℕ) : Type 0 where
  pub code_base : slice_index registers code_base_register ≡ values.code_base
  pub code_mask : slice_index registers code_mask_register ≡ values.code_mask
  pub data_base : has_single_mask format ≡ false → slice_index registers data_base_register ≡ values.data_base
  pub data_mask : slice_index registers data_mask_register ≡ values.data_mask

-- ==== The gates of a sandbox.

-- each gate lies at a bundle start of the code region and names a service that there is, and each
-- lies below those after it
pub record AreGates (region : Span) (gs : List Gate) : Type 0 where
  pub starts : All (λ g. IsBundleStart region g.address) gs
  pub services : All (λ g. g.service ≤ service_most) gs
  pub ascending : AllPairs (λ g h. g.address < h.address) gs

-- the address is that of one of the gates
abbrev pub is_gate_of : List Gate → ℕ → Bool
is_gate_of [] at = false
is_gate_of (g ∷ gs) at = (g.address == at) || is_gate_of gs at

-- ==== Sandboxes that pass each test but Overlap, and that lie apart.

-- the code's first address has 32 bits, and the sandbox passes each test but Overlap: its own code
-- and guard zones may still meet. (All its other numbers have 32 bits by these tests.)
pub record IsRightPart (p : Part) : Type 0 where
  pub code_base : IsWord p.code_base
  pub code_placed : IsCodeRegion p.format p.code_base (length p.code)
  pub data_placed : IsDataRegion p.format p.data_base p.data_size
  pub one_bit : IsMaskedBase p.format p.data_base p.data_size
  pub guard_room : HasGuardRoom p.data_base p.data_size
  pub zone_room : HasZoneRoom p.format (code_region p) (data_region p)
  pub start : IsBundleStart (code_region p) p.start
  pub gate_count : length p.gates ≤ gates_most
  pub init_len : length p.init ≤ p.data_size
  pub gates : AreGates (code_region p) p.gates

-- each part is right by itself, no two of all their spans meet, and none meets a zone at zero
pub record AreRight (ps : List Part) : Type 0 where
  pub each : All IsRightPart ps
  pub apart : AllPairs AreApart (spans ps)
  pub clear : AreClear (zone_ends ps) (spans ps)

-- each part has this format
abbrev pub AreOf : Format → List Part → Type 0
AreOf format ps = All (λ p. p.format ≡ format) ps

-- there are 1 to `sandboxes_most` right parts, all of one format
pub record IsRightLayout (ps : List Part) : Type 0 where
  pub at_least_one : 1 ≤ length ps
  pub at_most : length ps ≤ sandboxes_most
  pub one_format : AreOf (format_of ps) ps
  pub right : AreRight ps

-- ==== What it is for bytes to be an image.

-- the bytes are the image of these sandboxes, whose layout is right
pub record IsImage (bytes : List ℕ) (ps : List Part) : Type 0 where
  pub bytes_are : bytes ≡ spelling ps
  pub layout : IsRightLayout ps
