-- What a sandbox's part of an image holds, the bytes of an image, and the spans of addresses that
-- its fields give.
use Rattle.std.specs.Prelude.{ℕ, ◌^◌, ◌<◌, ◌≡◌, true, List, [], ◌∷◌, ◌++◌, length, map, cond, ◌+◌, ◌-◌, ◌≤◌, ◌⊎◌}
use Rattle.std.specs.List.{All, flat_map}
use Rattle.std.specs.Int.{w32, to_le_bytes}
use Rattle.sfi_formats.specs.declared.format.Format.{Format}
use Rattle.sfi_formats.specs.declared.format.Format.TheVariants.{Sfi1}
use Rattle.sfi_formats.specs.Formats.{magic, has_single_mask}
use Rattle.sfi_image.specs.declared.part.Gate.{Gate}
use Rattle.sfi_image.specs.declared.fields.Fields.{Fields}
use Rattle.sfi_image.specs.declared.part.SandboxPart.{SandboxPart}
use Rattle.sfi_formats.specs.Limits.{guard}
use Rattle.sfi_image.specs.declared.span.Span.{Span}

-- ==== What a sandbox's part of an image holds, and the bytes of an image.

-- one sandbox of an image; its code size, gate count and init length are the lengths of its lists
pub record Part : Type 0 where
  pub format : Format  -- that of its image
  pub code_base : ℕ
  pub data_base : ℕ
  pub data_size : ℕ
  pub start : ℕ
  pub gates : List Gate
  pub code : List ℕ
  pub init : List ℕ

-- the sandbox that the program's value stands for, in an image of this format
abbrev pub view : Format → SandboxPart → Part
view f p = record {
  format = f;
  code_base = p.code_base;
  data_base = p.data_base;
  data_size = p.data_size;
  start = p.start;
  gates = p.gates.items;
  code = p.code.now;
  init = p.init.now;
}

-- the sandboxes that a list of such values stands for
abbrev pub views : Format → List SandboxPart → List Part
views f ps = map (view f) ps

-- the format of an image with these parts: that of the first one
abbrev pub format_of : List Part → Format
format_of [] = Sfi1
format_of (p ∷ ps) = p.format

-- the seven fields of a sandbox, and its image's format
abbrev pub fields_of : Part → Fields
fields_of p = record {
  format = p.format;
  code_base = p.code_base;
  code_size = length p.code;
  data_base = p.data_base;
  data_size = p.data_size;
  start = p.start;
  gate_count = length p.gates;
  init_len = length p.init;
}

-- ---- bytes

-- a number in four bytes, the lowest first
unfoldable pub number : ℕ → List ℕ
number n = to_le_bytes w32 n

-- the seven fields, in their order
unfoldable pub fields : Fields → List ℕ
fields f = number f.code_base ++ (number f.code_size ++ (number f.data_base ++ (number f.data_size
    ++ (number f.start ++ (number f.gate_count ++ number f.init_len)))))

-- a gate's address, then its service
unfoldable pub gate : Gate → List ℕ
gate g = number g.address ++ number g.service

-- a sandbox: its fields, its gates, its code, its first data bytes
unfoldable pub part : Part → List ℕ
part p = fields (fields_of p) ++ (flat_map gate p.gates ++ (p.code ++ p.init))

-- an image: its format's magic, the count, and each sandbox
unfoldable pub spelling : List Part → List ℕ
spelling ps = magic (format_of ps) ++ (number (length ps) ++ flat_map part ps)

-- ---- what four bytes can hold

-- the number has 32 bits
abbrev pub IsWord : ℕ → Type 0
IsWord n = n < 2 ^ 32

-- ==== Spans of addresses, and those of a sandbox.

-- the address is one of the span's size addresses from its base on; the end may be 2 ^ 32
abbrev pub Holds : Span → ℕ → Type 0
Holds s at = (s.base ≤ at) × (at < s.base + s.size)

-- no address lies in both spans
abbrev pub AreApart : Span → Span → Type 0
AreApart s t = (at : ℕ) → Holds s at → Holds t at → ⊥

-- the address lies in the span, or at most `far` bytes below its first byte or above its last
pub record IsNear (s : Span) (far at : ℕ) : Type 0 where
  pub low : s.base ≤ at + far
  pub high : at < s.base + s.size + far

-- ---- guard zones

-- the guard zone that ends where the span begins
abbrev pub lower_guard : Span → Span
lower_guard s = record { base = s.base - guard; size = guard }

-- the guard zone that begins where the span ends
abbrev pub upper_guard : Span → Span
upper_guard s = record { base = s.base + s.size; size = guard }

-- the address lies in a guard zone of the span, on one of its sides
abbrev pub InGuards : Span → ℕ → Type 0
InGuards s at = Holds (lower_guard s) at ⊎ Holds (upper_guard s) at

-- the span with a guard zone on each side
abbrev pub with_guards : Span → Span
with_guards s = record { base = s.base - guard; size = guard + s.size + guard }

-- ---- the spans that fields give

-- the code region
abbrev pub code_span : Fields → Span
code_span f = record { base = f.code_base; size = f.code_size }

-- the data region
abbrev pub data_span : Fields → Span
data_span f = record { base = f.data_base; size = f.data_size }

-- the data region with a guard zone on each side
abbrev pub guarded_span : Fields → Span
guarded_span f = with_guards (data_span f)

-- the two spans of a sandbox; no two spans of an image may meet
abbrev pub spans_of : Fields → List Span
spans_of f = code_span f ∷ guarded_span f ∷ []

-- ---- the spans of a sandbox

-- where the sandbox's code lies
abbrev pub code_region : Part → Span
code_region p = code_span (fields_of p)

-- where the sandbox's data lie
abbrev pub data_region : Part → Span
data_region p = data_span (fields_of p)

-- the data region with a guard zone on each side
abbrev pub guarded_region : Part → Span
guarded_region p = guarded_span (fields_of p)

-- the spans of all these sandboxes
abbrev pub spans : List Part → List Span
spans ps = flat_map (λ p. spans_of (fields_of p)) ps

-- ---- zones at zero, of formats whose masks of data are single

-- Where the zone at zero of data of this size ends. The mask leads into the data or to an address below
-- their size, and an access lies less than a guard zone beside that: so the zone at zero are the
-- addresses below this one, and the last `guard` addresses below 2 ^ 32.
abbrev pub zone_end : ℕ → ℕ
zone_end size = size + guard

-- the address is one of the first `size`, or at most `far` bytes below 0, modulo 2 ^ 32, or above the last
-- of them
abbrev pub IsNearZero : ℕ → ℕ → ℕ → Type 0
IsNearZero size far at = (at < size + far) ⊎ ((2 ^ 32 ≤ at + far) × (at < 2 ^ 32))

-- the address lies in the zone at zero of data of this size
abbrev pub InZoneAtZero : ℕ → ℕ → Type 0
InZoneAtZero size = IsNearZero size guard

-- The address lies in a zone of a sandbox of this format whose data are the span: in a guard zone on one
-- of their sides; or, where masks of data are single, in the zone at zero.
abbrev pub InZones : Format → Span → ℕ → Type 0
InZones format s at = InGuards s at ⊎ ((has_single_mask format ≡ true) × InZoneAtZero s.size at)

-- The address is near the span, the data of a sandbox of this format; or, where the mask of data has one
-- step, so near the first addresses, as many as the data have.
abbrev pub IsNearIn : Format → Span → ℕ → ℕ → Type 0
IsNearIn format s far at = IsNear s far at ⊎ ((has_single_mask format ≡ true) × IsNearZero s.size far at)

-- where the zone at zero of a sandbox with these fields ends, if its format has one
abbrev pub zone_ends_of : Fields → List ℕ
zone_ends_of f = cond (has_single_mask f.format) (zone_end f.data_size ∷ []) []

-- where the zones at zero of all these sandboxes end
abbrev pub zone_ends : List Part → List ℕ
zone_ends ps = flat_map (λ p. zone_ends_of (fields_of p)) ps

-- Where the zones at zero of sandboxes with these spans end, if their format has them: the spans are two
-- for each sandbox, the second of which is the data region with its guard zones.
abbrev pub ends_below : List Span → List ℕ
ends_below [] = []
ends_below (code ∷ []) = []
ends_below (code ∷ guarded ∷ more) = (guarded.size - guard) ∷ ends_below more

-- the span lies clear of a zone at zero that ends there: above its first addresses and below its last
pub record IsClear (end : ℕ) (s : Span) : Type 0 where
  pub above : end ≤ s.base
  pub below : s.base + s.size + guard ≤ 2 ^ 32

-- each of the spans lies clear of each zone at zero with one of these ends
abbrev pub AreClear : List ℕ → List Span → Type 0
AreClear ends ss = All (λ s. All (λ end. IsClear end s) ends) ss
