-- What there is of a sandbox in a world.
use Rattle.std.specs.Prelude.{ℕ, ◌+◌, ◌&&◌, nat_le, nat_lt, not, Bool, IsSome, ◌-◌, ◌^◌, ◌||◌, List, min, Option, slice_get}
use Rattle.std.specs.FinMap.{retain_keys}
use Rattle.rv_mem.specs.Bytes.{Bytes, byte_at}
use Rattle.sfi_image.specs.declared.span.Span.{Span}
use Rattle.sfi_image.specs.Spelling.{Holds, code_region, data_region, Part}
use Rattle.sfi_host.specs.declared.region.Region.{Region}
use Rattle.sfi_formats.specs.declared.format.Format.{Format}
use Rattle.rv_step.specs.State.{Hart, State}
use Rattle.sfi_image.specs.declared.part.Gate.{Gate}
use Rattle.sfi_host.specs.declared.status.Status.{Status}
use Rattle.std.specs.Option.{option_map}

-- ==== The bytes of a memory in a region of addresses, and those outside it.

-- the addresses of a region of the program
abbrev pub span_of : Region → Span
span_of r = record { base = r.base; size = r.size }

-- the region holds the address
abbrev pub is_in : Span → ℕ → Bool
is_in s a = nat_le s.base a && nat_lt a (s.base + s.size)

-- the bytes of a memory in a region
abbrev pub bytes_in : Span → Bytes → Bytes
bytes_in s m = retain_keys m (is_in s)

-- the bytes of a memory outside a region
abbrev pub bytes_outside : Span → Bytes → Bytes
bytes_outside s m = retain_keys m (λ a. not (is_in s a))

-- there is a byte at each address of the region
abbrev pub IsWhole : Span → Bytes → Type 0
IsWhole s m = (a : ℕ) → Holds s a → IsSome (byte_at m a)

-- ==== What there is of a sandbox in a world.

-- What a sandbox has from its image but its code's bytes: its format; where it lies, which is its
-- code region, its data region, and its gates; and what it begins with, which is its start, and the
-- first of its data bytes.
pub record Bounds : Type 0 where
  pub format : Format
  pub code : Span
  pub «data» : Span
  pub gates : List Gate
  pub start : ℕ
  pub init : List ℕ

-- those of a sandbox of an image
abbrev pub bounds_of : Part → Bounds
bounds_of p = record {
  format = p.format;
  code = code_region p;
  «data» = data_region p;
  gates = p.gates;
  start = p.start;
  init = p.init;
}

-- the address lies in its code or its data
abbrev pub is_own : Bounds → ℕ → Bool
is_own b a = is_in b.code a || is_in b.data a

-- the bytes of a memory that are its own
abbrev pub own : Bounds → Bytes → Bytes
own b m = retain_keys m (is_own b)

-- a sandbox: where it lies, its pc and registers, what it may still do, how many steps it did, and
-- its own code and data bytes
pub record Slot : Type 0 where
  pub bounds : Bounds
  pub hart : Hart
  pub status : Status
  pub steps : ℕ
  pub bytes : Bytes

-- the machine that has this sandbox alone
abbrev pub state_of : Slot → State
state_of slot = record { hart = slot.hart; memory = slot.bytes }

-- one step more; the count stays at the largest that it can be
abbrev pub one_more : ℕ → ℕ
one_more n = min (n + 1) (2 ^ 64 - 1)

-- ==== What else may be asked of a world: a sandbox's pc and registers, and its data region.

-- the pc and registers of sandbox `i`
abbrev pub hart_at : List Slot → ℕ → Option Hart
hart_at slots i = option_map (λ (s : Slot). s.hart) (slice_get slots i)

-- the data region of sandbox `i`
abbrev pub data_region_at : List Slot → ℕ → Option Span
data_region_at slots i = option_map (λ (s : Slot). s.bounds.data) (slice_get slots i)
