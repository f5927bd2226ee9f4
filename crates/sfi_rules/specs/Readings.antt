-- What a bundle is read as, and what stands before a place of it.
use Rattle.std.specs.Prelude.{ℕ, ◌+◌, ◌*◌, ◌^◌, ◌≤◌, List, length, take, drop, false, [], ◌∷◌, ◌==◌, ◌&&◌, not, Bool, true}
use Rattle.sfi_formats.specs.Limits.{bundle_size}
use Rattle.sfi_image.specs.Spelling.{Part}
use Rattle.sfi_image.specs.Parts.{is_gate_of}
use Rattle.sfi_image.specs.declared.bundle.BundlePlace.{BundlePlace}
use Rattle.rv_word.specs.declared.instr.Instr.{Instr}
use Rattle.rv_comp.specs.Fronts.{Spells}
use Rattle.sfi_formats.specs.Formats.{code_base_register, code_mask_register, data_base_register, data_mask_register, is_reserved, stack_pointer, has_stack}
use Rattle.sfi_pairs.specs.Pairs.{is_pair}
use Rattle.rv_word.specs.declared.instr.Instr.TheVariants.{Jal, Jalr}
use Rattle.rv_word.specs.Outlines.{writes_register}

-- ==== Bundles: the aligned blocks that a code region is made of (Yee and others, "Native Client",
-- 2009).

-- The bundle's bytes lie in its code region, whose end is at most 2 ^ 32.
-- (So it is at each bundle start of a code region.)
pub record IsWithin (b : BundlePlace) : Type 0 where
  pub base : b.code_base ≤ b.address
  pub end : b.address + bundle_size ≤ b.code_base + b.code_size
  pub addresses : b.code_base + b.code_size ≤ 2 ^ 32

-- The block of eight bundles of which this is the first, and a ninth after them, lie in the code
-- region, whose end is at most 2 ^ 32. (So none of the eight is the region's last.)
pub record IsWithinBlock (b : BundlePlace) : Type 0 where
  pub base : b.code_base ≤ b.address
  pub end : b.address + 9 * bundle_size ≤ b.code_base + b.code_size
  pub addresses : b.code_base + b.code_size ≤ 2 ^ 32

-- the place of the block's bundle of that number, counted from 0; a block has no listed gate
abbrev pub bundle_at : BundlePlace → ℕ → BundlePlace
bundle_at b n = record b { address = b.address + bundle_size * n; listed = false }

-- the bytes of the block's bundle of that number
abbrev pub block_bundle : List ℕ → ℕ → List ℕ
block_bundle block n = take bundle_size (drop (bundle_size * n) block)

-- the place of a part's bundle of that number
abbrev pub bundle_place : ℕ → Part → ℕ → BundlePlace
bundle_place sandbox p n =
    let at = p.code_base + bundle_size * n in
    record {
      sandbox = sandbox;
      address = at;
      format = p.format;
      code_base = p.code_base;
      code_size = length p.code;
      listed = is_gate_of p.gates at;
    }

-- the bytes of the part's bundle of that number
abbrev pub bundle_bytes : Part → ℕ → List ℕ
bundle_bytes p n = take bundle_size (drop (bundle_size * n) p.code)

-- ==== What a bundle is read as.

-- an instruction and its length in bytes
pub record Piece : Type 0 where
  pub instr : Instr
  pub size : ℕ

-- the spellings of the pieces, one after another, begin the bytes
abbrev pub IsReading : List ℕ → List Piece → Type 0
IsReading bytes [] = Unit {0}
IsReading bytes (x ∷ reading) =
    Spells (take x.size bytes) x.instr x.size × IsReading (drop x.size bytes) reading

-- a reading of the bytes, such that no reading has more pieces
pub record IsLongestReading (bytes : List ℕ) (reading : List Piece) : Type 0 where
  pub is_reading : IsReading bytes reading
  pub longest : (other : List Piece) → IsReading bytes other → length other ≤ length reading

-- what the reading leaves of the bytes
abbrev pub rest_of : List ℕ → List Piece → List ℕ
rest_of bytes [] = bytes
rest_of bytes (x ∷ reading) = rest_of (drop x.size bytes) reading

-- ==== The masked pairs before a place.

-- The two instructions directly before a place are the pair on the target, which is neither x0 nor
-- reserved. `earlier` has the instructions before the place in its bundle, the nearest first.
abbrev pub follows_pair : ℕ → ℕ → ℕ → List Instr → Bool
follows_pair mask base target (second ∷ first ∷ earlier) =
    is_pair mask base target first second && not (target == 0) && not (is_reserved target)
follows_pair mask base target _ = false

-- `and target, a, x27`, then `or target, target, x26`
abbrev pub follows_data_pair : ℕ → List Instr → Bool
follows_data_pair target earlier = follows_pair data_mask_register data_base_register target earlier

-- `and target, a, x25`, then `or target, target, x24`
abbrev pub follows_code_pair : ℕ → List Instr → Bool
follows_code_pair target earlier = follows_pair code_mask_register code_base_register target earlier

-- ==== The stack pointer x2, of a format that has one: it lies in the data region at each access on
-- it, which needs no pair, and what writes it is followed by the pair that puts it back.

-- the instruction writes the stack pointer, in a format that has one
abbrev pub writes_stack : BundlePlace → Instr → Bool
writes_stack b i = has_stack b.format && writes_register stack_pointer i

-- the two instructions are the pair on x2: `and x2, a, x27`, then `or x2, x2, x26`
abbrev pub is_stack_pair : Instr → Instr → Bool
is_stack_pair first second =
    is_pair data_mask_register data_base_register stack_pointer first second

-- the instruction and the one directly after it are the pair on x2
abbrev pub begins_pair : Instr → List Piece → Bool
begins_pair i [] = false
begins_pair i (next ∷ later) = is_stack_pair i next.instr

-- the instruction directly before it and the instruction are the pair on x2 (`earlier` has the
-- nearest first)
abbrev pub ends_pair : List Instr → Instr → Bool
ends_pair [] i = false
ends_pair (before ∷ earlier) i = is_stack_pair before i

-- the two instructions directly after it are the pair on x2
abbrev pub precedes_pair : List Piece → Bool
precedes_pair [] = false
precedes_pair (next ∷ later) = begins_pair next.instr later

-- the instruction is a jal or jalr: control goes elsewhere from it
abbrev pub is_jump : Instr → Bool
is_jump (Jal rd offset) = true
is_jump (Jalr rd rs1 imm) = true
is_jump _ = false
