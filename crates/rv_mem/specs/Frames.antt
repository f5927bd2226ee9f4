-- The page table, the frames of its pages, and what stands at an address.
use Rattle.std.specs.Prelude.{◌≡◌, ℕ, zero, suc, ◌+◌, ◌*◌, ◌/◌, ◌%◌, ◌^◌, ◌<◌, ◌≤◌, ◌==◌, List, length, Option, None, Some, slice_index, if◌then◌else◌}
use Rattle.std.specs.FinMap.{empty, insert}
use Rattle.rv_mem.specs.Bytes.{Bytes}

-- where the frame of an address's page begins in the cells: 512 bytes,
-- and after them a mark for each
abbrev pub frame_of : List ℕ → ℕ → ℕ
frame_of table address = slice_index table (address / 512) * 1024

-- the byte of a cell, if that has its mark
abbrev pub cell : List ℕ → ℕ → Option ℕ
cell cells place =
    if slice_index cells (place + 512) == 1 then Some (slice_index cells place) else None

-- the byte at an address, if one is there
abbrev pub cell_at : List ℕ → List ℕ → ℕ → Option ℕ
cell_at table cells address = cell cells (frame_of table address + address % 512)

-- The table leads from each page to its frame, which lies within the cells, and no page of an
-- address lies past 2 ^ 23. Frames 0, 1 and 2 are shared: 0 and 1 have no mark, and 2 has zeros and
-- every mark. Each other frame is that of one page.
pub record ArePages (table cells : List ℕ) : Type 0 where
  pub count : length table ≤ 2 ^ 23
  pub whole : length cells % 1024 ≡ 0
  pub frames : (page : ℕ) → page < length table → (slice_index table page + 1) * 1024 ≤ length cells
  pub none : (k : ℕ) → k < 512 → slice_index cells (512 + k) ≡ 0
  pub kept : (k : ℕ) → k < 512 → slice_index cells (1536 + k) ≡ 0
  pub zeros : (k : ℕ) → k < 512 → slice_index cells (2048 + k) ≡ 0
  pub marks : (k : ℕ) → k < 512 → 0 < length cells → slice_index cells (2560 + k) ≡ 1
  pub apart : (page other : ℕ) → slice_index table page ≡ slice_index table other
      → 2 < slice_index table page → page ≡ other
  pub bytes : (k : ℕ) → slice_index cells k < 256

-- a map with one entry more
abbrev pub with_entry : Bytes → ℕ → Option ℕ → Bytes
with_entry m a None = m
with_entry m a (Some b) = insert m a b

-- the map that has the values of a function below n
unfoldable pub values_below : ℕ → (ℕ → Option ℕ) → Bytes
values_below zero f = empty
values_below (suc n) f = with_entry (values_below n f) n (f n)

-- the map that has its values at all addresses
unfoldable pub values_of : (ℕ → Option ℕ) → Bytes
values_of f = values_below (2 ^ 32) f
