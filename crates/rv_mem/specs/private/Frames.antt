-- Words of private contracts and proofs: what changes in the frames of pages, and the page table.
use Rattle.std.specs.Prelude.{◌≡◌, ◌≢◌, ℕ, zero, suc, ◌+◌, ◌/◌, ◌<◌, ◌≤◌, List, [], ◌∷◌, length, Option, Some, nat_lt, ◌-◌, slice_index, slice_set, if◌then◌else◌, ◌*◌, ◌%◌, ◌^◌, map}
use Rattle.std.specs.List.{range_with_len}

-- ==== Frames of pages, and runs of cells.

-- each page that had a frame has one still
abbrev pub KeepsFrames : List ℕ → List ℕ → Type 0
KeepsFrames before after = (page : ℕ) → slice_index before page ≢ 0 → slice_index after page ≢ 0

-- how many frames room is kept for, by the number of a page: one where it is 1 or 2
abbrev pub kept_for : ℕ → ℕ
kept_for zero = 0
kept_for (suc zero) = 1
kept_for (suc (suc zero)) = 1
kept_for (suc (suc (suc n))) = 0

-- how many frames room is kept for, by the numbers of all pages
abbrev pub kept_in : List ℕ → ℕ
kept_in [] = 0
kept_in (n ∷ ns) = kept_for n + kept_in ns

-- the cells got one frame more, of zeros and marks of this value
pub record GainsFrame (before after : List ℕ) (mark : ℕ) : Type 0 where
  pub size : length after ≡ length before + 1024
  pub same : (k : ℕ) → k < length before → slice_index after k ≡ slice_index before k
  pub bytes : (j : ℕ) → j < 512 → slice_index after (length before + j) ≡ 0
  pub marks : (j : ℕ) → j < 512 → slice_index after (length before + 512 + j) ≡ mark

-- the pages of the size addresses from base on have frames
abbrev pub HaveFrames : List ℕ → ℕ → ℕ → Type 0
HaveFrames table base size = (k : ℕ) → k < size → slice_index table ((base + k) / 512) ≢ 0

-- cells with the first two bytes of a list from a place on
abbrev pub with_two : List ℕ → ℕ → List ℕ → List ℕ
with_two cells place bytes =
    slice_set (slice_set cells place (slice_index bytes 0)) (place + 1) (slice_index bytes 1)

-- cells with the first four bytes of a list from a place on
abbrev pub with_four : List ℕ → ℕ → List ℕ → List ℕ
with_four cells place bytes =
    slice_set
    (slice_set
    (slice_set (slice_set cells place (slice_index bytes 0)) (place + 1) (slice_index bytes 1))
    (place + 2) (slice_index bytes 2))
    (place + 3) (slice_index bytes 3)

-- what is at an address once n bytes of a list, from one of its places on and with zeros past its
-- end, stand from the start on: elsewhere, what was there before
abbrev pub run_of : ℕ → ℕ → List ℕ → ℕ → ℕ → Option ℕ → Option ℕ
run_of start n bytes from address before =
    if nat_lt address start then before
    else (if nat_lt address (start + n) then Some (slice_index bytes (from + (address - start)))
    else before)

-- the n cells from a place on got these values, and no other cell changed
pub record Puts (before after : List ℕ) (place n : ℕ) (value : ℕ → ℕ) : Type 0 where
  pub size : length after ≡ length before
  pub inside : (j : ℕ) → j < n → slice_index after (place + j) ≡ value j
  pub below : (j : ℕ) → j < place → slice_index after j ≡ slice_index before j
  pub past : (j : ℕ) → place + n ≤ j → slice_index after j ≡ slice_index before j

-- The n cells from a place on got the bytes of a list, from one of its places on and with zeros
-- past its end, and they got their marks. No other cell changed.
pub record MarksRun (before after : List ℕ) (place n : ℕ) (bytes : List ℕ) (from : ℕ) : Type 0 where
  pub size : length after ≡ length before
  pub written : (j : ℕ) → j < n → slice_index after (place + j) ≡ slice_index bytes (from + j)
  pub small : (j : ℕ) → j < n → slice_index bytes (from + j) < 256
  pub marks : (j : ℕ) → j < n → slice_index after (place + 512 + j) ≡ 1
  pub below : (j : ℕ) → j < place → slice_index after j ≡ slice_index before j
  pub between :
      (j : ℕ) → place + n ≤ j → j < place + 512 → slice_index after j ≡ slice_index before j
  pub past : (j : ℕ) → place + 512 + n ≤ j → slice_index after j ≡ slice_index before j

-- ==== A page table in two levels: chunks of 128 pages, and leaves with the numbers of such pages.

-- the number of a page: at its place in the leaf of its chunk
abbrev pub number_at : List ℕ → List ℕ → ℕ → ℕ
number_at chunks leaves page =
    slice_index leaves (slice_index chunks (page / 128) * 128 + page % 128)

-- the numbers of all pages of the chunks
abbrev pub numbers_of : List ℕ → List ℕ → List ℕ
numbers_of chunks leaves = map (number_at chunks leaves) (range_with_len 0 (length chunks * 128))

-- Each chunk leads to its leaf, which lies within the leaves, and no page of an address lies past
-- 2 ^ 23. Leaves 0, 1 and 2 are shared, and have their own number for each page; every other leaf is
-- that of one chunk.
pub record IsTable (chunks leaves : List ℕ) : Type 0 where
  pub count : length chunks ≤ 2 ^ 16
  pub whole : length leaves % 128 ≡ 0
  pub within :
      (chunk : ℕ) → chunk < length chunks → (slice_index chunks chunk + 1) * 128 ≤ length leaves
  pub none : (k : ℕ) → k < 128 → slice_index leaves k ≡ 0
  pub shared : (k : ℕ) → k < 384 → 0 < length leaves → slice_index leaves k ≡ k / 128
  pub apart : (chunk other : ℕ) → slice_index chunks chunk ≡ slice_index chunks other
      → 2 < slice_index chunks chunk → chunk ≡ other

-- where leaves of this length have this capacity, one more fits for each chunk that shares leaf 1 or
-- 2, of which there are so many
pub record HasLeafRoom (chunks : List ℕ) (size capacity kept : ℕ) : Type 0 where
  pub counted : kept_in chunks ≡ kept
  pub room : size + 128 * kept ≤ capacity
  pub most : size + 128 * kept ≤ 2 ^ 39
