-- Segments as entries of a map.
use Rattle.std.specs.Prelude.{ℕ, ◌+◌, List, [], ◌∷◌, ◌++◌}
use Rattle.std.specs.FinMap.{from_entries}
use Rattle.rv_mem.specs.declared.segment.Segment.{Segment}
use Rattle.rv_mem.specs.Bytes.{Bytes}

-- bytes with their addresses, from an address on
abbrev pub entries_from : ℕ → List ℕ → List (ℕ × ℕ)
entries_from at [] = []
entries_from at (b ∷ bs) = (at, b) ∷ entries_from (at + 1) bs

-- the entries of a list of segments
abbrev pub all_entries : List Segment → List (ℕ × ℕ)
all_entries [] = []
all_entries (s ∷ ss) = entries_from s.base s.bytes.items ++ all_entries ss

-- the bytes of segments, by address
abbrev pub bytes_among : List Segment → Bytes
bytes_among ss = from_entries (all_entries ss)
