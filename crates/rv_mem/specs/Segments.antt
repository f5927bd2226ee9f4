-- A memory of segments.
use Rattle.rv_mem.specs.declared.segments.Segments.{Segments}
use Rattle.rv_mem.specs.Bytes.{Bytes}
use Rattle.rv_mem.specs.Segment.{bytes_among}

-- the bytes of a memory of segments, by address
abbrev pub bytes_of : Segments → Bytes
bytes_of s = bytes_among s.parts.items
