-- A memory of pages.
use Rattle.rv_mem.specs.declared.pages.Pages.{Pages}
use Rattle.rv_mem.specs.Bytes.{Bytes}
use Rattle.rv_mem.specs.Frames.{values_of, cell_at}

-- the bytes of a memory of pages, by address
abbrev pub bytes_of : Pages → Bytes
bytes_of p = values_of (cell_at p.table p.cells.items)
