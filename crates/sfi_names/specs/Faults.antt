-- Why bytes have no table of names.
use Rattle.std.specs.Prelude.{ℕ, List}
use Rattle.sfi_names.specs.declared.fault.NamesFault.{NamesFault}
use Rattle.sfi_names.specs.declared.fault.NamesFault.TheVariants.{NoTable, BadTable}
use Rattle.sfi_names.specs.Tables.{Table, magic, EndsIn, HasTable}

-- the bytes have this fault: they don't end in the magic, or they do and not in a table
abbrev pub IsFault : List ℕ → NamesFault → Type 0
IsFault bytes NoTable = ¬ EndsIn bytes magic
IsFault bytes BadTable = EndsIn bytes magic × ((t : Table) → ¬ HasTable bytes t)
