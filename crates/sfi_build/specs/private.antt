-- Words that private contracts and proofs alone cite: no public statement rests on them.
use Rattle.std.specs.Prelude.{◌≡◌, ◌⊎◌, ℕ, Option, None, Result, Err}
use Rattle.sfi_names.specs.Tables.{Named}
use Rattle.sfi_build.specs.declared.table_fault.TableFault.TheVariants.{Unknown}
use Rattle.sfi_build.specs.declared.table_fault.TableFault.{TableFault}
use Rattle.sfi_build.specs.declared.fault.BuildFault.{BuildFault}
use Rattle.sfi_build.specs.declared.fault.BuildFault.TheVariants.{Names}
use Rattle.sfi_build.specs.Texts.{IsWantOfMemory}

-- memory ran out, or this is the fault that is due
abbrev pub IsTableStop : {X : Type 0} → Result X TableFault → BuildFault → Type 0
IsTableStop due f = IsWantOfMemory f ⊎ ((g : TableFault) × (f ≡ Names g) × (due ≡ Err g))

-- memory ran out, or what the line lists has no entry
abbrev pub IsEntryStop : Option Named → ℕ → BuildFault → Type 0
IsEntryStop due line f = IsWantOfMemory f ⊎ ((f ≡ Names (Unknown line)) × (due ≡ None))
