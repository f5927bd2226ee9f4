-- Names in the table of a sandbox of an image.
use Rattle.std.specs.Prelude.{◌≡◌, ℕ, List, Some, None, Result, Ok, Err, slice_get}
use Rattle.sfi_image.specs.declared.fault.LayoutFault.{LayoutFault}
use Rattle.sfi_image.specs.Spelling.{Part}
use Rattle.sfi_image.specs.Keeping.{IsSandboxOf, IsBeyond}
use Rattle.sfi_image.specs.Faults.{IsFault}
use Rattle.sfi_names.specs.declared.fault.NamesFault.{NamesFault}
use Rattle.sfi_names.specs.declared.fault.NamesFault.TheVariants as faults
use Rattle.sfi_names.specs.declared.image.Missing.{Missing}
use Rattle.sfi_names.specs.declared.image.Missing.TheVariants.{NoImage, NoSandbox, NoTable, BadTable, NoName}
use Rattle.sfi_names.specs.declared.image.Kind.{Kind}
use Rattle.sfi_names.specs.declared.image.Kind.TheVariants.{Exports, Imports}
use Rattle.sfi_names.specs.Tables.{Named, Table, HasTable, address_of}
use Rattle.sfi_names.specs.Faults as names

-- the number of what is missing
abbrev pub number_of : Missing → ℕ
number_of NoImage = 1
number_of NoSandbox = 2
number_of NoTable = 3
number_of BadTable = 4
number_of NoName = 5

-- the table's names of this kind
abbrev pub of_kind : Kind → Table → List Named
of_kind Exports t = t.exports
of_kind Imports t = t.imports

-- the bytes are an image, whose sandbox `number` has these first data bytes
pub record IsInitOf (image : List ℕ) (number : ℕ) (init : List ℕ) : Type 0 where
  pub sandbox : Part
  pub sandbox_is : IsSandboxOf image number sandbox
  pub init_is : init ≡ sandbox.init

-- they are no image
abbrev pub IsNoImage : List ℕ → Type 0
IsNoImage image = (k : LayoutFault) × IsFault image k

-- the first data bytes of the image's sandbox `number` have this fault
abbrev pub HasFault : List ℕ → ℕ → NamesFault → Type 0
HasFault image number fault =
    (init : List ℕ) × IsInitOf image number init × names.IsFault init fault

-- the bytes are an image, and the first data bytes of its sandbox `number` end in the table
pub record HasTableOf (image : List ℕ) (number : ℕ) (t : Table) : Type 0 where
  pub init : List ℕ
  pub init_is : IsInitOf image number init
  pub table : HasTable init t

-- why there is no table
abbrev pub HasNoTable : List ℕ → ℕ → Missing → Type 0
HasNoTable image number NoImage = IsNoImage image
HasNoTable image number NoSandbox = IsBeyond image number
HasNoTable image number NoTable = HasFault image number faults.NoTable
HasNoTable image number BadTable = HasFault image number faults.BadTable
HasNoTable image number NoName = ⊥

-- the answer to the question which address a name of that kind stands for
abbrev pub IsAnswer : List ℕ → ℕ → Kind → List ℕ → Result ℕ Missing → Type 0
IsAnswer image number kind name (Ok a) =
    (t : Table) × HasTableOf image number t × (address_of name (of_kind kind t) ≡ Some a)
IsAnswer image number kind name (Err NoName) =
    (t : Table) × HasTableOf image number t × (address_of name (of_kind kind t) ≡ None)
IsAnswer image number kind name (Err m) = HasNoTable image number m

-- the answer to the question which entry of that kind has this index, counted from 0
abbrev pub IsEntryAnswer : List ℕ → ℕ → Kind → ℕ → Result Named Missing → Type 0
IsEntryAnswer image number kind index (Ok e) =
    (t : Table) × HasTableOf image number t × (slice_get (of_kind kind t) index ≡ Some e)
IsEntryAnswer image number kind index (Err NoName) =
    (t : Table) × HasTableOf image number t × (slice_get (of_kind kind t) index ≡ None)
IsEntryAnswer image number kind index (Err m) = HasNoTable image number m
