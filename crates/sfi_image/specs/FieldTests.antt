-- The tests of the seven fields, in their order, and the fault of the first that fails.
use Rattle.std.specs.Prelude.{◌≡◌, ◌≤◌, List, [], ◌∷◌, ◌⊎◌, ◌++◌, Option, Some, None}
use Rattle.std.specs.List.{AllPairs}
use Rattle.sfi_formats.specs.Limits.{gates_most}
use Rattle.sfi_image.specs.declared.fields.Fields.{Fields}
use Rattle.sfi_image.specs.declared.fault.LayoutFault.{LayoutFault}
use Rattle.sfi_image.specs.declared.fault.LayoutFault.TheVariants as faults
use Rattle.sfi_image.specs.Spelling.{Part, AreApart, AreClear, code_span, data_span, spans_of, spans, zone_ends_of, zone_ends}
use Rattle.sfi_image.specs.Parts.{IsCodeRegion, IsDataRegion, IsMaskedBase, HasGuardRoom, HasZoneRoom, IsBundleStart}

-- what is tested of the fields
pub data FieldTest : Type 0 where
  Code : FieldTest
  Data : FieldTest
  GuardRoom : FieldTest
  Start : FieldTest
  Gates : FieldTest
  Init : FieldTest
  Overlap : FieldTest

-- no two spans of these sandboxes and of one with these fields meet, and none meets a zone at zero
pub record AreApartWith (before : List Part) (f : Fields) : Type 0 where
  pub apart : AllPairs AreApart (spans before ++ spans_of f)
  pub clear : AreClear (zone_ends before ++ zone_ends_of f) (spans before ++ spans_of f)

-- what each test asks of the fields, after these sandboxes
abbrev pub Passes : List Part → Fields → FieldTest → Type 0
Passes before f Code = IsCodeRegion f.format f.code_base f.code_size
Passes before f Data =
    IsDataRegion f.format f.data_base f.data_size × IsMaskedBase f.format f.data_base f.data_size
Passes before f GuardRoom =
    HasGuardRoom f.data_base f.data_size × HasZoneRoom f.format (code_span f) (data_span f)
Passes before f Start = IsBundleStart (code_span f) f.start
Passes before f Gates = f.gate_count ≤ gates_most
Passes before f Init = f.init_len ≤ f.data_size
Passes before f Overlap = AreApartWith before f

-- the fault where this test fails
abbrev pub fault_of : FieldTest → LayoutFault
fault_of Code = faults.Code
fault_of Data = faults.Data
fault_of GuardRoom = faults.GuardRoom
fault_of Start = faults.Start
fault_of Gates = faults.Gates
fault_of Init = faults.Init
fault_of Overlap = faults.Overlap

-- the order of the tests
abbrev pub field_tests : List FieldTest
field_tests = Code ∷ Data ∷ GuardRoom ∷ Start ∷ Gates ∷ Init ∷ Overlap ∷ []

-- the fault of the first of these tests that fails; None where all pass
abbrev pub IsFirstFault : List Part → Fields → List FieldTest → Option LayoutFault → Type 0
IsFirstFault before f [] found = found ≡ None
IsFirstFault before f (t ∷ ts) found =
    (Passes before f t × IsFirstFault before f ts found)
    ⊎ ((¬ Passes before f t) × (found ≡ Some (fault_of t)))
