-- What is wrong with bytes that are no image, and with sandboxes that are to be written.
use Rattle.sfi_image.specs.declared.fault.LayoutFault.{LayoutFault}
use Rattle.sfi_image.specs.declared.fault.ImageFault.{ImageFault}
use Rattle.sfi_image.specs.declared.fault.ImageFault.TheVariants.{Layout, Memory}
use Rattle.std.specs.Prelude.{◌≡◌, ◌≢◌, ℕ, ◌+◌, ◌<◌, ◌≤◌, ◌⊎◌, List, [], ◌∷◌, ◌++◌, length, take, Some, None}
use Rattle.std.specs.List.{All, flat_map}
use Rattle.sfi_formats.specs.Limits.{sandboxes_most}
use Rattle.sfi_formats.specs.declared.format.Format.{Format}
use Rattle.sfi_formats.specs.Formats.{magic}
use Rattle.sfi_image.specs.declared.part.Gate.{Gate}
use Rattle.sfi_image.specs.declared.fields.Fields.{Fields}
use Rattle.sfi_image.specs.declared.span.Span.{Span}
use Rattle.sfi_image.specs.declared.fault.LayoutFault.TheVariants.{Magic, Count, Short, Code, Data, GuardRoom, Start, Gates, Init, Overlap, Trailing}
use Rattle.sfi_image.specs.Spelling.{Part, number, fields, gate, part, IsWord, fields_of, code_span, code_region}
use Rattle.sfi_image.specs.Numbers.{magic_bytes, number_bytes, fields_bytes, gate_bytes, AreFieldWords, AreGateWords}
use Rattle.sfi_image.specs.Parts.{AreGates, AreOf, AreRight}
use Rattle.sfi_image.specs.FieldTests.{IsFirstFault, field_tests}

-- ==== What a reader of part of an image answers.

-- the layout fault meets the fact, where it is one
abbrev pub IfLayout : ImageFault → (LayoutFault → Type 0) → Type 0
IfLayout (Layout k) P = P k
IfLayout Memory P = Unit {0}

-- ==== The fault of bytes that are no image: a right front, and then what is wrong after it.

-- the number of a fault
abbrev pub number_of : LayoutFault → ℕ
number_of Magic = 1
number_of Count = 2
number_of Short = 3
number_of Code = 4
number_of Data = 5
number_of GuardRoom = 6
number_of Start = 7
number_of Gates = 8
number_of Init = 9
number_of Overlap = 10
number_of Trailing = 11

-- after these gates there is another one, which is cut short
abbrev pub IsGateShort : Fields → List Gate → List ℕ → LayoutFault → Type 0
IsGateShort f gs rest k = (length gs < f.gate_count) × (length rest < gate_bytes) × (k ≡ Short)

-- after these gates there is another one, with which they aren't right gates
abbrev pub IsGateWrong : Fields → List Gate → List ℕ → LayoutFault → Type 0
IsGateWrong f gs rest k =
    (length gs < f.gate_count) × (g : Gate) × (after : List ℕ)
    × (rest ≡ gate g ++ after) × AreGateWords g
    × (¬ AreGates (code_span f) (gs ++ g ∷ [])) × (k ≡ Gates)

-- after the last gate the code and the data are cut short
abbrev pub AreContentsShort : Fields → List Gate → List ℕ → LayoutFault → Type 0
AreContentsShort f gs rest k =
    (length gs ≡ f.gate_count) × (length rest < f.code_size + f.init_len) × (k ≡ Short)

-- after right gates one of these three faults comes
abbrev pub IsBodyFault : Fields → List ℕ → LayoutFault → Type 0
IsBodyFault f bytes k = (gs : List Gate) × (rest : List ℕ)
    × (bytes ≡ flat_map gate gs ++ rest) × All AreGateWords gs × AreGates (code_span f) gs
    × (IsGateShort f gs rest k ⊎ (IsGateWrong f gs rest k ⊎ AreContentsShort f gs rest k))

-- the fields are cut short, or fail a test, or pass them all before a wrong body
abbrev pub IsPartFault : Format → List Part → List ℕ → LayoutFault → Type 0
IsPartFault format before bytes k =
    ((length bytes < fields_bytes) × (k ≡ Short))
    ⊎ ((f : Fields) × (rest : List ℕ) × (bytes ≡ fields f ++ rest) × AreFieldWords f
    × (f.format ≡ format) × (IsFirstFault before f field_tests (Some k)
    ⊎ (IsFirstFault before f field_tests None × IsBodyFault f rest k)))

-- after right sandboxes the next one is wrong, or bytes follow the last
abbrev pub ArePartsFault : Format → ℕ → List ℕ → LayoutFault → Type 0
ArePartsFault format n bytes k =
    (ps : List Part) × (rest : List ℕ) × (bytes ≡ flat_map part ps ++ rest) × AreRight ps
    × AreOf format ps × (((length ps < n) × IsPartFault format ps rest k)
    ⊎ ((length ps ≡ n) × (0 < length rest) × (k ≡ Trailing)))

-- the count is cut short, or not from 1 to the most, or the sandboxes after it are wrong
abbrev pub IsCountFault : Format → List ℕ → LayoutFault → Type 0
IsCountFault format bytes k =
    ((length bytes < number_bytes) × (k ≡ Short))
    ⊎ ((n : ℕ) × (rest : List ℕ) × (bytes ≡ number n ++ rest) × IsWord n × (
    ((¬ ((1 ≤ n) × (n ≤ sandboxes_most))) × (k ≡ Count))
    ⊎ ((1 ≤ n) × (n ≤ sandboxes_most) × ArePartsFault format n rest k)))

-- the magic is cut short, or that of no format, or what follows it is wrong
abbrev pub IsFault : List ℕ → LayoutFault → Type 0
IsFault bytes k =
    ((length bytes < magic_bytes) × (k ≡ Short))
    ⊎ (((magic_bytes ≤ length bytes)
    × ((format : Format) → take magic_bytes bytes ≢ magic format) × (k ≡ Magic))
    ⊎ ((format : Format) × (rest : List ℕ) × (bytes ≡ magic format ++ rest)
    × IsCountFault format rest k))

-- ==== What is wrong with sandboxes that are to be written: what reading their bytes would find
-- first.

-- the gates up to one of them are right, and with the next one they are not
abbrev pub HasWrongGate : Span → List Gate → Type 0
HasWrongGate region gs = (front : List Gate) × (g : Gate) × (more : List Gate)
    × (gs ≡ front ++ g ∷ more) × AreGates region front × (¬ AreGates region (front ++ g ∷ []))

-- after these sandboxes the sandbox's fields fail a test, or pass them all and a gate is wrong
abbrev pub HasFault : List Part → Part → LayoutFault → Type 0
HasFault before p k =
    IsFirstFault before (fields_of p) field_tests (Some k)
    ⊎ (IsFirstFault before (fields_of p) field_tests None
    × HasWrongGate (code_region p) p.gates × (k ≡ Gates))

-- after right sandboxes the next one has the fault
abbrev pub HasWrongPart : List Part → LayoutFault → Type 0
HasWrongPart ps k = (front : List Part) × (p : Part) × (more : List Part)
    × (ps ≡ front ++ p ∷ more) × AreRight front × HasFault front p k

-- there is no sandbox, or too many, or the first wrong one has the fault
abbrev pub HaveFault : List Part → LayoutFault → Type 0
HaveFault ps k =
    ((¬ ((1 ≤ length ps) × (length ps ≤ sandboxes_most))) × (k ≡ Count))
    ⊎ ((1 ≤ length ps) × (length ps ≤ sandboxes_most) × HasWrongPart ps k)
