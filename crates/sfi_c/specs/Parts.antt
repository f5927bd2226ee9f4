-- What C is told of the sandboxes and gates of an image, and the arrays it is written to.
use Rattle.std.specs.Prelude.{List, ◌++◌, length, map, take, drop, ◌≡◌, ℕ, ◌+◌, ◌*◌, ◌≤◌, ◌⊎◌, Some, slice_get}
use Rattle.sfi_rules.specs.declared.finding.Finding.{Finding}
use Rattle.sfi_check.specs.declared.for_c.SfiFinding.{SfiFinding}
use Rattle.sfi_check.specs.ForC.{finding_for_c}
use Rattle.sfi_formats.specs.Numbers.{format_number}
use Rattle.sfi_image.specs.declared.part.Gate.{Gate}
use Rattle.sfi_image.specs.Spelling.{Part}
use Rattle.sfi_image.specs.Numbers.{fields_bytes, gate_bytes}
use Rattle.sfi_image.specs.Keeping.{IsSandboxOf, IsBeyond, LiesAt, sandbox_offset}
use Rattle.sfi_c.specs.declared.looking.Lookup.{Lookup}
use Rattle.sfi_c.specs.declared.looking.Lookup.TheVariants.{Found, Beyond, NoImage}
use Rattle.sfi_c.specs.declared.part.SfiGate.{SfiGate}
use Rattle.sfi_c.specs.declared.part.SfiPart.{SfiPart}

-- ==== Arrays of a caller, to which a call writes.

-- an array to which the items were written, each in this form: at its front as many as it has room
-- for, and then what it held there before
abbrev pub with_front : {A B : Type 0} → (A → B) → List A → List B → List B
with_front form xs array = map form (take (length array) xs) ++ drop (length xs) array

-- an array after findings were written to it
abbrev pub with_findings : List Finding → List SfiFinding → List SfiFinding
with_findings found array = with_front finding_for_c found array

-- ==== What C is told of the sandboxes and gates of an image's bytes.

-- ---- numbers

-- the number by which C knows how a look-up ended
abbrev pub lookup_number : Lookup → ℕ
lookup_number Found = 0
lookup_number Beyond = 1
lookup_number NoImage = 2

-- ---- sandboxes

-- what C is told of a sandbox whose code and first data bytes lie at these offsets
abbrev pub told_part : Part → ℕ → ℕ → SfiPart
told_part p code_offset init_offset = record {
  format = format_number p.format;
  code_base = p.code_base;
  code_size = length p.code;
  data_base = p.data_base;
  data_size = p.data_size;
  start = p.start;
  gates = length p.gates;
  init_size = length p.init;
  code_offset = code_offset;
  init_offset = init_offset;
}

-- where the code of a sandbox lies that begins at the offset: after its fields and its gates
abbrev pub code_after : Part → ℕ → ℕ
code_after p offset = offset + fields_bytes + gate_bytes * length p.gates

-- what C is told of a sandbox that begins at the offset; its first data bytes lie after its code
abbrev pub told_at : Part → ℕ → SfiPart
told_at p offset = told_part p (code_after p offset) (code_after p offset + length p.code)

-- C is told `t` of sandbox `number` of an image with these bytes and sandboxes: at its offsets lie
-- the sandbox's code and first data bytes
pub record Tells (bytes : List ℕ) (ps : List Part) (number : ℕ) (p : Part) (t : SfiPart) : Type 0 where
  pub told_is : t ≡ told_at p (sandbox_offset ps number)
  pub code : LiesAt bytes t.code_offset p.code
  pub init : LiesAt bytes t.init_offset p.init

-- the bytes are an image, and C is told this of its sandbox `number`
abbrev pub IsPartOf : List ℕ → ℕ → SfiPart → Type 0
IsPartOf bytes number t =
    (p : Part) × (h : IsSandboxOf bytes number p) × Tells bytes h.parts number p t

-- ---- gates

-- what C is told of a gate
abbrev pub told_gate : Gate → SfiGate
told_gate g = record { address = g.address; service = g.service }

-- the bytes are an image, and this is the gate of that index of its sandbox `number`
abbrev pub IsGateOf : List ℕ → ℕ → ℕ → SfiGate → Type 0
IsGateOf bytes number index t =
    (p : Part) × (g : Gate) × IsSandboxOf bytes number p × (slice_get p.gates index ≡ Some g)
    × (t ≡ told_gate g)

-- the bytes are an image with no such gate: it has no such sandbox, or the sandbox has fewer gates
abbrev pub IsBeyondGates : List ℕ → ℕ → ℕ → Type 0
IsBeyondGates bytes number index =
    IsBeyond bytes number
    ⊎ ((p : Part) × IsSandboxOf bytes number p × (length p.gates ≤ index))

-- an array after gates were written to it
abbrev pub with_gates : List Gate → List SfiGate → List SfiGate
with_gates gs array = with_front told_gate gs array

-- the bytes are an image, and this is what the array became when the gates of its sandbox `number`
-- were written to it
abbrev pub AreGatesOf : List ℕ → ℕ → List SfiGate → List SfiGate → Type 0
AreGatesOf bytes number before after =
    (p : Part) × IsSandboxOf bytes number p × (after ≡ with_gates p.gates before)
