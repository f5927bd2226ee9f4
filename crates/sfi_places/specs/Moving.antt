-- An image with one of its sandboxes at another place.
use Rattle.std.specs.Prelude.{◌≡◌, ◌⊎◌, ◌-◌, ◌+◌, ℕ, List, [], ◌∷◌, ◌++◌, length, map, zero, suc, ◌<◌, ◌↔◌, ◌==◌, ◌&&◌, nat_le, nat_lt, Bool, false, if◌then◌else◌}
use Rattle.sfi_image.specs.declared.fields.Fields.{Fields}
use Rattle.sfi_image.specs.declared.part.Gate.{Gate}
use Rattle.sfi_image.specs.declared.span.Span.{Span}
use Rattle.sfi_image.specs.Spelling.{Part, IsWord, spelling, fields_of, code_span, data_span, code_region, data_region}
use Rattle.sfi_image.specs.Parts.{IsRightPart, IsRightLayout, IsCodeRegion, IsDataRegion, IsMaskedBase, HasGuardRoom, HasZoneRoom, IsImage}
use Rattle.sfi_safety.specs.Clean.{IsAccepted}
use Rattle.sfi_rules.specs.declared.finding.Finding.{Finding}
use Rattle.sfi_rules.specs.Findings.{AreFindings}
use Rattle.sfi_formats.specs.declared.place.Place.{Place}
use Rattle.sfi_image.specs.Faults.{IsFault}
use Rattle.sfi_places.specs.declared.moving.MoveFault.{MoveFault}
use Rattle.sfi_places.specs.declared.moving.MoveFault.TheVariants.{NoImage, NoSandbox, NoPlace}
use Rattle.sfi_image.specs.Keeping.{IsSandboxOf, IsBeyond}
use Rattle.sfi_names.specs.Tables.{Named, Table, IsTable, HasTable}
use Rattle.sfi_names.specs.Tables as names

-- ==== A sandbox of the same bytes at another place.

-- the address, moved by as much as `to` is from `from`
abbrev pub moved_address : ℕ → ℕ → ℕ → ℕ
moved_address from to at = to + (at - from)

-- the gate with its address moved
abbrev pub moved_gate : ℕ → ℕ → Gate → Gate
moved_gate from to g = record g { address = moved_address from to g.address }

-- the finding with its address moved
abbrev pub moved_finding : ℕ → ℕ → Finding → Finding
moved_finding from to f = record f { address = moved_address from to f.address }

-- the sandbox with its code and its data at these bases: the start and the gates move with the
-- code, and no byte of the code or of the first data changes
abbrev pub moved : ℕ → ℕ → Part → Part
moved code data_at p = record p {
  code_base = code;
  data_base = data_at;
  start = moved_address p.code_base code p.start;
  gates = map (moved_gate p.code_base code) p.gates;
}

-- what is found of a right sandbox is found of it at each other right place, as far from the code's
-- base
abbrev pub FindingsArePlaceless : Type 0
FindingsArePlaceless =
    (sandbox code data_at : ℕ) (p : Part) (found : List Finding) → IsRightPart p
    → IsRightPart (moved code data_at p) → AreFindings sandbox p found
    → AreFindings sandbox (moved code data_at p) (map (moved_finding p.code_base code) found)

-- so where nothing is found, nothing is found at each other right place
abbrev pub CleanIsPlaceless : Type 0
CleanIsPlaceless =
    (sandbox code data_at : ℕ) (p : Part) → IsRightPart p → IsRightPart (moved code data_at p)
    → AreFindings sandbox p [] → AreFindings sandbox (moved code data_at p) []

-- ---- of the layout's tests

-- Of a right sandbox only the tests Code, Data and GuardRoom, and Overlap, can fail at another place whose
-- code base has 32 bits. (`IsRightPart` doesn't ask for Overlap, which is of all sandboxes of an image.)
abbrev pub MovedIsRight : Type 0
MovedIsRight =
    (code data_at : ℕ) (p : Part) → IsRightPart p → IsWord code
    → IsCodeRegion p.format code (length p.code) → IsDataRegion p.format data_at p.data_size
    → IsMaskedBase p.format data_at p.data_size → HasGuardRoom data_at p.data_size
    → HasZoneRoom p.format (code_region (moved code data_at p)) (data_region (moved code data_at p))
    → IsRightPart (moved code data_at p)

-- ---- of an image

-- where a sandbox is to lie
pub record Bases : Type 0 where
  pub code : ℕ
  pub data_at : ℕ

-- the sandboxes at those bases; those for which there are none stay
abbrev pub moved_all : List Bases → List Part → List Part
moved_all [] ps = ps
moved_all (b ∷ bs) [] = []
moved_all (b ∷ bs) (p ∷ ps) = moved b.code b.data_at p ∷ moved_all bs ps

-- the image of an accepted image's sandboxes at other bases is accepted, if its layout is right
abbrev pub AcceptedMoves : Type 0
AcceptedMoves =
    (bytes : List ℕ) (ps : List Part) (bases : List Bases) → IsAccepted bytes ps
    → IsRightLayout (moved_all bases ps)
    → IsAccepted (spelling (moved_all bases ps)) (moved_all bases ps)

-- ==== The table of names there, in which a sandbox's first data bytes may end.

-- the address is one of the span's
abbrev pub holds : Span → ℕ → Bool
holds s at = nat_le s.base at && nat_lt at (s.base + s.size)

-- an address that a table of the sandbox with these fields has, and what it is at that place: one in
-- the code region moves with the code, one in the data region with the data, and any other stays
abbrev pub address_there : Fields → Place → ℕ → ℕ
address_there f to at =
    if holds (code_span f) at then moved_address f.code_base to.code_base at
    else (if holds (data_span f) at then moved_address f.data_base to.data_base at else at)

-- the name begins with a dot (46): it is a claim of the tools, with a number in the place of an address
abbrev pub is_claim : List ℕ → Bool
is_claim [] = false
is_claim (b ∷ more) = b == 46

-- the entry there: the number of a claim stays
abbrev pub entry_there : Fields → Place → Named → Named
entry_there f to e =
    if is_claim e.name then e else (record e { address = address_there f to e.address })

-- the table there
abbrev pub table_there : Fields → Place → Table → Table
table_there f to t = record t {
  exports = map (entry_there f to) t.exports;
  imports = map (entry_there f to) t.imports;
}

-- the bytes end in a table, and the others, after the same bytes, in that table there
pub record EndInNames (f : Fields) (to : Place) (first now : List ℕ) : Type 0 where
  pub before : List ℕ
  pub table : Table
  pub is_table : IsTable table
  pub first_are : first ≡ before ++ names.spelling table
  pub now_are : now ≡ before ++ names.spelling (table_there f to table)

-- the first data bytes of a sandbox with these fields, and what they are at that place: of those that
-- end in no table no byte changes
abbrev pub AreFirstThere : Fields → Place → List ℕ → List ℕ → Type 0
AreFirstThere f to first now =
    EndInNames f to first now ⊎ (((t : Table) → ¬ HasTable first t) × (now ≡ first))

-- ==== An image with one of its sandboxes at another place.

-- the sandboxes, that of this number with its regions at that place
abbrev pub moved_one : ℕ → Place → List Part → List Part
moved_one number to [] = []
moved_one zero to (p ∷ ps) = moved to.code_base to.data_base p ∷ ps
moved_one (suc number) to (p ∷ ps) = p ∷ moved_one number to ps

-- the sandboxes, that of this number with these first data bytes
abbrev pub with_first : ℕ → List ℕ → List Part → List Part
with_first number first [] = []
with_first zero first (p ∷ ps) = record p { init = first } ∷ ps
with_first (suc number) first (p ∷ ps) = p ∷ with_first number first ps

-- the bytes were an image with a sandbox `number`, and now are the image with it at that place, and
-- with its table of names there
pub record IsMoved (bytes : List ℕ) (number : ℕ) (to : Place) (now : List ℕ) : Type 0 where
  pub sandbox : Part
  pub was : IsSandboxOf bytes number sandbox
  pub first : List ℕ
  pub names : AreFirstThere (fields_of sandbox) to sandbox.init first
  pub image : IsImage now (with_first number first (moved_one number to was.parts))

-- the bytes are an image with a sandbox `number`, and with it at that place the layout isn't right
abbrev pub IsWrongPlace : List ℕ → ℕ → Place → Type 0
IsWrongPlace bytes number to =
    (ps : List Part) × IsImage bytes ps × (number < length ps)
    × (¬ IsRightLayout (moved_one number to ps))

-- why a sandbox can't be moved: the bytes have that fault, or are an image with no sandbox of that
-- number, or with one for which the place is wrong
abbrev pub IsMoveFault : List ℕ → ℕ → Place → MoveFault → Type 0
IsMoveFault bytes number to (NoImage k) = IsFault bytes k
IsMoveFault bytes number to NoSandbox = IsBeyond bytes number
IsMoveFault bytes number to NoPlace = IsWrongPlace bytes number to

-- of two images that differ by the place and the first data bytes of a sandbox alone, one is accepted
-- exactly if the other is
abbrev pub OneMoves : Type 0
OneMoves =
    (ps qs : List Part) (number : ℕ) (to : Place) (first : List ℕ) → number < length ps
    → qs ≡ with_first number first (moved_one number to ps) → IsRightLayout ps → IsRightLayout qs
    → IsAccepted (spelling ps) ps ↔ IsAccepted (spelling qs) qs
