-- A prefix of an image: as much of it as has been read, from its first byte on.
use Rattle.std.specs.Prelude.{◌≡◌, ℕ, ◌+◌, ◌-◌, ◌*◌, ◌%◌, ◌<◌, ◌≤◌, ◌⊎◌, ◌==◌, true, false, List, [], ◌∷◌, ◌++◌, length, cond, None}
use Rattle.std.specs.List.{All, flat_map}
use Rattle.sfi_formats.specs.Limits.{bundle_size, sandboxes_most}
use Rattle.sfi_formats.specs.declared.format.Format.{Format}
use Rattle.sfi_formats.specs.Formats.{magic}
use Rattle.sfi_image.specs.declared.part.Gate.{Gate}
use Rattle.sfi_image.specs.declared.fields.Fields.{Fields}
use Rattle.sfi_image.specs.declared.fault.LayoutFault.{LayoutFault}
use Rattle.sfi_image.specs.declared.want.Want.{Want}
use Rattle.sfi_image.specs.declared.want.Want.TheVariants as wants
use Rattle.sfi_image.specs.Spelling.{Part, format_of, number, fields, gate, part, code_span}
use Rattle.sfi_image.specs.Numbers.{magic_bytes, number_bytes, fields_bytes, gate_bytes, AreFieldWords, AreGateWords}
use Rattle.sfi_image.specs.Parts.{AreGates, is_gate_of, AreOf, AreRight, IsImage}
use Rattle.sfi_image.specs.FieldTests.{IsFirstFault, field_tests}
use Rattle.sfi_image.specs.declared.fault.LayoutFault.TheVariants.{Short, Trailing}
use Rattle.sfi_image.specs.Faults.{IsFault}

-- What was read: nothing; the magic of a format; then the count and some whole sandboxes, after
-- which another comes; of that one the fields and its gates so far; all its gates, and its code so
-- far; all its code, and its first data bytes so far; or the whole image.
pub data ImagePrefix : Type 0 where
  Empty : ImagePrefix
  AfterMagic : Format → ImagePrefix
  AfterCount : Format → ℕ → List Part → ImagePrefix
  InGates : ℕ → List Part → Fields → List Gate → ImagePrefix
  InCode : ℕ → List Part → Fields → List Gate → List ℕ → ImagePrefix
  InInit : ℕ → List Part → Fields → List Gate → List ℕ → List ℕ → ImagePrefix
  Whole : List Part → ImagePrefix

-- ---- bytes

-- a format's magic, the count, and sandboxes
abbrev pub head : Format → ℕ → List Part → List ℕ
head format n ps = magic format ++ (number n ++ flat_map part ps)

-- the bytes of a prefix
abbrev pub prefix_bytes : ImagePrefix → List ℕ
prefix_bytes Empty = []
prefix_bytes (AfterMagic format) = magic format
prefix_bytes (AfterCount format n ps) = head format n ps
prefix_bytes (InGates n ps f gs) = head f.format n ps ++ (fields f ++ flat_map gate gs)
prefix_bytes (InCode n ps f gs code) = head f.format n ps ++ (fields f ++ (flat_map gate gs ++ code))
prefix_bytes (InInit n ps f gs code init) =
    head f.format n ps ++ (fields f ++ (flat_map gate gs ++ (code ++ init)))
prefix_bytes (Whole ps) = head (format_of ps) (length ps) ps

-- ---- which prefixes passed the tests

-- the count is from 1 to the most, and the sandboxes are of the format and right
pub record IsHead (format : Format) (n : ℕ) (ps : List Part) : Type 0 where
  pub at_least : 1 ≤ n
  pub at_most : n ≤ sandboxes_most
  pub one_format : AreOf format ps
  pub right : AreRight ps

-- after the whole sandboxes, which are right, the fields and gates of another one pass their tests
pub record IsOpened (n : ℕ) (ps : List Part) (f : Fields) (gs : List Gate) : Type 0 where
  pub before : IsHead f.format n ps
  pub more : length ps < n
  pub words : AreFieldWords f
  pub passed : IsFirstFault ps f field_tests None
  pub gate_words : All AreGateWords gs
  pub gates : AreGates (code_span f) gs

-- all that was read passes its tests, and where something isn't whole, another sandbox, gate or
-- byte comes
abbrev pub IsRightPrefix : ImagePrefix → Type 0
IsRightPrefix Empty = Unit {0}
IsRightPrefix (AfterMagic format) = Unit {0}
IsRightPrefix (AfterCount format n ps) = IsHead format n ps × (length ps < n)
IsRightPrefix (InGates n ps f gs) = IsOpened n ps f gs × (length gs < f.gate_count)
IsRightPrefix (InCode n ps f gs code) = IsOpened n ps f gs × (length gs ≡ f.gate_count)
    × (length code % bundle_size ≡ 0) × (length code < f.code_size)
IsRightPrefix (InInit n ps f gs code init) =
    IsOpened n ps f gs × (length gs ≡ f.gate_count) × (length code ≡ f.code_size)
    × (length init < f.init_len)
IsRightPrefix (Whole ps) = IsHead (format_of ps) (length ps) ps

-- ---- what comes next

-- what is read next after a prefix
abbrev pub want_of : ImagePrefix → Want
want_of Empty = wants.Field magic_bytes
want_of (AfterMagic format) = wants.Field number_bytes
want_of (AfterCount format n ps) = wants.Field fields_bytes
want_of (InGates n ps f gs) = wants.Field gate_bytes
want_of (InCode n ps f gs code) =
    let at = f.code_base + length code in
    wants.Bundle (record {
      sandbox = length ps;
      address = at;
      format = f.format;
      code_base = f.code_base;
      code_size = f.code_size;
      listed = is_gate_of gs at;
    })
want_of (InInit n ps f gs code init) = wants.Init (f.init_len - length init)
want_of (Whole ps) = wants.End

-- `len` bytes are one or more whole bundles, and at most `most` bytes
pub record AreBundlesWithin (most len : ℕ) : Type 0 where
  pub some : 1 ≤ len
  pub whole : len % bundle_size ≡ 0
  pub inside : len ≤ most

-- The `len` bytes of code from address `at` on are a stretch: whole bundles of the region, of which
-- none but the first is listed as a gate. It is the longest: after it comes a listed bundle, or the
-- region's end.
pub record IsLongestStretch (f : Fields) (gs : List Gate) (at len : ℕ) : Type 0 where
  pub bundles : AreBundlesWithin (f.code_base + f.code_size - at) len
  pub unlisted :
      (i : ℕ) → 0 < i → bundle_size * i < len → is_gate_of gs (at + bundle_size * i) ≡ false
  pub ends : (at + len ≡ f.code_base + f.code_size) ⊎ (is_gate_of gs (at + len) ≡ true)

-- after the prefix a stretch of `len` bytes comes next, or no code does and `len` is 0
abbrev pub IsStretchLength : ImagePrefix → ℕ → Type 0
IsStretchLength (InCode n ps f gs code) len = IsLongestStretch f gs (f.code_base + length code) len
IsStretchLength Empty len = len ≡ 0
IsStretchLength (AfterMagic format) len = len ≡ 0
IsStretchLength (AfterCount format n ps) len = len ≡ 0
IsStretchLength (InGates n ps f gs) len = len ≡ 0
IsStretchLength (InInit n ps f gs code init) len = len ≡ 0
IsStretchLength (Whole ps) len = len ≡ 0

-- ---- how a prefix goes on: `Follows`, and its parts, which only private contracts name themselves

-- the sandbox with these fields, gates, code and first data bytes
abbrev pub part_of : Fields → List Gate → List ℕ → List ℕ → Part
part_of f gs code init = record {
  format = f.format;
  code_base = f.code_base;
  data_base = f.data_base;
  data_size = f.data_size;
  start = f.start;
  gates = gs;
  code = code;
  init = init;
}

-- the prefix after the whole sandboxes `ps`, of `n` in all
abbrev pub after_parts : Format → ℕ → List Part → ImagePrefix
after_parts format n ps = cond (length ps == n) (Whole ps) (AfterCount format n ps)

-- the prefix after the first data bytes `init` of the sandbox that comes after `ps`
abbrev pub after_init : ℕ → List Part → Fields → List Gate → List ℕ → List ℕ → ImagePrefix
after_init n ps f gs code init =
    cond (length init == f.init_len) (after_parts f.format n (ps ++ part_of f gs code init ∷ []))
    (InInit n ps f gs code init)

-- the prefix after the bytes `code` of its code
abbrev pub after_code : ℕ → List Part → Fields → List Gate → List ℕ → ImagePrefix
after_code n ps f gs code =
    cond (length code == f.code_size) (after_init n ps f gs code []) (InCode n ps f gs code)

-- the prefix after its gates `gs`
abbrev pub after_gates : ℕ → List Part → Fields → List Gate → ImagePrefix
after_gates n ps f gs = cond (length gs == f.gate_count) (InCode n ps f gs []) (InGates n ps f gs)

-- the second prefix is the first with these bytes, which are as many as come next
abbrev pub Follows : ImagePrefix → List ℕ → ImagePrefix → Type 0
Follows Empty s y = (format : Format) × (s ≡ magic format) × (y ≡ AfterMagic format)
Follows (AfterMagic format) s y = (n : ℕ) × (s ≡ number n) × (y ≡ AfterCount format n [])
Follows (AfterCount format n ps) s y =
    (f : Fields) × (f.format ≡ format) × (s ≡ fields f) × (y ≡ after_gates n ps f [])
Follows (InGates n ps f gs) s y =
    (g : Gate) × (s ≡ gate g) × (y ≡ after_gates n ps f (gs ++ g ∷ []))
Follows (InCode n ps f gs code) s y = y ≡ after_code n ps f gs (code ++ s)
Follows (InInit n ps f gs code init) s y = y ≡ after_init n ps f gs code (init ++ s)
Follows (Whole ps) s y = ⊥

-- ---- faults

-- the bytes have that fault, and have it whatever follows them
abbrev pub HasFaultWhateverFollows : List ℕ → LayoutFault → Type 0
HasFaultWhateverFollows bytes k = (more : List ℕ) → IsFault (bytes ++ more) k

-- `len` bytes are fewer than what comes next has
abbrev pub IsLess : ℕ → Want → Type 0
IsLess len (wants.Field n) = len < n
IsLess len (wants.Bundle place) = len < bundle_size
IsLess len (wants.Init n) = len < n
IsLess len wants.End = ⊥
IsLess len wants.Nothing = ⊥

-- a length is that of what comes next: where that is a bundle, of any number of bundles up to the
-- code region's end; where it is first data bytes, of some of them
abbrev pub IsLengthOf : ℕ → Want → Type 0
IsLengthOf len (wants.Field n) = len ≡ n
IsLengthOf len (wants.Bundle place) =
    AreBundlesWithin (place.code_base + place.code_size - place.address) len
IsLengthOf len (wants.Init n) = (1 ≤ len) × (len ≤ n)
IsLengthOf len wants.End = ⊥
IsLengthOf len wants.Nothing = ⊥

-- ---- laws

-- bytes that end before what comes next is whole are cut short
abbrev pub CutShort : Type 0
CutShort = (x : ImagePrefix) (rest : List ℕ) → IsRightPrefix x → IsLess (length rest) (want_of x)
    → IsFault (prefix_bytes x ++ rest) Short

-- bytes that follow a whole image trail it
abbrev pub Trails : Type 0
Trails = (ps : List Part) (rest : List ℕ) → IsRightPrefix (Whole ps) → 0 < length rest
    → IsFault (prefix_bytes (Whole ps) ++ rest) Trailing

-- the bytes of a whole image are its image
abbrev pub WholeIsImage : Type 0
WholeIsImage = (ps : List Part) → IsRightPrefix (Whole ps) → IsImage (prefix_bytes (Whole ps)) ps
