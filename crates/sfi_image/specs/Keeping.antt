-- What a reader keeps of an image: the reader of its layout, a cursor, and a sandbox by its number.
use Rattle.std.specs.Prelude.{◌≡◌, ℕ, ◌+◌, ◌-◌, ◌*◌, ◌%◌, ◌^◌, ◌≤◌, ◌==◌, ◌||◌, Bool, false, List, [], ◌∷◌, ◌++◌, length, map, drop, Some, slice_get, take}
use Rattle.sfi_formats.specs.Limits.{bundle_size, gates_most, sandboxes_most}
use Rattle.sfi_formats.specs.declared.format.Format.{Format}
use Rattle.sfi_image.specs.declared.part.Gate.{Gate}
use Rattle.sfi_image.specs.declared.fields.Fields.{Fields}
pub use Rattle.sfi_image.specs.declared.layout_reader.LayoutReader.{LayoutReader}
use Rattle.sfi_image.specs.declared.want.Stage.{Stage}
use Rattle.sfi_image.specs.declared.want.Stage.TheVariants as stage
use Rattle.sfi_image.specs.Spelling.{Part, format_of, fields_of, gate, part, spans, spans_of}
use Rattle.sfi_image.specs.Numbers.{AreGateWords, magic_bytes, number_bytes}
use Rattle.sfi_image.specs.Parts.{is_gate_of, AreOf, IsImage}
use Rattle.sfi_image.specs.Prefixes.{ImagePrefix, prefix_bytes, IsRightPrefix, Follows, after_parts}
use Rattle.sfi_image.specs.Prefixes.ImagePrefix.{Empty, AfterMagic, AfterCount, InGates, InCode, InInit, Whole}
use Rattle.std.specs.List.{All, flat_map}
use Rattle.sfi_image.specs.declared.cursor.ImageCursor.{ImageCursor}
use Rattle.sfi_image.specs.declared.cursor.PartView.{PartView}

-- ==== What a reader in fixed arrays keeps of the prefix that it has read.

-- ---- of which prefixes: `StandsFor`, and its parts, which only private contracts name themselves

-- the reader keeps what follows from the format, the count and these whole sandboxes
pub record KeepsHead (r : LayoutReader) (format : Format) (n : ℕ) (ps : List Part) : Type 0 where
  pub of : r.fields.format ≡ format
  pub count : r.count ≡ n
  pub begun : r.begun ≡ length ps
  pub spans : r.spans ≡ spans ps

-- the reader keeps what follows from these sandboxes, the fields of the next one and its gates so
-- far
pub record KeepsFields (r : LayoutReader) (n : ℕ) (ps : List Part) (f : Fields)
    (gs : List Gate) : Type 0 where
  pub count : r.count ≡ n
  pub begun : r.begun ≡ length ps + 1
  pub spans : r.spans ≡ spans ps ++ spans_of f
  pub fields : r.fields ≡ f
  pub gates : r.gates ≡ map (λ g. g.address) gs

-- these are addresses of bundles, from `at` on and in ascending order
abbrev pub AreAhead : ℕ → List ℕ → Type 0
AreAhead at [] = Unit {0}
AreAhead at (a ∷ more) = (at ≤ a) × (a % bundle_size ≡ 0) × AreAhead (a + bundle_size) more

-- the address is one of the list
abbrev pub is_one_of : List ℕ → ℕ → Bool
is_one_of [] at = false
is_one_of (a ∷ more) at = (a == at) || is_one_of more at

-- the addresses in `ahead` are those of the gates from `at` on
pub record AreRest (at : ℕ) (gs : List Gate) (ahead : List ℕ) : Type 0 where
  pub ahead_are : AreAhead at ahead
  pub same : (a : ℕ) → at ≤ a → is_one_of ahead a ≡ is_gate_of gs a

-- The reader keeps what `KeepsFields` says, how many bytes of the next sandbox's code are read, and
-- which of its gates lie after these bytes.
pub record KeepsCode (r : LayoutReader) (n : ℕ) (ps : List Part) (f : Fields) (gs : List Gate)
    (code : List ℕ) : Type 0 where
  pub head : KeepsFields r n ps f gs
  pub code_read : r.code_read ≡ length code
  pub init_read : r.init_read ≡ 0
  pub passed : r.passed ≤ length r.gates
  pub rest : AreRest (f.code_base + length code) gs (drop r.passed r.gates)

-- what the reader keeps is that of the prefix
abbrev pub Keeps : LayoutReader → ImagePrefix → Type 0
Keeps r Empty = (r.next ≡ stage.Magic) × (r.spans ≡ [])
Keeps r (AfterMagic format) = (r.next ≡ stage.Count) × (r.spans ≡ []) × (r.fields.format ≡ format)
Keeps r (AfterCount format n ps) = (r.next ≡ stage.Fields) × KeepsHead r format n ps
Keeps r (InGates n ps f gs) = (r.next ≡ stage.Gate) × KeepsFields r n ps f gs × (r.passed ≡ 0)
    × (r.code_read ≡ 0) × (r.init_read ≡ 0)
Keeps r (InCode n ps f gs code) = (r.next ≡ stage.Code) × KeepsCode r n ps f gs code
Keeps r (InInit n ps f gs code init) =
    (r.next ≡ stage.Init) × KeepsFields r n ps f gs × (r.init_read ≡ length init)
Keeps r (Whole ps) = (r.next ≡ stage.End) × (r.fields.format ≡ format_of ps)

-- the reader has read this prefix, and all of it passed its tests
pub record StandsFor (r : LayoutReader) (x : ImagePrefix) : Type 0 where
  pub right : IsRightPrefix x
  pub kept : Keeps r x

-- the reader has met a fault, after which nothing is wanted
abbrev pub HasStopped : LayoutReader → Type 0
HasStopped r = r.next ≡ stage.Nothing

-- ---- one step

-- the reader now stands for the prefix that prefix `x` and then these bytes make
pub record Leads (x : ImagePrefix) (s : List ℕ) (r : LayoutReader) : Type 0 where
  pub to : ImagePrefix
  pub stands : StandsFor r to
  pub follows : Follows x s to
  pub bytes : prefix_bytes to ≡ prefix_bytes x ++ s

-- ---- how much a reader has still to do

-- the most that one sandbox adds: 1 for its fields, 1 for each gate, for each byte of its code and
-- for each first data byte, and 1 by which what is left within it stays above what is left after it
-- (in each format code and data have fewer than 2 ^ 32 bytes)
abbrev pub part_most : ℕ
part_most = 1 + gates_most + 2 ^ 32 + 2 ^ 32 + 1

-- what is left at first: the most sandboxes that an image may have, each with the most that it
-- adds, and 1 each for the magic and the count
abbrev pub left_most : ℕ
left_most = sandboxes_most * part_most + 2

-- what is left to do where `next` comes next
abbrev pub left_by : Stage → LayoutReader → ℕ
left_by stage.Magic r = left_most
left_by stage.Count r = sandboxes_most * part_most + 1
left_by stage.Fields r = (r.count - r.begun) * part_most
left_by stage.Gate r =
    (r.count - r.begun) * part_most + (r.fields.gate_count - length r.gates)
    + r.fields.code_size + r.fields.init_len + 1
left_by stage.Code r =
    (r.count - r.begun) * part_most + (r.fields.code_size - r.code_read) + r.fields.init_len + 1
left_by stage.Init r = (r.count - r.begun) * part_most + (r.fields.init_len - r.init_read) + 1
left_by stage.End r = 0
left_by stage.Nothing r = 0

-- what is left to do: a number that falls with each step
abbrev pub left : LayoutReader → ℕ
left r = left_by r.next r

-- ==== What a cursor has read of an image's bytes, and a sandbox as it hands it out.

-- the bytes that the cursor hasn't read
abbrev pub unread : ImageCursor → List ℕ
unread c = c.rest.now

-- the cursor has read this prefix of the bytes, which passes its tests
pub record HasRead (bytes : List ℕ) (x : ImagePrefix) (c : ImageCursor) : Type 0 where
  pub stands : StandsFor c.reader x
  pub bytes_are : bytes ≡ prefix_bytes x ++ unread c

-- the cursor has read the format's magic, the count and these whole sandboxes, with which the bytes
-- begin
pub record HasPassed (bytes : List ℕ) (format : Format) (n : ℕ) (ps : List Part) (c : ImageCursor)
    : Type 0 where
  pub one_format : AreOf format ps
  pub read : HasRead bytes (after_parts format n ps) c

-- the fields are the sandbox's, and the slices hold its gates' bytes, its code and its first data
-- bytes; each number of a gate has 32 bits
pub record IsViewOf (v : PartView) (p : Part) : Type 0 where
  pub fields_are : v.fields ≡ fields_of p
  pub gates_are : v.gates.now ≡ flat_map gate p.gates
  pub code_is : v.code.now ≡ p.code
  pub init_is : v.init.now ≡ p.init
  pub words : All AreGateWords p.gates

-- ==== The sandboxes of an image by their numbers, and where one lies in its bytes.

-- the bytes are an image, and this is its sandbox `number`
pub record IsSandboxOf (bytes : List ℕ) (number : ℕ) (p : Part) : Type 0 where
  pub parts : List Part
  pub image : IsImage bytes parts
  pub sandbox_is : slice_get parts number ≡ Some p

-- the bytes are an image with no sandbox `number`
abbrev pub IsBeyond : List ℕ → ℕ → Type 0
IsBeyond bytes number = (ps : List Part) × IsImage bytes ps × (length ps ≤ number)

-- the bytes have this piece from byte `offset` on
pub record LiesAt (bytes : List ℕ) (offset : ℕ) (piece : List ℕ) : Type 0 where
  pub before : List ℕ
  pub after : List ℕ
  pub bytes_are : bytes ≡ before ++ (piece ++ after)
  pub offset_is : offset ≡ length before

-- where sandbox `number` begins in the bytes of an image with these sandboxes: after the
-- magic, the count and the sandboxes before it
abbrev pub sandbox_offset : List Part → ℕ → ℕ
sandbox_offset ps number = magic_bytes + number_bytes + length (flat_map part (take number ps))
