-- What the lines of a source make, one after another.
use Rattle.std.specs.Prelude.{ℕ, List, Bool, [], ◌∷◌, ◌&&◌, ◌==◌, ℤ, pos, negsuc, int_le, unsigned_abs, if◌then◌else◌, true, false, ◌||◌, not, ◌++◌, Option, None, Some, length, ◌≡◌, ◌+◌, ◌<◌, ◌≤◌, ◌⊎◌, map}
use Rattle.rv_word.specs.declared.instr.Instr.{Instr}
use Rattle.sfi_formats.specs.declared.format.Format.{Format}
use Rattle.std.specs.Int.{w16, w32, to_le_bytes}
use Rattle.rv_word.specs.declared.instr.Instr.TheVariants as instr
use Rattle.rv_word.specs.declared.instr.ImmOp.TheVariants.{Addi}
use Rattle.rv_word.specs.Spelling.{modulo}
use Rattle.sfi_source.specs.Source.{upper, lower, Sandbox}
use Rattle.sfi_text.specs.declared.keyword.DataWidth.{DataWidth}
use Rattle.sfi_text.specs.declared.keyword.DataWidth.TheVariants.{Word, Half, Byte}
use Rattle.sfi_formats.specs.declared.format.Format.TheVariants.{Sfi1, Sfi2, Sfiw, Sfis}
use Rattle.sfi_text.specs.declared.source_text.Listed.{Listed}
use Rattle.sfi_source.specs.declared.item.Body.{Body}
use Rattle.sfi_source.specs.declared.item.Item.{Item}
use Rattle.sfi_source.specs.declared.item.Named.{Named}
use Rattle.sfi_source.specs.declared.item.Named.TheVariants.{Gate, Code, Data, Unknown}
use Rattle.sfi_source.specs.Names.{place_of, placed, meaning, met}
use Rattle.std.specs.Option.{IsSomeAnd}
use Rattle.sfi_formats.specs.Limits.{gates_most, items_most, name_most}
use Rattle.sfi_text.specs.declared.cause.TextCause.{TextCause}
use Rattle.sfi_text.specs.declared.cause.TextCause.TheVariants as cause
use Rattle.sfi_source.specs.declared.item.Body.TheVariants.{Plain, To, High, Low, Base}
use Rattle.sfi_text.specs.declared.statement.Position.{Position}
use Rattle.sfi_text.specs.declared.statement.Position.TheVariants as position

-- ==== What one line of source states, after its labels.

-- what a line states within the sandbox begun last; a name is its text
pub data StatedWithin : Type 0 where
  -- the name is that of a gate of this service
  gate : (name : List ℕ) (service : ℕ) → StatedWithin
  -- the name is one that the sandbox's table of names has as an export
  exported : (name : List ℕ) → StatedWithin
  -- the name is that of a gate of this service, and one that the table has as an import
  imported : (name : List ℕ) (service : ℕ) → StatedWithin
  -- the sandbox can be moved once it is built
  movable : StatedWithin
  -- whether 16-bit forms are taken from here on
  compressed : (rvc : Bool) → StatedWithin
  -- the data follow
  data_part : StatedWithin
  -- these bytes of data
  bytes : (values : List ℕ) → StatedWithin
  -- these instructions, none of which names a place
  plain : (instrs : List Instr) → StatedWithin
  -- a jump or a branch, with offset 0, to the place of this name
  jump : (instr : Instr) (name : List ℕ) → StatedWithin
  -- the register takes the address of the place of this name
  address : (rd : ℕ) (name : List ℕ) → StatedWithin

-- what a line states
pub data Stated : Type 0 where
  -- the format of the source is this one
  format : (value : Format) → Stated
  -- a sandbox with `size` bytes of data begins
  sandbox : (size : ℕ) → Stated
  -- something within the sandbox begun last
  within : (what : StatedWithin) → Stated

-- ==== The instructions that put a number into a register, and the bytes of a number in data.

-- one addi can put the number into a register
abbrev pub fits_addi : ℤ → Bool
fits_addi z = int_le (negsuc 2047) z && int_le z (pos 2047)

-- an addi to the register itself, unless it adds 0
abbrev pub add_lower : ℕ → ℤ → List Instr
add_lower rd z =
    if unsigned_abs (lower z) == 0 then [] else instr.OpImm Addi rd rd (lower z) ∷ []

-- what li stands for
abbrev pub constant : ℕ → ℤ → List Instr
constant rd z =
    if fits_addi z then instr.OpImm Addi rd 0 z ∷ []
    else instr.Lui rd (upper z) ∷ add_lower rd z

-- the bytes of a number in data, the lowest first
abbrev pub data_bytes : DataWidth → ℤ → List ℕ
data_bytes Word z = to_le_bytes w32 (modulo 32 z)
data_bytes Half z = to_le_bytes w16 (modulo 16 z)
data_bytes Byte z = modulo 8 z ∷ []

-- ==== The source so far: what the lines read so far have made.

-- what a sandbox's table of names is to have, in the order of the text
pub record SharedNames : Type 0 where
  pub exports : List Listed
  pub imports : List Listed

-- the sandbox begun last
pub record Begun : Type 0 where
  -- what it has so far
  pub sandbox : Sandbox
  -- what its table of names has so far
  pub shared : SharedNames
  -- its code part has ended
  pub in_data : Bool
  -- 16-bit forms may stand for the instructions from here on
  pub rvc : Bool
  -- a label stands after its last instruction
  pub labelled : Bool
  -- it has a label or an instruction
  pub opened : Bool

-- the format, if the text has said it, the finished sandboxes, what the table of each is to have, and
-- the sandbox begun last
pub record SoFar : Type 0 where
  pub format : Option Format
  pub finished : List Sandbox
  pub shared : List SharedNames
  pub begun : Option Begun

-- the source so far before the first line
abbrev pub nothing : SoFar
nothing = record { format = None; finished = []; shared = []; begun = None }

-- the format that the text says, or SFI1 where it says none
abbrev pub format_or_sfi1 : Option Format → Format
format_or_sfi1 None = Sfi1
format_or_sfi1 (Some said) = said

-- the language of the format has statements of which tables of names are made: the first has none
abbrev pub has_tables : Format → Bool
has_tables Sfi1 = false
has_tables Sfi2 = true
has_tables Sfiw = true
has_tables Sfis = true

-- a sandbox at its beginning: it has a format and a size of data, and nothing else
abbrev pub begin : Format → ℕ → Begun
begin of size =
    record {
      sandbox = record {
        format = of;
        movable = false;
        data_size = size;
        gates = [];
        names = [];
        items = [];
        bytes = [];
      };
      shared = record { exports = []; imports = [] };
      in_data = false;
      rvc = false;
      labelled = false;
      opened = false;
    }

-- the sandbox begun last, if one was begun
abbrev pub last_sandbox : Option Begun → List Sandbox
last_sandbox None = []
last_sandbox (Some b) = b.sandbox ∷ []

-- all sandboxes that were begun
abbrev pub sandboxes : SoFar → List Sandbox
sandboxes s = s.finished ++ last_sandbox s.begun

-- what the table of the sandbox begun last is to have, if one was begun
abbrev pub last_shared : Option Begun → List SharedNames
last_shared None = []
last_shared (Some b) = b.shared ∷ []

-- what the table of each sandbox that was begun is to have
abbrev pub tables : SoFar → List SharedNames
tables s = s.shared ++ last_shared s.begun

-- the source so far after a `.sandbox` with `size` bytes of data
abbrev pub with_sandbox : ℕ → SoFar → SoFar
with_sandbox size s =
    record {
      format = s.format;
      finished = sandboxes s;
      shared = tables s;
      begun = Some (begin (format_or_sfi1 s.format) size);
    }

-- the sandbox with these names
abbrev pub with_names : List (List ℕ × Named) → Begun → Begun
with_names names b = record b { sandbox = record b.sandbox { names = names } }

-- what a label names at the end of `b`: the next instruction or, in the data part, the next byte
abbrev pub here : Begun → Named
here b = if b.in_data then Data (length b.sandbox.bytes) else Code (length b.sandbox.items)

-- the sandbox after a label of this name
abbrev pub with_label : List ℕ → Begun → Begun
with_label name b =
    record (with_names (placed b.sandbox.names name (here b)) b) {
      labelled = b.labelled || not b.in_data;
      opened = true;
    }

-- the sandbox after a gate of this name and service
abbrev pub with_gate : List ℕ → ℕ → Begun → Begun
with_gate name service b =
    record b {
      sandbox = record b.sandbox {
        names = placed b.sandbox.names name (Gate (length b.sandbox.gates));
        gates = b.sandbox.gates
            ++ (record { name = place_of b.sandbox.names name; service = service } ∷ []);
      };
    }

-- a name of the sandbox in the table of a line: its place among the names
abbrev pub listed : ℕ → List ℕ → Begun → List Listed
listed line name b = record { name = place_of b.sandbox.names name; line = line } ∷ []

-- the sandbox after an export: the name is met
abbrev pub with_export : ℕ → List ℕ → Begun → Begun
with_export line name b =
    record (with_names (met b.sandbox.names name) b) {
      shared = record b.shared { exports = b.shared.exports ++ listed line name b };
    }

-- the sandbox after an import: a gate of this name and service
abbrev pub with_import : ℕ → List ℕ → ℕ → Begun → Begun
with_import line name service b =
    record (with_gate name service b) {
      shared = record b.shared { imports = b.shared.imports ++ listed line name b };
    }

-- the items of `bodies`, all of one line: `labelled` says whether a label stands before the first,
-- and none stands before another
abbrev pub items_of : ℕ → Bool → Bool → List Body → List Item
items_of line rvc labelled [] = []
items_of line rvc labelled (body ∷ bodies) =
    record { line = line; labelled = labelled; rvc = rvc; body = body }
    ∷ items_of line rvc false bodies

-- the sandbox after the instructions of a line, of which there is one at least
abbrev pub with_bodies : ℕ → List Body → Begun → Begun
with_bodies line bodies b =
    record b {
      sandbox =
          record b.sandbox { items = b.sandbox.items ++ items_of line b.rvc b.labelled bodies };
      labelled = false;
      opened = true;
    }

-- the sandbox after more bytes of data
abbrev pub with_bytes : List ℕ → Begun → Begun
with_bytes values b = record b { sandbox = record b.sandbox { bytes = b.sandbox.bytes ++ values } }

-- the instructions that put an address into a register: where the sandbox can be moved, the base of the
-- address's region is added last
abbrev pub address_bodies : Bool → ℕ → ℕ → List Body
address_bodies false rd name = High rd name ∷ Low rd name ∷ []
address_bodies true rd name = High rd name ∷ Low rd name ∷ Base rd name ∷ []

-- how many they are
abbrev pub address_count : Bool → ℕ
address_count false = 2
address_count true = 3

-- ==== What a label and a statement do to the source so far, and what keeps them from it.

-- the name may still be given to a label or a gate: it names nothing yet
abbrev pub IsFree : List ℕ → Begun → Type 0
IsFree name b = meaning b.sandbox.names name ≡ Unknown

-- a label of this name may come in the sandbox begun last, and changes `old` to `new`
abbrev pub Labels : List ℕ → SoFar → SoFar → Type 0
Labels name old new =
    (b : Begun) × (old.begun ≡ Some b) × (length name ≤ name_most) × IsFree name b
    × (new ≡ record old { begun = Some (with_label name b) })

-- a label of this name is refused: no sandbox was begun, the name is too long,
-- or a label or a gate has it already
abbrev pub RefusesLabel : List ℕ → SoFar → TextCause → Type 0
RefusesLabel name old e =
    ((old.begun ≡ None) × (e ≡ cause.Directive))
    ⊎ ((b : Begun) × (old.begun ≡ Some b)
    × (((name_most < length name) × (e ≡ cause.Limit))
    ⊎ ((length name ≤ name_most) × (IsFree name b → ⊥) × (e ≡ cause.LabelTwice))))

-- a statement of this kind may come there: the format once, before the first sandbox, gates before
-- the sandbox's first label and instruction, instructions in the code part, data in the data part
abbrev pub MayCome : Position → SoFar → Type 0
MayCome position.Head s = (s.format ≡ None) × (s.begun ≡ None)
MayCome position.Outside s = Unit {0}
MayCome position.Gates s = IsSomeAnd s.begun (λ b. b.opened ≡ false)
MayCome position.Code s = IsSomeAnd s.begun (λ b. b.in_data ≡ false)
MayCome position.Data s = IsSomeAnd s.begun (λ b. b.in_data ≡ true)

-- `b` has room for what is stated: for gates and instructions up to a limit, for bytes up to the
-- size of data with which it was begun
abbrev pub Fits : StatedWithin → Begun → Type 0
Fits (gate name service) b = length b.sandbox.gates + 1 ≤ gates_most
Fits (imported name service) b = length b.sandbox.gates + 1 ≤ gates_most
Fits (bytes values) b = length b.sandbox.bytes + length values ≤ b.sandbox.data_size
Fits (plain instrs) b = length b.sandbox.items + length instrs ≤ items_most
Fits (jump instr name) b = length b.sandbox.items + 1 ≤ items_most
Fits (address rd name) b = length b.sandbox.items + address_count b.sandbox.movable ≤ items_most
Fits _ b = Unit {0}

-- the sandbox after a statement of a line; a name that an instruction goes to is met
abbrev pub with_stated : ℕ → StatedWithin → Begun → Begun
with_stated line (gate name service) b = with_gate name service b
with_stated line (exported name) b = with_export line name b
with_stated line (imported name service) b = with_import line name service b
with_stated line movable b = record b { sandbox = record b.sandbox { movable = true } }
with_stated line (compressed rvc) b = record b { rvc = rvc }
with_stated line data_part b = record b { in_data = true }
with_stated line (bytes values) b = with_bytes values b
with_stated line (plain instrs) b = with_bodies line (map Plain instrs) b
with_stated line (jump instr name) b =
    with_bodies line (To instr (place_of b.sandbox.names name) ∷ [])
    (with_names (met b.sandbox.names name) b)
with_stated line (address rd name) b = with_bodies line
    (address_bodies b.sandbox.movable rd (place_of b.sandbox.names name))
    (with_names (met b.sandbox.names name) b)

-- what a line states within a sandbox fits in the sandbox begun last, and changes `old` to `new`
abbrev pub GoesOn : ℕ → StatedWithin → SoFar → SoFar → Type 0
GoesOn line s old new =
    (b : Begun) × (old.begun ≡ Some b) × Fits s b
    × (new ≡ record old { begun = Some (with_stated line s b) })

-- what a line states, where it may come after `old`, changes `old` to `new`
abbrev pub Does : ℕ → Stated → SoFar → SoFar → Type 0
Does line (format value) old new = new ≡ record old { format = Some value }
Does line (sandbox size) old new = new ≡ with_sandbox size old
Does line (within what) old new = GoesOn line what old new

-- the sandbox begun last has no room for what is stated within it
abbrev pub HasNoRoom : Stated → SoFar → Type 0
HasNoRoom (within what) old = (b : Begun) × (old.begun ≡ Some b) × (Fits what b → ⊥)
HasNoRoom _ old = ⊥
