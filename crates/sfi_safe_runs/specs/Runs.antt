-- Runs of a sandbox: its addresses, its typed registers, and what may happen to it.
use Rattle.std.specs.Prelude.{◌≡◌, ◌+◌, ◌<◌, ℕ, List, length, take, drop, slice_get, slice_index, Some, None, ◌≤◌, true, false, [], ◌∷◌, Option}
use Rattle.std.specs.List.{Contains}
use Rattle.sfi_formats.specs.Formats.{code_base_register, code_mask_register, data_base_register, data_mask_register, stack_pointer, is_data_register_in, code_register, offset_register, unit, has_stack, has_words, has_single_mask}
use Rattle.sfi_formats.specs.declared.format.Format.{Format}
use Rattle.sfi_image.specs.declared.part.Gate.{Gate}
use Rattle.sfi_image.specs.declared.span.Span.{Span}
use Rattle.sfi_image.specs.Spelling.{Part, Holds, InZones, IsNearIn, code_region, data_region}
use Rattle.sfi_image.specs.Parts.{IsStart, IsWordStart, HasReserved, reserved_of}
use Rattle.rv_comp.specs.Fronts.{Spells}
use Rattle.rv_mem.specs.Bytes.{Bytes, byte_at, address_after}
use Rattle.sfi_formats.specs.Limits.{slack}
use Rattle.rv_word.specs.declared.instr.Instr.TheVariants.{Ecall}
use Rattle.rv_step.specs.declared.outcome.Outcome.{Outcome}
use Rattle.rv_step.specs.declared.outcome.Outcome.TheVariants.{Next, Call, Trap}
use Rattle.rv_step.specs.State.{Hart, State, IsState, register}
use Rattle.rv_step.specs.Step.{Stepped, Stands, IsStep}

-- ==== The addresses of a sandbox, and what of them a machine holds.

-- the address is one of the code region's
abbrev pub InCode : Part → ℕ → Type 0
InCode p a = Holds (code_region p) a

-- the address is one of the data region's
abbrev pub InData : Part → ℕ → Type 0
InData p a = Holds (data_region p) a

-- the address is one of the guard zones, on each side of the data, or of the zone at zero, where masks
-- are single
abbrev pub InGuard : Part → ℕ → Type 0
InGuard p a = InZones p.format (data_region p) a

-- the address is that of a listed gate
abbrev pub IsGate : Part → ℕ → Type 0
IsGate p a = (k : ℕ) × (g : Gate) × (slice_get p.gates k ≡ Some g) × (g.address ≡ a)

-- a unit of the code, a bundle or a word, begins at the address
abbrev pub IsUnitStart : Part → ℕ → Type 0
IsUnitStart p = IsStart (unit p.format) (code_region p)

-- a memory keeps its bytes, or their absence, outside a region
abbrev pub StaysOutside : Span → Bytes → Bytes → Type 0
StaysOutside region old new = (a : ℕ) → (Holds region a → ⊥) → byte_at new a ≡ byte_at old a

-- ==== The typed registers of each format: what they hold wherever a sandbox is entered, replied to
-- or calls.

-- where its format has a stack pointer, x2 lies in the data region; else nothing is asked
abbrev pub StackInData : Part → List ℕ → Type 0
StackInData p registers = has_stack p.format ≡ true → InData p (slice_index registers stack_pointer)

-- ---- of code in words

-- Each typed register of code in words of this format holds what its type says, in a sandbox with these
-- regions: a data register an address in the data or near them, or where masks are single near zero.
pub record AreWordsTyped (f : Format) (code_at data_at : Span) (registers : List ℕ) : Type 0 where
  pub each_data : (d : ℕ) → is_data_register_in f d ≡ true → IsNearIn f data_at slack (slice_index registers d)
  pub code : IsWordStart code_at (slice_index registers code_register)
  pub offset : has_single_mask f ≡ false → slice_index registers offset_register < data_at.size

-- ---- of any format

-- The typed registers of its format hold what their types say: x2 lies in the data region where it is
-- a stack pointer, and in words six registers are typed, or one more where masks are single. The first
-- format has none, so nothing is asked.
pub record IsTyped (p : Part) (registers : List ℕ) : Type 0 where
  pub stack : StackInData p registers
  pub words : has_words p.format ≡ true → AreWordsTyped p.format (code_region p) (data_region p) registers

-- ==== How a host keeps a sandbox and answers its calls: the plain way, and others.

-- What the guard zones hold: no byte, so that each access there traps. Or anything, on a machine that
-- can't keep the zones empty: an access to a byte there is then done. That memory is to be nobody else's;
-- nothing is asked of it here.
pub data Zones : Type 0 where
  Empty : Zones
  Padded : Zones

-- How gates are called: by an ecall. Or the host has made those of the listed gates direct that lie at
-- these addresses: in the place of such a gate's ecall may be a word of the host's own, a springboard, and
-- control that comes to it is the call. What the machine does from there until the sandbox goes on is the
-- host's, and no step of the sandbox.
pub data Calls : Type 0 where
  ByEcall : Calls
  Direct : List ℕ → Calls

-- how a host keeps a sandbox: what its guard zones hold, and how its gates are called
pub record Setting : Type 0 where
  pub zones : Zones
  pub calls : Calls

-- the setting with these guard zones in which each gate is called by an ecall
abbrev pub by_ecall : Zones → Setting
by_ecall zones = record { zones = zones; calls = ByEcall }

-- The theorem's setting: empty guard zones, and calls by an ecall alone. A name that ends in As is of any
-- setting, the same name without As of this one.
abbrev pub plain : Setting
plain = by_ecall Empty

-- ---- direct gates and their springboards

-- at the address is a listed gate, which is one of those that the host has made direct
abbrev pub IsDirect : Part → List ℕ → ℕ → Type 0
IsDirect p direct a = IsGate p a × Contains direct a

-- the address is one of the four of a springboard: those from a direct gate on
pub record IsInBoard (p : Part) (direct : List ℕ) (a : ℕ) : Type 0 where
  pub gate : ℕ
  pub made : IsDirect p direct gate
  pub from : gate ≤ a
  pub below : a < gate + 4

-- the address is one of the sandbox's own code: in the code region, and in no springboard
abbrev pub IsOwnCode : Calls → Part → ℕ → Type 0
IsOwnCode ByEcall p a = InCode p a
IsOwnCode (Direct direct) p a = InCode p a × (IsInBoard p direct a → ⊥)

-- what is said where pc is, unless a direct gate is there
abbrev pub OffGates : Calls → Part → ℕ → Type 0 → Type 0
OffGates ByEcall p pc said = said
OffGates (Direct direct) p pc said = (IsDirect p direct pc → ⊥) → said

-- ---- what the memory holds

-- at each code address is the image's byte
abbrev pub HasCode : Part → Bytes → Type 0
HasCode p m =
    (k : ℕ) → k < length p.code → byte_at m (p.code_base + k) ≡ Some (slice_index p.code k)

-- at each address of the sandbox's own code is the image's byte; in a springboard may be anything
abbrev pub HasCodeAs : Calls → Part → Bytes → Type 0
HasCodeAs ByEcall p m = HasCode p m
HasCodeAs (Direct direct) p m =
    (k : ℕ) → k < length p.code → (IsInBoard p direct (p.code_base + k) → ⊥)
    → byte_at m (p.code_base + k) ≡ Some (slice_index p.code k)

-- at no guard address is a byte
abbrev pub HasEmptyGuards : Part → Bytes → Type 0
HasEmptyGuards p m = (a : ℕ) → InGuard p a → byte_at m a ≡ None

-- the guard zones hold what the setting allows: no byte, or anything
abbrev pub HasGuards : Zones → Part → Bytes → Type 0
HasGuards Empty p m = HasEmptyGuards p m
HasGuards Padded p m = Unit {0}

-- ==== What may happen to a sandbox: where it is entered, and the turns of a run.

-- A sandbox may be entered here: at the start of any bundle, or word, with the reserved registers set,
-- the typed ones holding what their types say (in the second format, a stack pointer in the data), the
-- image's code in memory, and the guard zones as the setting says. All else is arbitrary.
pub record IsEntryAs (t : Setting) (p : Part) (s : State) : Type 0 where
  pub state : IsState s
  pub start : IsUnitStart p s.hart.pc
  pub reserved : HasReserved p.format (reserved_of p) s.hart.registers
  pub typed : IsTyped p s.hart.registers
  pub code : HasCodeAs t.calls p s.memory
  pub guards : HasGuards t.zones p s.memory

-- ---- turns

-- an address of a guard zone without a byte gets none, where the zones are to be empty
abbrev pub KeepsGuards : Zones → Part → Bytes → Bytes → Type 0
KeepsGuards Empty p before after =
    (a : ℕ) → InGuard p a → byte_at before a ≡ None → byte_at after a ≡ None
KeepsGuards Padded p before after = Unit {0}

-- the bytes of the sandbox's own code stay, and so do empty guards
pub record KeepsBytesAs (t : Setting) (p : Part) (before after : Bytes) : Type 0 where
  pub code : (a : ℕ) → IsOwnCode t.calls p a → byte_at after a ≡ byte_at before a
  pub guards : KeepsGuards t.zones p before after

-- the reserved registers of this format stay
pub record KeepsReserved (f : Format) (before after : Hart) : Type 0 where
  pub code_base : register after code_base_register ≡ register before code_base_register
  pub code_mask : register after code_mask_register ≡ register before code_mask_register
  pub data_base : has_single_mask f ≡ false
      → register after data_base_register ≡ register before data_base_register
  pub data_mask : register after data_mask_register ≡ register before data_mask_register

-- the image has an ecall at the address, whatever the memory has there
pub record HasEcall (p : Part) (a : ℕ) : Type 0 where
  pub offset : ℕ
  pub address : a ≡ p.code_base + offset
  pub within : offset + 4 ≤ length p.code
  pub spelled : Spells (take 4 (drop offset p.code)) Ecall 4

-- an ecall of `size` bytes asks for a reply at pc: one that stands there; with direct gates one that the
-- image has, be there a springboard or not
abbrev pub Asks : Calls → Part → State → ℕ → Type 0
Asks ByEcall p s size = Stands s Ecall size
Asks (Direct direct) p s size = HasEcall p s.hart.pc × (size ≡ 4)

-- A reply where the sandbox calls: it goes on after the ecall, and keeps the reserved registers, its own
-- code and empty guards; the typed registers hold what their types say. All else is arbitrary.
pub record IsReplyAs (t : Setting) (p : Part) (before after : State) : Type 0 where
  pub size : ℕ
  pub asked : Asks t.calls p before size
  pub state : IsState after
  pub pc : after.hart.pc ≡ address_after before.hart.pc 4
  pub reserved : KeepsReserved p.format before.hart after.hart
  pub typed : IsTyped p after.hart.registers
  pub bytes : KeepsBytesAs t p before.memory after.memory

-- A change by others of memory alone, which keeps the sandbox's own code and empty guards. All other
-- memory is arbitrary, even no bytes: then no real machine has the state, and what is said of runs still
-- holds.
pub record IsChangeAs (t : Setting) (p : Part) (before after : State) : Type 0 where
  pub pc : after.hart.pc ≡ before.hart.pc
  pub registers : after.hart.registers ≡ before.hart.registers
  pub bytes : KeepsBytesAs t p before.memory after.memory

-- a turn: a step of the machine, a reply, or a change by others; the last two with the state after
-- them
pub data Turn : Type 0 where
  Steps : Stepped → Turn
  Replies : State → Turn
  Changes : State → Turn

-- a step of the sandbox: of the machine, and at a direct gate none
abbrev pub IsStepAs : Calls → Part → State → Stepped → Type 0
IsStepAs ByEcall p s r = IsStep s r
IsStepAs (Direct direct) p s r = (IsDirect p direct s.hart.pc → ⊥) × IsStep s r

-- this turn may come at this state
abbrev pub IsTurnAs : Setting → Part → State → Turn → Type 0
IsTurnAs t p s (Steps r) = IsStepAs t.calls p s r
IsTurnAs t p s (Replies after) = IsReplyAs t p s after
IsTurnAs t p s (Changes after) = IsChangeAs t p s after

-- the state after a step: a trap ends the run
abbrev pub after_step : Outcome → State → Option State
after_step Next after = Some after
after_step Call after = Some after
after_step (Trap cause at) after = None

-- the state after a turn, if the run goes on
abbrev pub after_turn : Turn → Option State
after_turn (Steps r) = after_step r.outcome r.state
after_turn (Replies after) = Some after
after_turn (Changes after) = Some after

-- turns that follow one another from a state: after a trap there are none
abbrev pub IsRunAs : Setting → Part → Option State → List Turn → Type 0
IsRunAs t p s [] = Unit {0}
IsRunAs t p None (turn ∷ turns) = ⊥
IsRunAs t p (Some s) (turn ∷ turns) = IsTurnAs t p s turn × IsRunAs t p (after_turn turn) turns

-- ---- the plain way: what is said above, of empty guard zones and calls by an ecall

-- where a sandbox may be entered
abbrev pub IsEntry : Part → State → Type 0
IsEntry = IsEntryAs plain

-- what a reply and a change by others keep of the memory
abbrev pub KeepsBytes : Part → Bytes → Bytes → Type 0
KeepsBytes = KeepsBytesAs plain

-- a reply
abbrev pub IsReply : Part → State → State → Type 0
IsReply = IsReplyAs plain

-- a change by others
abbrev pub IsChange : Part → State → State → Type 0
IsChange = IsChangeAs plain

-- a turn that may come at this state
abbrev pub IsTurn : Part → State → Turn → Type 0
IsTurn = IsTurnAs plain

-- turns that follow one another
abbrev pub IsRun : Part → Option State → List Turn → Type 0
IsRun = IsRunAs plain
