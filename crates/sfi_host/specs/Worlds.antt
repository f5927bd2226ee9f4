-- Worlds: what stopped a sandbox, what is kept of all of them, and a step in their one memory.
use Rattle.std.specs.Prelude.{◌≡◌, ℕ, ℤ, ◌<◌, ◌⊎◌, Contains, ◌≢◌, List, map, Option, Some, None, slice_get}
use Rattle.rv_word.specs.declared.instr.Instr.{Instr}
use Rattle.rv_word.specs.declared.instr.Instr.TheVariants.{Load, Store, Ecall, Ebreak}
use Rattle.rv_word.specs.declared.instr.LoadKind.{LoadKind}
use Rattle.rv_word.specs.declared.instr.StoreWidth.{StoreWidth}
use Rattle.rv_mem.specs.Bytes.{address_after, addresses, Bytes, byte_at}
use Rattle.rv_step.specs.declared.outcome.Cause.TheVariants as cause
use Rattle.rv_step.specs.Step.{accessed, Stands, Stepped, IsStep}
use Rattle.rv_step.specs.State.{State, Hart, IsState}
use Rattle.sfi_image.specs.declared.part.Gate.{Gate}
use Rattle.sfi_image.specs.Spelling.{Holds, InZones, AreApart, code_region, guarded_region, Part}
use Rattle.sfi_host.specs.declared.status.Status.{Status}
use Rattle.sfi_host.specs.declared.status.Status.TheVariants.{Ready, Exited, Trapped, Stopped}
use Rattle.sfi_host.specs.Slots.{Bounds, bounds_of, own, Slot, state_of, bytes_in, IsWhole, span_of}
use Rattle.std.specs.Option.{option_map}
use Rattle.sfi_image.specs.Parts.{IsRightPart}
use Rattle.sfi_safe_runs.specs.Runs.{HasCode, HasEmptyGuards, StaysOutside}
use Rattle.sfi_safe_runs.specs.Calling.{GoesSafelyFrom}
use Rattle.std.specs.Arc.{arc_slice_items}
use Rattle.sfi_host.specs.declared.sandbox.Sandbox.{Sandbox}
use Rattle.rv_step.specs.declared.outcome.Cause.{Cause}
use Rattle.rv_step.specs.declared.outcome.Outcome.TheVariants.{Next, Call, Trap}
use Rattle.sfi_host.specs.Joint.{Machine, IsMachine}

-- ==== What stopped a sandbox. It stays on the instruction that did, or where its host stopped it.

-- the instruction stands at pc, and each of its bytes lies in the sandbox's code
pub record IsAt (b : Bounds) (s : State) (i : Instr) : Type 0 where
  pub size : ℕ
  pub stands : Stands s i size
  pub within : (k : ℕ) → k < size → Holds b.code (address_after s.hart.pc k)

-- an ecall is at pc, and that is the address of one of the sandbox's gates
pub record IsAtGate (b : Bounds) (s : State) : Type 0 where
  pub is_at : IsAt b s Ecall
  pub gate : Gate
  pub among : Contains b.gates gate
  pub address : gate.address ≡ s.hart.pc

-- The instruction, a load or store, is at pc. It accesses some addresses from `at` on, which lie in
-- the data and the guard zones, and one of them in a guard zone.
pub record TouchesGuard (b : Bounds) (s : State) (i : Instr) (at : ℕ) : Type 0 where
  pub is_at : IsAt b s i
  pub count : ℕ
  pub accesses : accessed i s.hart ≡ addresses at count
  pub within : (a : ℕ) → Contains (addresses at count) a → Holds b.data a ⊎ InZones b.format b.data a
  pub address : ℕ
  pub among : Contains (addresses at count) address
  pub guard : InZones b.format b.data address

-- A sandbox with this status stopped by itself, if it has exited or trapped: it is at the ecall of
-- one of its gates, at its ebreak, or at its load or store that touches a guard zone. No other trap
-- stops it. A sandbox that its host stopped, by `World::stop`, may be anywhere.
abbrev pub StoppedItself : Bounds → State → Status → Type 0
StoppedItself b s Ready = Unit {0}
StoppedItself b s (Exited code) = IsAtGate b s
StoppedItself b s (Trapped cause.Break at) = IsAt b s Ebreak × (at ≡ s.hart.pc)
StoppedItself b s (Trapped cause.Load at) =
    (kind : LoadKind) × (rd rs1 : ℕ) × (imm : ℤ) × TouchesGuard b s (Load kind rd rs1 imm) at
StoppedItself b s (Trapped cause.Store at) =
    (width : StoreWidth) × (rs1 rs2 : ℕ) × (imm : ℤ) × TouchesGuard b s (Store width rs1 rs2 imm) at
StoppedItself b s (Trapped cause.Fetch at) = ⊥
StoppedItself b s (Trapped cause.Illegal at) = ⊥
StoppedItself b s Stopped = Unit {0}

-- ==== A world: sandboxes that run in one memory.

-- a sandbox but for the memory: what it has of its image, its pc and registers, what it may still
-- do, and how many steps it did
pub record Seat : Type 0 where
  pub bounds : Bounds
  pub hart : Hart
  pub status : Status
  pub steps : ℕ

-- the bytes of the one memory, by address, and the seats
pub record Sandboxes : Type 0 where
  pub bytes : Bytes
  pub seats : List Seat

-- a sandbox alone, with its own bytes of the memory
abbrev pub slot_of : Bytes → Seat → Slot
slot_of m s = record {
  bounds = s.bounds;
  hart = s.hart;
  status = s.status;
  steps = s.steps;
  bytes = own s.bounds m;
}

-- each of the sandboxes alone
abbrev pub slots_of : Sandboxes → List Slot
slots_of w = map (slot_of w.bytes) w.seats

-- the machine as a sandbox has it, in the one memory
abbrev pub state_in : Bytes → Seat → State
state_in m s = record { hart = s.hart; memory = m }

-- ---- what may be asked of a world

-- what sandbox `i` may still do
abbrev pub status_at : List Slot → ℕ → Option Status
status_at slots i = option_map (λ (s : Slot). s.status) (slice_get slots i)

-- how many steps sandbox `i` did
abbrev pub steps_at : List Slot → ℕ → Option ℕ
steps_at slots i = option_map (λ (s : Slot). s.steps) (slice_get slots i)

-- the sandbox's data byte at an address; None where there is no such sandbox, or the address lies
-- elsewhere
abbrev pub data_byte_of : Option Slot → ℕ → Option ℕ
data_byte_of None at = None
data_byte_of (Some s) at = byte_at (bytes_in s.bounds.data s.bytes) at

-- ---- what is kept of a world

-- The sandbox is a part of an image that passes each test of its own, and is in a state of the
-- machine. It has the part's code, its guard zones are empty and its data whole. If it may still
-- run, every run from its state is safe, and calls with its typed registers as their types say; if
-- it has exited or trapped, it did so itself.
pub record IsSafeSeat (m : Bytes) (s : Seat) : Type 0 where
  pub part : Part
  pub bounds : s.bounds ≡ bounds_of part
  pub right : IsRightPart part
  pub state : IsState (state_in m s)
  pub apart : AreApart (code_region part) (guarded_region part)
  pub code : HasCode part m
  pub guards : HasEmptyGuards part m
  pub has_data : IsWhole s.bounds.data m
  pub safe : s.status ≡ Ready → GoesSafelyFrom part (state_in m s)
  pub stopped : StoppedItself s.bounds (state_in m s) s.status

-- the first one's data lie outside the second one's code, data and zones
pub record LiesOutside (one other : Bounds) : Type 0 where
  pub code : AreApart one.data other.code
  pub «data» : AreApart one.data other.data
  pub zones : (a : ℕ) → Holds one.data a → InZones other.format other.data a → ⊥

-- each sandbox is safe, and its data lie outside each other one
pub record IsSafeWorld (w : Sandboxes) : Type 0 where
  pub each : (i : ℕ) (s : Seat) → slice_get w.seats i ≡ Some s → IsSafeSeat w.bytes s
  pub others : (i j : ℕ) (s t : Seat) → i ≢ j → slice_get w.seats i ≡ Some s
      → slice_get w.seats j ≡ Some t → LiesOutside s.bounds t.bounds

-- a memory keeps its bytes, or their absence, wherever no sandbox of the world has its data
abbrev pub StaysOutsideData : Sandboxes → Bytes → Type 0
StaysOutsideData w new =
    (a : ℕ) → ((i : ℕ) (s : Seat) → slice_get w.seats i ≡ Some s → Holds s.bounds.data a → ⊥)
    → byte_at new a ≡ byte_at w.bytes a

-- sandbox `i` has that status, and stopped by itself, if it has exited or trapped
pub record IsStopOf (w : Sandboxes) (i : ℕ) (status : Status) : Type 0 where
  pub seat : Seat
  pub there : slice_get w.seats i ≡ Some seat
  pub status_is : seat.status ≡ status
  pub itself : StoppedItself seat.bounds (state_in w.bytes seat) status

-- each sandbox has stopped by itself, if at all, with the status that `World::status` answers
abbrev pub HaveStoppedThemselves : Sandboxes → Type 0
HaveStoppedThemselves w =
    (i : ℕ) (status : Status) → status_at (slots_of w) i ≡ Some status → IsStopOf w i status

-- ==== What the program's sandboxes stand for.

-- the seat of a sandbox
abbrev pub seat_of : Sandbox → Seat
seat_of s = record {
  bounds = record {
    format = s.format;
    code = span_of s.code;
    «data» = span_of s.data;
    gates = s.gates.items;
    start = s.start;
    init = arc_slice_items s.init;
  };
  hart = s.cpu;
  status = s.status;
  steps = s.steps;
}

-- the seats of sandboxes
abbrev pub seats_of : List Sandbox → List Seat
seats_of all = map seat_of all

-- sandboxes in a memory with these bytes
abbrev pub world_of : Bytes → List Sandbox → Sandboxes
world_of m all = record { bytes = m; seats = seats_of all }

-- ==== A step in the one memory, and the same step in the sandbox's own.

-- a step's result with the sandbox's own bytes alone
abbrev pub own_step : Bounds → Stepped → Stepped
own_step b r = record {
  outcome = r.outcome;
  state = record { hart = r.state.hart; memory = own b r.state.memory };
}

-- the seat with what a step made of the hart, and this count of steps
abbrev pub stepped_seat : Seat → Stepped → ℕ → Seat
stepped_seat s r steps =
    record { bounds = s.bounds; hart = r.state.hart; status = Ready; steps = steps }

-- What a step of a ready sandbox is: alone it is the same, nothing outside its data changes, if it
-- is done the sandbox is safe as before, and else nothing changed. A call is that of an ecall, and
-- a trap is one by which it stops itself.
pub record IsOwnStep (m : Bytes) (s : Seat) (r : Stepped) : Type 0 where
  pub alone : (machine : Machine) → IsMachine machine
      → machine (state_of (slot_of m s)) ≡ own_step s.bounds r
  pub others : StaysOutside s.bounds.data m r.state.memory
  pub safe : r.outcome ≡ Next → (steps : ℕ) → IsSafeSeat r.state.memory (stepped_seat s r steps)
  pub stopped : r.outcome ≢ Next → r.state ≡ state_in m s
  pub called : r.outcome ≡ Call → (n : ℕ) × Stands (state_in m s) Ecall n
  pub trapped : (cause : Cause) (at : ℕ) → r.outcome ≡ Trap cause at
      → StoppedItself s.bounds (state_in m s) (Trapped cause at)

-- every step of a ready sandbox that is safe is such a step
abbrev pub StepsAreOwn : Type 0
StepsAreOwn = (m : Bytes) (s : Seat) (r : Stepped) → IsSafeSeat m s → s.status ≡ Ready
    → IsStep (state_in m s) r → IsOwnStep m s r
