-- What a host does to a sandbox from outside, between plans: it writes data, stops it, sets
-- registers, or calls it back.
use Rattle.std.specs.Prelude.{◌≡◌, ◌≢◌, ℕ, List, length, Option, Some, None, slice_get, slice_set, true, replicate}
use Rattle.std.specs.List.{range_with_len}
use Rattle.rv_mem.specs.Bytes.{bytes_at, with_bytes, Bytes}
use Rattle.sfi_image.specs.Spelling.{Part, Holds}
use Rattle.sfi_image.specs.Parts.{IsStart, HasReserved, reserved_for}
use Rattle.sfi_safe_runs.specs.Runs.{IsChange, AreWordsTyped}
use Rattle.sfi_host.specs.Slots.{bytes_in, Slot, bounds_of, Bounds}
use Rattle.sfi_host.specs.Worlds.{Seat, Sandboxes, slots_of, state_in, IsSafeWorld, StaysOutsideData}
use Rattle.sfi_host.specs.declared.status.Status.TheVariants.{Stopped, Ready}
use Rattle.rv_step.specs.State.{Hart, register, with_register}
use Rattle.sfi_formats.specs.Formats.{unit, has_stack, has_words, stack_pointer, return_register}
use Rattle.sfi_host.specs.Loading.{with_registers, exit_gate}
use Rattle.sfi_host.specs.Hosts.{a0_register}
use Rattle.sfi_host.specs.Waiting.{IsAtCall}

-- ==== Data of a sandbox that are read and written from outside, between plans.

-- the sandbox's n data bytes from an address on, which isn't taken modulo 2 ^ 32; None where there
-- is no such sandbox, or one of them isn't in its data region
abbrev pub data_bytes_of : Option Slot → ℕ → ℕ → Option (List ℕ)
data_bytes_of None at n = None
data_bytes_of (Some s) at n = bytes_at (bytes_in s.bounds.data s.bytes) (range_with_len at n)

-- the world with these bytes from an address on
abbrev pub with_world_bytes : Sandboxes → ℕ → List ℕ → Sandboxes
with_world_bytes w at bytes = record {
  bytes = with_bytes w.bytes (range_with_len at (length bytes)) bytes;
  seats = w.seats;
}

-- each sandbox but the one of that number is what it was
abbrev pub OthersAreSame : Sandboxes → ℕ → Sandboxes → Type 0
OthersAreSame w i n =
    (j : ℕ) → j ≢ i → slice_get (slots_of n) j ≡ slice_get (slots_of w) j

-- each sandbox is still there, and to each this is a change by others: its pc, registers, code and
-- empty guard zones are what they were
abbrev pub AreChanges : Sandboxes → Sandboxes → Type 0
AreChanges w n =
    (i : ℕ) (s : Seat) (p : Part) → slice_get w.seats i ≡ Some s → s.bounds ≡ bounds_of p
    → (t : Seat) × (slice_get n.seats i ≡ Some t)
    × IsChange p (state_in w.bytes s) (state_in n.bytes t)

-- ==== A sandbox is stopped from outside, between plans.

-- the seat, stopped where it stands: its pc, registers and count of steps stay
abbrev pub stopped_seat : Seat → Seat
stopped_seat s =
    record { bounds = s.bounds; hart = s.hart; status = Stopped; steps = s.steps }

-- the world in which sandbox `i` is stopped; the world itself where there is no such
-- sandbox
abbrev pub with_stop_of : Sandboxes → ℕ → Option Seat → Sandboxes
with_stop_of w i None = w
with_stop_of w i (Some s) =
    record { bytes = w.bytes; seats = slice_set w.seats i (stopped_seat s) }

abbrev pub with_stop : Sandboxes → ℕ → Sandboxes
with_stop w i = with_stop_of w i (slice_get w.seats i)

-- ==== The pc and registers of a sandbox are set from outside, between plans.

-- the hart with this pc and these registers from x0 on; x0 is 0 whatever is given for it
abbrev pub hart_of : ℕ → List ℕ → Hart
hart_of pc registers = with_registers (record { pc = pc; registers = replicate 32 0 }) 0 registers

-- ---- which pc and registers may be set

-- The hart is as at an entry: at a unit of the code, with the reserved registers as they must be,
-- and the typed ones of its format. All else is arbitrary.
pub record IsEntryHart (b : Bounds) (h : Hart) : Type 0 where
  pub start : IsStart (unit b.format) b.code h.pc
  pub reserved : HasReserved b.format (reserved_for b.format b.code b.data) h.registers
  pub stack : has_stack b.format ≡ true → Holds b.data (register h stack_pointer)
  pub words : has_words b.format ≡ true → AreWordsTyped b.format b.code b.data h.registers

-- there is a sandbox `i`, and the hart is as at an entry of it
pub record MaySetAt (slots : List Slot) (i : ℕ) (h : Hart) : Type 0 where
  pub slot : Slot
  pub there : slice_get slots i ≡ Some slot
  pub may : IsEntryHart slot.bounds h

-- ---- what setting them makes of a world

-- the seat, ready with this pc and these registers; its steps are counted on
abbrev pub set_seat : Seat → Hart → Seat
set_seat s h = record { bounds = s.bounds; hart = h; status = Ready; steps = s.steps }

-- the world in which sandbox `i` has this pc and these registers; the world itself
-- where there is no such sandbox
abbrev pub with_hart_of : Sandboxes → ℕ → Hart → Option Seat → Sandboxes
with_hart_of w i h None = w
with_hart_of w i h (Some s) =
    record { bytes = w.bytes; seats = slice_set w.seats i (set_seat s h) }

abbrev pub with_hart : Sandboxes → ℕ → Hart → Sandboxes
with_hart w i h = with_hart_of w i h (slice_get w.seats i)

-- ==== A sandbox that waits at a call is called back by its host.

-- the hart at this pc, with the registers of the call, but with the exit gate as the return
-- address, and with the arguments from a0 on
abbrev pub called_back_hart : Bounds → Hart → ℕ → List ℕ → Hart
called_back_hart b h pc arguments =
    with_registers
    (with_register (hart_of pc h.registers) return_register (exit_gate b.gates))
    a0_register arguments

-- there is a sandbox `i`, it waits at a call, and with this pc and these arguments it is
-- as at an entry
pub record MayCallBackAt (slots : List Slot) (i pc : ℕ) (arguments : List ℕ) : Type 0 where
  pub slot : Slot
  pub there : slice_get slots i ≡ Some slot
  pub at : IsAtCall slots i
  pub may : IsEntryHart slot.bounds (called_back_hart slot.bounds slot.hart pc arguments)

-- the world in which the sandbox is ready with this pc and these arguments; the world itself where
-- there is no such sandbox
abbrev pub with_callback_of : Sandboxes → ℕ → ℕ → List ℕ → Option Seat → Sandboxes
with_callback_of w i pc arguments None = w
with_callback_of w i pc arguments (Some s) =
    with_hart w i (called_back_hart s.bounds s.hart pc arguments)

abbrev pub with_callback : Sandboxes → ℕ → ℕ → List ℕ → Sandboxes
with_callback w i pc arguments = with_callback_of w i pc arguments (slice_get w.seats i)

-- ---- what a callback is to the caller

-- Whatever a world did to data meanwhile is a change by others to a sandbox of it that has its pc
-- and registers back. So to a sandbox that called, its host's callbacks are a change, and then
-- comes the reply.
abbrev pub PutBackIsChange : Type 0
PutBackIsChange =
    (w : Sandboxes) (n : Bytes) (i : ℕ) (s : Seat) (p : Part) → IsSafeWorld w
    → slice_get w.seats i ≡ Some s → s.bounds ≡ bounds_of p → StaysOutsideData w n
    → IsChange p (state_in w.bytes s) (state_in n s)
