-- How a world begins, and how a sandbox is entered again or reset.
use Rattle.std.specs.Prelude.{◌≡◌, ◌≢◌, ℕ, ◌+◌, ◌-◌, ◌==◌, List, [], ◌∷◌, cond, replicate, Option, Some, None, slice_get, slice_set, ◌<◌, ◌++◌, length, slice_index, map, nat_le}
use Rattle.rv_mem.specs.Bytes.{Bytes, byte_at, added, with_bytes}
use Rattle.rv_step.specs.State.{Hart, with_register}
use Rattle.sfi_formats.specs.Limits.{first_frame}
use Rattle.sfi_formats.specs.Formats.{unit, has_words, code_base_register, code_mask_register, data_base_register, data_mask_register, stack_pointer, code_register, return_register}
use Rattle.sfi_formats.specs.declared.format.Format.{Format}
use Rattle.sfi_image.specs.declared.part.Gate.{Gate}
use Rattle.sfi_image.specs.declared.span.Span.{Span}
use Rattle.sfi_image.specs.Parts.{IsRightPart, IsRightLayout, IsStart, reserved_for}
use Rattle.sfi_image.specs.Spelling.{code_region, data_region, Part}
use Rattle.sfi_names.specs.Rooms.{room_of}
use Rattle.sfi_safe_runs.specs.Runs.{HasCode, IsEntry}
use Rattle.sfi_safe_runs.specs.Safety.{RunsSafely}
use Rattle.sfi_safe_runs.specs.Calling.{CallsTyped}
use Rattle.sfi_host.specs.declared.status.Status.{Status}
use Rattle.sfi_host.specs.declared.status.Status.TheVariants.{Ready}
use Rattle.sfi_host.specs.Hosts.{a0_register}
use Rattle.sfi_host.specs.Consoles.{exit_service}
use Rattle.sfi_host.specs.Slots.{Bounds, Slot, bounds_of}
use Rattle.sfi_host.specs.Worlds.{Seat, Sandboxes, state_in, slots_of, IsSafeWorld}
use Rattle.std.specs.FinMap.{empty}
use Rattle.std.specs.List.{range_with_len}

-- ==== A sandbox that has stopped is entered again.

-- ---- where a sandbox may be entered

-- the sandbox has stopped, and a unit of its code, a bundle or a word, begins at pc
pub record MayEnter (b : Bounds) (status : Status) (pc : ℕ) : Type 0 where
  pub stopped : status ≢ Ready
  pub start : IsStart (unit b.format) b.code pc

-- there is a sandbox `i`, and it may be entered at pc
pub record MayEnterAt (slots : List Slot) (i pc : ℕ) : Type 0 where
  pub slot : Slot
  pub there : slice_get slots i ≡ Some slot
  pub may : MayEnter slot.bounds slot.status pc

-- ---- with which registers

-- the hart with the data base in x3, x4 and x29, and pc in the code register
abbrev pub with_typed : Span → Hart → Hart
with_typed data_at h =
    with_register
    (with_register
    (with_register (with_register h 3 data_at.base) 4 data_at.base)
    29 data_at.base)
    code_register h.pc

-- the hart with typed registers set, where code is in words; else the hart itself
abbrev pub typed_for : Format → Span → Hart → Hart
typed_for format data_at h = cond (has_words format) (with_typed data_at h) h

-- the hart at pc with all registers 0 but these: the typed ones, the stack pointer, which lies
-- `first_frame` bytes below the data's end, and the reserved ones, also x26 where it is a typed one
abbrev pub fresh_hart : Format → Span → Span → ℕ → Hart
fresh_hart format code_at data_at pc =
    let r = reserved_for format code_at data_at in
    with_register
    (with_register
    (with_register
    (with_register
    (with_register (typed_for format data_at (record { pc = pc; registers = replicate 32 0 }))
    stack_pointer (data_at.base + data_at.size - first_frame))
    code_base_register r.code_base)
    code_mask_register r.code_mask)
    data_base_register r.data_base)
    data_mask_register r.data_mask

-- the hart with these values in its registers from register `r` on
abbrev pub with_registers : Hart → ℕ → List ℕ → Hart
with_registers h r [] = h
with_registers h r (v ∷ vs) = with_registers (with_register h r v) (r + 1) vs

-- the address of the first gate of service 0; 0 where none is listed
abbrev pub exit_gate : List Gate → ℕ
exit_gate [] = 0
exit_gate (g ∷ gates) = cond (g.service == exit_service) g.address (exit_gate gates)

-- the room above the stack that the image asks for; none where the data are too small for it
abbrev pub entry_room : Bounds → ℕ
entry_room b =
    let room = room_of b.init in cond (nat_le (room + first_frame) b.data.size) room 0

-- where the stack pointer lies: `first_frame` bytes and that room below the data's end
abbrev pub entry_stack : Bounds → ℕ
entry_stack b = b.data.base + (b.data.size - first_frame - entry_room b)

-- the hart at first, but at this pc, with that stack pointer, with the exit gate as the return
-- address, and with the arguments from a0 on
abbrev pub entered_hart : Bounds → ℕ → List ℕ → Hart
entered_hart b pc arguments =
    with_registers
    (with_register
    (with_register (fresh_hart b.format b.code b.data pc) stack_pointer (entry_stack b))
    return_register (exit_gate b.gates))
    a0_register arguments

-- ---- what that makes of a world

-- the seat, ready at this pc; its steps are counted on
abbrev pub entered_seat : Seat → ℕ → List ℕ → Seat
entered_seat s pc arguments = record {
  bounds = s.bounds;
  hart = entered_hart s.bounds pc arguments;
  status = Ready;
  steps = s.steps;
}

-- the world in which sandbox `i` is entered; the world itself where there is no such
-- sandbox
abbrev pub with_entry_of : Sandboxes → ℕ → ℕ → List ℕ → Option Seat → Sandboxes
with_entry_of w i pc arguments None = w
with_entry_of w i pc arguments (Some s) =
    record { bytes = w.bytes; seats = slice_set w.seats i (entered_seat s pc arguments) }

abbrev pub with_entry : Sandboxes → ℕ → ℕ → List ℕ → Sandboxes
with_entry w i pc arguments = with_entry_of w i pc arguments (slice_get w.seats i)

-- sandbox `i` is at an entry of each part whose code it has
abbrev pub IsAtEntry : Sandboxes → ℕ → Type 0
IsAtEntry w i =
    (s : Seat) (p : Part) → slice_get w.seats i ≡ Some s → s.bounds ≡ bounds_of p
    → HasCode p w.bytes → IsEntry p (state_in w.bytes s)

-- ---- why it may be entered

-- the sandbox is a part of an image that passes each test of its own and has the part's code, and
-- every run from every entry is safe, and calls with its typed registers as their types say
pub record IsEnterable (m : Bytes) (b : Bounds) : Type 0 where
  pub part : Part
  pub bounds : b ≡ bounds_of part
  pub right : IsRightPart part
  pub code : HasCode part m
  pub runs : RunsSafely part
  pub calls : CallsTyped part

-- each sandbox of the world is enterable, whatever it may still do
abbrev pub AreEnterable : Sandboxes → Type 0
AreEnterable w = (i : ℕ) (s : Seat) → slice_get w.seats i ≡ Some s → IsEnterable w.bytes s.bounds

-- ==== What a world is at first.

-- pc at the start of the part, and the registers of an entry there
abbrev pub first_hart : Part → Hart
first_hart p = fresh_hart p.format (code_region p) (data_region p) p.start

-- the seat at first: ready, with no step done
abbrev pub first_seat : Part → Seat
first_seat p = record { bounds = bounds_of p; hart = first_hart p; status = Ready; steps = 0 }

-- the data bytes at first: those of the image, and then zeros
abbrev pub first_data : Part → List ℕ
first_data p = p.init ++ replicate (p.data_size - length p.init) 0

-- the memory with a sandbox's code and data
abbrev pub with_part : Bytes → Part → Bytes
with_part m p = added (added m p.code_base (length p.code) p.code) p.data_base p.data_size p.init

-- the memory with the code and data of all these parts
abbrev pub with_parts : Bytes → List Part → Bytes
with_parts m [] = m
with_parts m (p ∷ ps) = with_parts (with_part m p) ps

-- each sandbox is at an entry of its part, at its start
abbrev pub AreEntered : List Part → Bytes → Type 0
AreEntered ps m =
    (i : ℕ) (p : Part) → slice_get ps i ≡ Some p → IsEntry p (state_in m (first_seat p))

-- each sandbox has its first data
abbrev pub HaveFirstData : List Part → Bytes → Type 0
HaveFirstData ps m =
    (i : ℕ) (p : Part) → slice_get ps i ≡ Some p → (k : ℕ) → k < p.data_size
    → byte_at m (p.data_base + k) ≡ Some (slice_index (first_data p) k)

-- ==== A sandbox is taken back to what it was when its world was loaded, between plans.

-- its data bytes at first: those of the image, and then zeros
abbrev pub first_bytes : Bounds → List ℕ
first_bytes b = b.init ++ replicate (b.data.size - length b.init) 0

-- the memory in which its data are those
abbrev pub with_first_bytes : Bounds → Bytes → Bytes
with_first_bytes b m = with_bytes m (range_with_len b.data.base b.data.size) (first_bytes b)

-- ready at its start, with the registers of an entry there, and with no step done
abbrev pub reset_seat : Seat → Seat
reset_seat s = record {
  bounds = s.bounds;
  hart = fresh_hart s.bounds.format s.bounds.code s.bounds.data s.bounds.start;
  status = Ready;
  steps = 0;
}

-- the world in which sandbox `i` is so and has its first data; the same where there is
-- none
abbrev pub with_reset_of : Sandboxes → ℕ → Option Seat → Sandboxes
with_reset_of w i None = w
with_reset_of w i (Some s) = record {
  bytes = with_first_bytes s.bounds w.bytes;
  seats = slice_set w.seats i (reset_seat s);
}

abbrev pub with_reset : Sandboxes → ℕ → Sandboxes
with_reset w i = with_reset_of w i (slice_get w.seats i)

-- ---- what it is then

-- It is what `World::load` makes of a part of an image, of which the sandbox still has the code:
-- the same registers, status, count of steps, code and data. What is said of its runs depends on
-- nothing else.
abbrev pub ResetIsFirst : Type 0
ResetIsFirst =
    (w : Sandboxes) (i k : ℕ) (s : Seat) (ps : List Part) (p : Part) → IsSafeWorld w
    → slice_get w.seats i ≡ Some s → IsRightLayout ps → slice_get ps k ≡ Some p
    → s.bounds ≡ bounds_of p → HasCode p w.bytes
    → slice_get (slots_of (with_reset w i)) i
    ≡ slice_get
    (slots_of (record { bytes = with_parts empty ps; seats = map first_seat ps })) k
