-- What holds of the definitions themselves, and of the sandboxes of a safe world.
use Rattle.std.specs.Prelude.{◌≡◌, ◌≢◌, ℕ, Some, slice_get}
use Rattle.rv_word.specs.declared.instr.Instr.TheVariants.{Ecall}
use Rattle.rv_mem.specs.Bytes.{Bytes}
use Rattle.rv_step.specs.State.{State, IsState}
use Rattle.rv_step.specs.Step.{Stands}
use Rattle.sfi_image.specs.Spelling.{Part}
use Rattle.sfi_safe_runs.specs.Runs.{StaysOutside, IsTyped, IsReply, IsChange}
use Rattle.sfi_host.specs.declared.status.Status.TheVariants.{Ready}
use Rattle.sfi_host.specs.Hosts.{Reply}
use Rattle.sfi_host.specs.Slots.{bounds_of}
use Rattle.sfi_host.specs.Joint.{Machine, IsMachine, status_after, replied}
use Rattle.sfi_host.specs.Worlds.{Seat, Sandboxes, slot_of, state_in, IsSafeSeat, IsSafeWorld}

-- there is a machine
abbrev pub SomeMachine : Type 0
SomeMachine = (machine : Machine) × IsMachine machine

-- there is only one machine
abbrev pub OneMachine : Type 0
OneMachine = (machine other : Machine) → IsMachine machine → IsMachine other
    → (s : State) → machine s ≡ other s

-- what one sandbox of a safe world does to its own data is, to each other sandbox, a change by others
abbrev pub NeighboursAreChanges : Type 0
NeighboursAreChanges =
    (w : Sandboxes) (i j : ℕ) (s t : Seat) (new : Bytes) (p : Part) → IsSafeWorld w
    → i ≢ j → slice_get w.seats i ≡ Some s → slice_get w.seats j ≡ Some t
    → StaysOutside s.bounds.data w.bytes new → t.bounds ≡ bounds_of p
    → IsChange p (state_in w.bytes t) (state_in new t)

-- the typed registers of a sandbox of a safe world that is ready and stands at an ecall, the stack
-- pointer where its format has one, hold what their types say
abbrev pub CallsAreTyped : Type 0
CallsAreTyped =
    (m : Bytes) (s : Seat) (size : ℕ) (p : Part) → IsSafeSeat m s → s.bounds ≡ bounds_of p
    → s.status ≡ Ready → Stands (state_in m s) Ecall size → IsTyped p s.hart.registers

-- What a host's reply makes of a sandbox that goes on is a reply to its ecall: of the memory, its
-- data alone may be changed. The typed registers hold what their types say already,
-- as the law above says of a ready sandbox.
abbrev pub AnswersAreReplies : Type 0
AnswersAreReplies =
    (m : Bytes) (s : Seat) (r : Reply) (after : State) (size : ℕ) (p : Part) → IsSafeSeat m s
    → s.bounds ≡ bounds_of p
    → IsTyped p s.hart.registers → Stands (state_in m s) Ecall size → status_after r.way ≡ Ready
    → IsState after → after.hart ≡ (replied (slot_of m s) r).hart
    → StaysOutside s.bounds.data m after.memory
    → IsReply p (state_in m s) after
