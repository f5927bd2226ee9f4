-- What C reads of a sandbox: how it stands, its pc and registers, and where its data lie.
use Rattle.std.specs.Prelude.{◌≡◌, ◌<◌, ◌≤◌, ℕ, ◌⊎◌, List, Option, Some, None, slice_get}
use Rattle.rv_step.specs.declared.outcome.Cause.{Cause}
use Rattle.rv_step.specs.declared.outcome.Cause.TheVariants.{Fetch, Illegal, Break, Load, Store}
use Rattle.sfi_formats.specs.Limits.{gates_most, service_most}
use Rattle.sfi_image.specs.declared.part.Gate.{Gate}
use Rattle.sfi_host.specs.declared.status.Status.{Status}
use Rattle.sfi_host.specs.declared.status.Status.TheVariants.{Ready, Exited, Trapped, Stopped}
use Rattle.sfi_host.specs.Slots.{Slot}
use Rattle.sfi_host.specs.Waiting.{IsAtCall}
use Rattle.sfi_run.specs.declared.snapshots.SfiRunEvent.{SfiRunEvent}
use Rattle.rv_step.specs.State.{Hart, register}
use Rattle.sfi_run.specs.declared.snapshots.SfiRunRegisters.{SfiRunRegisters}
use Rattle.sfi_image.specs.declared.span.Span.{Span}
use Rattle.sfi_run.specs.declared.snapshots.SfiRunRegion.{SfiRunRegion}

-- ---- a trap's cause, by number

abbrev pub cause_number : Cause → ℕ
cause_number Fetch = 1
cause_number Illegal = 2
cause_number Break = 3
cause_number Load = 4
cause_number Store = 5

-- ---- how a sandbox stands

-- there is no such sandbox
abbrev pub none_kind : ℕ
none_kind = 0

-- it is ready, and doesn't wait
abbrev pub ready_kind : ℕ
ready_kind = 1

-- it waits at a call of the service of that number
abbrev pub call_kind : ℕ
call_kind = 2

-- it has exited with that number
abbrev pub exit_kind : ℕ
exit_kind = 3

-- it has trapped, for the cause of that number, at the address a0
abbrev pub trap_kind : ℕ
trap_kind = 4

-- its host stopped it
abbrev pub stopped_kind : ℕ
stopped_kind = 5

-- an event that is no call
abbrev pub plain_event : ℕ → ℕ → ℕ → ℕ → SfiRunEvent
plain_event kind number pc a0 = record {
  kind = kind;
  number = number;
  gate = 0;
  pc = pc;
  a0 = a0;
  a1 = 0;
  a2 = 0;
  a3 = 0;
  a4 = 0;
  a5 = 0;
  a6 = 0;
  a7 = 0;
}

-- the event where there is no such sandbox
abbrev pub none_event : SfiRunEvent
none_event = plain_event none_kind 0 0 0

-- the event of a call of that gate, which asks for that service, with these pc and registers
abbrev pub call_event : ℕ → ℕ → Hart → SfiRunEvent
call_event gate service h = record {
  kind = call_kind;
  number = service;
  gate = gate;
  pc = h.pc;
  a0 = register h 10;
  a1 = register h 11;
  a2 = register h 12;
  a3 = register h 13;
  a4 = register h 14;
  a5 = register h 15;
  a6 = register h 16;
  a7 = register h 17;
}

-- the event of one that stands at no call
abbrev pub status_event : Status → ℕ → SfiRunEvent
status_event Ready pc = plain_event ready_kind 0 pc 0
status_event (Exited n) pc = plain_event exit_kind n pc 0
status_event (Trapped cause at) pc = plain_event trap_kind (cause_number cause) pc at
status_event Stopped pc = plain_event stopped_kind 0 pc 0

-- `status_event` of a sandbox that may not be there
abbrev pub standing_event : Option Slot → SfiRunEvent
standing_event None = none_event
standing_event (Some s) = status_event s.status s.hart.pc

-- The event is of a call of sandbox `i`: it stands at the gate of that place, which
-- is one of `gates_most` and asks for that service.
pub record IsCallEvent (slots : List Slot) (i : ℕ) (e : SfiRunEvent) : Type 0 where
  pub slot : Slot
  pub there : slice_get slots i ≡ Some slot
  pub gate : Gate
  pub among : slice_get slot.bounds.gates e.gate ≡ Some gate
  pub gate_number : e.gate < gates_most
  pub address : gate.address ≡ slot.hart.pc
  pub service_number : gate.service ≤ service_most
  pub event_is : e ≡ call_event e.gate gate.service slot.hart

-- the event is of sandbox `i`: of its call, where it stands at one; elsewhere what
-- it may still do
abbrev pub IsEventOf : List Slot → ℕ → SfiRunEvent → Type 0
IsEventOf slots i e =
    (IsAtCall slots i × IsCallEvent slots i e)
    ⊎ ((IsAtCall slots i → ⊥) × (e ≡ standing_event (slice_get slots i)))

-- ---- the pc and the registers

-- pc, and the registers in the order of their numbers
pub record AreRegistersOf (h : Hart) (r : SfiRunRegisters) : Type 0 where
  pub pc : r.pc ≡ h.pc
  pub x : r.x ≡ h.registers

-- ---- where the data lie

abbrev pub region_span : SfiRunRegion → Span
region_span r = record { base = r.base; size = r.size }
