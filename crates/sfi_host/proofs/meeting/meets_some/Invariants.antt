use Rattle.sfi_host.proofs.Prelude.{seat_of}
use Rattle.sfi_host.specs.Modules.{parts_of}
use Rattle.sfi_host.proofs.Meetings.{NoneMeets}
use Rattle.sfi_host.proofs.meeting.meets_some.Given as goal

abbrev pub invariant-loop-part : goal.invariant-loop-part
invariant-loop-part l = NoneMeets (seat_of l.sandbox).bounds (parts_of l.format l.parts) l.part-index
