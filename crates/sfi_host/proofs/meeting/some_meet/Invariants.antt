use Rattle.sfi_host.proofs.Prelude.{seats_of}
use Rattle.sfi_host.specs.Modules.{parts_of}
use Rattle.sfi_host.proofs.Meetings.{AreClear}
use Rattle.sfi_host.proofs.meeting.some_meet.Given as goal

abbrev pub invariant-loop-sandbox : goal.invariant-loop-sandbox
invariant-loop-sandbox l = AreClear (seats_of l.sandboxes) (parts_of l.format l.parts) l.sandbox-index
