use Rattle.sfi_host.proofs.Prelude.{◌≤◌, seat_of}
use Rattle.sfi_host.proofs.UpToStop.{InUntil}
use Rattle.sfi_host.proofs.until.run_until.Given as goal

abbrev pub invariant-loop-done : goal.invariant-loop-done
invariant-loop-done g l = (l.done ≤ l.steps) × InUntil l.stops (g.M.Memory.bytes l.fn.memory) (seat_of l.fn.sandbox) l.done (g.M.Memory.bytes l.memory) (seat_of l.sandbox)
