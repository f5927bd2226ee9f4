use Rattle.sfi_host.proofs.Prelude.{seats_of}
use Rattle.sfi_host.specs.private.Copying.{HasCopies}
use Rattle.sfi_host.proofs.copying.copy_other_sandboxes.Given as goal

abbrev pub invariant-loop-place : goal.invariant-loop-place
invariant-loop-place g l = HasCopies (g.M.Memory.bytes l.from) (seats_of l.sandboxes) l.place l.but (g.M.Memory.bytes l.to)
