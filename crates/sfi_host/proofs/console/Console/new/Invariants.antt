use Rattle.sfi_host.proofs.Prelude.{◌≡◌, replicate, new_session}
use Rattle.sfi_host.proofs.console.Console.new.Given as goal

abbrev pub invariant-loop : goal.invariant-loop
invariant-loop l = l.sessions.items ≡ replicate l.counter new_session
