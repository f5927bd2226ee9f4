use Rattle.sfi_rewrite.proofs.Prelude.{◌≡◌, ◌++◌, replicate, c_nop}
use Rattle.sfi_rewrite.proofs.filling.Filling.push_nops.Given as goal

abbrev pub invariant-loop : goal.invariant-loop
invariant-loop l = l.self ≡ l.initial.self ++ replicate l.counter c_nop
