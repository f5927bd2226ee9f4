use Rattle.sfi_link.proofs.Prelude.{◌≡◌, ◌++◌, repeat}
use Rattle.sfi_link.proofs.code_region.push_copies.Given as goal

abbrev pub invariant-loop : goal.invariant-loop
invariant-loop l = l.code.items ≡ l.initial.code.items ++ repeat l.counter l.copied
