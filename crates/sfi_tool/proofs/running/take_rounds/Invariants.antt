use Rattle.sfi_tool.proofs.Prelude.{slots_of}
use Rattle.sfi_tool.specs.private.{AreTaken}
use Rattle.sfi_tool.proofs.running.take_rounds.Given as goal

-- the rounds so far are taken
abbrev pub invariant-loop : goal.invariant-loop
invariant-loop g l =
    AreTaken l.counter l.quantum l.count (slots_of l.fn.world) l.fn.console (slots_of l.world) l.console
