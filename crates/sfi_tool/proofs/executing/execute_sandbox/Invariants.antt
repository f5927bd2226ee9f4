use Rattle.std.specs.Prelude.{◌+◌, ◌≤◌}
use Rattle.sfi_tool.proofs.Prelude.{slice_get, slots_of}
use Rattle.sfi_tool.specs.private.{AreWithin, Streamed, left_of}
use Rattle.sfi_tool.proofs.executing.execute_sandbox.Given as goal

-- each turn took a step of the budget or more
abbrev pub invariant-loop : goal.invariant-loop
invariant-loop g l =
    Streamed l.sandbox (slots_of l.fn.world) l.fn.console (slots_of l.world) l.console (g.R.Read.remaining l.fn.reader) (g.R.Read.remaining l.reader)
    (g.W.Write.contents l.fn.writer) (g.W.Write.contents l.writer)
    × AreWithin l.budget (slots_of l.world)
    × (left_of l.budget (slice_get (slots_of l.world) l.sandbox) + l.counter ≤ l.budget)
