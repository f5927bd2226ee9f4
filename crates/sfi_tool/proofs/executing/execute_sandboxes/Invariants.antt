use Rattle.sfi_tool.proofs.Prelude.{slots_of}
use Rattle.sfi_tool.specs.private.{AreStreamed, AreWithin}
use Rattle.sfi_tool.proofs.executing.execute_sandboxes.Given as goal

abbrev pub invariant-loop-sandbox : goal.invariant-loop-sandbox
invariant-loop-sandbox g l =
    AreStreamed l.budget l.sandbox (slots_of l.fn.world) l.fn.console (slots_of l.world) l.console (g.R.Read.remaining l.fn.reader) (g.R.Read.remaining l.reader)
    (g.W.Write.contents l.fn.writer) (g.W.Write.contents l.writer)
    × AreWithin l.budget (slots_of l.world)
