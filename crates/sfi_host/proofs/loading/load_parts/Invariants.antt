use Rattle.sfi_host.proofs.Entered.{AreLoaded}
use Rattle.sfi_host.proofs.loading.load_parts.Given as goal

abbrev pub invariant-loop-part : goal.invariant-loop-part
invariant-loop-part g l = AreLoaded l.fn.format (g.M.Memory.bytes l.fn.memory) l.parts l.part-index l.sandboxes.items (g.M.Memory.bytes l.memory)
