use Rattle.sfi_native.proofs.Filed.{AreFirst}
use Rattle.sfi_native.proofs.file.push_sandboxes.Given as goal

-- the sandboxes so far are written
abbrev pub invariant-loop-sandbox : goal.invariant-loop-sandbox
invariant-loop-sandbox l = AreFirst l.image l.sandbox l.fn.out.items l.out.items
