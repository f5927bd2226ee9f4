use Rattle.std.proofs.Common.{length}
use Rattle.sfi_image.specs.Keeping.{unread}
use Rattle.sfi_image.proofs.Seeking.{HasSought}
use Rattle.sfi_image.proofs.lookup.sandbox_of.Given as goal

abbrev pub invariant-loop-view : goal.invariant-loop-view
invariant-loop-view l = HasSought l.image l.number l.passed l.cursor l.sought

abbrev pub decreases-loop-view : goal.decreases-loop-view
decreases-loop-view l = length (unread l.cursor)
