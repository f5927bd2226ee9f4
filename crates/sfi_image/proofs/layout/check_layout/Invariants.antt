use Rattle.sfi_image.proofs.Prelude.{take, views}
use Rattle.sfi_image.proofs.Refused.{StartRight}
use Rattle.sfi_image.proofs.layout.check_layout.Given as goal

abbrev pub invariant-loop-part : goal.invariant-loop-part
invariant-loop-part l = StartRight (views l.format (take l.part-index l.parts)) l.before.items
