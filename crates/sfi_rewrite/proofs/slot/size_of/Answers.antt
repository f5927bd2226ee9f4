use Rattle.sfi_rewrite.proofs.Prelude.{◌∙◌, ap, slot_size}
use Rattle.sfi_rewrite.proofs.Sizes.{size_step, size_fits}
use Rattle.sfi_rewrite.proofs.slot.size_of.Goals as goal

pub overflow_add-size : goal.overflow_add-size
overflow_add-size c =
    size_fits c.args.slots.now c.loop-slot.slot-index c.slot-item.result c.loop-slot.size c.size-size.result c.loop-slot-test.true c.requires c.loop-slot.invariant (c.size-size.ensures ∙ ap slot_size c.slot-item.is)

pub loop-slot-preserved : goal.loop-slot-preserved
loop-slot-preserved c =
    size_step c.args.slots.now c.loop-slot.slot-index c.slot-item.result c.loop-slot.size c.size-size.result c.loop-slot-test.true c.loop-slot.invariant (c.size-size.ensures ∙ ap slot_size c.slot-item.is)
