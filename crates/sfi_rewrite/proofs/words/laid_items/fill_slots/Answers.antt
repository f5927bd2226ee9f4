use Rattle.sfi_rewrite.proofs.Prelude.{arith}
use Rattle.sfi_rewrite.proofs.WordItems.{next_slots, next_room, beyond}
use Rattle.sfi_rewrite.proofs.words.laid_items.fill_slots.Goals as goal

pub returns-then-end_with-built_code_most-clause-refused : goal.returns-then-end_with-built_code_most-clause-refused
returns-then-end_with-built_code_most-clause-refused c =
    beyond c.args.format c.args.sandbox c.args.code.now c.loop-slot.code c.args.slots.now c.loop-slot.slot-index c.slot-item.result c.loop-slot-test.true c.slot-item.is
    c.loop-slot.invariant.so_far (omega (arith, c.built_code_most.ensures, c.if-end_with-built_code_most.true, c.end_with.ensures))

pub loop-slot-preserved : goal.loop-slot-preserved
loop-slot-preserved c =
    let room =
    next_room c.args.format c.loop-slot.code c.push.new.self c.slot-item.result (record { aligned = c.loop-slot.invariant.aligned; fits = c.loop-slot.invariant.fits })
    (omega (arith, c.built_code_most.ensures, c.if-end_with-built_code_most.false, c.end_with.ensures)) c.in_ok-push.ensures in
    record {
      so_far =
          next_slots c.args.code.now c.loop-slot.code c.push.new.self c.args.slots.now c.loop-slot.slot-index c.slot-item.result c.loop-slot-test.true c.slot-item.is
          c.loop-slot.invariant.so_far c.in_ok-push.ensures;
      aligned = room.aligned;
      fits = room.fits;
    }
