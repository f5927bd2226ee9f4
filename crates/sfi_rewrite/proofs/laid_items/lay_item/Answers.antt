use Rattle.sfi_rewrite.proofs.Prelude.{arith}
use Rattle.sfi_rewrite.proofs.OneByOne.{even_size, item_one, is_some, is_few, too_large, fits_bundle, fits_code, has_next, most_of_any}
use Rattle.sfi_rewrite.proofs.laid_items.lay_item.Goals as goal

pub nops_before-nops-requires-clause-even : goal.nops_before-nops-requires-clause-even
nops_before-nops-requires-clause-even c = even_size c.end-end.result c.args.code.now c.end-end.ensures

pub nops_before-nops-requires-clause-even_size : goal.nops_before-nops-requires-clause-even_size
nops_before-nops-requires-clause-even_size c = even_size c.size_of-size.result c.slots-slots.result.now c.size_of-size.ensures

pub nops_before-nops-requires-clause-some : goal.nops_before-nops-requires-clause-some
nops_before-nops-requires-clause-some c =
    is_some c.size_of-size.result c.slots-slots.result.now c.size_of-size.ensures
    (item_one c.args.format c.args.item.now c.expand-expansion.result c.slots-slots.result.now c.expand-expansion.ensures c.slots-slots.ensures.slots)

pub nops_before-nops-requires-clause-few : goal.nops_before-nops-requires-clause-few
nops_before-nops-requires-clause-few c =
    is_few c.size_of-size.result c.slots-slots.result.now c.size_of-size.ensures
    (item_one c.args.format c.args.item.now c.expand-expansion.result c.slots-slots.result.now c.expand-expansion.ensures c.slots-slots.ensures.slots)

pub returns-then-end-nops-clause-refused : goal.returns-then-end-nops-clause-refused
returns-then-end-nops-clause-refused c =
    too_large c.args.format c.args.sandbox c.args.item.now c.args.code.now c.expand-expansion.result c.slots-slots.result.now c.is_call.result c.end-end.result c.size_of-size.result c.nops_before-nops.result
    c.expand-expansion.ensures c.slots-slots.ensures.slots c.end-end.ensures c.is_call.ensures c.size_of-size.ensures c.nops_before-nops.ensures.gap (omega (arith, c.built_code_most.ensures, c.if-end-nops.true))

pub push-requires-clause-some : goal.push-requires-clause-some
push-requires-clause-some c =
    is_some c.size_of-size.result c.slots-slots.result.now c.size_of-size.ensures
    (item_one c.args.format c.args.item.now c.expand-expansion.result c.slots-slots.result.now c.expand-expansion.ensures c.slots-slots.ensures.slots)

pub push-requires-clause-fits : goal.push-requires-clause-fits
push-requires-clause-fits c =
    fits_bundle c.args.code.now c.push_nops.new.self c.args.item.now.labelled c.is_call.result c.end-end.result c.size_of-size.result c.nops_before-nops.result
    c.end-end.ensures c.nops_before-nops.ensures.gap c.in_ok-push_nops.ensures

pub push-requires-clause-room : goal.push-requires-clause-room
push-requires-clause-room c =
    most_of_any c.args.format _
    (fits_code c.args.format c.args.code.now c.push_nops.new.self c.args.item.now.labelled c.is_call.result c.end-end.result c.size_of-size.result c.nops_before-nops.result
    c.end-end.ensures c.nops_before-nops.ensures.gap c.in_ok-push_nops.ensures (omega (arith, c.built_code_most.ensures, c.if-end-nops.false)))

pub returns-clause-laid : goal.returns-clause-laid
returns-clause-laid c =
    has_next c.args.format c.args.item.now c.args.code.now c.push_nops.new.self c.push.new.self c.expand-expansion.result c.slots-slots.result.now c.is_call.result c.end-end.result c.size_of-size.result c.nops_before-nops.result
    c.expand-expansion.ensures c.slots-slots.ensures.slots c.end-end.ensures c.is_call.ensures c.size_of-size.ensures c.nops_before-nops.ensures.gap
    c.in_ok-push_nops.ensures c.in_ok-push.ensures (omega (arith, c.built_code_most.ensures, c.if-end-nops.false))
