use Rattle.sfi_rewrite.proofs.Prelude.{size_of, err_from_is_err_and, IsTooLarge, IsItemFault, false}
use Rattle.sfi_rewrite.proofs.OneByOne.{one_more, label_here, label_push, label_count, item_fault, body_at, all_labels, stands_at, place_fault, unless_is, unless_weaker}
use Rattle.sfi_rewrite.proofs.laid_items.lay_items.Goals as goal

pub returns-in_err-permit-clause-refused : goal.returns-in_err-permit-clause-refused
returns-in_err-permit-clause-refused c =
    let p = err_from_is_err_and c.from_residual-in_err-permit.result c.from_residual-in_err-permit.ensures.1 in
    rw (p.1, p.2)
    (unless_is (IsItemFault false c.args.format c.args.sandbox c.args.items.now) c.in_err-permit.field-0.0
    (item_fault false c.args.format c.args.sandbox c.args.items.now c.loop-item.item-index c.item-item.result c.loop-item.code c.in_err-permit.field-0.0
    (stands_at c.args.items.now c.loop-item.item-index c.item-item.result c.loop-item-test.true c.item-item.is) c.loop-item.invariant.faultless c.in_err-permit.ensures.refused))

pub lay_item-requires-clause-body : goal.lay_item-requires-clause-body
lay_item-requires-clause-body c = body_at c.args.items.now c.loop-item.item-index c.item-item.result c.loop-item-test.true c.item-item.is c.requires

pub returns-in_err-lay_item-clause-refused : goal.returns-in_err-lay_item-clause-refused
returns-in_err-lay_item-clause-refused c =
    let p = err_from_is_err_and c.from_residual-in_err-lay_item.result c.from_residual-in_err-lay_item.ensures.1 in
    rw (p.1, p.2)
    (unless_weaker (IsTooLarge c.args.format c.args.sandbox (size_of c.loop-item.code) c.item-item.result) (IsItemFault false c.args.format c.args.sandbox c.args.items.now) c.in_err-lay_item.field-0.0
    (λ f large. place_fault c.args.format c.args.sandbox c.args.items.now c.loop-item.item-index c.item-item.result c.loop-item.code f
    (stands_at c.args.items.now c.loop-item.item-index c.item-item.result c.loop-item-test.true c.item-item.is) c.loop-item.invariant.faultless c.in_ok-permit.ensures.permitted large)
    c.in_err-lay_item.ensures.refused)

pub loop-item-preserved : goal.loop-item-preserved
loop-item-preserved c = record {
  faultless =
      one_more c.args.format c.args.items.now c.loop-item.item-index c.item-item.result c.loop-item.code c.lay_item.new.code
      c.loop-item-test.true c.item-item.is c.loop-item.invariant.faultless c.in_ok-permit.ensures.permitted c.in_ok-lay_item.ensures.laid;
  count = label_count c.loop-item.labels.items c.push.new.self.items c.loop-item.item-index c.next_bundle.result c.loop-item.invariant.count c.in_ok-push.ensures.items;
  labels =
      label_push false c.args.format c.args.items.now c.loop-item.labels.items c.push.new.self.items c.loop-item.item-index c.next_bundle.result
      c.loop-item.invariant.count c.loop-item.invariant.labels
      (label_here c.args.format c.args.items.now c.loop-item.item-index c.end.result c.next_bundle.result c.loop-item.code c.loop-item.invariant.faultless c.end.ensures c.next_bundle.ensures)
      c.in_ok-push.ensures.items;
}

pub returns-clause-labels : goal.returns-clause-labels
returns-clause-labels c =
    all_labels false c.args.format c.args.items.now c.loop-item.labels.items c.push-2.new.self.items c.loop-item.item-index c.next_bundle-2.result
    c.loop-item-test.false c.loop-item.auto.item-index-end c.loop-item.invariant.count c.loop-item.invariant.labels
    (label_here c.args.format c.args.items.now c.loop-item.item-index c.end-2.result c.next_bundle-2.result c.loop-item.code c.loop-item.invariant.faultless c.end-2.ensures c.next_bundle-2.ensures)
    c.in_ok-push-2.ensures.items
