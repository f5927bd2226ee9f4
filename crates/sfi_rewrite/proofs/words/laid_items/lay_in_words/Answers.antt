use Rattle.sfi_rewrite.proofs.Prelude.{arith, ap, ◌∙◌, err_from_is_err_and, IsItemFault, true, ended, HasNoRoom}
use Rattle.sfi_rewrite.proofs.OneByOne.{stands_at, label_push, label_count, all_labels, next_permitted, item_fault, unless_is, unless_weaker}
use Rattle.sfi_rewrite.proofs.WordItems.{next_first, first_label, all_faultless, no_room_fault, first_faultless}
use Rattle.sfi_rewrite.proofs.words.laid_items.lay_in_words.Goals as goal

pub returns-in_err-permit-clause-refused : goal.returns-in_err-permit-clause-refused
returns-in_err-permit-clause-refused c =
    let p = err_from_is_err_and c.from_residual-in_err-permit.result c.from_residual-in_err-permit.ensures.1 in
    rw (p.1, p.2)
    (unless_is (IsItemFault true c.args.format c.args.sandbox c.args.items.now) c.in_err-permit.field-0.0
    (item_fault true c.args.format c.args.sandbox c.args.items.now c.loop-number.number c.index-items-number.result (ended c.loop-number.code.words c.loop-number.code.waiting).words c.in_err-permit.field-0.0
    (stands_at c.args.items.now c.loop-number.number c.index-items-number.result c.loop-number-test.true c.index-items-number.is)
    (first_faultless c.args.format c.args.items.now c.loop-number.number c.loop-number.code c.loop-number.invariant.permitted c.loop-number.invariant.first
    (record { aligned = c.loop-number.invariant.aligned; fits = c.loop-number.invariant.fits })) c.in_err-permit.ensures.refused))

pub returns-in_err-lay_item_in_words-clause-refused : goal.returns-in_err-lay_item_in_words-clause-refused
returns-in_err-lay_item_in_words-clause-refused c =
    let p = err_from_is_err_and c.from_residual-in_err-lay_item_in_words.result c.from_residual-in_err-lay_item_in_words.ensures.1 in
    rw (p.1, p.2)
    (unless_weaker (HasNoRoom c.args.format c.args.sandbox c.index-items-number.result c.items_after-later.result.now c.loop-number.code) (IsItemFault true c.args.format c.args.sandbox c.args.items.now) c.in_err-lay_item_in_words.field-0.0
    (λ fault none. no_room_fault c.args.format c.args.sandbox c.args.items.now c.loop-number.number c.index-items-number.result c.items_after-later.result.now c.loop-number.code fault
    (stands_at c.args.items.now c.loop-number.number c.index-items-number.result c.loop-number-test.true c.index-items-number.is) c.items_after-later.ensures
    c.loop-number.invariant.permitted c.in_ok-permit.ensures.permitted c.loop-number.invariant.first
    (record { aligned = c.loop-number.invariant.aligned; fits = c.loop-number.invariant.fits }) none) c.in_err-lay_item_in_words.ensures.refused)

pub loop-number-preserved : goal.loop-number-preserved
loop-number-preserved c =
    let at = stands_at c.args.items.now c.loop-number.number c.index-items-number.result c.loop-number-test.true c.index-items-number.is in
    record {
      within = omega (arith, c.loop-number-test.true);
      permitted = next_permitted c.args.format c.args.items.now c.loop-number.number c.index-items-number.result at c.loop-number.invariant.permitted c.in_ok-permit.ensures.permitted;
      first =
          next_first c.args.format c.args.items.now c.loop-number.number c.index-items-number.result c.items_after-later.result.now c.loop-number.code c.lay_item_in_words.new.code at c.items_after-later.ensures
          c.loop-number.invariant.first c.in_ok-lay_item_in_words.ensures.laid;
      aligned = c.in_ok-lay_item_in_words.ensures.room.aligned;
      fits = c.in_ok-lay_item_in_words.ensures.room.fits;
      count = label_count c.loop-number.labels.items c.push.new.self.items c.loop-number.number c.place.result c.loop-number.invariant.count c.in_ok-push.ensures.items;
      labels =
          label_push true c.args.format c.args.items.now c.loop-number.labels.items c.push.new.self.items c.loop-number.number c.place.result c.loop-number.invariant.count c.loop-number.invariant.labels
          (first_label c.args.format c.args.items.now c.loop-number.number c.place.result c.loop-number.code c.loop-number.invariant.first c.place.ensures) c.in_ok-push.ensures.items;
    }

pub returns-clause-faultless : goal.returns-clause-faultless
returns-clause-faultless c =
    all_faultless c.args.format c.args.items.now c.loop-number.number c.loop-number.code c.into_words.result (omega (arith, c.loop-number-test.false)) c.loop-number.invariant.within c.loop-number.invariant.permitted c.loop-number.invariant.first
    (record { aligned = c.loop-number.invariant.aligned; fits = c.loop-number.invariant.fits }) (c.into_words.ensures ∙ ap (λ w. w.words) c.in_ok-end_word.ensures)

pub returns-clause-labels : goal.returns-clause-labels
returns-clause-labels c =
    all_labels true c.args.format c.args.items.now c.loop-number.labels.items c.push-2.new.self.items c.loop-number.number c.place-2.result (omega (arith, c.loop-number-test.false)) c.loop-number.invariant.within
    c.loop-number.invariant.count c.loop-number.invariant.labels
    (first_label c.args.format c.args.items.now c.loop-number.number c.place-2.result c.loop-number.code c.loop-number.invariant.first c.place-2.ensures) c.in_ok-push-2.ensures.items
