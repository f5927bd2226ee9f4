use Rattle.std.proofs.Common.{◌≡◌, ◌+◌, ◌*◌, ◌/◌, ◌++◌, ◌∷◌, [], length, ap, subst, sym, ◌∙◌, arith, append_assoc, length-append}
use Rattle.sfi_image.specs.Spelling.{view}
use Rattle.sfi_translate.specs.Machine.{label}
use Rattle.sfi_native.specs.Entries.{entry_of, owed_at_entry}
use Rattle.sfi_native.proofs.Entered.{HasEntries, next_address, one_more_entry}
use Rattle.sfi_native.proofs.entries.entries.Goals as goal

pub loop-preserved : goal.loop-preserved
loop-preserved c =
    let p = view c.args.format c.args.part.now in
    let plan = c.args.plan.now in
    let table = c.loop.table.items in
    let first = c.in_ok-push.ensures.items in
    let items =
    c.in_ok-push-2.ensures.items ∙ ap (λ t. t ++ c.row_at-row.result.owed ∷ []) first ∙ append_assoc table (c.row_at-row.result.entry ∷ []) (c.row_at-row.result.owed ∷ []) in
    let longer : length (table ++ c.row_at-row.result.entry ∷ c.row_at-row.result.owed ∷ []) ≡ 2 * (c.loop.counter + 1) =
    omega (arith, length-append table (c.row_at-row.result.entry ∷ c.row_at-row.result.owed ∷ []), c.loop.invariant.count) in
    record {
      count = ap length items ∙ longer;
      place = next_address p c.loop.counter c.loop.at c.unit-unit.result c.loop.invariant.place c.unit-unit.ensures;
      entries = λ code bytes measured all_is.
          let own = c.row_at-row.ensures.entry code bytes measured all_is ∙ ap (λ a. entry_of plan code (label a code)) c.loop.invariant.place in
          let owes = c.row_at-row.ensures.owed p code bytes measured ∙ ap (λ a. owed_at_entry plan p (label a code)) c.loop.invariant.place in
          subst (λ x. HasEntries plan p code (c.loop.counter + 1) x) (sym items)
          (one_more_entry plan p code table c.loop.counter c.row_at-row.result.entry c.row_at-row.result.owed c.loop.invariant.count (c.loop.invariant.entries code bytes measured all_is) own owes);
    }

pub returns : goal.returns
returns c = λ code bytes measured all_is.
    let p = view c.args.format c.args.part.now in
    let counted : c.loop.counter ≡ length c.args.part.now.code.now / c.unit-unit.result = omega (arith, c.loop-test.false, c.loop.auto.counter-end) in
    let all = counted ∙ ap (λ n. length c.args.part.now.code.now / n) c.unit-unit.ensures in
    let held = subst (λ n. HasEntries c.args.plan.now p code n c.loop.table.items) all (c.loop.invariant.entries code bytes measured all_is) in
    record {
      count = c.loop.invariant.count ∙ ap (λ n. 2 * n) all;
      entries = held.entries;
      owed = held.owed;
    }
