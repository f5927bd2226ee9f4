use Rattle.std.proofs.lemmas.Result.{err_from_is_err_and}
use Rattle.sfi_image.proofs.Seeking.{begun, found_here, not_here, all_found, all_beyond}
use Rattle.sfi_image.proofs.lookup.sandbox_of.Goals as goal
use Rattle.sfi_image.proofs.lookup.sandbox_of.Goals.{then-passed-number, else-passed-number}

pub returns-in_err-view-clause-fault : goal.returns-in_err-view-clause-fault
returns-in_err-view-clause-fault c =
    let p = err_from_is_err_and c.from_residual-in_err-view.result c.from_residual-in_err-view.ensures.1 in
    let i = c.loop-view.invariant in
    rw (p.1, p.2) (c.in_err-view.ensures.fault c.args.image.now i.format i.count i.parts i.cursor)

pub loop-view-init : goal.loop-view-init
loop-view-init c =
    let h = c.in_ok-cursor.ensures.begun in
    begun c.args.image.now c.args.number h.1 h.0 c.in_ok-cursor.cursor h.2

pub loop-view-preserved : goal.loop-view-preserved
loop-view-preserved c =
    let i = c.loop-view.invariant in
    let t = (rw c.in-Some.is at c.in_ok-view.ensures.part) c.args.image.now i.format i.count i.parts i.cursor in
    let falls = rw c.in-Some.is at c.in_ok-view.ensures.falls in
    elim c.if-passed-number.branch [
      | then-passed-number w ↦ rw (w.sought-is) (found_here c.args.image.now c.args.number c.loop-view.passed c.loop-view.cursor c.next_part.new.self c.loop-view.sought i t.0 t.2 falls c.in-Some.view t.1 w.if-passed-number.true w.unread.result.now w.unread.ensures)
      | else-passed-number w ↦ rw (w.sought-is) (not_here c.args.image.now c.args.number c.loop-view.passed c.loop-view.cursor c.next_part.new.self c.loop-view.sought i t.0 t.2 falls w.if-passed-number.false)
    ]

pub returns-clause-found : goal.returns-clause-found
returns-clause-found c =
    let i = c.loop-view.invariant in
    all_found c.args.image.now c.args.number i.parts c.loop-view.sought ((rw c.in_default.is at c.in_ok-view.ensures.end) c.args.image.now i.format i.count i.parts i.cursor) i.sought

pub returns-clause-beyond : goal.returns-clause-beyond
returns-clause-beyond c =
    let i = c.loop-view.invariant in
    all_beyond c.args.image.now c.args.number i.parts c.loop-view.sought ((rw c.in_default.is at c.in_ok-view.ensures.end) c.args.image.now i.format i.count i.parts i.cursor) i.sought
