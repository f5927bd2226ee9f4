use Rattle.sfi_names.specs.Tables.{named}
use Rattle.sfi_names.proofs.Entries.{counted, reached, too_far}
use Rattle.sfi_names.proofs.entry.entry_at.Goals as goal

pub returns-then-before-eq0-clause-found : goal.returns-then-before-eq0-clause-found
returns-then-before-eq0-clause-found c = λ es fits e.
    let f = c.in-Some.ensures.found in
    reached c.loop-entry.rest.now c.args.index c.loop-entry.before (named c.in-Some.entry) c.in-Some.more.now f.0 f.1 es c.if-before-eq0.true (c.loop-entry.invariant es fits e)

pub loop-entry-preserved : goal.loop-entry-preserved
loop-entry-preserved c = λ es fits e.
    let f = c.in-Some.ensures.found in
    counted c.loop-entry.rest.now c.args.index c.loop-entry.before (named c.in-Some.entry) c.in-Some.more.now f.0 f.1 es c.if-before-eq0.false (c.loop-entry.invariant es fits e)

pub returns-clause-none : goal.returns-clause-none
returns-clause-none c = λ es fits e. too_far c.loop-entry.rest.now c.args.index c.loop-entry.before es c.in_default.ensures.none (c.loop-entry.invariant es fits e)
