use Rattle.std.proofs.Common.{◌∙◌, sym}
use Rattle.sfi_names.specs.Tables.{named}
use Rattle.sfi_names.proofs.Entries.{passed, found, not_found}
use Rattle.sfi_names.proofs.entry.address_named.Goals as goal

pub returns-then-eq : goal.returns-then-eq
returns-then-eq c = λ es fits e.
    let f = c.in-Some.ensures.found in
    found c.loop-entry.rest.now c.args.name.now (named c.in-Some.entry) c.in-Some.more.now f.0 f.1 es (sym c.eq.ensures ∙ c.if-eq.true) (c.loop-entry.invariant es fits e)

pub loop-entry-preserved : goal.loop-entry-preserved
loop-entry-preserved c = λ es fits e.
    let f = c.in-Some.ensures.found in
    passed c.loop-entry.rest.now c.args.name.now (named c.in-Some.entry) c.in-Some.more.now f.0 f.1 es (sym c.eq.ensures ∙ c.if-eq.false) (c.loop-entry.invariant es fits e)

pub returns : goal.returns
returns c = λ es fits e. not_found c.loop-entry.rest.now c.args.name.now es c.in_default.ensures.none (c.loop-entry.invariant es fits e)
