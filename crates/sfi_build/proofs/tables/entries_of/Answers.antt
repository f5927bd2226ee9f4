use Rattle.sfi_link.proofs.Prelude.{◌≡◌, ◌+◌, ◌++◌, ◌∙◌, inl, inr, sym, ap, subst, ℕ, List, [], ◌∷◌, Option, map, drop, slice_get, get_or, arith, All-push, err_from_is_err_and}
use Rattle.std.specs.Prelude.{IfErr}
use Rattle.sfi_names.specs.Tables.{Named, IsNamed, entry}
use Rattle.sfi_text.specs.declared.source_text.Listed.{Listed}
use Rattle.sfi_build.specs.Tables.{address_in, entry_with, entries_of}
use Rattle.sfi_build.specs.private.{IsTableStop, IsEntryStop}
use Rattle.sfi_build.specs.declared.fault.BuildFault.{BuildFault}
use Rattle.sfi_build.specs.declared.table_fault.TableFault.TheVariants.{Unknown}
use Rattle.sfi_build.proofs.Making.{entries_more, passed, stopped, after}
use Rattle.std.proofs.lemmas.List.{at_drop_more}
use Rattle.sfi_build.proofs.tables.entries_of.Goals as goal

stop_at : (f : ℕ → Option ℕ) (texts : List (List ℕ)) (all left rest : List Listed) (es : List Named) (l : Listed) (x : BuildFault) → entries_of f texts all ≡ after es (entries_of f texts left) → left ≡ l ∷ rest
    → IsEntryStop (entry_with (slice_get texts l.name) (f l.name)) l.line x → IsTableStop (entries_of f texts all) x
stop_at f texts all left rest es l x made first (inl memory) = inl memory
stop_at f texts all left rest es l x made first (inr (is, none)) = inr (Unknown l.line, is, stopped f texts all left rest es l made first none)

pub returns-in_err-push_listed-clause-fault : goal.returns-in_err-push_listed-clause-fault
returns-in_err-push_listed-clause-fault c =
    let f = address_in c.args.places.now c.args.sandbox (slice_get c.args.placed.now c.args.sandbox) in
    let texts = map (λ e. e.0) c.args.names.now in
    let all = c.args.listed.now in
    let other : Listed = record { name = 0; line = 0 } in
    let one = get_or all c.loop-one.one-index other in
    let (es, each, bytes_are, made) = c.loop-one.invariant in
    let p = err_from_is_err_and c.from_residual.result c.from_residual.ensures.1 in
    let stop = stop_at f texts all (drop c.loop-one.one-index all) (drop (c.loop-one.one-index + 1) all) es one c.in_err-push_listed.field-0.0 made
    (at_drop_more (λ l. l) all c.loop-one.one-index other (omega arith)) c.in_err-push_listed.ensures.fault in
    subst (λ r. IfErr r (IsTableStop (entries_of f texts all))) (sym p.1) (subst (IsTableStop (entries_of f texts all)) (let same = p.2 in cc) stop)

pub loop-one-preserved : goal.loop-one-preserved
loop-one-preserved c =
    let f = address_in c.args.places.now c.args.sandbox (slice_get c.args.placed.now c.args.sandbox) in
    let texts = map (λ e. e.0) c.args.names.now in
    let all = c.args.listed.now in
    let other : Listed = record { name = 0; line = 0 } in
    let one = get_or all c.loop-one.one-index other in
    let (es, each, bytes_are, made) = c.loop-one.invariant in
    let (e, fits, is, written) = c.in_ok-push_listed.ensures.pushed in (
      es ++ e ∷ [],
      All-push IsNamed es e each fits,
      written ∙ ap (λ b. b ++ entry e) bytes_are ∙ sym (entries_more es e),
      passed f texts all (drop c.loop-one.one-index all) (drop (c.loop-one.one-index + 1) all) es one e made
          (at_drop_more (λ l. l) all c.loop-one.one-index other (omega arith)) is,
    )
