use Rattle.sfi_link.proofs.Prelude.{◌≡◌, ◌+◌, ◌<◌, ◌++◌, ◌∙◌, sym, ap, subst, [], ◌∷◌, length, length-append, drop, slice_get, arith, map_push, err_from_is_err_and, contents}
use Rattle.std.specs.Prelude.{IfErr}
use Rattle.sfi_build.specs.Tables.{address_in, tail_of, tails_from}
use Rattle.sfi_build.specs.private.{IsTableStop}
use Rattle.sfi_build.proofs.Making.{carried, tails_stopped, tails_passed, inits_more, next}
use Rattle.sfi_build.proofs.tables.inits_of.Goals as goal

pub returns-in_err-init-clause-fault : goal.returns-in_err-init-clause-fault
returns-in_err-init-clause-fault c =
    let given = c.args.places.now in
    let placed = c.args.placed.now in
    let shared = c.args.shared.now in
    let parts = c.args.parts.now in
    let k = c.loop-sandbox.sandbox in
    let l = c.index-shared-sandbox.result in
    let s = c.index-parts-sandbox.result in
    let (tails, count, made, inits) = c.loop-sandbox.invariant in
    let within : k < length shared = omega (arith, c.loop-sandbox-test.true, c.requires.listed) in
    let one : drop k shared ≡ l ∷ drop (k + 1) shared = next shared k l within c.index-shared-sandbox.is in
    let two : drop k parts ≡ s ∷ drop (k + 1) parts = next parts k s c.loop-sandbox-test.true c.index-parts-sandbox.is in
    let p = err_from_is_err_and c.from_residual.result c.from_residual.ensures.1 in
    let due = tails_from given placed 0 shared parts in
    let stop : IsTableStop due c.in_err-init.field-0.0 =
    carried (tail_of (address_in given k (slice_get placed k)) k l s) due c.in_err-init.field-0.0
    (λ g wrong. tails_stopped given placed shared (drop (k + 1) shared) parts (drop (k + 1) parts) tails k l s one two made g wrong) c.in_err-init.ensures.fault in
    subst (λ r. IfErr r (IsTableStop due)) (sym p.1) (subst (IsTableStop due) (let same = p.2 in cc) stop)

pub loop-sandbox-preserved : goal.loop-sandbox-preserved
loop-sandbox-preserved c =
    let given = c.args.places.now in
    let placed = c.args.placed.now in
    let shared = c.args.shared.now in
    let parts = c.args.parts.now in
    let k = c.loop-sandbox.sandbox in
    let l = c.index-shared-sandbox.result in
    let s = c.index-parts-sandbox.result in
    let (tails, count, made, inits) = c.loop-sandbox.invariant in
    let within : k < length shared = omega (arith, c.loop-sandbox-test.true, c.requires.listed) in
    let one : drop k shared ≡ l ∷ drop (k + 1) shared = next shared k l within c.index-shared-sandbox.is in
    let two : drop k parts ≡ s ∷ drop (k + 1) parts = next parts k s c.loop-sandbox-test.true c.index-parts-sandbox.is in
    let (t, init_is, tail_is) = c.in_ok-init.ensures.init in (
      tails ++ t ∷ [],
      omega (arith, count, length-append tails (t ∷ [])),
      tails_passed given placed shared (drop (k + 1) shared) parts (drop (k + 1) parts) tails k l s one two made t tail_is,
      ap contents c.in_ok-push.ensures.items ∙ map_push (λ v. v.items) c.loop-sandbox.inits.items c.in_ok-init.init
          ∙ (λ i. inits i ++ init_is i ∷ []) ∙ sym (inits_more tails t parts k s count c.loop-sandbox-test.true c.index-parts-sandbox.is),
    )
