use Rattle.sfi_link.proofs.Prelude.{◌≡◌, ◌+◌, ◌++◌, ◌∙◌, ◌∷◌, map, drop, refl, sym, subst, ap, arith, append_assoc, IsPlacedPart, entries_of, entries_in, map_from, bases_of, Some}
use Rattle.std.proofs.lemmas.List.{at_drop_more}
use Rattle.std.proofs.lemmas.Option.{slice_get_read, slice_get_past}
use Rattle.sfi_link.proofs.Parts.{start_fits, linked_at}
use Rattle.sfi_link.proofs.Linking.{near_of}
use Rattle.sfi_link.proofs.names.listed_names.Goals as goal

pub bases_of-at-requires-clause-fits : goal.bases_of-at-requires-clause-fits
bases_of-at-requires-clause-fits c =
    let k = c.loop-number.number in
    let p = c.index-placed-number.result in
    let q = linked_at c.args.given.now 0 k k c.args.placed.now c.requires.linked.0 p (omega arith) c.loop-number-test.true c.index-placed-number.is c.requires.linked.1 in
    start_fits c.args.given.now k p _ q.1.code.size.has_room q.1.lies

pub list_names-requires : goal.list_names-requires
list_names-requires c =
    let k = c.loop-number.number in
    let p = c.index-placed-number.result in
    let q = linked_at c.args.given.now 0 k k c.args.placed.now c.requires.linked.0 p (omega arith) c.loop-number-test.true c.index-placed-number.is c.requires.linked.1 in
    let right : IsPlacedPart p = subst (λ r. IsPlacedPart r) (sym c.index-placed-number.is) (c.requires.right k p c.loop-number-test.true) in
    rw (c.names-in-loop-number.ensures, c.bases_of-at.ensures.is) (record { near = near_of c.args.given.now k p _ right q.1.code.size.has_room q.1.lies })

pub loop-number-preserved : goal.loop-number-preserved
loop-number-preserved c =
    let k = c.loop-number.number in
    let given = c.args.given.now in
    let source = c.args.source.now in
    let p = c.index-placed-number.result in
    let there = c.in-Some.ensures.lookup in
    let listed = c.loop-number.listed.items in
    let s = c.in-Some.sandbox.now in
    let own = entries_in k (bases_of given k p) (Some s) p.names in
    let rest = map_from given (k + 1) source (drop (k + 1) c.args.placed.now) in
    let here : c.list_names.new.listed.items ≡ listed ++ own = c.in_ok-list_names.ensures ∙ (λ i. listed ++ entries_of k (c.bases_of-at.ensures.is i) (map (λ e. e.0) (c.names.ensures i)) 0 (c.names-in-loop-number.ensures i)) in
    let named : own ++ rest ≡ map_from given k source (p ∷ drop (k + 1) c.args.placed.now) = ap (λ o. entries_in k (bases_of given k p) o p.names ++ rest) (sym (slice_get_read source _ k s refl there.3.0 there.1)) in
    let next = named ∙ ap (λ x. map_from given k source (x ∷ drop (k + 1) c.args.placed.now)) c.index-placed-number.is ∙ sym (at_drop_more (map_from given k source) c.args.placed.now k p c.loop-number-test.true) in
    ap (λ l. l ++ rest) here ∙ append_assoc listed own rest ∙ ap (λ l. listed ++ l) next ∙ c.loop-number.invariant

pub loop-number-preserved-in_default : goal.loop-number-preserved-in_default
loop-number-preserved-in_default c =
    let k = c.loop-number.number in
    let given = c.args.given.now in
    let source = c.args.source.now in
    let p = c.index-placed-number.result in
    let rest = map_from given (k + 1) source (drop (k + 1) c.args.placed.now) in
    let none = ap (λ o. entries_in k (bases_of given k p) o p.names ++ rest) (sym (slice_get_past source k c.in_default.ensures.lookup.3)) in
    let next = none ∙ ap (λ x. map_from given k source (x ∷ drop (k + 1) c.args.placed.now)) c.index-placed-number.is ∙ sym (at_drop_more (map_from given k source) c.args.placed.now k p c.loop-number-test.true) in
    ap (λ l. c.loop-number.listed.items ++ l) next ∙ c.loop-number.invariant
