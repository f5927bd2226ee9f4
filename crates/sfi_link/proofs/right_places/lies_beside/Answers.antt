use Rattle.sfi_link.proofs.Prelude.{◌≡◌, ◌∙◌, ◌++◌, ◌∷◌, [], false, true, refl, sym, ap, subst, append_assoc, AllPairs, AreApart, with_guards, spans_at}
use Rattle.sfi_link.proofs.Linking.{lies_beside, lie_there, lie_here}
use Rattle.sfi_link.proofs.right_places.lies_beside.Goals as goal

pub lie_apart-requires-clause-apart : goal.lie_apart-requires-clause-apart
lie_apart-requires-clause-apart c = subst (AllPairs AreApart) (sym c.deref.ensures.value) c.requires.apart

pub returns-then-not-lie_apart-clause-wrong : goal.returns-then-not-lie_apart-clause-wrong
returns-then-not-lie_apart-clause-wrong c =
    let own : record { base = c.from.result; size = c.from-2.result } ∷ c.with_guards-guarded.result ∷ [] ≡ spans_at c.args.part.now c.args.size c.args.place =
    (λ i. record { base = c.from.ensures i; size = c.from-2.ensures i } ∷ (c.with_guards-guarded.ensures ∙ ap (λ n. with_guards (record { base = c.args.place.data_base; size = n })) c.data_size.ensures) i ∷ []) in
    λ right lie. let e : false ≡ true = c.if-not-lie_apart.ensures.1 (lie_here c.args.part.now c.args.size c.args.place _ _ _ _ c.format.ensures c.deref.ensures.value own lie) in cc

pub returns-clause-lies : goal.returns-clause-lies
returns-clause-lies c =
    let old = c.args.spans.now.items in
    let own : record { base = c.from.result; size = c.from-2.result } ∷ c.with_guards-guarded.result ∷ [] ≡ spans_at c.args.part.now c.args.size c.args.place =
    (λ i. record { base = c.from.ensures i; size = c.from-2.ensures i } ∷ (c.with_guards-guarded.ensures ∙ ap (λ n. with_guards (record { base = c.args.place.data_base; size = n })) c.data_size.ensures) i ∷ []) in
    lies_beside c.args.part.now c.args.size c.args.place _ old _ (c.if-not-is_right_place.ensures.0 refl) c.requires.bounded
    (lie_there c.args.part.now c.args.size c.args.place _ _ _ _ c.format.ensures c.deref.ensures.value own (c.if-not-lie_apart.ensures.0 refl))
    (c.in_ok-push-2.ensures.items ∙ ap (λ l. l ++ c.with_guards-guarded.result ∷ []) c.in_ok-push.ensures.items ∙ append_assoc old _ (c.with_guards-guarded.result ∷ []) ∙ ap (λ l. old ++ l) own)
