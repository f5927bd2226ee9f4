use Rattle.sfi_image.proofs.Prelude.{◌≡◌, ◌-◌, ◌++◌, ◌∷◌, [], ℕ, true, refl, sym, ◌∙◌, subst, List, AllPairs, AreApart, AreClear, Span, has_single_mask, spans, spans_of}
use Rattle.sfi_image.specs.Spelling.{ends_below}
use Rattle.sfi_image.proofs.ClearZones.{all_spans_are, all_ends_are, clear_of_none}
use Rattle.sfi_image.proofs.fields.are_apart_with.Goals as goal

pub returns-then-not-are_all_apart : goal.returns-then-not-are_all_apart
returns-then-not-are_all_apart c =
    λ ps of is.
    let all = all_spans_are ps c.args.fields.now c.args.before.now _ _ is c.requires.code_is c.requires.guarded_is in
    (λ f. absurd cc, λ lies. c.if-not-are_all_apart.ensures.1 (subst (AllPairs AreApart) (sym all) lies.apart))

pub returns-then-not-has_single_mask : goal.returns-then-not-has_single_mask
returns-then-not-has_single_mask c =
    λ ps of is.
    let all = all_spans_are ps c.args.fields.now c.args.before.now _ _ is c.requires.code_is c.requires.guarded_is in
    let no = c.if-not-has_single_mask.true in (
      λ t. record {
        apart = subst (AllPairs AreApart) all (c.if-not-are_all_apart.ensures.0 refl);
        clear = clear_of_none ps c.args.fields.now _ (sym c.has_single_mask.ensures ∙ cc) of;
      },
      λ lies. cc,
    )

pub returns-else-not-has_single_mask : goal.returns-else-not-has_single_mask
returns-else-not-has_single_mask c =
    λ ps of is.
    let f = c.args.fields.now in
    let before = c.args.before.now in
    let guarded = c.args.own.now.guarded in
    let all = all_spans_are ps f before _ _ is c.requires.code_is c.requires.guarded_is in
    let one : has_single_mask f.format ≡ true = sym c.has_single_mask.ensures ∙ cc in
    let ends = all_ends_are ps f before _ one of is c.requires.guarded_is in (
      λ t. record {
        apart = subst (AllPairs AreApart) all (c.if-not-are_all_apart.ensures.0 refl);
        clear =
            subst (λ (es : List ℕ). AreClear es (spans ps ++ spans_of f)) ends
            (subst (λ (ss : List Span). AreClear (ends_below before ++ (guarded.size - 4096) ∷ []) ss) all (c.are_clear_of_zones.ensures.0 t));
      },
      λ lies. c.are_clear_of_zones.ensures.1 (
          subst (λ (ss : List Span). AreClear (ends_below before ++ (guarded.size - 4096) ∷ []) ss) (sym all)
          (subst (λ (es : List ℕ). AreClear es (spans ps ++ spans_of f)) (sym ends) lies.clear)
          ),
    )
