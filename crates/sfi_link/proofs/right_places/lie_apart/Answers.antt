use Rattle.sfi_link.proofs.Prelude.{◌≡◌, ◌∙◌, ◌++◌, ◌∷◌, [], ℕ, List, true, refl, sym, subst, AreClear}
use Rattle.sfi_formats.specs.Formats.{has_single_mask}
use Rattle.sfi_link.proofs.Linking.{clear_of_none, ends_single}
use Rattle.sfi_link.proofs.right_places.lie_apart.Goals as goal

pub returns-then-not-are_all_apart : goal.returns-then-not-are_all_apart
returns-then-not-are_all_apart c = (λ f. absurd cc, λ lie. c.if-not-are_all_apart.ensures.1 lie.apart)

pub returns-then-not-has_single_mask : goal.returns-then-not-has_single_mask
returns-then-not-has_single_mask c =
    let no = c.if-not-has_single_mask.true in (
      λ t. record { apart = c.if-not-are_all_apart.ensures.0 refl; clear = clear_of_none c.args.format c.args.before.now (c.args.code ∷ c.args.guarded ∷ []) _ (sym c.has_single_mask.ensures ∙ cc) },
      λ lie. cc,
    )

pub returns-else-not-has_single_mask : goal.returns-else-not-has_single_mask
returns-else-not-has_single_mask c =
    let ss = c.args.before.now ++ c.args.code ∷ c.args.guarded ∷ [] in
    let one : has_single_mask c.args.format ≡ true = sym c.has_single_mask.ensures ∙ cc in
    let ends = ends_single c.args.format c.args.before.now c.args.code c.args.guarded one in (
      λ t. record { apart = c.if-not-are_all_apart.ensures.0 refl; clear = subst (λ (es : List ℕ). AreClear es ss) (sym ends) (c.are_clear_of_zones.ensures.0 t) },
      λ lie. c.are_clear_of_zones.ensures.1 (subst (λ (es : List ℕ). AreClear es ss) ends lie.clear),
    )
