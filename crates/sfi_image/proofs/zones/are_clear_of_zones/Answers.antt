use Rattle.sfi_image.proofs.Prelude.{◌≡◌, ℕ, ◌-◌, ◌++◌, ◌∷◌, [], false, true, refl, ap, sym, ◌∙◌, subst}
use Rattle.std.specs.Prelude.{max}
use Rattle.sfi_image.specs.Spelling.{ends_below}
use Rattle.sfi_image.proofs.ClearZones.{IsLeast, one_end, clear_of_largest, largest_clear}
use Rattle.sfi_image.proofs.zones.are_clear_of_zones.Goals as goal
use Rattle.sfi_image.proofs.zones.are_clear_of_zones.Goals.{then-not-is_clear-via-then-not-is_clear, then-not-is_clear-via-else-not-is_clear+then-not-is_clear-2}

pub returns-then-not-is_clear : goal.returns-then-not-is_clear
returns-then-not-is_clear c =
    let guarded = c.args.guarded in
    let least = subst (λ (n : ℕ). IsLeast n (ends_below c.args.before.now ++ (guarded.size - 4096) ∷ [])) (sym (c.max-end.ensures ∙ ap (λ (n : ℕ). max c.largest_end.result n) c.zone_end_of.ensures))
    (one_end (ends_below c.args.before.now) c.largest_end.result (guarded.size - 4096) c.largest_end.ensures) in (
      λ f. absurd cc,
      λ clear.
          let both = (largest_clear (ends_below c.args.before.now) (guarded.size - 4096) c.max-end.result c.args.before.now c.args.code guarded least clear) in
          elim c.then-not-is_clear.branch [
            | then-not-is_clear-via-then-not-is_clear w ↦ (let e : false ≡ true = w.if-not-is_clear.ensures.1 both.1 in absurd cc)
            | then-not-is_clear-via-else-not-is_clear+then-not-is_clear-2 w ↦ (let e : false ≡ true = w.if-not-is_clear-2.ensures.1 both.2 in absurd cc)
          ],
    )

pub returns : goal.returns
returns c =
    let guarded = c.args.guarded in
    let least = subst (λ (n : ℕ). IsLeast n (ends_below c.args.before.now ++ (guarded.size - 4096) ∷ [])) (sym (c.max-end.ensures ∙ ap (λ (n : ℕ). max c.largest_end.result n) c.zone_end_of.ensures))
    (one_end (ends_below c.args.before.now) c.largest_end.result (guarded.size - 4096) c.largest_end.ensures) in (
      λ t. clear_of_largest (ends_below c.args.before.now) (guarded.size - 4096) c.max-end.result c.args.before.now c.args.code guarded least (c.are_clear.ensures.0 t) (c.if-not-is_clear.ensures.0 refl) (c.if-not-is_clear-2.ensures.0 refl),
      λ clear. c.are_clear.ensures.1 (largest_clear (ends_below c.args.before.now) (guarded.size - 4096) c.max-end.result c.args.before.now c.args.code guarded least clear).0,
    )
