use Rattle.sfi_image.proofs.Prelude.{inl, inr, sym, ◌∙◌, ◌≡◌, true, arith, eqb-true, eq-eqb}
use Rattle.sfi_image.proofs.Regions.{region_test, not_region}
use Rattle.sfi_image.proofs.fields.is_region.Goals as goal
use Rattle.sfi_image.proofs.fields.is_region.Goals.{then-not-is_power_of_two-via-then-not-is_power_of_two, then-not-is_power_of_two-via-else-not-is_power_of_two+then-size-least, then-not-is_power_of_two-via-else-not-is_power_of_two+else-size-least+then-size-most}

pub returns-then-not-is_power_of_two : goal.returns-then-not-is_power_of_two
returns-then-not-is_power_of_two c =
    elim c.then-not-is_power_of_two.branch [
      | then-not-is_power_of_two-via-then-not-is_power_of_two w ↦ (λ f. absurd cc, λ r. absurd (not_region _ _ _ _ (inl (λ one. let t : c.is_power_of_two.result ≡ true = c.is_power_of_two.ensures ∙ eq-eqb _ _ one in absurd cc)) r))
      | then-not-is_power_of_two-via-else-not-is_power_of_two+then-size-least w ↦ (λ f. absurd cc, λ r. absurd (not_region _ _ _ _ (inr (inl (omega arith))) r))
      | then-not-is_power_of_two-via-else-not-is_power_of_two+else-size-least+then-size-most w ↦ (λ f. absurd cc, λ r. absurd (not_region _ _ _ _ (inr (inr (omega arith))) r))
    ]

pub returns : goal.returns
returns c = region_test _ _ _ _ (eqb-true _ _ (sym c.is_power_of_two.ensures ∙ c.if-not-is_power_of_two.false)) c.if-size-least.false c.if-size-most.false
