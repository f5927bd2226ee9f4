use Rattle.sfi_image.proofs.Prelude.{◌≡◌, ◌∙◌, refl, sym, true, eqb-true, eq-eqb}
use Rattle.std.proofs.lemmas.Bool.{leb-true, le-leb}
use Rattle.sfi_image.proofs.Regions.{one_bit_test}
use Rattle.sfi_image.proofs.fields.is_one_bit.Goals as goal

pub returns-then-is_power_of_two : goal.returns-then-is_power_of_two
returns-then-is_power_of_two c = (
  λ t. (one_bit_test c.args.base c.args.size).0 (eqb-true _ _ (sym c.is_power_of_two.ensures ∙ c.if-is_power_of_two.true), leb-true _ _ t),
  λ one. le-leb _ _ one.no_lower,
)

pub returns-else-is_power_of_two : goal.returns-else-is_power_of_two
returns-else-is_power_of_two c = (
  λ t. let no = c.if-is_power_of_two.false in absurd cc,
  λ one. c.is_power_of_two.ensures ∙ eq-eqb _ _ ((one_bit_test c.args.base c.args.size).1 one).0,
)
