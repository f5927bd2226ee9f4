use Rattle.sfi_c.proofs.Lookups.{beside}
use Rattle.sfi_c.proofs.apart.sfi_c_apart.Goals as goal

pub returns-clause-beside : goal.returns-clause-beside
returns-clause-beside c = λ bytes others number further p q h g of_p of_q.
    let both = beside bytes others number further p q c.args.one.now c.args.other.now h g of_p of_q in
    (λ t. both.0 (c.are_told_apart.ensures.0 t), λ b. c.are_told_apart.ensures.1 (both.1 b))
