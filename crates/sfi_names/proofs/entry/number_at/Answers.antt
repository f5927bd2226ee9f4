use Rattle.std.proofs.Common.{◌≡◌, sym, arith, rules}
use Rattle.std.proofs.lemmas.List.{take-append-drop}
use Rattle.sfi_image.specs.Spelling.{number}
use Rattle.sfi_image.proofs.Fronts.{number_of_bytes, IsBytes-take}
use Rattle.sfi_names.proofs.entry.number_at.Goals as goal

pub returns-clause-front : goal.returns-clause-front
returns-clause-front c =
    let f = c.split_at.ensures.front in
    let spelled : number c.read_u32.result ≡ c.split_at.result.0.now =
    number_of_bytes c.split_at.result.0.now c.read_u32.result (search rules) (rw f (IsBytes-take 4 c.args.bytes.now (λ i. omega (arith, c.type_inv.bytes i)))) c.read_u32.ensures in
    rw (spelled, f, c.split_at.ensures.back) (sym (take-append-drop 4 c.args.bytes.now))
