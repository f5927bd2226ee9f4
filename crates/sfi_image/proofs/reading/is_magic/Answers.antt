use Rattle.sfi_image.proofs.Prelude.{◌≡◌, sym, ◌∙◌, eqb, Decides-eqb, magic}
use Rattle.std.proofs.lemmas.Slice.Eq.{slice_eq-Decides}
use Rattle.sfi_image.proofs.reading.is_magic.Goals as goal

pub returns : goal.returns
returns c =
    let same = slice_eq-Decides {E = eqb} Decides-eqb c.args.front.now c.as_slice.result.now c.eq.result c.eq.ensures in
    let bytes : c.as_slice.result.now ≡ magic c.args.format = c.as_slice.ensures ∙ c.magic.ensures in
    (λ t. same.0 t ∙ bytes, λ e. same.1 (e ∙ sym bytes))
