use Rattle.sfi_image.proofs.Prelude.{◌≡◌, ◌∙◌, ◌-◌, ◌+◌, ◌%◌, ◌^◌, ap, drop, arith, inr, Bool, List, ℕ, is_first}
use Rattle.sfi_image.specs.declared.want.Want.{Want}
use Rattle.sfi_image.specs.declared.want.Want.TheVariants as wants
use Rattle.sfi_image.proofs.Places.{wants_bundle, code_next}
use Rattle.sfi_image.proofs.layout_reader.LayoutReader.wants.Goals as goal

pub returns-in-Code-clause-want : goal.returns-in-Code-clause-want
returns-in-Code-clause-want c = λ x h.
    let r = c.args.self.now in
    let at = r.fields.code_base + r.code_read in
    let low = (code_next r (inr (x, h)) c.in-Code.is).address in
    let same : at % 2 ^ 32 ≡ at = omega (arith, low) in
    let bundle : ℕ → Bool → Want = λ a b. wants.Bundle (record { sandbox = r.begun - 1; address = a; format = r.fields.format; code_base = r.fields.code_base; code_size = r.fields.code_size; listed = b }) in
    let listed : c.is_first_after.result ≡ is_first (drop r.passed r.gates) at =
    c.is_first_after.ensures ∙ ap (λ (l : List ℕ). is_first (drop r.passed l) (at % 2 ^ 32)) c.as_slice.ensures ∙ ap (is_first (drop r.passed r.gates)) same in
    rw (c.saturating_sub.ensures)
    (ap (bundle (at % 2 ^ 32)) listed ∙ ap (λ (a : ℕ). bundle a (is_first (drop r.passed r.gates) at)) same ∙ wants_bundle r x h c.in-Code.is)
