use Rattle.sfi_image.proofs.Prelude.{◌≡◌, ◌∙◌, ◌+◌, ◌-◌, drop, refl, arith, inr, count_below, first_or}
use Rattle.sfi_image.proofs.Places.{stretch_bounds, stretch_kept}
use Rattle.sfi_image.proofs.layout_reader.LayoutReader.stretch_length.Goals as goal

pub overflow_cast-result : goal.overflow_cast-result
overflow_cast-result c = omega (arith, c.min.ensures)

pub returns-clause-length : goal.returns-clause-length
returns-clause-length c = λ x h.
    let r = c.args.self.now in
    let at = c.address_after-at.ensures in
    let end : c.first_after-end.result ≡ first_or (r.fields.code_base + r.fields.code_size) (drop (r.passed + count_below (r.fields.code_base + r.code_read + 16) (drop r.passed r.gates)) r.gates) =
    c.first_after-end.ensures ∙ rw (c.address_after-region_end.ensures, c.passed_before-passed.ensures, c.from.ensures, at, c.as_slice-gates.ensures) refl in
    let few = (stretch_bounds r c.first_after-end.result (inr (x, h)) c.in-Code.is end).1 in
    let same : c.min.result ≡ c.first_after-end.result - (r.fields.code_base + r.code_read) = omega (arith, at, few, c.min.ensures, c.saturating_sub.ensures) in
    stretch_kept r x _ h c.in-Code.is (same ∙ rw (end) refl)

pub returns-clause-stopped : goal.returns-clause-stopped
returns-clause-stopped c = λ h. let code = c.in-Code.is in absurd cc
