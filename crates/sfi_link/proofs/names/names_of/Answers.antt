use Rattle.sfi_link.proofs.Prelude.{◌≡◌, ◌∙◌, List, sym, subst, Placement, map_from, Part, AreLinkedFrom, err_from_is_err_and}
use Rattle.sfi_link.specs.Faults.{AnswersItems}
use Rattle.sfi_link.specs.declared.fault.LinkFault.TheVariants.{Memory}
use Rattle.sfi_link.proofs.names.names_of.Goals as goal

pub listed_names-requires-clause-linked : goal.listed_names-requires-clause-linked
listed_names-requires-clause-linked c =
    let image = c.in_ok-link_at.ensures.image in
    subst (λ (ps : List Placement). (parts : List Part) × AreLinkedFrom c.args.places.now 0 ps parts) (sym c.parts-2.ensures.parts) (image.parts, image.linked.each)

pub returns-clause-mapped : goal.returns-clause-mapped
returns-clause-mapped c = record {
  bytes = c.in_ok-link_at.field-0.items;
  image = c.in_ok-link_at.ensures.image;
  entries_are = c.in_ok-listed_names.ensures ∙ (λ i. map_from c.args.places.now 0 (c.parts.ensures.parts i) (c.parts-2.ensures.parts i));
}

pub returns-in_err-link_at-clause-only_mapped : goal.returns-in_err-link_at-clause-only_mapped
returns-in_err-link_at-clause-only_mapped c = λ entries is.
    let memory : c.in_err-link_at.field-0.0 ≡ Memory = c.in_err-link_at.ensures.only_image is.bytes is.image in
    let e = err_from_is_err_and c.from_residual.result c.from_residual.ensures.1 in
    subst (λ r. AnswersItems entries r) (sym e.1) (let same = e.2 in cc)
