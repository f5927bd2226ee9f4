use Rattle.sfi_link.proofs.Prelude.{◌≡◌, ◌∙◌, sym, ap, subst, Ok, length, arith, IsPlaced, contents, with_bytes, each_with, err_from_is_err_and, IfErr, ◌⊎◌}
use Rattle.sfi_link.specs.Linked.{IsLinkedImage}
use Rattle.sfi_build.specs.Tables.{tails_from, sandbox_with}
use Rattle.sfi_build.specs.Texts.{IsPlainBuild, IsBuildFault, IsWantOfMemory}
use Rattle.sfi_build.proofs.Building.{even}
use Rattle.sfi_build.proofs.Tails.{inits_of}
use Rattle.sfi_build.proofs.Whole.{few, plain_build, is_placed, built, table_stop}
use Rattle.sfi_build.proofs.builder.build_from_text.Goals.{In_ok-codes, In_ok-inits, After-deref-3}
use Rattle.sfi_build.proofs.builder.build_from_text.Goals as goal

plain : (c : In_ok-codes) → IsPlainBuild c.args.places.now c.args.text.now c.in_ok-source.field-0.source c.in_ok-source.field-0.shared.items c.in_ok-placed.placed
plain c = plain_build _ _ _ _ _ _ c.in_ok-source.ensures.meaning c.in_ok-placed.ensures.placed c.in_ok-codes.ensures.codes

tails_are : (c : In_ok-inits) → tails_from c.args.places.now c.in_ok-placed.placed 0 c.in_ok-source.field-0.shared.items c.in_ok-source.field-0.source ≡ Ok c.in_ok-inits.ensures.inits.0
tails_are c = (λ i. tails_from c.args.places.now c.in_ok-placed.placed 0 (sym c.deref.ensures.value i) (sym c.parts.ensures.parts i)) ∙ c.in_ok-inits.ensures.inits.1

inits_are : (c : After-deref-3) → contents c.deref-3.result.now ≡ inits_of (each_with sandbox_with c.in_ok-inits.ensures.inits.0 c.in_ok-source.field-0.source)
inits_are c =
    let (tails, made, inits) = c.in_ok-inits.ensures.inits in
    ap contents c.deref-3.ensures.value ∙ inits ∙ (λ i. inits_of (each_with sandbox_with tails (c.parts.ensures.parts i)))

pub inits_of-requires-clause-linked : goal.inits_of-requires-clause-linked
inits_of-requires-clause-linked c =
    let plain = plain (goal.at.inits_of-requires-clause-linked c).In_ok-codes in
    (plain.bytes, plain.image)

pub inits_of-requires-clause-short : goal.inits_of-requires-clause-short
inits_of-requires-clause-short c =
    omega (
      arith,
      few c.args.places.now c.in_ok-source.field-0.source c.in_ok-placed.placed _ c.in_ok-placed.ensures.placed (plain (goal.at.inits_of-requires-clause-short c).In_ok-codes).image,
      ap length c.parts.ensures.parts,
    )

pub inits_of-requires-clause-listed : goal.inits_of-requires-clause-listed
inits_of-requires-clause-listed c =
    omega (
      arith,
      even c.args.text.now c.in_ok-source.field-0.source c.in_ok-source.field-0.shared.items c.in_ok-source.ensures.meaning,
      ap length c.deref.ensures.value,
      ap length c.parts.ensures.parts,
    )

pub image_of-requires-clause-inits : goal.image_of-requires-clause-inits
image_of-requires-clause-inits c =
    let at = goal.at.image_of-requires-clause-inits c in
    subst (λ b. IsPlaced (each_with with_bytes b c.in_ok-placed.placed)) (sym (inits_are at.After-deref-3)) (is_placed _ _ _ _ _ (plain at.In_ok-codes) _ (tails_are at.In_ok-inits))

pub returns-clause-built : goal.returns-clause-built
returns-clause-built c =
    let at = goal.at.returns-clause-built c in
    built _ _ _ _ _ (plain at.In_ok-codes) _ (tails_are at.In_ok-inits) _
    (subst (λ b. IsLinkedImage c.args.places.now (each_with with_bytes b c.in_ok-placed.placed) c.in_ok-image_of.field-0.items) (inits_are at.After-deref-3) c.in_ok-image_of.ensures)

pub returns-in_err-inits-clause-fault : goal.returns-in_err-inits-clause-fault
returns-in_err-inits-clause-fault c =
    let given = c.args.places.now in
    let text = c.args.text.now in
    let plain = plain (goal.at.returns-in_err-inits-clause-fault c).In_ok-codes in
    let stop = table_stop given text _ _ _ plain _ (λ i. tails_from given c.in_ok-placed.placed 0 (c.deref.ensures.value i) (c.parts.ensures.parts i)) c.in_err-inits.field-0.0 c.in_err-inits.ensures.fault in
    let p = err_from_is_err_and c.from_residual-in_err-inits.result c.from_residual-in_err-inits.ensures.1 in
    subst (λ r. IfErr r (λ f. IsWantOfMemory f ⊎ IsBuildFault given text f)) (sym p.1) (subst (λ f. IsWantOfMemory f ⊎ IsBuildFault given text f) (let same = p.2 in cc) stop)
