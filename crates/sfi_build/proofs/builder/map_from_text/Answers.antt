use Rattle.sfi_link.proofs.Prelude.{◌≡◌, ◌∙◌, sym, ap, Ok, length, arith}
use Rattle.sfi_text.specs.Texts.{MeansText}
use Rattle.sfi_build.specs.Tables.{tails_from}
use Rattle.sfi_build.specs.Texts.{IsPlainBuild}
use Rattle.sfi_build.proofs.Building.{even}
use Rattle.sfi_build.proofs.Whole.{few, mapped}
use Rattle.sfi_build.proofs.builder.map_from_text.Goals as goal

pub inits_of-requires-clause-linked : goal.inits_of-requires-clause-linked
inits_of-requires-clause-linked c = (c.in_ok-names.ensures.mapped.bytes, c.in_ok-names.ensures.mapped.image)

pub inits_of-requires-clause-short : goal.inits_of-requires-clause-short
inits_of-requires-clause-short c =
    omega (
      arith,
      few c.args.places.now c.in_ok-source.field-0.source c.in_ok-placed.placed _ c.in_ok-placed.ensures.placed c.in_ok-names.ensures.mapped.image,
      ap length c.parts.ensures.parts,
    )

pub inits_of-requires-clause-listed : goal.inits_of-requires-clause-listed
inits_of-requires-clause-listed c =
    omega (
      arith,
      even c.args.text.now c.in_ok-source.field-0.source c.in_ok-source.field-0.shared.items c.in_ok-source.ensures.meaning,
      ap length c.deref.ensures.value,
      ap length c.parts.ensures.parts,
    )

pub returns-clause-mapped : goal.returns-clause-mapped
returns-clause-mapped c =
    let given = c.args.places.now in
    let text = c.args.text.now in
    let source = c.in_ok-source.field-0.source in
    let shared = c.in_ok-source.field-0.shared.items in
    let placed = c.in_ok-placed.placed in
    let meaning : MeansText text source shared = c.in_ok-source.ensures.meaning in
    let is = c.in_ok-names.ensures.mapped in
    let plain : IsPlainBuild given text source shared placed = record { means = meaning; rewritten = c.in_ok-placed.ensures.placed; bytes = is.bytes; image = is.image } in
    let (tails, made, inits) = c.in_ok-inits_of.ensures.inits in
    let are : tails_from given placed 0 shared source ≡ Ok tails = (λ i. tails_from given placed 0 (sym c.deref.ensures.value i) (sym c.parts.ensures.parts i)) ∙ made in
    mapped given text source shared placed plain tails are _ is.entries_are
