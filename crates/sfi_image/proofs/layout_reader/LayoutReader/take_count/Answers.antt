use Rattle.sfi_image.proofs.Prelude.{refl, arith, number}
use Rattle.sfi_image.proofs.Standing.{count_leads}
use Rattle.sfi_image.proofs.Steps.{count_fault, no_rest}
use Rattle.sfi_image.proofs.layout_reader.LayoutReader.take_count.Goals as goal
use Rattle.sfi_image.proofs.layout_reader.LayoutReader.take_count.Goals.{then-count-lt1-via-then-count-lt1, then-count-lt1-via-else-count-lt1+then-count-gt-SANDBOXES_MOST}

pub returns-then-count-lt1-clause-takes : goal.returns-then-count-lt1-clause-takes
returns-then-count-lt1-clause-takes c =
    let e = no_rest c.args.bytes.now (number c.number_at-count.result.0) _ c.number_at-count.ensures.front (omega (arith, c.number_at-count.ensures.len, c.requires.len)) in (
      refl,
      λ x h. count_fault c.args.self.now x c.args.bytes.now c.number_at-count.result.0 h c.requires.next e c.number_at-count.ensures.word
          (elim c.then-count-lt1.branch [ then-count-lt1-via-then-count-lt1 w ↦ (λ a b. omega arith) | then-count-lt1-via-else-count-lt1+then-count-gt-SANDBOXES_MOST w ↦ (λ a b. omega arith) ]),
    )

pub returns-clause-takes : goal.returns-clause-takes
returns-clause-takes c =
    let old = c.args.self.now in
    let e = no_rest c.args.bytes.now (number c.number_at-count.result.0) _ c.number_at-count.ensures.front (omega (arith, c.number_at-count.ensures.len, c.requires.len)) in
    λ x h. count_leads old x c.args.bytes.now c.number_at-count.result.0 h c.requires.next e (omega arith) (omega arith)
