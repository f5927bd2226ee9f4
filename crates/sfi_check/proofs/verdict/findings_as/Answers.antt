use Rattle.sfi_check.proofs.Prelude.{◌+◌, List, ◌++◌, take, refl, ap, ◌∙◌, subst, sym, Finding, SandboxPart, view, views, IsRightPart, AreFindings, AreImageFindings}
use Rattle.sfi_check.proofs.Tallying.{right_at, one_more_found, in_the_end}
use Rattle.sfi_check.proofs.verdict.findings_as.Goals as goal

pub loop-sandbox-init : goal.loop-sandbox-init
loop-sandbox-init c = c.new-found.ensures.items

pub scan_part_as-requires : goal.scan_part_as-requires
scan_part_as-requires c =
    let right = right_at c.args.format (views c.args.format c.args.parts.now) c.args.parts.now c.loop-sandbox.sandbox c.index-parts-sandbox.result refl c.requires c.loop-sandbox-test.true in
    subst (λ (p : SandboxPart). IsRightPart (view c.args.format p)) (sym c.index-parts-sandbox.is) right

pub loop-sandbox-preserved : goal.loop-sandbox-preserved
loop-sandbox-preserved c =
    let here = subst (λ (p : SandboxPart). AreFindings c.loop-sandbox.sandbox (view c.args.format p) c.in_ok-of_part.of_part.items) c.index-parts-sandbox.is c.in_ok-of_part.ensures in
    let more = one_more_found c.args.format (views c.args.format c.args.parts.now) c.args.parts.now c.loop-sandbox.sandbox c.index-parts-sandbox.result c.loop-sandbox.found.items c.in_ok-of_part.of_part.items refl c.loop-sandbox-test.true c.loop-sandbox.invariant here in
    let found = c.in_ok-extend_from_slice.ensures.items ∙ ap (λ (l : List Finding). c.loop-sandbox.found.items ++ l) c.deref.ensures.value in
    subst (λ (l : List Finding). AreImageFindings (take (c.loop-sandbox.sandbox + 1) (views c.args.format c.args.parts.now)) l) (sym found) more

pub returns : goal.returns
returns c = in_the_end c.args.format (views c.args.format c.args.parts.now) c.args.parts.now c.loop-sandbox.sandbox c.loop-sandbox.found.items refl c.loop-sandbox-test.false c.loop-sandbox.invariant
