use Rattle.std.proofs.Common.{sym, subst}
use Rattle.sfi_formats.specs.declared.format.Format.{Format}
use Rattle.sfi_image.specs.Spelling.{format_of, view}
use Rattle.sfi_image.specs.declared.part.SandboxPart.{SandboxPart}
use Rattle.sfi_image.specs.Parts.{IsRightPart}
use Rattle.sfi_report.proofs.Texts.{right_at}
use Rattle.sfi_report.specs.private.{Adds}
use Rattle.sfi_native.specs.File.{IsSandboxFile}
use Rattle.sfi_native.proofs.Filed.{all_sandboxes, one_sandbox_more}
use Rattle.sfi_native.proofs.file.push_sandboxes.Goals as goal

pub push_sandbox-requires : goal.push_sandbox-requires
push_sandbox-requires c =
    let format = format_of c.args.image.now in
    let right = right_at format c.args.image.now c.parts-part-items.result.now c.loop-sandbox.sandbox c.part-item.result c.parts-part-items.ensures.parts c.parts-part-items.ensures.layout c.loop-sandbox-test.true in
    let here = subst (λ (p : SandboxPart). IsRightPart (view format p)) (sym c.part-item.is) right in
    subst (λ (f : Format). IsRightPart (view f c.part-item.result)) (sym c.format-format.ensures) here

pub loop-sandbox-preserved : goal.loop-sandbox-preserved
loop-sandbox-preserved c =
    let format = format_of c.args.image.now in
    let old = c.loop-sandbox.out.items in
    let new = c.push_sandbox.new.out.items in
    let written = subst (λ (f : Format). Adds old new (IsSandboxFile c.loop-sandbox.sandbox (view f c.part-item.result))) c.format-format.ensures (c.in_ok-push_sandbox.ensures.adds c.if-not-branch.false) in
    let here = subst (λ (p : SandboxPart). Adds old new (IsSandboxFile c.loop-sandbox.sandbox (view format p))) c.part-item.is written in
    one_sandbox_more format c.args.image.now c.parts-part-items.result.now c.loop-sandbox.sandbox c.part-item.result c.args.out.now.items old new c.parts-part-items.ensures.parts c.loop-sandbox-test.true c.loop-sandbox.invariant here

pub returns-clause-adds : goal.returns-clause-adds
returns-clause-adds c = λ _. all_sandboxes (format_of c.args.image.now) c.args.image.now c.parts-part-items.result.now c.loop-sandbox.sandbox c.args.out.now.items c.loop-sandbox.out.items c.parts-part-items.ensures.parts c.loop-sandbox-test.false c.loop-sandbox.invariant
