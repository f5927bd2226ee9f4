use Rattle.sfi_translate.proofs.Prelude.{List, ℕ, sym, subst, take, string_bytes, Format, SandboxPart, view, format_of, Adds, IsSandboxText}
use Rattle.sfi_image.specs.Parts.{IsRightPart}
use Rattle.sfi_report.proofs.Texts.{right_at}
use Rattle.sfi_translate.specs.Translation.{IsTranslationFrom}
use Rattle.sfi_translate.proofs.Text.{no_sandboxes, one_sandbox_more, all_sandboxes}
use Rattle.sfi_translate.proofs.translation.translation_text.Goals as goal

pub loop-sandbox-init : goal.loop-sandbox-init
loop-sandbox-init c =
    subst (λ (l : List ℕ). IsTranslationFrom 0 (take 0 c.args.image.now) l) (sym c.new-out.ensures.bytes) (no_sandboxes c.args.image.now)

pub push_sandbox_lines-requires : goal.push_sandbox_lines-requires
push_sandbox_lines-requires c =
    let format = format_of c.args.image.now in
    let right = right_at format c.args.image.now c.parts-part-items.result.now c.loop-sandbox.sandbox c.part-item.result c.parts-part-items.ensures.parts c.parts-part-items.ensures.layout c.loop-sandbox-test.true in
    let here = subst (λ (p : SandboxPart). IsRightPart (view format p)) (sym c.part-item.is) right in
    subst (λ (f : Format). IsRightPart (view f c.part-item.result)) (sym c.format-format.ensures) here

pub loop-sandbox-preserved : goal.loop-sandbox-preserved
loop-sandbox-preserved c =
    let format = format_of c.args.image.now in
    let written = subst (λ (f : Format). Adds (string_bytes c.loop-sandbox.out) (string_bytes c.push_sandbox_lines.new.out) (IsSandboxText c.loop-sandbox.sandbox (view f c.part-item.result))) c.format-format.ensures c.in_ok-push_sandbox_lines.ensures in
    let here = subst (λ (p : SandboxPart). Adds (string_bytes c.loop-sandbox.out) (string_bytes c.push_sandbox_lines.new.out) (IsSandboxText c.loop-sandbox.sandbox (view format p))) c.part-item.is written in
    one_sandbox_more format c.args.image.now c.parts-part-items.result.now c.loop-sandbox.sandbox c.part-item.result (string_bytes c.loop-sandbox.out) (string_bytes c.push_sandbox_lines.new.out) c.parts-part-items.ensures.parts c.loop-sandbox-test.true c.loop-sandbox.invariant here

pub returns : goal.returns
returns c = record { text = all_sandboxes (format_of c.args.image.now) c.args.image.now c.parts-part-items.result.now c.loop-sandbox.sandbox (string_bytes c.loop-sandbox.out) c.parts-part-items.ensures.parts c.loop-sandbox-test.false c.loop-sandbox.invariant }
