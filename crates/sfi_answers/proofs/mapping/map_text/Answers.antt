use Rattle.std.proofs.Common.{subst}
use Rattle.std.specs.Prelude.{string_bytes}
use Rattle.sfi_formats.specs.declared.format.Format.{Format}
use Rattle.sfi_image.specs.Spelling.{view, format_of}
use Rattle.sfi_image.specs.declared.part.SandboxPart.{SandboxPart}
use Rattle.sfi_answers.proofs.Sources.{Maps, one_mapped_more, all_mapped}
use Rattle.sfi_answers.proofs.mapping.map_text.Goals as goal

pub loop-sandbox-preserved : goal.loop-sandbox-preserved
loop-sandbox-preserved c =
    let format = format_of c.args.image.now in
    let mapped = subst (λ (f : Format). Maps c.loop-sandbox.sandbox c.args.entries.now (view f c.part-item.result) (string_bytes c.loop-sandbox.text) (string_bytes c.push_sandbox_map.new.out)) c.format-format.ensures c.in_ok-push_sandbox_map.ensures in
    let here = subst (λ (p : SandboxPart). Maps c.loop-sandbox.sandbox c.args.entries.now (view format p) (string_bytes c.loop-sandbox.text) (string_bytes c.push_sandbox_map.new.out)) c.part-item.is mapped in
    one_mapped_more c.args.entries.now format c.args.image.now c.parts-part-items.result.now c.loop-sandbox.sandbox c.part-item.result (string_bytes c.loop-sandbox.text) (string_bytes c.push_sandbox_map.new.out) c.parts-part-items.ensures.parts c.loop-sandbox-test.true c.loop-sandbox.invariant here

pub returns : goal.returns
returns c = all_mapped c.args.entries.now (format_of c.args.image.now) c.args.image.now c.parts-part-items.result.now c.loop-sandbox.sandbox (string_bytes c.loop-sandbox.text) c.parts-part-items.ensures.parts c.loop-sandbox-test.false c.loop-sandbox.invariant
