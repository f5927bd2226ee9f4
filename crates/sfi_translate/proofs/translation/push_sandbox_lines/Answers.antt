use Rattle.sfi_translate.proofs.Prelude.{◌≡◌, ◌++◌, ◌∙◌, List, ap, string_bytes, flat_map, take_all, on_ok_weaker, view, gate_line}
use Rattle.sfi_image.specs.declared.part.Gate.{Gate}
use Rattle.sfi_translate.proofs.Text.{whole_sandbox}
use Rattle.sfi_translate.proofs.translation.push_sandbox_lines.Goals as goal

pub returns : goal.returns
returns c =
    let fields = string_bytes c.push_sandbox_line.new.out in
    let items = c.deref-gate-items.result.now in
    let all = take_all c.loop-gate.gate-index items c.loop-gate-test.false ∙ c.deref-gate-items.ensures.value in
    let gates : string_bytes c.loop-gate.out ≡ fields ++ flat_map gate_line c.args.part.now.gates.items =
    c.loop-gate.invariant ∙ ap (λ (l : List Gate). fields ++ flat_map gate_line l) all in
    on_ok_weaker c.push_last_line.result
    (λ last. whole_sandbox c.args.sandbox (view c.args.format c.args.part.now) (string_bytes c.args.out.now) fields (string_bytes c.loop-gate.out) (string_bytes c.push_data_line.new.out) (string_bytes c.push_code_lines.new.out) (string_bytes c.push_last_line.new.out)
    c.in_ok-push_sandbox_line.ensures gates c.in_ok-push_data_line.ensures c.in_ok-push_code_lines.ensures last)
    c.push_last_line.ensures
