use Rattle.sfi_report.proofs.Prelude.{◌≡◌, ◌++◌, ◌∙◌, List, ap, string_bytes, flat_map, take_all, on_ok_weaker, view, gate_line}
use Rattle.sfi_image.specs.declared.part.Gate.{Gate}
use Rattle.sfi_report.proofs.Texts.{whole_sandbox}
use Rattle.sfi_report.proofs.listing.list_sandbox.Goals as goal

pub returns : goal.returns
returns c =
    let fields = string_bytes c.list_fields.new.out in
    let items = c.deref-gate-items.result.now in
    let all = take_all c.loop-gate.gate-index items c.loop-gate-test.false ∙ c.deref-gate-items.ensures.value in
    let gates : string_bytes c.loop-gate.out ≡ fields ++ flat_map gate_line c.args.part.now.gates.items =
    c.loop-gate.invariant ∙ ap (λ (l : List Gate). fields ++ flat_map gate_line l) all in
    on_ok_weaker c.list_code.result
    (λ code. whole_sandbox c.args.sandbox (view c.args.format c.args.part.now) (string_bytes c.args.out.now) fields (string_bytes c.loop-gate.out) (string_bytes c.push_names.new.out) (string_bytes c.list_code.new.out)
    (c.in_ok-list_fields.ensures c.args.format) gates c.in_ok-push_names.ensures code)
    c.list_code.ensures
