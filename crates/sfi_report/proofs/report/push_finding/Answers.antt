use Rattle.sfi_report.proofs.Prelude.{◌-◌, string_bytes, on_ok_weaker}
use Rattle.std.proofs.lemmas.List.{take_rest}
use Rattle.sfi_report.proofs.Texts.{line_of, text_on_ok}
use Rattle.sfi_report.proofs.report.push_finding.Goals as goal

pub returns : goal.returns
returns c =
    let part = c.index-parts-finding.result in
    on_ok_weaker c.push_str.result
    (λ end. line_of c.args.format c.args.parts.now c.args.finding.now part _ (string_bytes c.args.out.now) (string_bytes c.push_finding_front.new.out) (string_bytes c.push_place_text.new.out) (string_bytes c.push_str.new.self)
    c.requires c.index-parts-finding.is (take_rest part.code.now (c.args.finding.now.address - part.code_base)) c.in_ok-push_finding_front.ensures c.in_ok-push_place_text.ensures end)
    (text_on_ok c.push_str.result _ _ _ c.push_str.ensures.bytes)
