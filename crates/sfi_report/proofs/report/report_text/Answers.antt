use Rattle.sfi_report.proofs.Prelude.{◌≡◌, List, get_or, sym, subst, string_bytes, take_all, Part, Format, SandboxPart, format_of, Finding, V1, Adds, Stands, IsFindingLine, IsReport}
use Rattle.sfi_image.specs.Spelling.{views}
use Rattle.sfi_report.proofs.Places.{findings_stand}
use Rattle.sfi_report.proofs.Texts.{one_finding_more}
use Rattle.sfi_report.proofs.report.report_text.Goals as goal

-- what the list has after its end
none : Finding
none = record { sandbox = 0; address = 0; rule = V1 }

-- the image's parts, seen in its format
seen : (image : List Part) (format : Format) (parts : List SandboxPart) → format ≡ format_of image → views (format_of image) parts ≡ image → views format parts ≡ image
seen image format parts is parts_are = subst (λ (f : Format). views f parts ≡ image) (sym is) parts_are

pub push_finding-requires : goal.push_finding-requires
unfolding none
push_finding-requires c =
    let k = c.loop-finding.finding-index in
    let parts = seen c.args.image.now c.format-format.result c.parts-parts.result.now c.format-format.ensures c.parts-parts.ensures.parts in
    subst (λ (ps : List Part). Stands ps (get_or c.args.findings.now k none)) (sym parts)
    (findings_stand c.args.image.now c.args.findings.now c.requires k none c.loop-finding-test.true)

pub loop-finding-preserved : goal.loop-finding-preserved
unfolding none
loop-finding-preserved c =
    let k = c.loop-finding.finding-index in
    let old = string_bytes c.loop-finding.out in
    let new = string_bytes c.push_finding.new.out in
    let parts = seen c.args.image.now c.format-format.result c.parts-parts.result.now c.format-format.ensures c.parts-parts.ensures.parts in
    let here = subst (λ (ps : List Part). Adds old new (IsFindingLine ps (get_or c.args.findings.now k none))) parts c.in_ok-push_finding.ensures in
    one_finding_more c.args.image.now c.args.findings.now k none old new c.loop-finding-test.true c.loop-finding.invariant here

pub returns : goal.returns
returns c = record {
  text = subst (λ (l : List Finding). IsReport c.args.image.now l (string_bytes c.loop-finding.out)) (take_all c.loop-finding.finding-index c.args.findings.now c.loop-finding-test.false) c.loop-finding.invariant;
}
