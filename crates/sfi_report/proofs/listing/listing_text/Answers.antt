use Rattle.sfi_report.proofs.Prelude.{◌≡◌, ◌++◌, ◌∙◌, List, ℕ, refl, sym, ap, subst, string_bytes, Format, SandboxPart, view, format_of, Adds, format_line, IsSandboxListing}
use Rattle.sfi_image.specs.Parts.{IsRightPart}
use Rattle.sfi_report.proofs.Texts.{right_at, AreListedTo, no_sandboxes, one_sandbox_more, all_sandboxes}
use Rattle.sfi_report.proofs.listing.listing_text.Goals as goal

pub loop-sandbox-init : goal.loop-sandbox-init
loop-sandbox-init c =
    let line : string_bytes c.push_format.new.out ≡ format_line (format_of c.args.image.now) =
    c.in_ok-push_format.ensures ∙ ap (λ (l : List ℕ). l ++ format_line c.format-format.result) c.new-out.ensures.bytes ∙ ap format_line c.format-format.ensures in
    subst (λ (l : List ℕ). AreListedTo c.args.image.now 0 (format_line (format_of c.args.image.now)) l) (sym line) (no_sandboxes c.args.image.now (format_line (format_of c.args.image.now)))

pub list_sandbox-requires : goal.list_sandbox-requires
list_sandbox-requires c =
    let format = format_of c.args.image.now in
    let right = right_at format c.args.image.now c.parts-part-items.result.now c.loop-sandbox.sandbox c.part-item.result c.parts-part-items.ensures.parts c.parts-part-items.ensures.layout c.loop-sandbox-test.true in
    let here = subst (λ (p : SandboxPart). IsRightPart (view format p)) (sym c.part-item.is) right in
    subst (λ (f : Format). IsRightPart (view f c.part-item.result)) (sym c.format-format.ensures) here

pub loop-sandbox-preserved : goal.loop-sandbox-preserved
loop-sandbox-preserved c =
    let format = format_of c.args.image.now in
    let listed = subst (λ (f : Format). Adds (string_bytes c.loop-sandbox.out) (string_bytes c.list_sandbox.new.out) (IsSandboxListing c.loop-sandbox.sandbox (view f c.part-item.result))) c.format-format.ensures c.in_ok-list_sandbox.ensures in
    let here = subst (λ (p : SandboxPart). Adds (string_bytes c.loop-sandbox.out) (string_bytes c.list_sandbox.new.out) (IsSandboxListing c.loop-sandbox.sandbox (view format p))) c.part-item.is listed in
    one_sandbox_more format c.args.image.now c.parts-part-items.result.now c.loop-sandbox.sandbox c.part-item.result (format_line format) (string_bytes c.loop-sandbox.out) (string_bytes c.list_sandbox.new.out) c.parts-part-items.ensures.parts c.loop-sandbox-test.true c.loop-sandbox.invariant here

pub returns : goal.returns
returns c = record { text = all_sandboxes (format_of c.args.image.now) c.args.image.now c.parts-part-items.result.now c.loop-sandbox.sandbox (string_bytes c.loop-sandbox.out) c.parts-part-items.ensures.parts refl c.loop-sandbox-test.false c.loop-sandbox.invariant }
