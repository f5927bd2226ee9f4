use Rattle.sfi_check.proofs.Prelude.{◌≡◌, List, [], ◌∙◌, subst, sym, Sfi2, Part, views, format_of, IsRightLayout, AreImageFindings, IsImage}
use Rattle.sfi_check.specs.private.{IsStackOf}
use Rattle.sfi_image.specs.Numbers.{all_in_format}
use Rattle.sfi_check.proofs.Converted.{seen_as, fault_converts}
use Rattle.sfi_check.proofs.conversion.convert_accepted.Goals as goal
use Rattle.sfi_image.proofs.Facts.{right_in_second}

pub check_stack-requires : goal.check_stack-requires
check_stack-requires c =
    let same : views Sfi2 c.parts-parts.result.now ≡ all_in_format Sfi2 c.args.accepted.now = seen_as (format_of c.image.result.now) Sfi2 c.parts-parts.result.now c.args.accepted.now (c.parts-parts.ensures.parts ∙ c.image.ensures.image) in
    subst IsRightLayout (sym same) (right_in_second c.args.accepted.now c.requires.bundles c.image.ensures.clean.layout)

pub returns-in_err-check_stack : goal.returns-in_err-check_stack
returns-in_err-check_stack c =
    let same : views Sfi2 c.parts-parts.result.now ≡ all_in_format Sfi2 c.args.accepted.now = seen_as (format_of c.image.result.now) Sfi2 c.parts-parts.result.now c.args.accepted.now (c.parts-parts.ensures.parts ∙ c.image.ensures.image) in
    fault_converts c.args.accepted.now c.in_err-check_stack.field-0.0 c.from_residual.result c.from_residual.ensures.1
    (subst (λ (l : List Part). IsStackOf l c.in_err-check_stack.field-0.0) same c.in_err-check_stack.ensures.fault)

pub returns : goal.returns
returns c =
    let same : views Sfi2 c.parts-parts.result.now ≡ all_in_format Sfi2 c.args.accepted.now = seen_as (format_of c.image.result.now) Sfi2 c.parts-parts.result.now c.args.accepted.now (c.parts-parts.ensures.parts ∙ c.image.ensures.image) in
    record {
      converted = record {
        image = subst (λ (l : List Part). IsImage c.in-Ok.bytes.items l) same c.in-Ok.ensures.image;
        none_found = subst (λ (l : List Part). AreImageFindings l []) same c.in_ok-check_stack.ensures.clean;
      };
      fault = tt;
    }
