use Rattle.sfi_report.proofs.Prelude.{◌∙◌, ◌++◌, ap, string_bytes, on_ok_weaker}
use Rattle.sfi_report.proofs.Lines.{padding_is_zeros}
use Rattle.sfi_report.proofs.digits.push_four_digits.Goals as goal

pub returns : goal.returns
returns c =
    on_ok_weaker c.write.result (λ h. (rw (c.laid_out.ensures, c.in_radix.ensures) at h) ∙ ap (λ t. string_bytes c.args.out.now ++ t) (padding_is_zeros 4 c.args.number)) c.write.ensures.bytes
