-- The samples' texts, by computation.
use Rattle.sfi_translate.proofs.Prelude.{refl}
use Rattle.std.specs.Fmt.{digits}
use Rattle.sfi_report.specs.Listing.{hex_digits}
use Rattle.sfi_translate.specs.Samples.{FormsAreSpelled}
use Rattle.sfi_translate.specs.Translation.{opening, name_field, number_field, signed_field, address_field, closing, far, line_text, address_line, function_line}

pub spelled_forms : FormsAreSpelled
unfolding digits hex_digits opening name_field number_field signed_field address_field closing far line_text address_line function_line
spelled_forms = record {
  function = refl;
  end = refl;
  entry = refl;
  head = refl;
  op = refl;
  opi = refl;
  load = refl;
  store = refl;
  branch = refl;
  branch_far = refl;
  jal = refl;
  jal_far = refl;
  jalr = refl;
  lui = refl;
  auipc = refl;
  fence = refl;
  ecall = refl;
  ebreak = refl;
}
