use Rattle.std.proofs.Common.{List, refl, inl, subst}
use Rattle.sfi_image.specs.Spelling.{Part}
use Rattle.sfi_native.specs.File.{IsNativeFile}
use Rattle.sfi_answers.specs.Answers.{SaysNative}
use Rattle.sfi_answers.proofs.Images.{accepted}
use Rattle.sfi_answers.proofs.compiling.native_answer.Goals as goal

pub returns-in_ok-file_of-in-Ok : goal.returns-in_ok-file_of-in-Ok
returns-in_ok-file_of-in-Ok c =
    let file = c.in_ok-file_of-in-Ok.field-0 in
    accepted SaysNative c.args.bytes.now (record { status = 0; output = file }) refl
    (inl (record {
      parts = c.in-Ok.accepted;
      accepted = c.in-Ok.ensures.accepted;
      status_is = refl;
      file_is = subst (λ (ps : List Part). IsNativeFile c.args.bytes.now ps file.items) c.image.ensures.image c.in_ok-file_of-in-Ok.ensures.file;
    }))
    c.in-Ok.ensures.only_findings c.in-Ok.ensures.only_layout
