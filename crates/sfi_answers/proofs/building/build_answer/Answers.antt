use Rattle.sfi_build.specs.Texts.{IsTextBuild}
use Rattle.sfi_answers.specs.Building.{image_output}
use Rattle.sfi_answers.proofs.Sources.{no_source, not_made}
use Rattle.sfi_answers.proofs.building.build_answer.Goals as goal

pub returns-in_err-source : goal.returns-in_err-source
returns-in_err-source c =
    no_source c.args.places.now IsTextBuild (image_output c.args.raw) c.args.text.now c.in_err-source.field-0.0 c.from_residual.result c.requires c.in_err-source.ensures.stop c.from_residual.ensures.1

pub returns-in_err-bytes : goal.returns-in_err-bytes
returns-in_err-bytes c =
    not_made c.args.places.now IsTextBuild (image_output c.args.raw) c.args.text.now c.in_ok-source.source.now c.in_err-bytes.field-0.0 c.from_residual-in_err-bytes.result
    c.in_ok-source.ensures.text.0 c.in_ok-source.ensures.text.1 c.in_err-bytes.ensures.fault c.in_err-bytes.ensures.only_built c.from_residual-in_err-bytes.ensures.1
