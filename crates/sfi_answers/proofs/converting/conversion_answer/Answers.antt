use Rattle.std.proofs.Common.{refl}
use Rattle.sfi_answers.proofs.Conversions.{converted, not_converted}
use Rattle.sfi_answers.proofs.converting.conversion_answer.Goals as goal

pub returns-in_ok-image_output-in-Ok : goal.returns-in_ok-image_output-in-Ok
returns-in_ok-image_output-in-Ok c =
    converted c.args.raw c.args.bytes.now c.in-Ok.new.items _ c.in-Ok.ensures.converted refl c.in_ok-image_output-in-Ok.ensures
    c.in-Ok.ensures.only_layout (λ s. let e = c.in-Ok.ensures.only_not_old s in absurd cc) c.in-Ok.ensures.only_findings c.in-Ok.ensures.only_stack c.in-Ok.ensures.only_words

pub returns-in-Err : goal.returns-in-Err
returns-in-Err c =
    not_converted c.args.raw c.args.bytes.now c.in-Err.fault c.fault_answer.result c.in-Err.ensures.fault c.in-Err.ensures.only_not_old
    c.in-Err.ensures.only_layout c.in-Err.ensures.only_findings c.in-Err.ensures.only_stack c.in-Err.ensures.only_words c.in-Err.ensures.only_converted c.fault_answer.ensures
