use Rattle.sfi_scan.proofs.Prelude.{OnTrue_at, sym, ◌∙◌}
use Rattle.sfi_scan.proofs.BlockPairs.{used_step}
use Rattle.sfi_scan.proofs.words.block.is_used_step.Goals as goal

pub returns : goal.returns
returns c = used_step c.args.format c.args.word c.args.next c.numbered-d.result (sym c.is_data_register_in.ensures ∙ c.if-not-is_data_register_in.false) (OnTrue_at c.if-not-is_step_of.false c.is_step_of.ensures) c.is_use_of.result c.is_use_of.ensures
