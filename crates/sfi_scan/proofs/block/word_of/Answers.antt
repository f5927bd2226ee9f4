use Rattle.sfi_scan.proofs.Prelude.{ap, ◌∙◌, w32, from_le_bytes}
use Rattle.sfi_scan.proofs.Joining.{word_cut}
use Rattle.sfi_scan.proofs.block.word_of.Goals as goal

pub returns-clause-in_bundle : goal.returns-clause-in_bundle
returns-clause-in_bundle c = c.word_at.ensures ∙ ap (from_le_bytes w32) (word_cut c.args.block.now c.args.i c.requires.inside)
