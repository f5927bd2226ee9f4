use Rattle.sfi_scan.proofs.Prelude.{ap, ◌∙◌, w16, from_le_bytes}
use Rattle.sfi_scan.proofs.Joining.{half_cut}
use Rattle.sfi_scan.proofs.block.half_of.Goals as goal

pub returns : goal.returns
returns c = c.half_at.ensures ∙ ap (from_le_bytes w16) (half_cut c.args.block.now c.args.i)
