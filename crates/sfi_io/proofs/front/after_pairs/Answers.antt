use Rattle.sfi_io.proofs.Prelude.{◌*◌, slice_index, is_kept}
use Rattle.sfi_io.proofs.Fronts.{at_white, white_is}
use Rattle.sfi_io.proofs.front.after_pairs.Goals as goal

pub returns-then-is_white-clause-kept : goal.returns-then-is_white-clause-kept
returns-then-is_white-clause-kept c =
    let text = c.args.text.now in
    let at = 2 * c.args.pairs in
    at_white text at c.requires (white_is (is_kept (slice_index text at)) c.if-is_white.ensures)
