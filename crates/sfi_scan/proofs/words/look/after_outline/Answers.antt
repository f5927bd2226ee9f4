use Rattle.sfi_scan.proofs.WordLook.{plain_told}
use Rattle.sfi_scan.proofs.words.look.after_outline.Goals as goal

pub returns : goal.returns
returns c = plain_told c.args.place.now c.args.address c.requires.before_end c.args.word c.in-Some.outline c.in-Some.ensures.found c.if-not-is_clean_alone.ensures
