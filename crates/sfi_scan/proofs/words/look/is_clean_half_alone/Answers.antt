use Rattle.sfi_scan.proofs.WordLook.{half_told}
use Rattle.sfi_scan.proofs.words.look.is_clean_half_alone.Goals as goal

pub returns-in-Some : goal.returns-in-Some
returns-in-Some c = half_told c.args.place.now c.args.address c.args.halfword c.in-Some.outline c.in-Some.ensures.found c.is_clean_alone.result c.is_clean_alone.ensures
