use Rattle.sfi_scan.proofs.WordLook.{plain_by}
use Rattle.sfi_scan.proofs.words.look.is_known_clean_alone.Goals as goal

pub returns-in-Some : goal.returns-in-Some
returns-in-Some c word that = plain_by c.args.place.now c.args.address c.requires.before_end word c.in-Some.outline _ that c.in-Some.is c.is_clean_alone.result c.is_clean_alone.ensures
