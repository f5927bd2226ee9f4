use Rattle.sfi_scan.proofs.WordLook.{adds_none}
use Rattle.sfi_scan.proofs.words.word.scan_word.Goals as goal

pub returns-in-Some : goal.returns-in-Some
returns-in-Some c = adds_none c.args.place.now c.args.address c.args.owed c.args.word.now c.args.found.now c.in-Some.next c.in-Some.ensures
