use Rattle.sfi_scan.proofs.WordLook.{halves_told}
use Rattle.sfi_scan.proofs.words.look.after_halves.Goals as goal

pub returns-else-not-is_clean_half_alone-2 : goal.returns-else-not-is_clean_half_alone-2
returns-else-not-is_clean_half_alone-2 c =
    halves_told c.args.place.now c.args.address c.args.owed c.args.word.now c.half_at.result c.half_at-in-Nothing.result c.in-Nothing.is c.requires.whole c.requires.before_end c.half_at.ensures c.half_at-in-Nothing.ensures
    c.if-not-is_clean_half_alone.ensures c.if-not-is_clean_half_alone-2.ensures
