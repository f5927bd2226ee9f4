use Rattle.sfi_scan.proofs.Prelude.{sym}
use Rattle.sfi_scan.proofs.WordLook.{use_told}
use Rattle.sfi_scan.proofs.words.look.is_clean_use.Goals as goal

pub returns : goal.returns
returns c = use_told c.args.place.now c.args.address c.requires.before_end c.args.word c.args.d c.in-Some.instr c.in-Some.ensures.found (sym c.if-not-is_use.ensures) c.outline_of.result c.outline_of.ensures c.is_clean_alone.result c.is_clean_alone.ensures
