use Rattle.sfi_scan.proofs.Prelude.{sym}
use Rattle.sfi_scan.proofs.WordLook.{access_told}
use Rattle.sfi_scan.proofs.words.look.after_other.Goals as goal

pub returns-else-not-is_access_base : goal.returns-else-not-is_access_base
returns-else-not-is_access_base c = access_told c.args.place.now c.args.address c.requires.before_end c.args.word c.in-Some.access c.in-Some.ensures.found (sym c.if-is_reserved_or_typed.ensures) (sym c.if-not-is_access_base.ensures)
