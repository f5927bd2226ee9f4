use Rattle.sfi_scan.proofs.Prelude.{sym, ap, ◌∙◌, bits, is_reserved_or_typed}
use Rattle.sfi_scan.proofs.WordLook.{free_told}
use Rattle.sfi_scan.proofs.words.look.after_nothing.Goals as goal

pub returns-then-computes32 : goal.returns-then-computes32
returns-then-computes32 c =
    free_told c.args.place.now c.args.address c.requires.before_end c.args.word (bits c.args.word 11 7) c.if-computes32.ensures.found (ap is_reserved_or_typed (sym c.rd_of.ensures) ∙ sym c.if-is_reserved_or_typed.ensures)
