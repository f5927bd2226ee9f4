use Rattle.sfi_scan.proofs.Prelude.{◌≡◌, ◌||◌, ◌==◌, true, bits, subst, sym, owed_by}
use Rattle.sfi_formats.specs.Formats.{is_data_register_in}
use Rattle.sfi_formats.specs.declared.format.Format.{Format}
use Rattle.sfi_scan.proofs.WordLook.{owing_told}
use Rattle.sfi_scan.proofs.words.look.after_typed.Goals as goal

pub returns-in-Some : goal.returns-in-Some
returns-in-Some c = λ b at format before.
    owing_told b at before c.args.word (bits c.args.word 11 7) c.in-Some.instr c.requires.computes c.in-Some.ensures.found
    (subst (λ (f : Format). (is_data_register_in f (bits c.args.word 11 7) || (bits c.args.word 11 7 == 30)) ≡ true) (sym format) c.requires.typed)
    c.owed_by.result (subst (λ (f : Format). c.owed_by.result ≡ owed_by f c.in-Some.instr) (sym format) c.owed_by.ensures)
