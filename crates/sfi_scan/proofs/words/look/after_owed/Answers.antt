use Rattle.sfi_scan.proofs.Prelude.{sym, subst, refl, IfSome, Owed, Nothing, Code, IsQuietThere}
use Rattle.sfi_rules.specs.declared.owed.Owed.TheVariants.{PlaceOnly}
use Rattle.sfi_scan.proofs.WordLook.{quiet_owed, placing, placing_code, placed_owed, code_owed}
use Rattle.sfi_scan.proofs.words.look.after_owed.Goals as goal

pub returns-in-Mask : goal.returns-in-Mask
returns-in-Mask c =
    subst (λ (o : Owed). IfSome c.after_masking.result (IsQuietThere c.args.place.now c.args.address o c.args.word)) (sym c.in-Mask.is) (c.after_masking.ensures.owed c.args.place.now c.args.address refl c.requires.before_end)

pub returns-else-not-is_data_placing_word_of : goal.returns-else-not-is_data_placing_word_of
returns-else-not-is_data_placing_word_of c =
    quiet_owed c.args.place.now c.args.address c.args.owed (PlaceOnly c.in-PlaceOnly.d) c.args.word (placing c.in-PlaceOnly.d) Nothing c.in-PlaceOnly.is c.if-not-is_data_placing_word_of.ensures.word
    (placed_owed c.args.place.now c.args.address 4 c.requires.before_end c.in-PlaceOnly.d c.if-not-is_data_placing_word_of.ensures.two_steps c.if-not-is_data_placing_word_of.ensures.data)

pub returns-else-not-is_clean_use : goal.returns-else-not-is_clean_use
returns-else-not-is_clean_use c = subst (λ (o : Owed). IsQuietThere c.args.place.now c.args.address o c.args.word Nothing) (sym c.in-MaskOrUse.is) c.if-not-is_clean_use.ensures

pub returns-else-not-is_code_placing_word : goal.returns-else-not-is_code_placing_word
returns-else-not-is_code_placing_word c =
    quiet_owed c.args.place.now c.args.address c.args.owed Code c.args.word placing_code Nothing c.in-Code.is c.if-not-is_code_placing_word.ensures (code_owed c.args.place.now c.args.address 4 c.requires.before_end)
