use Rattle.sfi_scan.proofs.Prelude.{◌≡◌, ◌∙◌, ap, Nothing, true, subst, sym}
use Rattle.sfi_formats.specs.Formats.{has_single_mask, is_data_register_in}
use Rattle.sfi_formats.specs.declared.format.Format.{Format}
use Rattle.sfi_scan.proofs.WordLook.{quiet_word, masking, placing, single, masked, placed, single_alone}
use Rattle.sfi_scan.proofs.words.look.after_reserved_or_typed.Goals as goal

pub returns-then-is_data_masking_word : goal.returns-then-is_data_masking_word
returns-then-is_data_masking_word c = λ b at format before. quiet_word b at Nothing c.args.word (masking c.rs1_of-a.result) Nothing c.if-is_data_masking_word.ensures (masked b at 4 before c.rs1_of-a.result)

pub returns-then-is_data_placing_word : goal.returns-then-is_data_placing_word
returns-then-is_data_placing_word c = λ b at format before. quiet_word b at Nothing c.args.word (placing c.rd_of-rd.result) Nothing c.if-is_data_placing_word.ensures.word (placed b at 4 before c.rd_of-rd.result (ap has_single_mask format ∙ c.if-is_data_placing_word.ensures.two_steps) c.if-is_data_placing_word.ensures.data)

pub returns-then-is_single_mask_word : goal.returns-then-is_single_mask_word
returns-then-is_single_mask_word c = λ b at format before.
    quiet_word b at Nothing c.args.word (single c.rd_of-rd.result c.rs1_of-a.result) Nothing c.if-is_single_mask_word.ensures.word
    (single_alone b at 4 before c.rd_of-rd.result c.rs1_of-a.result (ap has_single_mask format ∙ c.if-is_single_mask_word.ensures.one_step)
    (subst (λ (f : Format). is_data_register_in f c.rd_of-rd.result ≡ true) (sym format) c.if-is_single_mask_word.ensures.data))
