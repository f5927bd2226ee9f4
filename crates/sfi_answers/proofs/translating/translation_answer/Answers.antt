use Rattle.std.proofs.Common.{List, inl, subst, sym}
use Rattle.std.specs.Prelude.{string_bytes}
use Rattle.sfi_image.specs.Spelling.{Part}
use Rattle.sfi_answers.specs.Answers.{IsTranslationText, SaysTranslation}
use Rattle.sfi_answers.proofs.Images.{accepted}
use Rattle.sfi_answers.proofs.translating.translation_answer.Goals as goal

pub returns-in_ok-translated_text-in-Ok : goal.returns-in_ok-translated_text-in-Ok
returns-in_ok-translated_text-in-Ok c =
    let text = c.in_ok-translated_text-in-Ok.field-0 in
    accepted (SaysTranslation c.args.whole) c.args.bytes.now c.lines.result c.lines.ensures.status
    (inl (record {
      parts = c.in-Ok.accepted;
      accepted = c.in-Ok.ensures.accepted;
      status_is = c.lines.ensures.status;
      text_is = subst (IsTranslationText c.args.whole c.in-Ok.accepted) (sym c.lines.ensures.output)
          (subst (λ (ps : List Part). IsTranslationText c.args.whole ps (string_bytes text)) c.image.ensures.image c.in_ok-translated_text-in-Ok.ensures);
    }))
    c.in-Ok.ensures.only_findings c.in-Ok.ensures.only_layout
