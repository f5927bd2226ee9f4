use Rattle.sfi_translate.proofs.Prelude.{take, string_bytes}
use Rattle.sfi_translate.specs.Translation.{IsTranslationFrom}
use Rattle.sfi_translate.proofs.translation.translation_text.Given as goal

-- the sandboxes so far are written
abbrev pub invariant-loop-sandbox : goal.invariant-loop-sandbox
invariant-loop-sandbox l = IsTranslationFrom 0 (take l.sandbox l.image) (string_bytes l.out)
