use Rattle.sfi_rewrite.proofs.Prelude.{◌∙◌, sym}
use Rattle.sfi_rewrite.proofs.parts.lay.Goals as goal

pub returns-then-has_words : goal.returns-then-has_words
returns-then-has_words c =
    let e = sym c.has_words.ensures ∙ c.if-has_words.true in
    record { faultless = rw e c.lay_in_words.ensures.faultless; labels = rw e c.lay_in_words.ensures.labels; refused = rw e c.lay_in_words.ensures.refused }

pub returns-else-has_words : goal.returns-else-has_words
returns-else-has_words c =
    let e = sym c.has_words.ensures ∙ c.if-has_words.false in
    record { faultless = rw e c.lay_items.ensures.faultless; labels = rw e c.lay_items.ensures.labels; refused = rw e c.lay_items.ensures.refused }
