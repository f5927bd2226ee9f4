use Rattle.sfi_link.proofs.Prelude.{sym, ◌∙◌}
use Rattle.sfi_link.proofs.Bytes.{words_stub, bundle_stub}
use Rattle.sfi_link.proofs.stub.stub_of.Goals as goal

pub returns-then-has_words : goal.returns-then-has_words
returns-then-has_words c = words_stub c.args.format (sym c.has_words.ensures ∙ c.if-has_words.true)

pub returns-else-has_words : goal.returns-else-has_words
returns-else-has_words c = sym (bundle_stub c.args.format (sym c.has_words.ensures ∙ c.if-has_words.false))
