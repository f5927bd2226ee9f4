use Rattle.std.proofs.Common.{sym, ◌∙◌}
use Rattle.rv_word.proofs.Outlines.{access_found, access_none, one}
use Rattle.rv_word.proofs.word_fields.WordFields.access.Goals as goal

pub returns-then-not-is_access-clause-only : goal.returns-then-not-is_access-clause-only
returns-then-not-is_access-clause-only c = access_none c.args.self c.requires (sym c.is_access.ensures ∙ c.if-not-is_access.true)

pub returns-clause-found : goal.returns-clause-found
returns-clause-found c = access_found c.args.self c.requires (sym c.is_access.ensures ∙ c.if-not-is_access.false) c.written.result c.of_field.result c.written.ensures c.of_field.ensures

pub returns-clause-only : goal.returns-clause-only
returns-clause-only c i =
    one c.args.self c.requires (sym c.is_access.ensures ∙ c.if-not-is_access.false) c.written.result c.of_field.result c.written.ensures c.of_field.ensures i
