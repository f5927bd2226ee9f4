use Rattle.std.proofs.Common.{ap, ◌∙◌, Some}
use Rattle.sfi_source.proofs.NameTable.{text_at}
use Rattle.sfi_source.proofs.names.Names.text.Goals as goal

pub returns-in-Some : goal.returns-in-Some
returns-in-Some c = ap Some c.as_str.ensures.value ∙ text_at _ _ _ _ c.self.view_is c.in-Some.ensures.entry

pub returns-in-None : goal.returns-in-None
returns-in-None c = text_at _ _ _ _ c.self.view_is c.in-None.ensures.entry
