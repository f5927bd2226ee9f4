use Rattle.sfi_source.proofs.NameTable.{named_at}
use Rattle.sfi_source.proofs.names.Names.named.Goals as goal

pub returns-in-Some : goal.returns-in-Some
returns-in-Some c = named_at _ _ _ _ c.self.view_is c.in-Some.ensures.entry

pub returns-in-None : goal.returns-in-None
returns-in-None c = named_at _ _ _ _ c.self.view_is c.in-None.ensures.entry
