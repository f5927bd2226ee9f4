use Rattle.std.proofs.Common.{◌∙◌}
use Rattle.sfi_source.proofs.NameTable.{found_place, new_place}
use Rattle.sfi_source.proofs.names.Names.place_of.Goals as goal

pub returns-in-Some : goal.returns-in-Some
returns-in-Some c =
    (found_place c.self.inside.named.entries c.args.self.now c.args.name.now c.self.view_is _ c.in-Some.ensures.index).0

pub returns-in-None : goal.returns-in-None
returns-in-None c =
    c.len.ensures.len
    ∙ (new_place c.self.inside.named.entries c.args.self.now c.args.name.now c.self.view_is c.in-None.ensures.index).0
