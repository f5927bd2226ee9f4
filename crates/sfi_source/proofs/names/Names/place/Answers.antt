use Rattle.std.proofs.Common.{ap, refl, ◌∙◌, map}
use Rattle.sfi_source.specs.Names.{entry_of}
use Rattle.sfi_source.proofs.NameTable.{inserted}
use Rattle.sfi_source.proofs.names.Names.place.Goals as goal

pub returns-clause-placed : goal.returns-clause-placed
returns-clause-placed c =
    ap (map entry_of) c.in_ok-insert.ensures.entries
    ∙ inserted c.self.inside.named.entries _ c.args.what
    ∙ rw (c.in_ok-from_str.ensures.ok, c.self.view_is) refl
