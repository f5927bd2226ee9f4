use Rattle.std.proofs.Common.{ap, sym, ◌∙◌, map}
use Rattle.sfi_source.specs.declared.item.Named.TheVariants.{Unknown}
use Rattle.sfi_source.specs.Names.{entry_of, placed}
use Rattle.sfi_source.proofs.NameTable.{inserted, found_place, new_place}
use Rattle.sfi_source.proofs.names.Names.meet.Goals as goal

pub returns-in-Some-clause-met : goal.returns-in-Some-clause-met
returns-in-Some-clause-met c =
    (found_place c.self.inside.named.entries c.args.self.now c.args.name.now c.self.view_is _ c.in-Some.ensures.index).1

pub returns-in-Some-clause-place : goal.returns-in-Some-clause-place
returns-in-Some-clause-place c =
    (found_place c.self.inside.named.entries c.args.self.now c.args.name.now c.self.view_is _ c.in-Some.ensures.index).0

pub returns-in_ok-insert-in-None-clause-met : goal.returns-in_ok-insert-in-None-clause-met
returns-in_ok-insert-in-None-clause-met c =
    let new = new_place c.self.inside.named.entries c.args.self.now c.args.name.now c.self.view_is c.in-None.ensures.index in
    ap (map entry_of) c.in_ok-insert-in-None.ensures.entries
    ∙ inserted c.self.inside.named.entries _ Unknown
    ∙ rw (c.in_ok-from_str-in-None.ensures.ok, c.self.view_is)
    (ap (λ what. placed c.args.self.now c.args.name.now what) (sym new.1))

pub returns-in_ok-insert-in-None-clause-place : goal.returns-in_ok-insert-in-None-clause-place
returns-in_ok-insert-in-None-clause-place c =
    let new = new_place c.self.inside.named.entries c.args.self.now c.args.name.now c.self.view_is c.in-None.ensures.index in
    c.len-place.ensures.len ∙ new.0
