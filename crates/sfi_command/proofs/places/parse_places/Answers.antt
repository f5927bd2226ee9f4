use Rattle.std.proofs.Common.{◌+◌, List, arith, map, subst, sym, take}
use Rattle.sfi_formats.specs.declared.place.Place.{Place}
use Rattle.sfi_command.specs.Command.{SpellPlaces}
use Rattle.sfi_command.proofs.Spelled.{fault_of_none, none_spelled, one_more_read}
use Rattle.sfi_command.proofs.places.parse_places.Goals as goal

pub returns-in_default-clause-fault : goal.returns-in_default-clause-fault
returns-in_default-clause-fault c =
    fault_of_none (map (λ t. t.now) c.args.texts.now) c.usage_fault.result c.usage_fault.ensures
    (none_spelled c.args.texts.now c.loop-text.text-index _ (omega arith) (c.parse_place.ensures.none c.in_default.is))

pub loop-text-preserved : goal.loop-text-preserved
loop-text-preserved c =
    subst (λ (places : List Place). SpellPlaces (map (λ t. t.now) (take (c.loop-text.text-index + 1) c.args.texts.now)) places) (sym c.in-Ok.ensures.items)
    (one_more_read c.args.texts.now c.loop-text.text-index _ c.loop-text.places.items c.in-Some.place (omega arith) c.loop-text.invariant c.in-Some.ensures.some)
