use Rattle.std.proofs.Common.{map, take}
use Rattle.sfi_command.specs.Command.{SpellPlaces}
use Rattle.sfi_command.proofs.places.parse_places.Given as goal

abbrev pub invariant-loop-text : goal.invariant-loop-text
invariant-loop-text l = SpellPlaces (map (λ t. t.now) (take l.text-index l.texts)) l.places.items
