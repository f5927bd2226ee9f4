use Rattle.std.proofs.Common.{List, [], codes, subst, sym, IfOk}
use Rattle.std.specs.Prelude.{IfErr}
use Rattle.clap.specs.Matches.{found_of}
use Rattle.clap.specs.Walk.{Text}
use Rattle.sfi_formats.specs.declared.place.Place.{Place}
use Rattle.sfi_command.specs.Command.{SpellPlaces}
use Rattle.sfi_command.specs.private.{ArePlacesFault}
use Rattle.sfi_command.proofs.Words.{no_texts, texts_are}
use Rattle.sfi_command.proofs.options.places_of.Goals as goal

pub returns-in-Some-clause-places : goal.returns-in-Some-clause-places
returns-in-Some-clause-places c =
    subst (λ (ts : List Text). IfOk c.parse_places.result (λ places. SpellPlaces ts places.items))
    (texts_are (found_of c.args.found.now) (codes "at") _ c.in-Some.ensures) c.parse_places.ensures.places

pub returns-in-Some-clause-fault : goal.returns-in-Some-clause-fault
returns-in-Some-clause-fault c =
    subst (λ (ts : List Text). IfErr c.parse_places.result (ArePlacesFault ts))
    (texts_are (found_of c.args.found.now) (codes "at") _ c.in-Some.ensures) c.parse_places.ensures.fault

pub returns-in-None-clause-places : goal.returns-in-None-clause-places
returns-in-None-clause-places c =
    subst (λ (ts : List Text). SpellPlaces ts c.new.result.items) (no_texts (found_of c.args.found.now) (codes "at") c.in-None.ensures)
    (subst (λ (places : List Place). SpellPlaces [] places) (sym c.new.ensures.items) tt)
