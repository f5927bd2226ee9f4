-- What holds of the names of a sandbox.
use Rattle.sfi_source.specs.Laws.{MetNamesStay, NewNamesNameNothing}
use Rattle.sfi_source.proofs.NameTable as names

pub met_names_stay : MetNamesStay
met_names_stay = names.met_there

pub new_names_name_nothing : NewNamesNameNothing
new_names_name_nothing = names.meaning_new
