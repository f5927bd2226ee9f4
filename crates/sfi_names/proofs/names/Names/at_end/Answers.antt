use Rattle.std.proofs.Common.{subst}
use Rattle.sfi_names.specs.Tables.{Table, HasTable, IsNamesOf}
use Rattle.sfi_names.proofs.Ends.{ends_in_magic, one_table}
use Rattle.sfi_names.proofs.names.Names.at_end.Goals as goal

pub returns-in-None-clause-only_found : goal.returns-in-None-clause-only_found
returns-in-None-clause-only_found c = λ t h. c.in-None.ensures.none (ends_in_magic c.args.bytes.now t h)

pub returns-in-Some-names_before-clause-only_found : goal.returns-in-Some-names_before-clause-only_found
returns-in-Some-names_before-clause-only_found c = λ t h.
    let f = c.in-Some-names_before.ensures.found in
    let has = subst (λ b. HasTable b t) c.in-Some.ensures.found h in
    subst (λ (u : Table). IsNamesOf c.in-Some-names_before.names u) (one_table _ f.0 t f.1 has) f.2
