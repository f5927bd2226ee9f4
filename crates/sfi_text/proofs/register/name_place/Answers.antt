pub returns-clause-small : Rattle.sfi_text.proofs.register.name_place.Goals.returns-clause-small
returns-clause-small c = Rattle.sfi_text.proofs.NameTables.register_place_small _ c.hash.ensures.small
