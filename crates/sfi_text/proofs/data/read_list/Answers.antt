pub returns-in-Err-clause-cause : Rattle.sfi_text.proofs.data.read_list.Goals.returns-in-Err-clause-cause
returns-in-Err-clause-cause c = Rattle.sfi_text.proofs.Lists.first_departs _ _ _ c.in-Err.ensures.cause
