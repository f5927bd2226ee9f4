pub returns-in-Err-clause-cause : Rattle.sfi_text.proofs.data.read_first.Goals.returns-in-Err-clause-cause
returns-in-Err-clause-cause c = Rattle.sfi_text.proofs.Lists.number_departs _ _ _ _ _ c.in-Token.ensures c.in-Err.ensures.err c.in-Err.ensures.cause
