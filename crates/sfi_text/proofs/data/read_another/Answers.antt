pub returns-in-Err-read_one-clause-cause : Rattle.sfi_text.proofs.data.read_another.Goals.returns-in-Err-read_one-clause-cause
returns-in-Err-read_one-clause-cause c = Rattle.sfi_text.proofs.Lists.more_departs _ _ _ _ _ c.in-Token.ensures c.in-Ok.ensures.ok c.in-Err-read_one.ensures.cause
