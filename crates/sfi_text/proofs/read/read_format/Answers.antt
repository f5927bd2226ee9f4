pub returns-in-None-clause-err : Rattle.sfi_text.proofs.read.read_format.Goals.returns-in-None-clause-err
returns-in-None-clause-err c = Rattle.sfi_text.proofs.Deciding.none_says c.args.token.now c.if-eq.ensures c.if-eq-2.ensures c.in-None.ensures.none
