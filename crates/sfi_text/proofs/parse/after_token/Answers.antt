pub returns-in-Some-clause-ok : Rattle.sfi_text.proofs.parse.after_token.Goals.returns-in-Some-clause-ok
returns-in-Some-clause-ok c = Rattle.sfi_text.proofs.Meaning.token_follows c.after_name.result _ _ _ c.in-Some.ensures.some c.after_name.ensures.ok
