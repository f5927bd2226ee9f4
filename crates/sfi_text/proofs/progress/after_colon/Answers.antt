pub returns : Rattle.sfi_text.proofs.progress.after_colon.Goals.returns
returns c = Rattle.sfi_text.proofs.LabelReading.colon c.args.text.now c.body.result.now c.after_prefix.result c.body.ensures c.after_prefix.ensures
