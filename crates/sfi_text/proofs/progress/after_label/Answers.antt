pub returns-then-is_label : Rattle.sfi_text.proofs.progress.after_label.Goals.returns-then-is_label
returns-then-is_label c = Rattle.sfi_text.proofs.LabelReading.colon_after c.args.token.now c.args.after.now c.after_colon.result (c.is_label.ensures.0 c.if-is_label.true) c.after_colon.ensures
