pub returns : Rattle.sfi_text.proofs.text.first_line.Goals.returns
returns c = Rattle.sfi_text.proofs.TextLines.cut_line c.args.text.now c.split_once.result c.split_once.ensures.cases
