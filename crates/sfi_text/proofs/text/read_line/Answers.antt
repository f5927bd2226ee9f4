pub returns-in-Err-clause-fault : Rattle.sfi_text.proofs.text.read_line.Goals.returns-in-Err-clause-fault
returns-in-Err-clause-fault c = Rattle.sfi_text.proofs.TextLines.line_fault c.args.number c.args.progress.now c.args.line.now c.uncommented.result.now c.in-Err.cause c.fault_at.result c.uncommented.ensures c.in-Err.ensures.cause c.fault_at.ensures
