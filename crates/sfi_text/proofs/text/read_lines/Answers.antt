pub returns-in-Err-clause-fault : Rattle.sfi_text.proofs.text.read_lines.Goals.returns-in-Err-clause-fault
returns-in-Err-clause-fault c = Rattle.sfi_text.proofs.TextLines.carries_fault c.loop-line.invariant.2 c.in-Some.ensures.first c.in-Err.ensures.fault
