use Rattle.std.proofs.Common.{codes}
use Rattle.clap.specs.Matches.{found_of}
use Rattle.sfi_command.proofs.Words.{no_input, input_is, input_fault}
use Rattle.sfi_command.proofs.commands.run.input_of.Goals as goal

pub returns-in_default-clause-bytes : goal.returns-in_default-clause-bytes
returns-in_default-clause-bytes c = no_input (found_of c.args.found.now) (codes "input") c.new.result.items c.in_default.ensures c.new.ensures.items

pub returns-in-Ok-clause-bytes : goal.returns-in-Ok-clause-bytes
returns-in-Ok-clause-bytes c =
    input_is (found_of c.args.found.now) (codes "input") c.in-Some.text.now c.as_bytes.result.now c.in-Ok.bytes.items c.in-Some.ensures
    c.as_bytes.ensures.value c.in-Ok.ensures.ok

pub returns-in-Err-clause-fault : goal.returns-in-Err-clause-fault
returns-in-Err-clause-fault c =
    input_fault (found_of c.args.found.now) (codes "input") c.in-Some.text.now c.as_bytes.result.now c.in-Err.error c.hex_fault.result c.in-Some.ensures
    c.as_bytes.ensures.value c.in-Err.ensures.err c.hex_fault.ensures.refused c.hex_fault.ensures.other
