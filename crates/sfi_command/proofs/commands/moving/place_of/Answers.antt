use Rattle.clap.specs.Matches.{found_of}
use Rattle.sfi_command.proofs.Words.{no_place_fault, place_fault, place_is}
use Rattle.sfi_command.proofs.commands.moving.place_of.Goals as goal

pub returns-in-Some-clause-place : goal.returns-in-Some-clause-place
returns-in-Some-clause-place c = place_is (found_of c.args.found.now) c.in-Some.text.now c.place_that.result c.in-Some.ensures c.place_that.ensures.place

pub returns-in-Some-clause-fault : goal.returns-in-Some-clause-fault
returns-in-Some-clause-fault c = place_fault (found_of c.args.found.now) c.in-Some.text.now c.place_that.result c.in-Some.ensures c.place_that.ensures.fault

pub returns-in-None-clause-fault : goal.returns-in-None-clause-fault
returns-in-None-clause-fault c = no_place_fault (found_of c.args.found.now) c.no_job_fault.result c.in-None.ensures c.no_job_fault.ensures
