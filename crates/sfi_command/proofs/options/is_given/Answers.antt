use Rattle.clap.specs.Matches.{found_of}
use Rattle.sfi_command.proofs.Words.{flag_is, no_flag_is}
use Rattle.sfi_command.proofs.options.is_given.Goals as goal

pub returns-in-Some : goal.returns-in-Some
returns-in-Some c = flag_is (found_of c.args.found.now) c.args.option.now c.in-Some.value.now c.eq.result c.in-Some.ensures c.eq.ensures

pub returns-in-None : goal.returns-in-None
returns-in-None c = no_flag_is (found_of c.args.found.now) c.args.option.now c.in-None.ensures
