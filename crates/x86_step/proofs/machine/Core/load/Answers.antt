use Rattle.std.proofs.Common.{◌∙◌, ap, sym, slice_index, Some}
use Rattle.x86_step.specs.Held.{bytes_from, core_of}
use Rattle.x86_step.specs.State.{number_at}
use Rattle.x86_step.proofs.Bytes.{loaded_below, not_loaded}
use Rattle.x86_step.proofs.machine.Core.load.Goals as goal

pub returns-in-None-clause-value : goal.returns-in-None-clause-value
returns-in-None-clause-value c =
    let self = c.args.self.now in
    sym (not_loaded (slice_index self.registers) self.flags self.memory.bytes.items self.memory.base c.args.count c.args.at c.requires.0 c.in-None.ensures.none)

pub returns-in-Some-clause-value : goal.returns-in-Some-clause-value
returns-in-Some-clause-value c =
    let self = c.args.self.now in
    let there = ap (number_at (bytes_from self.memory.base self.memory.bytes.items) c.args.count) c.in-Some.ensures.found.0 ∙ c.number.ensures.value in
    sym (loaded_below (core_of self) c.args.count c.args.at (Some c.number.result) c.in-Some.ensures.found.2 there)
