use Rattle.std.proofs.Common.{slice_index}
use Rattle.x86_step.specs.Held.{core_of}
use Rattle.x86_step.proofs.Bytes.{not_loaded, not_stored, stored_is}
use Rattle.x86_step.proofs.machine.Core.store.Goals as goal

pub returns-in-None-clause-value : goal.returns-in-None-clause-value
returns-in-None-clause-value c =
    let self = c.args.self.now in
    not_stored (core_of self) c.args.count c.args.at c.args.n
    (not_loaded (slice_index self.registers) self.flags self.memory.bytes.items self.memory.base c.args.count c.args.at c.requires.0 c.in-None.ensures.none)

pub returns-in-Some-clause-value : goal.returns-in-Some-clause-value
returns-in-Some-clause-value c = stored_is _ _ c.args.self.now.memory.bytes.items _ c.args.self.now.memory.base _ c.in-Some.place c.args.count c.args.at c.args.n c.in-Some.ensures.found.1 c.in-Some.ensures.found.0 c.in-Some.ensures.found.2 c.put_number.ensures.base c.put_number.ensures.length c.put_number.ensures.written
