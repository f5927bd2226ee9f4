use Rattle.sfi_host.proofs.Prelude.{arith, length, ◌∙◌, span_of}
use Rattle.sfi_host.proofs.Runs.{next_there, filled_up}
use Rattle.sfi_host.proofs.region.Region.fill.Goals as goal

pub write-requires-clause-there : goal.write-requires-clause-there
write-requires-clause-there g c =
    let room = c.requires.room in
    next_there (span_of c.args.self) (g.M.Memory.bytes c.args.memory.now) c.args.self.base (length c.args.front.now) c.requires.whole (omega arith) (omega (arith, room))

pub returns : goal.returns
returns g c = record {
  filled = filled_up (span_of c.args.self) (g.M.Memory.bytes c.args.memory.now) (g.M.Memory.bytes c.write.new.memory) (g.M.Memory.bytes c.clear_from.new.memory) c.args.front.now c.requires.room c.write.ensures.written c.clear_from.ensures.cleared;
  outside = c.clear_from.ensures.outside ∙ c.write.ensures.outside;
  whole = c.clear_from.ensures.whole;
}
