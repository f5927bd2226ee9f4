use Rattle.sfi_rewrite.proofs.Bundles.{nop_fits, nops_room}
use Rattle.sfi_rewrite.proofs.filling.Filling.push_nops.Goals as goal

pub push-requires-clause-fits : goal.push-requires-clause-fits
push-requires-clause-fits c = nop_fits c.loop.self

pub push-requires-clause-room : goal.push-requires-clause-room
push-requires-clause-room c = nops_room c.args.self.now c.loop.self c.loop.counter c.args.nops c.loop.invariant c.loop-test.true c.requires
