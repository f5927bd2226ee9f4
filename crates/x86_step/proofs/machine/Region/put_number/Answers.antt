use Rattle.std.proofs.Common.{◌+◌, ◌<◌, ◌∙◌, arith, length, length-set, refl}
use Rattle.x86_step.specs.Held.{bytes_from}
use Rattle.x86_step.proofs.Bytes.{next_rest, written_more}
use Rattle.x86_step.proofs.machine.Region.put_number.Goals as goal

pub loop-k-preserved : goal.loop-k-preserved
loop-k-preserved c =
    let base = c.args.self.now.base in
    let old = bytes_from base c.args.self.now.bytes.items in
    let small : c.args.place + c.loop-k.k < length c.loop-k.self.bytes.items = omega (arith, c.requires, c.loop-k-test.true, c.loop-k.invariant.size) in
    record {
      base_is = c.loop-k.invariant.base_is;
      size = length-set c.loop-k.self.bytes.items (c.args.place + c.loop-k.k) _ ∙ c.loop-k.invariant.size;
      same = written_more old c.loop-k.self.bytes.items base c.args.place c.loop-k.k (base + c.args.place) c.args.n c.loop-k.rest refl small c.loop-k.invariant.rest_is c.loop-k.invariant.same;
      rest_is = next_rest c.args.n c.loop-k.k c.loop-k.rest c.loop-k.invariant.rest_is;
    }
