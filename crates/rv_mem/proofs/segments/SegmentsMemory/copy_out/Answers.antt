use Rattle.rv_mem.proofs.Prelude.{is_some, ap, ◌∙◌, arith, length}
use Rattle.rv_mem.specs.Segments.{bytes_of}
use Rattle.rv_mem.proofs.Runs.{all_read, each_below, each_there}
use Rattle.rv_mem.proofs.segments.SegmentsMemory.copy_out.Goals as goal

pub overflow_cast-k : goal.overflow_cast-k
overflow_cast-k c = let below = each_below (bytes_of c.args.self.now) c.args.at (length c.args.room.now) c.loop-k.k c.args.self.now.in_range c.requires c.loop-k-test.true in omega (arith, below)

pub overflow_add-at : goal.overflow_add-at
overflow_add-at c = let below = each_below (bytes_of c.args.self.now) c.args.at (length c.args.room.now) c.loop-k.k c.args.self.now.in_range c.requires c.loop-k-test.true in omega (arith, below)

pub unwrap-requires : goal.unwrap-requires
unwrap-requires c = ap is_some c.byte_at.ensures ∙ each_there (bytes_of c.args.self.now) c.args.at (length c.args.room.now) c.loop-k.k c.requires c.loop-k-test.true

pub returns : goal.returns
returns c =
    let i = c.loop-k.invariant in
    all_read (bytes_of c.args.self.now) c.args.at (length c.args.room.now) c.loop-k.room i.many (λ k h. i.each k (omega (arith, h, c.loop-k-test.false)))
