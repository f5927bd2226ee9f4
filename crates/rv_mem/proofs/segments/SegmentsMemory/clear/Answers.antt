use Rattle.rv_mem.proofs.Prelude.{is_some, ap, ◌+◌, ◌∙◌, arith, insert, byte_at, replicate, Bytes}
use Rattle.rv_mem.specs.Segments.{bytes_of}
use Rattle.std.specs.List.{range_with_len}
use Rattle.rv_mem.proofs.Runs.{each_below, each_there, with_keeps, clear_more}
use Rattle.rv_mem.proofs.segments.SegmentsMemory.clear.Goals as goal

pub overflow_add-at : goal.overflow_add-at
overflow_add-at c = let below = each_below (bytes_of c.args.self.now) c.args.at c.args.count c.loop-k.k c.args.self.now.in_range c.requires c.loop-k-test.true in omega (arith, below)

pub put_byte-requires : goal.put_byte-requires
put_byte-requires c =
    let k = c.loop-k.k in
    ap (λ (m : Bytes). is_some (byte_at m (c.args.at + k))) c.loop-k.invariant
    ∙ with_keeps (bytes_of c.args.self.now) (range_with_len c.args.at k) (replicate k 0) (c.args.at + k) (each_there (bytes_of c.args.self.now) c.args.at c.args.count k c.requires c.loop-k-test.true)

pub loop-k-preserved : goal.loop-k-preserved
loop-k-preserved c =
    c.put_byte.ensures ∙ ap (λ (m : Bytes). insert m (c.args.at + c.loop-k.k) 0) c.loop-k.invariant ∙ clear_more (bytes_of c.args.self.now) c.args.at c.loop-k.k
