use Rattle.rv_mem.proofs.Prelude.{is_some, ap, ◌+◌, ◌∙◌, arith, length, take, insert, byte_at, slice_index, Bytes}
use Rattle.rv_mem.specs.Segments.{bytes_of}
use Rattle.std.specs.List.{range_with_len}
use Rattle.rv_mem.proofs.Runs.{each_below, each_there, with_keeps, write_more}
use Rattle.rv_mem.proofs.segments.SegmentsMemory.copy_in.Goals as goal

pub overflow_cast-k : goal.overflow_cast-k
overflow_cast-k c = let below = each_below (bytes_of c.args.self.now) c.args.at (length c.args.copied.now) c.loop-k.k c.args.self.now.in_range c.requires c.loop-k-test.true in omega (arith, below)

pub overflow_add-at : goal.overflow_add-at
overflow_add-at c = let below = each_below (bytes_of c.args.self.now) c.args.at (length c.args.copied.now) c.loop-k.k c.args.self.now.in_range c.requires c.loop-k-test.true in omega (arith, below)

pub put_byte-requires : goal.put_byte-requires
put_byte-requires c =
    let k = c.loop-k.k in
    ap (λ (m : Bytes). is_some (byte_at m (c.args.at + k))) c.loop-k.invariant
    ∙ with_keeps (bytes_of c.args.self.now) (range_with_len c.args.at k) (take k c.args.copied.now) (c.args.at + k) (each_there (bytes_of c.args.self.now) c.args.at (length c.args.copied.now) k c.requires c.loop-k-test.true)

pub loop-k-preserved : goal.loop-k-preserved
loop-k-preserved c =
    c.put_byte.ensures ∙ ap (λ (m : Bytes). insert m (c.args.at + c.loop-k.k) (slice_index c.args.copied.now c.loop-k.k)) c.loop-k.invariant ∙ write_more (bytes_of c.args.self.now) c.args.at c.loop-k.k 0 c.args.copied.now c.loop-k-test.true
