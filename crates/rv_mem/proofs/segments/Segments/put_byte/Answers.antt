use Rattle.rv_mem.proofs.Prelude.{rules, ap, ◌∙◌, with_items_is}
use Rattle.rv_mem.specs.Segment.{bytes_among}
use Rattle.rv_mem.proofs.Lookups.{is_memory, put_done}
use Rattle.rv_mem.proofs.segments.Segments.put_byte.Goals as goal

pub invariant_of-self : goal.invariant_of-self
invariant_of-self c = record { in_range = search (rules, is_memory) }

pub returns : goal.returns
returns c =
    ap bytes_among (with_items_is c.args.self.now.parts c.put_byte.new.segments (search rules))
    ∙ rw (← c.deref_mut.ensures.value) (put_done _ _ _ _ _ (rw c.deref_mut.ensures.value c.requires) c.put_byte.ensures.there c.put_byte.ensures.done)
