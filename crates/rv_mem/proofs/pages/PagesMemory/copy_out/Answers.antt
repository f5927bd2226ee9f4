use Rattle.rv_mem.proofs.Prelude.{◌≡◌, ◌+◌, ◌%◌, ◌≤◌, is_some, sym, ap, subst, ◌∙◌, arith, List, length, slice_index, Puts, IfSome, Option, Some, None, ℕ, bytes_of}
use Rattle.rv_mem.proofs.Paging.{get_pages, some_if}
use Rattle.rv_mem.proofs.Runs.{all_read, each_below, each_there, read_more}
use Rattle.rv_mem.proofs.pages.PagesMemory.copy_out.Goals as goal

pub overflow_cast-from : goal.overflow_cast-from
overflow_cast-from c =
    let below = each_below (bytes_of c.args.self.now) c.args.at (length c.args.room.now) c.loop-done.done c.args.self.now.in_range c.requires (omega (arith, c.loop-done.invariant.many, c.loop-done-test.true)) in
    omega (arith, below)

pub overflow_add-from : goal.overflow_add-from
overflow_add-from c =
    let below = each_below (bytes_of c.args.self.now) c.args.at (length c.args.room.now) c.loop-done.done c.args.self.now.in_range c.requires (omega (arith, c.loop-done.invariant.many, c.loop-done-test.true)) in
    omega (arith, below)

pub unwrap-requires : goal.unwrap-requires
unwrap-requires c =
    let t = c.args.self.now.table in
    let d = c.args.self.now.cells.items in
    let there = each_there (bytes_of c.args.self.now) c.args.at (length c.args.room.now) c.loop-done.done c.requires (omega (arith, c.loop-done.invariant.many, c.loop-done-test.true)) in
    some_if c.frame.result _ c.frame.ensures.none (ap is_some (sym (get_pages t d c.args.self.now.are_pages (c.args.at + c.loop-done.done))) ∙ there)

pub loop-done-preserved : goal.loop-done-preserved
loop-done-preserved c =
    let i = c.loop-done.invariant in
    let t = c.args.self.now.table in
    let d = c.args.self.now.cells.items in
    let below = each_below (bytes_of c.args.self.now) c.args.at (length c.args.room.now) c.loop-done.done c.args.self.now.in_range c.requires (omega (arith, c.loop-done.invariant.many, c.loop-done-test.true)) in
    let e = c.min-count.ensures in
    let room : c.loop-done.done + c.min-count.result ≤ length c.args.room.now = omega (arith, e, i.most, i.many) in
    record {
      most = omega (arith, e, i.most, c.copy_cells.ensures.size);
      many = c.copy_cells.ensures.size ∙ i.many;
      each = read_more t d c.loop-done.room c.copy_cells.new.room c.args.self.now.are_pages c.args.at (length c.args.room.now) c.loop-done.done c.min-count.result c.unwrap.result
          c.requires room below (omega (arith, e)) (value c.frame.result c.unwrap.result _ c.frame.ensures.value c.unwrap.ensures) i.each
          (subst (λ (l : List ℕ). Puts c.loop-done.room c.copy_cells.new.room c.loop-done.done c.min-count.result (λ j. slice_index l (c.unwrap.result + (c.args.at + c.loop-done.done) % 512 + j))) c.deref.ensures.value c.copy_cells.ensures);
    }
  where
    value : (o : Option ℕ) (f is : ℕ) → IfSome o (λ x. x ≡ is) → o ≡ Some f → f ≡ is
    value None f is h e = absurd (cc)
    value (Some x) f is h e = let same : x ≡ f = cc in sym same ∙ h

pub returns : goal.returns
returns c =
    let i = c.loop-done.invariant in
    let e : c.loop-done.done ≡ length c.args.room.now = omega (arith, i.most, i.many, c.loop-done-test.false) in
    all_read (bytes_of c.args.self.now) c.args.at (length c.args.room.now) c.loop-done.room i.many (λ k h. i.each k (omega (arith, e, h)))
