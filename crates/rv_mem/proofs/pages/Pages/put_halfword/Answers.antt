use Rattle.rv_mem.proofs.Prelude.{◌≡◌, refl, ◌∙◌, rules, arith, Option, ℕ, IsSome, subst, IfSome, with_items_is, frame_of}
use Rattle.std.specs.Int.{bytes_low_first}
use Rattle.std.specs.Vec.{with_items}
use Rattle.rv_mem.proofs.Paging.{some_if, memory_is}
use Rattle.rv_mem.proofs.PageAccesses.{no_first, halfword_put}
use Rattle.rv_mem.proofs.pages.Pages.put_halfword.Goals as goal

pub unwrap-requires : goal.unwrap-requires
unwrap-requires c =
    some_if c.frame.result c.halfword_at.result (λ none. c.halfword_at.ensures ∙ no_first _ _ c.args.self.now.are_pages c.args.at 2 c.ranges.at.fits (omega arith) (c.frame.ensures.none none)) c.if-is_none.ensures

pub invariant_of-self-clause-are_pages : goal.invariant_of-self-clause-are_pages
invariant_of-self-clause-are_pages c =
    let t = c.args.self.now.table in
    let there = subst (λ (o : Option ℕ). IsSome o) c.halfword_at.ensures c.if-is_none.ensures in
    let f : c.unwrap.result ≡ frame_of t c.args.at = subst (λ (o : Option ℕ). IfSome o (λ x. x ≡ frame_of t c.args.at)) c.unwrap.ensures c.frame.ensures.value in
    (halfword_put t _ _ _ (with_items c.args.self.now.cells c.write_halfword.new.cells).items (bytes_low_first 0 2 c.args.value) c.args.self.now.are_pages c.args.at c.unwrap.result c.args.value f c.ranges.at.fits c.requires (λ two. c.if-frame_number-eq-ZEROS.false (c.frame_number.ensures ∙ two)) there refl
    c.deref_mut.ensures.value c.write_halfword.ensures (with_items_is c.args.self.now.cells c.write_halfword.new.cells (search rules))).0

pub invariant_of-self-clause-in_range : goal.invariant_of-self-clause-in_range
invariant_of-self-clause-in_range c = memory_is c.args.self.now.table _ (invariant_of-self-clause-are_pages c)

pub returns-clause-done : goal.returns-clause-done
returns-clause-done c =
    let t = c.args.self.now.table in
    let there = subst (λ (o : Option ℕ). IsSome o) c.halfword_at.ensures c.if-is_none.ensures in
    let f : c.unwrap.result ≡ frame_of t c.args.at = subst (λ (o : Option ℕ). IfSome o (λ x. x ≡ frame_of t c.args.at)) c.unwrap.ensures c.frame.ensures.value in
    (halfword_put t _ _ _ (with_items c.args.self.now.cells c.write_halfword.new.cells).items (bytes_low_first 0 2 c.args.value) c.args.self.now.are_pages c.args.at c.unwrap.result c.args.value f c.ranges.at.fits c.requires (λ two. c.if-frame_number-eq-ZEROS.false (c.frame_number.ensures ∙ two)) there refl
    c.deref_mut.ensures.value c.write_halfword.ensures (with_items_is c.args.self.now.cells c.write_halfword.new.cells (search rules))).1
