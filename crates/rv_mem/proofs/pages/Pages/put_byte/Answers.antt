use Rattle.rv_mem.proofs.Prelude.{◌≡◌, ◌+◌, ◌%◌, arith, Option, ℕ, subst, IsSome, IfSome, frame_of}
use Rattle.rv_mem.proofs.Paging.{get_pages, some_if, memory_is}
use Rattle.rv_mem.proofs.PageAccesses.{put_there}
use Rattle.rv_mem.proofs.pages.Pages.put_byte.Goals as goal

pub unwrap-requires : goal.unwrap-requires
unwrap-requires c =
    some_if c.frame.result _ c.frame.ensures.none (subst (λ (o : Option ℕ). IsSome o) (get_pages c.args.self.now.table c.args.self.now.cells.items c.args.self.now.are_pages c.args.at) c.requires.there)

pub returns : goal.returns
returns c =
    let t = c.args.self.now.table in
    let f : c.unwrap.result ≡ frame_of t c.args.at = subst (λ (o : Option ℕ). IfSome o (λ x. x ≡ frame_of t c.args.at)) c.unwrap.ensures c.frame.ensures.value in
    (put_there t _ c.args.self.now.are_pages c.args.at (c.unwrap.result + c.args.at % 512) c.args.byte (omega (arith, f)) c.ranges.byte.fits c.requires.own c.requires.there).1

pub invariant_of-self-clause-are_pages : goal.invariant_of-self-clause-are_pages
invariant_of-self-clause-are_pages c =
    let t = c.args.self.now.table in
    let f : c.unwrap.result ≡ frame_of t c.args.at = subst (λ (o : Option ℕ). IfSome o (λ x. x ≡ frame_of t c.args.at)) c.unwrap.ensures c.frame.ensures.value in
    (put_there t _ c.args.self.now.are_pages c.args.at (c.unwrap.result + c.args.at % 512) c.args.byte (omega (arith, f)) c.ranges.byte.fits c.requires.own c.requires.there).0

pub invariant_of-self-clause-in_range : goal.invariant_of-self-clause-in_range
invariant_of-self-clause-in_range c = memory_is c.args.self.now.table _ (invariant_of-self-clause-are_pages c)
