use Rattle.rv_mem.proofs.Paging.{none_anywhere, no_pages, memory_is}
use Rattle.rv_mem.proofs.pages.Pages.new.Goals as goal

pub returns : goal.returns
returns c = none_anywhere c.new.result c.new-2.result.items c.new.ensures c.new-2.ensures.items

pub invariant_of-result-clause-are_pages : goal.invariant_of-result-clause-are_pages
invariant_of-result-clause-are_pages c = no_pages c.new.result c.new-2.result.items c.new.ensures c.new-2.ensures.items

pub invariant_of-result-clause-in_range : goal.invariant_of-result-clause-in_range
invariant_of-result-clause-in_range c = memory_is c.new.result c.new-2.result.items (invariant_of-result-clause-are_pages c)
