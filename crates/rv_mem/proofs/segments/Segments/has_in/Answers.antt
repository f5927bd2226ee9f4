use Rattle.rv_mem.proofs.Runs.{found_in, none_in_all}
use Rattle.rv_mem.proofs.segments.Segments.has_in.Goals as goal

pub returns-clause-found : goal.returns-clause-found
returns-clause-found c = rw (← c.deref.ensures.value) (found_in _ _ _ _ c.has_in.ensures.found)

pub returns-clause-none : goal.returns-clause-none
returns-clause-none c = rw (← c.deref.ensures.value) (none_in_all _ _ _ _ c.has_in.ensures.none)
