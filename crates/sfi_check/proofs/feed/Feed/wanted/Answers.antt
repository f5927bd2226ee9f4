use Rattle.sfi_check.proofs.feed.Feed.wanted.Goals as goal
use Rattle.sfi_check.proofs.Feeding.{less_field, less_bundle}
use Rattle.sfi_check.proofs.Leading.{field_len}
use Rattle.sfi_check.proofs.Prelude.{arith}

pub returns-in-Field-clause-more : goal.returns-in-Field-clause-more
returns-in-Field-clause-more c = let x = c.requires.front.0 in let at = c.requires.front.1 in less_field x c.in-Field.len c.args.self.now.count (c.in-Field.ensures.want x at) (c.requires.cut.less x at)

pub returns-in-Field-clause-room : goal.returns-in-Field-clause-room
returns-in-Field-clause-room c = let x = c.requires.front.0 in let few = (field_len x c.in-Field.len (c.in-Field.ensures.want x c.requires.front.1)).1 in omega arith

pub returns-in-Bundle-clause-more : goal.returns-in-Bundle-clause-more
returns-in-Bundle-clause-more c = let x = c.requires.front.0 in let at = c.requires.front.1 in less_bundle x _ c.args.self.now.count (c.in-Bundle.ensures.want x at) (c.requires.cut.less x at)

pub returns-in_default-clause-more : goal.returns-in_default-clause-more
returns-in_default-clause-more c = let few = c.requires.cut.few in omega arith
