use Rattle.rv_mem.proofs.Leaves.{longer_room}
use Rattle.rv_mem.proofs.Counts.{kept_same}
use Rattle.rv_mem.proofs.page_table.make_chunk.Goals as goal

pub returns-in_err-lengthen_by_zeros-clause-keeps : goal.returns-in_err-lengthen_by_zeros-clause-keeps
returns-in_err-lengthen_by_zeros-clause-keeps c kept room =
    longer_room _ _ _ _ kept (c.make_shared_leaves.ensures.keeps kept room) (kept_same _ _ c.lengthen_by_zeros.ensures.same)

pub returns-in_ok-lengthen_by_zeros-clause-keeps : goal.returns-in_ok-lengthen_by_zeros-clause-keeps
returns-in_ok-lengthen_by_zeros-clause-keeps c kept room =
    longer_room _ _ _ _ kept (c.make_shared_leaves.ensures.keeps kept room) (kept_same _ _ c.lengthen_by_zeros.ensures.same)
