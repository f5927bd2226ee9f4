use Rattle.rv_mem.proofs.Leaves.{more_room}
use Rattle.rv_mem.proofs.page_table.keep_run.Goals as goal

pub returns-clause-room : goal.returns-clause-room
returns-clause-room c =
    more_room c.args.chunks.now.items c.write_chunks.new.chunks.items _ _ c.args.kept c.args.first c.shared_run-count.result _ _ c.requires.room c.shared_run-count.ensures.within c.shared_run-count.ensures.there
    c.write_chunks.ensures c.in_ok-reserve_leaves.ensures.room c.in_ok-reserve_leaves.ensures.most
