use Rattle.rv_mem.proofs.Prelude.{◌≡◌, ◌/◌, ℕ, ap, ◌∙◌, arith, slice_index}
use Rattle.rv_mem.proofs.Paging.{read_is}
use Rattle.rv_mem.proofs.Leaves.{keeps_leaf, leaf_made, leaf_same, leaf_room}
use Rattle.rv_mem.specs.private.Frames.{kept_for}
use Rattle.rv_mem.proofs.page_table.make_leaf.Goals as goal

pub take_room-requires-clause-one : goal.take_room-requires-clause-one
take_room-requires-clause-one c =
    let read : slice_index c.args.chunks.now.items c.args.chunk ≡ c.index-shared.result.now = read_is _ _ _ c.requires.chunk c.index-shared.ensures in
    let one = keeps_leaf _ _ _ c.args.kept c.args.chunk c.requires.room c.requires.chunk in
    let same : kept_for (slice_index c.args.chunks.now.items c.args.chunk) ≡ kept_for c.index-shared.result.now = ap kept_for read in
    omega (arith, one, same)

pub returns-clause-is : goal.returns-clause-is
returns-clause-is c =
    leaf_made c.args.chunks.now.items c.args.leaves.now.items _ _ c.requires.is c.args.chunk (c.len.result / 128) c.index-shared.result.now c.requires.chunk
    (read_is _ _ _ c.requires.chunk c.index-shared.ensures) (omega (arith, c.if-shared-gt-ZEROS.false)) c.take_room.ensures.same
    (ap (λ (n : ℕ). n / 128) (c.len.ensures ∙ c.take_room.ensures.len ∙ c.args.leaves.now.ok.0)) c.append_leaf.ensures.size c.append_leaf.ensures.before c.append_leaf.ensures.number

pub returns-clause-same : goal.returns-clause-same
returns-clause-same c =
    leaf_same c.args.chunks.now.items c.args.leaves.now.items _ _ c.requires.is c.args.chunk (c.len.result / 128) c.index-shared.result.now c.requires.chunk
    (read_is _ _ _ c.requires.chunk c.index-shared.ensures) (omega (arith, c.if-shared-gt-ZEROS.false)) c.take_room.ensures.same
    (ap (λ (n : ℕ). n / 128) (c.len.ensures ∙ c.take_room.ensures.len ∙ c.args.leaves.now.ok.0)) c.append_leaf.ensures.size c.append_leaf.ensures.before c.append_leaf.ensures.number

pub returns-clause-room : goal.returns-clause-room
returns-clause-room c =
    let size = c.append_leaf.ensures.size in
    let old = c.take_room.new.leaves.ok.0 in
    let new = c.append_leaf.new.leaves.ok.0 in
    let room = c.in_ok-rest.ensures.room in
    let most = c.in_ok-rest.ensures.most in
    let capacity = c.append_leaf.ensures.capacity in
    leaf_room c.args.chunks.now.items c.args.leaves.now.items _ _ c.requires.is c.args.chunk (c.len.result / 128) c.index-shared.result.now c.requires.chunk
    (read_is _ _ _ c.requires.chunk c.index-shared.ensures) (omega (arith, c.if-shared-gt-ZEROS.false)) c.take_room.ensures.same
    (ap (λ (n : ℕ). n / 128) (c.len.ensures ∙ c.take_room.ensures.len ∙ c.args.leaves.now.ok.0)) c.append_leaf.ensures.size c.append_leaf.ensures.before c.append_leaf.ensures.number
    _ _ _ _ _ _ c.requires.room c.in_ok-rest.ensures.count (omega (arith, size, old, new, room, capacity)) (omega (arith, size, old, new, most))
