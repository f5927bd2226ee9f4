use Rattle.rv_mem.proofs.Prelude.{◌≡◌, ◌*◌, ◌<◌, ℕ, List, length, set, slice_index, ◌≢◌, refl, sym, ap, ◌∙◌, subst, arith}
use Rattle.rv_mem.specs.private.Frames.{number_at, numbers_of}
use Rattle.rv_mem.proofs.Paging.{many, same_numbers, one_set, number_is, has_leaf}
use Rattle.rv_mem.proofs.Kept.{on_error}
use Rattle.rv_mem.proofs.page_table.PageTable.set.Goals as goal

pub make_leaf-requires-clause-chunk : goal.make_leaf-requires-clause-chunk
make_leaf-requires-clause-chunk c =
    let count : length c.args.self.now ≡ length c.self.inside.chunks.items * 128 = ap length (sym c.self.view_is) ∙ many c.self.inside.chunks.items c.self.inside.leaves.items in
    omega (arith, count, c.requires)

pub returns-clause-ok : goal.returns-clause-ok
returns-clause-ok c =
    let chunks = c.make_leaf.new.chunks.items in
    let leaves = c.make_leaf.new.leaves.items in
    let page = c.args.page in
    let number = c.args.number in
    let same : numbers_of chunks leaves ≡ c.args.self.now =
    same_numbers c.self.inside.chunks.items c.self.inside.leaves.items chunks leaves c.make_leaf.ensures.count c.make_leaf.ensures.same c.self.invariant.0 c.make_leaf.ensures.is ∙ c.self.view_is in
    one_set chunks leaves chunks c.write_number.new.leaves.items page number refl c.make_leaf.ensures.is c.write_number.ensures.is (subst (λ (l : List ℕ). page < length l) (sym same) c.requires) c.write_number.ensures.here c.write_number.ensures.others
    ∙ ap (λ (l : List ℕ). set l page number) same

-- a page with a number has a leaf of its chunk's own
pub returns-in_err-self-inside-clause-there : goal.returns-in_err-self-inside-clause-there
returns-in_err-self-inside-clause-there c some =
    let chunks = c.self.inside.chunks.items in
    let leaves = c.self.inside.leaves.items in
    let number : number_at chunks leaves c.args.page ≢ 0 =
    λ none. some (ap (λ (l : List ℕ). slice_index l c.args.page) (sym c.self.view_is) ∙ number_is chunks leaves c.self.invariant.0 c.args.page ∙ none) in
    let there = c.in_err-self-inside.ensures.there (has_leaf chunks leaves c.self.invariant.0 c.args.page number) in
    absurd (cc)

pub returns-in_err-self-inside-clause-err : goal.returns-in_err-self-inside-clause-err
returns-in_err-self-inside-clause-err c = on_error c.from_residual.result _ (
    same_numbers c.self.inside.chunks.items c.self.inside.leaves.items c.make_leaf.new.chunks.items c.make_leaf.new.leaves.items c.make_leaf.ensures.count c.make_leaf.ensures.same c.self.invariant.0 c.make_leaf.ensures.is ∙ c.self.view_is)
