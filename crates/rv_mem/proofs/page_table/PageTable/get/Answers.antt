use Rattle.rv_mem.proofs.Prelude.{◌≡◌, ◌+◌, ◌*◌, ◌/◌, ◌%◌, ◌<◌, ◌≤◌, ℕ, List, length, get_or, sym, ap, ◌∙◌, subst, arith, slice_index}
use Rattle.rv_mem.proofs.Paging.{read_is, many, number_is}
use Rattle.rv_mem.proofs.page_table.PageTable.get.Goals as goal

pub returns-in_err-leaf-clause-none : goal.returns-in_err-leaf-clause-none
returns-in_err-leaf-clause-none c none =
    let chunks = c.self.inside.chunks.items in
    let count : length c.args.self.now ≡ length chunks * 128 = ap length (sym c.self.view_is) ∙ many chunks c.self.inside.leaves.items in
    let past : length chunks ≤ c.args.page / 128 = subst (λ (l : List ℕ). length l ≤ c.args.page / 128) c.deref.ensures.value c.in_err-leaf.ensures.lookup.3 in
    omega (arith, count, past)

pub returns-clause-value : goal.returns-clause-value
returns-clause-value c =
    let chunks = c.self.inside.chunks.items in
    let leaves = c.self.inside.leaves.items in
    let page = c.args.page in
    let leaf = c.in_ok-leaf.leaf.now in
    let h = c.in_ok-leaf.ensures.lookup in
    let below : page / 128 < length chunks = subst (λ (l : List ℕ). page / 128 < length l) c.deref.ensures.value h.3.0 in
    let there : slice_index chunks (page / 128) ≡ leaf = read_is chunks (page / 128) leaf below (subst (λ (l : List ℕ). leaf ≡ get_or l (page / 128) leaf) c.deref.ensures.value h.1) in
    let within = c.self.invariant.0.within (page / 128) below in
    sym (ap (λ (l : List ℕ). slice_index l page) (sym c.self.view_is) ∙ number_is chunks leaves c.self.invariant.0 page
    ∙ ap (λ (x : ℕ). slice_index leaves (x * 128 + page % 128)) there ∙ read_is leaves (leaf * 128 + page % 128) c.index.result.now (omega (arith, within, there)) c.index.ensures)

pub returns-clause-there : goal.returns-clause-there
returns-clause-there c some =
    let chunks = c.self.inside.chunks.items in
    let count : length c.args.self.now ≡ length chunks * 128 = ap length (sym c.self.view_is) ∙ many chunks c.self.inside.leaves.items in
    let below : c.args.page / 128 < length chunks = subst (λ (l : List ℕ). c.args.page / 128 < length l) c.deref.ensures.value c.in_ok-leaf.ensures.lookup.3.0 in
    omega (arith, count, below)
