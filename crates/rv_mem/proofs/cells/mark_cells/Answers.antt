use Rattle.rv_mem.proofs.Prelude.{◌≡◌, ◌+◌, ◌-◌, ℕ, length, take, drop, subst, ap, ◌∙◌, arith, length-take, length-drop, get_or-take, get_or-drop, slice_index, Puts}
use Rattle.std.proofs.lemmas.List.{get_or_past}
use Rattle.rv_mem.proofs.PageRuns.{marks_run}
use Rattle.rv_mem.proofs.cells.mark_cells.Goals as goal

pub returns : goal.returns
returns c =
    let f = c.args.front.now in
    let start = c.min-start.result in
    let given = c.min-given.result in
    let s = c.min-start.ensures in
    let g = c.min-given.ensures in
    let a = length-take (start + given - start) (drop start f) in
    let b = length-drop start f in
    let many : length (take (start + given - start) (drop start f)) ≡ given = omega (arith, s, g, a, b) in
    let first : Puts c.args.cells.now c.write_cells.new.cells c.args.place given (slice_index (take (start + given - start) (drop start f))) =
    subst (λ (n : ℕ). Puts c.args.cells.now c.write_cells.new.cells c.args.place n (slice_index (take (start + given - start) (drop start f)))) many c.write_cells.ensures.put in
    marks_run c.args.cells.now c.write_cells.new.cells c.put_same.new.cells c.put_same-2.new.cells c.args.place c.args.count given f (take (start + given - start) (drop start f)) c.args.from c.requires.page
    (omega (arith, g)) first c.put_same.ensures c.put_same-2.ensures
    (λ j below.
    let same : start + j ≡ c.args.from + j = omega (arith, s, g, below) in
    get_or-take (start + given - start) (drop start f) j 0 (omega (arith, below)) ∙ get_or-drop start f j 0 ∙ ap (slice_index f) same)
    c.write_cells.ensures.small
    (λ j more below. get_or_past f (c.args.from + j) 0 (omega (arith, s, g, more, below)))
