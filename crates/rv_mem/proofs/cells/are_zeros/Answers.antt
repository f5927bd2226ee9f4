use Rattle.rv_mem.proofs.Prelude.{◌≡◌, ◌+◌, ◌-◌, inl, inr, length, take, drop, sym, ap, ◌∙◌, arith, length-take, length-drop, get_or-take, get_or-drop, slice_index}
use Rattle.std.proofs.lemmas.Bool.{cases_lt}
use Rattle.std.proofs.lemmas.List.{get_or_past}
use Rattle.rv_mem.proofs.cells.are_zeros.Goals as goal

pub returns : goal.returns
returns c j below =
    let f = c.args.front.now in
    let start = c.min-start.result in
    let given = c.min-given.result in
    let s = c.min-start.ensures in
    let g = c.min-given.ensures in
    let a = length-take (start + given - start) (drop start f) in
    let b = length-drop start f in
    let many : length (take (start + given - start) (drop start f)) ≡ given = omega (arith, s, g, a, b) in
    let end = c.loop-byte-test.false in
    elim (cases_lt j given) [
      | inl less ↦
          let same : c.args.from + j ≡ start + j = omega (arith, s, g, less) in
          ap (slice_index f) same ∙ sym (get_or-take (start + given - start) (drop start f) j 0 (omega (arith, less)) ∙ get_or-drop start f j 0)
          ∙ c.loop-byte.invariant j (omega (arith, less, many, end))
      | inr more ↦ get_or_past f (c.args.from + j) 0 (omega (arith, s, g, more, below))
    ]
