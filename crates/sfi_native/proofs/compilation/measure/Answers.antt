use Rattle.std.proofs.Common.{◌≡◌, ◌+◌, ◌-◌, ◌<◌, drop, length, map, ap, subst, arith}
use Rattle.sfi_native.specs.Lines.{AreMeasured, line_of}
use Rattle.sfi_native.specs.Places.{size_of_all}
use Rattle.sfi_native.proofs.Compiled.{dropped_is, dropped_last}
use Rattle.sfi_native.proofs.Places.{last_below}
use Rattle.sfi_native.proofs.compilation.measure.Goals as goal

-- the last lines have as many already
pub returns-then-not-branch-clause-many : goal.returns-then-not-branch-clause-many
returns-then-not-branch-clause-many c = λ e.
    let lines = c.args.lines.now in
    let n = c.loop-n.n - 1 in
    let more = c.loop-n-test.true in
    let next : c.loop-n.n ≡ n + 1 = omega (arith, more) in
    let below : n < length lines = omega (arith, more, c.loop-n.invariant.within) in
    let is = dropped_is lines n c.index-lines-n.result below c.index-lines-n.is in
    let measured : AreMeasured c.args.plan.now (map line_of (drop (n + 1) lines)) c.loop-n.draft.items c.loop-n.labels =
    subst (λ k. AreMeasured c.args.plan.now (map line_of (drop k lines)) c.loop-n.draft.items c.loop-n.labels) next c.loop-n.invariant.measured in
    let many = c.in_ok-measure_line.ensures.many c.if-not-branch.true (map line_of (drop (n + 1) lines)) measured in
    omega (arith, many, ap (size_of_all c.args.plan.now) is, last_below c.args.plan.now (map line_of lines) (map line_of (drop n lines)) (dropped_last lines n))
