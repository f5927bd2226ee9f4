use Rattle.rv_mem.proofs.Prelude.{◌+◌, ◌%◌, ◌^◌, ◌≤◌, ℕ, IsSome, subst, sym, refl, arith, byte_at, bytes_of}
use Rattle.rv_mem.proofs.PageRuns.{after_run, none_further}
use Rattle.rv_mem.proofs.pages.Pages.overlaps.Goals as goal

pub returns-then-count-eq0-clause-found : goal.returns-then-count-eq0-clause-found
returns-then-count-eq0-clause-found c =
    let f = c.free_run-count.ensures.found c.if-count-eq0.true in
    let d = c.loop-done.done in
    let at : ℕ = (c.args.base + d) % 2 ^ 32 in
    let last : at + (f.0 + 1) ≤ 2 ^ 32 = omega (arith, f.2) in
    (d + f.0, omega (arith, f.1, c.loop-done-test.true), subst (λ (x : ℕ). IsSome (byte_at (bytes_of c.args.self.now) x)) (sym (after_run c.args.base d (f.0 + 1) at f.0 refl last (omega arith))) f.3)

pub loop-done-preserved : goal.loop-done-preserved
loop-done-preserved c =
    let d = c.loop-done.done in
    let n = c.free_run-count.result in
    let at : ℕ = (c.args.base + d) % 2 ^ 32 in
    let most = c.free_run-count.ensures.most in
    record {
      most = omega (arith, most, c.loop-done-test.true);
      none = none_further (bytes_of c.args.self.now) c.args.base d n at refl c.free_run-count.ensures.end c.loop-done.invariant.none c.free_run-count.ensures.none;
    }
