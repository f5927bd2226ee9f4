use Rattle.rv_mem.proofs.Prelude.{◌≡◌, ℕ, subst, arith, byte_at, bytes_of}
use Rattle.rv_mem.proofs.PageRuns.{run_at, filled}
use Rattle.rv_mem.proofs.pages.Pages.fill.Goals as goal

pub returns : goal.returns
returns c =
    let e : c.loop-done.done ≡ c.args.size = omega (arith, c.loop-done.invariant.most) in
    filled c.args.base c.args.size c.args.front.now (bytes_of c.loop-done.self) (bytes_of c.args.self.now) c.requires.room c.requires.end
    (λ q. subst (λ (k : ℕ). byte_at (bytes_of c.loop-done.self) q ≡ run_at c.args.base k c.args.front.now q (byte_at (bytes_of c.args.self.now) q)) e (c.loop-done.invariant.run q))
