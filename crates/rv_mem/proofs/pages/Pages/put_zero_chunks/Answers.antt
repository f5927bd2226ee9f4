use Rattle.rv_mem.proofs.Prelude.{◌∙◌, sym, arith, byte_at, bytes_of}
use Rattle.rv_mem.proofs.Kept.{zeros_run}
use Rattle.rv_mem.proofs.pages.Pages.put_zero_chunks.Goals as goal

pub returns-clause-written : goal.returns-clause-written
returns-clause-written c q =
    let most = c.share_zero_chunks.ensures.most in
    c.share_zero_chunks.ensures.written q
    ∙ sym (zeros_run c.args.at c.share_zero_chunks.result q c.args.front.now c.args.from (byte_at (bytes_of c.args.self.now) q) (λ j h. c.zero_chunks-zeros.ensures.zeros j (omega (arith, h, most))))
