use Rattle.rv_mem.proofs.Prelude.{◌∙◌, inl, inr}
use Rattle.std.proofs.lemmas.Bool.{cases_lt}
use Rattle.rv_mem.proofs.pages.Pages.make_pages.Goals as goal

pub loop-page-preserved : goal.loop-page-preserved
loop-page-preserved c =
    let i = c.loop-page.invariant in
    let most = c.in_ok-count.ensures.most in
    record {
      most = most;
      same = c.make_run.ensures.same ∙ i.same;
      made = λ p h l. elim (cases_lt p c.loop-page.page) [
        | inl before ↦ c.make_run.ensures.kept p (i.made p h before)
        | inr after ↦ c.in_ok-count.ensures.made p after l
      ];
    }
