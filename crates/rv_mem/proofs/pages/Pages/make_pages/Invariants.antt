use Rattle.rv_mem.proofs.Prelude.{◌≡◌, ◌≢◌, ◌-◌, ◌/◌, ◌≤◌, ◌<◌, ℕ, slice_index, bytes_of}
use Rattle.rv_mem.proofs.pages.Pages.make_pages.Given as goal

abbrev pub invariant-loop-page : goal.invariant-loop-page
invariant-loop-page l = record {
  most : l.page ≤ l.end;
  same : bytes_of l.self ≡ bytes_of l.fn.self;
  made : (p : ℕ) → l.base / 512 ≤ p → p < l.page → slice_index l.self.table p ≢ 0;
}

abbrev pub decreases-loop-page : goal.decreases-loop-page
decreases-loop-page l = l.end - l.page
