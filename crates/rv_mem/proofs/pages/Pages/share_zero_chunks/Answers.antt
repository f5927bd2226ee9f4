use Rattle.rv_mem.proofs.Prelude.{◌≡◌, ◌*◌, ◌/◌, ◌∙◌, ℕ, [], ap, arith, byte_at, bytes_of, run_of}
use Rattle.rv_mem.proofs.Paging.{memory_is}
use Rattle.rv_mem.proofs.Counts.{keeps_put, number_there}
use Rattle.rv_mem.proofs.Kept.{zeros_put, table_cells}
use Rattle.rv_mem.proofs.pages.Pages.share_zero_chunks.Goals as goal

pub clear_chunks-chunks-requires : goal.clear_chunks-chunks-requires
clear_chunks-chunks-requires c = let there = number_there c.args.self.now.table (c.args.at / 512) c.requires.made in omega (arith, there, c.requires.at)

pub invariant_of-self-clause-are_pages : goal.invariant_of-self-clause-are_pages
invariant_of-self-clause-are_pages c =
    (zeros_put c.args.self.now.table _ c.args.self.now.cells.items c.args.self.now.are_pages (c.args.at / 65536 * 128) (c.clear_chunks-chunks.result * 128)
    (table_cells c.args.self.now.table c.args.self.now.cells.items c.args.self.now.are_pages (c.args.at / 512) (number_there c.args.self.now.table (c.args.at / 512) c.requires.made)) c.clear_chunks-chunks.ensures.kept c.clear_chunks-chunks.ensures.put).0

pub invariant_of-self-clause-in_range : goal.invariant_of-self-clause-in_range
invariant_of-self-clause-in_range c = memory_is _ _ (invariant_of-self-clause-are_pages c)

pub invariant_of-self-clause-counted : goal.invariant_of-self-clause-counted
invariant_of-self-clause-counted c =
    (zeros_put c.args.self.now.table _ c.args.self.now.cells.items c.args.self.now.are_pages (c.args.at / 65536 * 128) (c.clear_chunks-chunks.result * 128)
    (table_cells c.args.self.now.table c.args.self.now.cells.items c.args.self.now.are_pages (c.args.at / 512) (number_there c.args.self.now.table (c.args.at / 512) c.requires.made)) c.clear_chunks-chunks.ensures.kept c.clear_chunks-chunks.ensures.put).2
    ∙ c.args.self.now.counted

pub returns-clause-written : goal.returns-clause-written
returns-clause-written c q =
    let first : c.args.at / 65536 * 128 * 512 ≡ c.args.at = omega (arith, c.requires.at) in
    let many : c.clear_chunks-chunks.result * 128 * 512 ≡ c.clear_chunks-chunks.result * 65536 = omega arith in
    (zeros_put c.args.self.now.table _ c.args.self.now.cells.items c.args.self.now.are_pages (c.args.at / 65536 * 128) (c.clear_chunks-chunks.result * 128)
    (table_cells c.args.self.now.table c.args.self.now.cells.items c.args.self.now.are_pages (c.args.at / 512) (number_there c.args.self.now.table (c.args.at / 512) c.requires.made)) c.clear_chunks-chunks.ensures.kept c.clear_chunks-chunks.ensures.put).1 q
    ∙ ap (λ (x : ℕ). run_of x (c.clear_chunks-chunks.result * 128 * 512) [] 0 q (byte_at (bytes_of c.args.self.now) q)) first
    ∙ ap (λ (x : ℕ). run_of c.args.at x [] 0 q (byte_at (bytes_of c.args.self.now) q)) many

pub returns-clause-kept : goal.returns-clause-kept
returns-clause-kept c = keeps_put c.args.self.now.table _ (c.args.at / 65536 * 128) (c.clear_chunks-chunks.result * 128) 2 c.clear_chunks-chunks.ensures.put (omega arith)
