use Rattle.rv_mem.proofs.Prelude.{◌≡◌, ℕ, List, ◌∷◌, [], Some, ap, sym, ◌∙◌, refl, arith, number_of}
use Rattle.rv_mem.proofs.PageAccesses.{no_first, all_there, one_missing, four_read}
use Rattle.rv_mem.proofs.pages.Pages.word_at.Goals as goal

pub returns-in_err-place : goal.returns-in_err-place
returns-in_err-place c = c.from_residual.ensures ∙ sym (no_first _ _ c.args.self.now.are_pages c.args.at 4 c.ranges.at.fits (omega arith) (c.in_err-place.ensures.none refl))

pub returns-then-all-ne-FOUR_MARKS : goal.returns-then-all-ne-FOUR_MARKS
returns-then-all-ne-FOUR_MARKS c =
    let room = c.in_ok-place.ensures.within in
    let marks : List ℕ = c.index.result.now ∷ c.index-2.result.now ∷ c.index-3.result.now ∷ c.index-4.result.now ∷ [] in
    let other = c.if-all-ne-FOUR_MARKS.true in
    let all = c.from_le_bytes-all.ensures in
    sym (one_missing _ _ c.args.self.now.are_pages c.args.at c.in_ok-place.field-0 c.in_ok-place.ensures.value 4 c.ranges.at.fits (omega (arith, c.requires)) marks refl
    (four_read c.args.self.now.cells.items _ _ _ _ _ (omega arith) c.index.ensures c.index-2.ensures c.index-3.ensures c.index-4.ensures) (λ e. other (omega (arith, e, all))))

pub returns : goal.returns
returns c =
    let room = c.in_ok-place.ensures.within in
    let marks : List ℕ = c.index.result.now ∷ c.index-2.result.now ∷ c.index-3.result.now ∷ c.index-4.result.now ∷ [] in
    let marked = c.if-all-ne-FOUR_MARKS.false in
    let all = c.from_le_bytes-all.ensures in
    let bytes : List ℕ = c.index-5.result.now ∷ c.index-6.result.now ∷ c.index-7.result.now ∷ c.index-8.result.now ∷ [] in
    let number : c.from_le_bytes.result ≡ number_of bytes = let g = c.from_le_bytes.ensures in omega arith in
    ap Some number ∙ sym (all_there _ _ c.args.self.now.are_pages c.args.at c.in_ok-place.field-0 c.in_ok-place.ensures.value 4 c.ranges.at.fits (omega (arith, c.requires)) marks refl
    (four_read c.args.self.now.cells.items _ _ _ _ _ (omega arith) c.index.ensures c.index-2.ensures c.index-3.ensures c.index-4.ensures) bytes refl
    (four_read c.args.self.now.cells.items _ _ _ _ _ (omega arith) c.index-5.ensures c.index-6.ensures c.index-7.ensures c.index-8.ensures) (omega arith))
