use Rattle.sfi_scan.proofs.Prelude.{◌/◌, ◌∙◌, sym, subst, ◌≡◌, ◌+◌, List, true, OnTrue, Instr, bundle_at, BundlePlace, offset, AreBefore, is_clean, near}
use Rattle.sfi_scan.proofs.Starts.{short_clean, wide_clean}
use Rattle.sfi_scan.proofs.block.is_clean_at.Goals as goal
use Rattle.sfi_scan.proofs.block.is_clean_at.Goals.{then-has_bit, else-has_bit}

pub returns-in-Some : goal.returns-in-Some
returns-in-Some c =
    let told : (earlier : List Instr) → AreBefore c.words_before_half.result (near earlier)
    → OnTrue c.is_clean.result (is_clean (bundle_at c.args.place.now (c.args.i / 8)) ((bundle_at c.args.place.now (c.args.i / 8)).address + offset c.args.i) earlier c.in-Some.outline ≡ true) =
    subst (λ (b : BundlePlace). (earlier : List Instr) → AreBefore c.words_before_half.result (near earlier) → OnTrue c.is_clean.result (is_clean b (b.address + offset c.args.i) earlier c.in-Some.outline ≡ true)) c.bundle_at-bundle.ensures.is c.is_clean.ensures in
    elim c.if-has_bit.branch [
      | then-has_bit w ↦ wide_clean c.args.place.now c.args.block.now c.args.after c.args.i w.word_of.result c.words_before_half.result w.outline32-outline.result c.in-Some.outline w.word_of.ensures.in_bundle w.outline32-outline.ensures.found (sym w.outline-is ∙ c.in-Some.is) c.words_before_half.ensures c.is_clean.result told _ (sym c.has_bit.ensures ∙ w.if-has_bit.true)
      | else-has_bit w ↦ short_clean c.args.place.now c.args.block.now c.args.after c.args.i w.half_of.result c.words_before_half.result w.outline16-outline.result c.in-Some.outline w.half_of.ensures w.outline16-outline.ensures.found (sym w.outline-is ∙ c.in-Some.is) c.words_before_half.ensures c.is_clean.result told _ (sym c.has_bit.ensures ∙ w.if-has_bit.false)
    ]
