use Rattle.sfi_scan.proofs.Prelude.{◌≡◌, ◌∙◌, ◌+◌, ◌-◌, ◌*◌, ◌/◌, ℕ, List, [], take, drop, refl, sym, ap, subst, arith, BundlePlace, IsWithinBlock, AreCleanWords, stretch_place}
use Rattle.sfi_formats.specs.Formats.{has_single_mask}
use Rattle.sfi_scan.proofs.Fronts.{below_end, front_ahead, run_none, walk_nearer, walk_on}
use Rattle.sfi_scan.proofs.WordStretches.{block_seen, same_format, words_more}
use Rattle.sfi_scan.proofs.words.skip_clean_blocks.Goals as goal

pub loop-end-init : goal.loop-end-init
loop-end-init g c = λ k at. run_none c.args.at k at (let enough = (below_end c.args.place.now c.args.code.now c.requires.stretch.0 c.args.at c.requires.stretch.1 c.requires.stretch.2 c.requires.stretch.3 c.requires.stretch.4).1 in omega (arith, enough)) (refl, refl)

pub block_start-requires : goal.block_start-requires
block_start-requires g c = front_ahead (c.loop-end.invariant c.requires.stretch.1 c.requires.stretch.3) c.requires.stretch.2 c.loop-end-test.true

pub look_at_block-requires-clause-within : goal.look_at_block-requires-clause-within
look_at_block-requires-clause-within g c =
    let w = c.loop-end.invariant c.requires.stretch.1 c.requires.stretch.3 in
    let s = c.in-Some.ensures.block (c.requires.stretch.1 + w.bundles) w.end_is in
    subst IsWithinBlock (sym (c.place_after-first.ensures s.first s.start_is)) s.within

pub look_at_block-requires-clause-single : goal.look_at_block-requires-clause-single
look_at_block-requires-clause-single g c =
    let w = c.loop-end.invariant c.requires.stretch.1 c.requires.stretch.3 in
    let s = c.in-Some.ensures.block (c.requires.stretch.1 + w.bundles) w.end_is in
    c.requires.single ∙ ap has_single_mask (sym (same_format c.args.place.now s.first)) ∙ ap (λ (x : BundlePlace). has_single_mask x.format) (sym (c.place_after-first.ensures s.first s.start_is))

pub loop-end-smaller : goal.loop-end-smaller
loop-end-smaller g c =
    let w = c.loop-end.invariant c.requires.stretch.1 c.requires.stretch.3 in
    let end_is = w.end_is in
    let s = c.in-Some.ensures.block (c.requires.stretch.1 + w.bundles) w.end_is in
    let is = s.is in
    let start_is = s.start_is in
    let few = s.inside in
    let whole = s.whole in
    omega (arith, end_is, is, start_is, few, whole)

pub loop-end-preserved : goal.loop-end-preserved
loop-end-preserved g c = λ k at.
    let w = c.loop-end.invariant k at in
    let b = c.args.place.now in
    let code = c.args.code.now in
    let end = c.loop-end.end in
    let owed = c.loop-end.left in
    let next = c.in-Some-look_at_block.next in
    let start = c.in-Some.start in
    let end_is = w.end_is in
    let s = c.in-Some.ensures.block (k + w.bundles) w.end_is in
    let is = s.is in
    let start_is = s.start_is in
    let few = s.inside in
    let from : (end - start) / 4 ≡ 4 * s.before = omega (arith, end_is, is, start_is) in
    let count : 32 - (end - start) / 4 ≡ 4 * (8 - s.before) = omega (arith, from, few) in
    let bytes : c.bytes_from-block.result.now ≡ take 128 (drop (16 * s.first) code) = c.bytes_from-block.ensures ∙ ap (λ (a : ℕ). take 128 (drop a code)) start_is in
    let front = block_seen b owed next code (k + w.bundles) start s
    (subst (λ (n : ℕ). AreCleanWords (stretch_place b s.first) owed (take 128 (drop (16 * s.first) code)) (4 * s.before) n next) count
    (subst (λ (n : ℕ). AreCleanWords (stretch_place b s.first) owed (take 128 (drop (16 * s.first) code)) n (32 - (end - start) / 4) next) from
    (subst (λ (l : List ℕ). AreCleanWords (stretch_place b s.first) owed l ((end - start) / 4) (32 - (end - start) / 4) next) bytes
    (subst (λ (x : BundlePlace). AreCleanWords x owed c.bytes_from-block.result.now ((end - start) / 4) (32 - (end - start) / 4) next) (c.place_after-first.ensures s.first s.start_is)
    c.in-Some-look_at_block.ensures)))) in
    walk_on b w w.end_is front
    (λ n places bytes told. words_more (stretch_place b (k + w.bundles)) (stretch_place b k) c.args.owed (drop (16 * (k + w.bundles)) code) (drop (16 * k) code) w.bundles n [] [] owed _ places bytes w.told told.1)
