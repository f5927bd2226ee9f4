use Rattle.sfi_scan.proofs.Prelude.{ℕ, ◌+◌, ◌*◌, ◌≤◌, drop, refl, arith, IsWordCodeScanned, stretch_place}
use Rattle.sfi_scan.proofs.Fronts.{front_ahead, walk_at, walk_nearer, walk_on, walk_over}
use Rattle.sfi_scan.proofs.WordStretches.{words_scanned_more, words_scanned_none, words_skipped}
use Rattle.sfi_scan.proofs.words.scan_words_as.Goals as goal

pub loop-at-init : goal.loop-at-init
loop-at-init g c = record {
  bundles = 0;
  end_is = refl;
  inside = omega arith;
  told = words_scanned_none g.F.FindingSink.takes c.args.place.now c.args.owed c.args.code.now c.args.sink.now (g.met.F.FindingSink.none c.args.sink.now);
}

pub skip_clean_code-end-requires : goal.skip_clean_code-end-requires
skip_clean_code-end-requires g c = front_ahead c.loop-at.invariant c.requires.1 c.loop-at-test.true

pub doubtful_end-stop-requires : goal.doubtful_end-stop-requires
doubtful_end-stop-requires g c =
    let w = c.skip_clean_code-end.ensures c.loop-at.invariant.bundles (walk_at c.loop-at.invariant) in
    let inside = w.inside in
    front_ahead w c.requires.1 (omega (arith, inside, c.if-end-code.false))

pub scan_bundles-requires-clause-stretch : goal.scan_bundles-requires-clause-stretch
scan_bundles-requires-clause-stretch g c =
    let w = c.skip_clean_code-end.ensures c.loop-at.invariant.bundles (walk_at c.loop-at.invariant) in
    let inside = w.inside in
    front_ahead w c.requires.1 (omega (arith, inside, c.if-end-code.false))

pub returns-then-end-code : goal.returns-then-end-code
returns-then-end-code g c = λ n run.
    let takes = g.F.FindingSink.takes in
    let b = c.args.place.now in
    let code = c.args.code.now in
    let next = c.skip_clean_code-end.result.1 in
    let before = c.args.sink.now in
    let sink = c.loop-at.sink in
    let w = c.loop-at.invariant in
    let skipped = words_skipped takes g.met.F.FindingSink.more b c.args.owed c.loop-at.left next code c.loop-at.at c.skip_clean_code-end.result.0 before sink (g.met.F.FindingSink.none sink) w
    (c.skip_clean_code-end.ensures w.bundles (walk_at w)) in
    walk_over (λ m. IsWordCodeScanned takes b c.args.owed code m next before sink) skipped run (let all = c.if-end-code.true in omega arith)

pub loop-at-smaller : goal.loop-at-smaller
loop-at-smaller g c =
    let at_is = walk_at c.loop-at.invariant in
    let w = c.skip_clean_code-end.ensures c.loop-at.invariant.bundles at_is in
    let end_is = w.end_is in
    let nearer = walk_nearer end_is (c.scan_bundles.ensures (c.loop-at.invariant.bundles + w.bundles) end_is) in
    omega (arith, at_is, end_is, nearer)

pub loop-at-preserved : goal.loop-at-preserved
loop-at-preserved g c =
    let takes = g.F.FindingSink.takes in
    let b = c.args.place.now in
    let code = c.args.code.now in
    let next = c.skip_clean_code-end.result.1 in
    let before = c.args.sink.now in
    let sink = c.loop-at.sink in
    let w = c.loop-at.invariant in
    let skipped = words_skipped takes g.met.F.FindingSink.more b c.args.owed c.loop-at.left next code c.loop-at.at c.skip_clean_code-end.result.0 before sink (g.met.F.FindingSink.none sink) w
    (c.skip_clean_code-end.ensures w.bundles (walk_at w)) in
    let there = walk_at skipped in
    walk_on b skipped there (c.scan_bundles.ensures skipped.bundles there)
    (λ i places bytes told. words_scanned_more takes g.met.F.FindingSink.more (stretch_place b skipped.bundles) b c.args.owed (drop (16 * skipped.bundles) code) code skipped.bundles i next _ before sink c.scan_bundles.new.sink places bytes skipped.told told.1)

pub returns : goal.returns
returns g c = λ n run. walk_over (λ m. IsWordCodeScanned g.F.FindingSink.takes c.args.place.now c.args.owed c.args.code.now m c.loop-at.left c.args.sink.now c.loop-at.sink) c.loop-at.invariant run (let over = c.loop-at-test.false in omega arith)
