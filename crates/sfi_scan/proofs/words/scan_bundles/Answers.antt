use Rattle.sfi_scan.proofs.Prelude.{◌+◌, ◌*◌, ℕ, List, drop, sym, subst, arith, BundlePlace, IsWithin, IsWordCodeScanned, stretch_place}
use Rattle.sfi_scan.proofs.Fronts.{below_end, run_none, bundle_ahead, bundle_front, walk_on}
use Rattle.sfi_scan.proofs.WordStretches.{words_scanned_more, words_scanned_none, words_scanned_same}
use Rattle.sfi_scan.proofs.words.scan_bundles.Goals as goal

pub loop-end-init : goal.loop-end-init
loop-end-init g c = λ k at.
    let b = c.args.place.now in
    let code = c.args.code.now in
    let run = c.requires.stretch in
    run_none c.args.at k at (let enough = (below_end b code run.0 c.args.at run.1 run.2 run.3 run.4).1 in omega (arith, enough))
    (words_scanned_none g.F.FindingSink.takes (stretch_place b k) c.args.owed (drop (16 * k) code) c.args.sink.now (g.met.F.FindingSink.none c.args.sink.now))

pub bytes_from-bundle-requires : goal.bytes_from-bundle-requires
bytes_from-bundle-requires g c =
    let run = c.requires.stretch in
    let inside = c.requires.inside in
    (omega arith, (bundle_ahead (c.loop-end.invariant run.1 run.3) run.2 (omega (arith, inside, c.loop-end-test.true))).1)

pub place_after-requires : goal.place_after-requires
place_after-requires g c =
    let run = c.requires.stretch in
    let inside = c.requires.inside in
    (bundle_ahead (c.loop-end.invariant run.1 run.3) run.2 (omega (arith, inside, c.loop-end-test.true))).0

pub scan_bundle_of_words-left-requires : goal.scan_bundle_of_words-left-requires
scan_bundle_of_words-left-requires g c =
    let run = c.requires.stretch in
    let inside = c.requires.inside in
    let w = c.loop-end.invariant run.1 run.3 in
    subst IsWithin (sym (c.place_after.ensures (run.1 + w.bundles) w.end_is)) (bundle_ahead w run.2 (omega (arith, inside, c.loop-end-test.true))).2

pub overflow_add-end : goal.overflow_add-end
overflow_add-end g c =
    let run = c.requires.stretch in
    let inside = c.requires.inside in
    let enough = (bundle_ahead (c.loop-end.invariant run.1 run.3) run.2 (omega (arith, inside, c.loop-end-test.true))).1 in
    omega (arith, enough)

pub loop-end-preserved : goal.loop-end-preserved
loop-end-preserved g c = λ k at.
    let takes = g.F.FindingSink.takes in
    let b = c.args.place.now in
    let code = c.args.code.now in
    let end = c.loop-end.end in
    let before = c.loop-end.sink in
    let new = c.scan_bundle_of_words-left.new.sink in
    let next = c.scan_bundle_of_words-left.result in
    let run = c.requires.stretch in
    let inside = c.requires.inside in
    let w = c.loop-end.invariant k at in
    let m = k + w.bundles in
    let enough = (bundle_ahead w run.2 (omega (arith, inside, c.loop-end-test.true))).1 in
    let one = bundle_front (λ (x : BundlePlace) (l : List ℕ) (n : ℕ). IsWordCodeScanned takes x c.loop-end.left l n next before new) (λ x xs ys n. words_scanned_same takes x c.loop-end.left xs ys n next before new)
    b c.place_after.result code c.bytes_from-bundle.result.now end m w.end_is (c.place_after.ensures m w.end_is) c.bytes_from-bundle.ensures enough c.scan_bundle_of_words-left.ensures in
    walk_on b w w.end_is one
    (λ n places bytes told. words_scanned_more takes g.met.F.FindingSink.more (stretch_place b m) (stretch_place b k) c.args.owed (drop (16 * m) code) (drop (16 * k) code) w.bundles n c.loop-end.left next c.args.sink.now before new places bytes w.told told.1)

pub returns : goal.returns
returns g c = λ k at.
    let w = c.loop-end.invariant k at in
    let end_is = w.end_is in
    let ahead = c.requires.ahead in
    let over = c.loop-end-test.false in
    record { bundles = w.bundles; end_is = end_is; inside = w.inside; told = (omega (arith, end_is, ahead, over, at), w.told) }
