use Rattle.sfi_scan.proofs.Prelude.{[], true, is_in, ◌≡◌, ◌∙◌, ◌-◌, ◌*◌, ◌/◌, ℕ, List, take, drop, false, sym, subst, arith, ap, BundlePlace, IsWithin, IsWithinBlock, IsScanned, stretch_place}
use Rattle.sfi_scan.specs.private.Scanning.{IsBlockScanned}
use Rattle.sfi_scan.proofs.Fronts.{below_end, block_front, bundle_front, within_stretch}
use Rattle.sfi_scan.proofs.Marks.{all_set}
use Rattle.sfi_scan.proofs.Stretches.{scanned_same, block_clean}
use Rattle.sfi_scan.proofs.code.scan_next_bundles.Goals as goal
use Rattle.sfi_scan.proofs.code.scan_next_bundles.Goals.{then-clean, else-clean}

pub clean_bundles-clean-requires : goal.clean_bundles-clean-requires
clean_bundles-clean-requires g c =
    let s = c.in-Some.ensures.block c.requires.1 c.requires.3 in
    subst IsWithinBlock (sym (c.place_after-first.ensures s.first s.start_is)) s.within

pub scan_doubtful_bundles-requires-clause-unlisted : goal.scan_doubtful_bundles-requires-clause-unlisted
scan_doubtful_bundles-requires-clause-unlisted g c =
    let s = c.in-Some.ensures.block c.requires.1 c.requires.3 in
    subst (λ (b : BundlePlace). b.listed ≡ false) (sym (c.place_after-first.ensures s.first s.start_is)) s.plain

pub scan_doubtful_bundles-requires-clause-within : goal.scan_doubtful_bundles-requires-clause-within
scan_doubtful_bundles-requires-clause-within g c =
    let s = c.in-Some.ensures.block c.requires.1 c.requires.3 in
    subst IsWithinBlock (sym (c.place_after-first.ensures s.first s.start_is)) s.within

pub returns-in-Some : goal.returns-in-Some
returns-in-Some g c = λ k at.
    let takes = g.F.FindingSink.takes in
    let b = c.args.place.now in
    let code = c.args.code.now in
    let start = c.in-Some.start in
    let s = c.in-Some.ensures.block k at in
    let is = s.is in
    let start_is = s.start_is in
    let from : (c.args.at - start) / 16 ≡ s.before = omega (arith, is, start_is, at) in
    let bytes : c.bytes_from-block.result.now ≡ take 128 (drop (16 * s.first) code) = c.bytes_from-block.ensures ∙ ap (λ (a : ℕ). take 128 (drop a code)) start_is in
    let place = c.place_after-first.result in
    let plain = subst (λ (x : BundlePlace). x.listed ≡ false) (sym (c.place_after-first.ensures s.first s.start_is)) s.plain in
    let scanned : IsBlockScanned takes place c.bytes_from-block.result.now ((c.args.at - start) / 16) c.args.sink.now c.if-clean.sink = elim c.if-clean.branch [
      | then-clean w ↦ subst (λ (t : g.row.F.Denot). IsBlockScanned takes place c.bytes_from-block.result.now ((c.args.at - start) / 16) c.args.sink.now t) (sym w.sink-is) w.scan_doubtful_bundles.ensures
      | else-clean w ↦ subst (λ (t : g.row.F.Denot). IsBlockScanned takes place c.bytes_from-block.result.now ((c.args.at - start) / 16) c.args.sink.now t) (sym w.sink-is) (record {
        found = [];
        found_are = block_clean place c.bytes_from-block.result.now ((c.args.at - start) / 16) plain (λ i less. c.clean_bundles-clean.ensures i less (subst (λ (m : ℕ). is_in m i ≡ true) (sym w.if-clean.false) (all_set i less)));
        few = omega arith;
        handed = g.met.F.FindingSink.none c.args.sink.now;
      })
    ] in
    block_front (λ (c' : BundlePlace) (l : List ℕ) (n : ℕ). IsScanned takes c' l n c.args.sink.now c.if-clean.sink) (λ c' xs ys n. scanned_same takes c' xs ys n c.args.sink.now c.if-clean.sink) b code k start s
    (subst (λ (n : ℕ). IsBlockScanned takes (stretch_place b s.first) (take 128 (drop (16 * s.first) code)) n c.args.sink.now c.if-clean.sink) from
    (subst (λ (l : List ℕ). IsBlockScanned takes (stretch_place b s.first) l ((c.args.at - start) / 16) c.args.sink.now c.if-clean.sink) bytes
    (subst (λ (x : BundlePlace). IsBlockScanned takes x c.bytes_from-block.result.now ((c.args.at - start) / 16) c.args.sink.now c.if-clean.sink) (c.place_after-first.ensures s.first s.start_is) scanned)))

pub bytes_from-bundle-requires : goal.bytes_from-bundle-requires
bytes_from-bundle-requires g c = (omega arith, (below_end c.args.place.now c.args.code.now c.requires.0 c.args.at c.requires.1 c.requires.2 c.requires.3 c.requires.4).1)

pub scan_one_bundle-requires : goal.scan_one_bundle-requires
scan_one_bundle-requires g c = subst IsWithin (sym (c.place_after.ensures c.requires.1 c.requires.3)) (within_stretch c.args.place.now c.args.code.now c.requires.0 c.requires.1 c.requires.2 c.requires.4)

pub returns : goal.returns
returns g c = λ k at.
    let takes = g.F.FindingSink.takes in
    let enough = (below_end c.args.place.now c.args.code.now c.requires.0 c.args.at c.requires.1 c.requires.2 c.requires.3 c.requires.4).1 in
    bundle_front (λ (b : BundlePlace) (l : List ℕ) (n : ℕ). IsScanned takes b l n c.args.sink.now c.scan_one_bundle.new.sink) (λ b xs ys n. scanned_same takes b xs ys n c.args.sink.now c.scan_one_bundle.new.sink)
    c.args.place.now c.place_after.result c.args.code.now c.bytes_from-bundle.result.now c.args.at k at (c.place_after.ensures k at) c.bytes_from-bundle.ensures enough c.scan_one_bundle.ensures
