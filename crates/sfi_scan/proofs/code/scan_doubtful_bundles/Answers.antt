use Rattle.sfi_scan.proofs.Prelude.{◌≡◌, ◌∙◌, ◌+◌, ◌-◌, ◌*◌, ◌/◌, ◌<◌, ℕ, List, [], length, drop, get_or, sym, ap, subst, arith, append-nil, is_in, block_bundle, bundle_at, AreStretchFindings, IsScanned, stretch_place}
use Rattle.sfi_scan.proofs.Stretches.{chunk_at, clean_in_block, first_bundle, place_in_block, rest_bundle, scanned_more, scanned_none, stretch_push}
use Rattle.sfi_scan.proofs.code.scan_doubtful_bundles.Goals as goal
use Rattle.sfi_scan.proofs.code.scan_doubtful_bundles.Goals.{then-not-has_bit, else-not-has_bit}

pub loop-i-init : goal.loop-i-init
loop-i-init g c = (
  0,
  omega arith,
  omega (arith, c.requires.inside),
  scanned_none g.F.FindingSink.takes (stretch_place c.args.place.now c.args.from) (drop (16 * c.args.from) c.args.block.now) c.args.sink.now (g.met.F.FindingSink.none c.args.sink.now),
)

pub loop-i-preserved : goal.loop-i-preserved
loop-i-preserved g c =
    let n = c.loop-i.invariant.0 in
    let is = c.loop-i.invariant.1 in
    let inv = c.loop-i.invariant.3 in
    let from = c.args.from in
    let b = c.args.place.now in
    let first = stretch_place b from in
    let s = c.args.block.now in
    let rest = drop (16 * from) s in
    let i = c.loop-i.i in
    let takes = g.F.FindingSink.takes in
    let below : i < length s / 16 = let less = c.loop-i-test.true in let count = c.as_chunks.ensures.front_len in omega arith in
    let few : i < 8 = omega arith in
    let bundle = ap (λ (l : List (List ℕ)). get_or l i []) c.as_chunks.ensures.front ∙ chunk_at (length s / 16) i s below in
    let bytes : block_bundle s i ≡ block_bundle rest n = ap (block_bundle s) is ∙ sym (rest_bundle from n s) in
    let place = ap (bundle_at b) is ∙ place_in_block b from n c.requires.unlisted in (
      n + 1,
      omega (arith, is),
      omega (arith, few),
      elim c.if-not-has_bit.branch [
        | then-not-has_bit w ↦
            subst (λ (t : g.row.F.Denot). IsScanned takes first rest (n + 1) c.args.sink.now t) (sym w.sink-is)
            (scanned_more takes g.met.F.FindingSink.more w.bundle_at.result first _ rest n 1 c.args.sink.now c.loop-i.sink w.scan_one_bundle.new.sink
            (λ j less. let zero : j ≡ 0 = omega arith in rw zero (w.bundle_at.ensures.is ∙ place ∙ ap (stretch_place first) (let e : n ≡ n + 0 = omega arith in e)))
            (λ j less. let zero : j ≡ 0 = omega arith in rw zero (ap (λ (l : List ℕ). block_bundle l 0) (bundle ∙ bytes) ∙ first_bundle n rest))
            inv w.scan_one_bundle.ensures)
        | else-not-has_bit w ↦
            let clean = c.requires.clean i few (sym (ap (λ (m : ℕ). is_in m i) c.from.ensures) ∙ sym c.has_bit.ensures ∙ w.if-not-has_bit.false) in
            record {
              found = inv.found;
              found_are = subst (AreStretchFindings first rest (n + 1)) (append-nil inv.found) (stretch_push first rest n inv.found [] inv.found_are (clean_in_block b s from i n is c.requires.unlisted clean));
              few = omega (arith, inv.few);
              handed = subst (takes c.args.sink.now inv.found) (sym w.sink-is) inv.handed;
            }
      ],
    )

pub returns : goal.returns
returns g c =
    let is = c.loop-i.invariant.1 in
    let inside = c.loop-i.invariant.2 in
    let over = c.loop-i-test.false in
    let count = c.as_chunks.ensures.front_len in
    let all : c.loop-i.invariant.0 ≡ 8 - c.args.from = omega arith in
    subst (λ (m : ℕ). IsScanned g.F.FindingSink.takes (stretch_place c.args.place.now c.args.from) (drop (16 * c.args.from) c.args.block.now) m c.args.sink.now c.loop-i.sink) all c.loop-i.invariant.3
