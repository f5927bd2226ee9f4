use Rattle.sfi_scan.proofs.Prelude.{◌≡◌, ◌+◌, ◌-◌, ◌*◌, ◌/◌, ℕ, suc, refl, subst, arith, AreCleanWords}
use Rattle.sfi_scan.proofs.WordMarks.{even_there, reached, passed}
use Rattle.sfi_scan.proofs.words.block.after_words.Goals as goal

pub loop-at-init : goal.loop-at-init
loop-at-init c = let inside = c.requires.inside in (0, omega arith, omega (arith, inside), refl)

pub returns-then-i-eq64 : goal.returns-then-i-eq64
returns-then-i-eq64 c =
    let inv = c.loop-at.invariant in
    let next = c.next_word_from-i.ensures in
    let from = c.args.from in
    let inside = c.requires.inside in
    let end : c.next_word_from-i.result ≡ 64 = c.if-i-eq64.true in
    let here : c.next_word_from-i.result ≡ 2 * (from + (32 - from)) = omega (arith, end, inside) in
    reached c.args.place.now c.args.block.now c.args.owed c.args.words from c.requires.within c.requires.others c.loop-at.left inv.0 (32 - from) c.loop-at.at c.next_word_from-i.result inv.1 here next.from next.end next.none next.one next.skipped inv.3

pub loop-at-preserved : goal.loop-at-preserved
loop-at-preserved c =
    let b = c.args.place.now in
    let block = c.args.block.now in
    let inv = c.loop-at.invariant in
    let next = c.next_word_from-i.ensures in
    let i = c.next_word_from-i.result in
    let from = c.args.from in
    let other = c.if-i-eq64.false in
    let end = next.end in
    let ahead = next.from in
    let place = inv.1 in
    let even = even_there c.args.words (from + inv.0) c.loop-at.at i c.requires.words inv.1 next.end next.one in
    let here : i ≡ 2 * (from + (i / 2 - from)) = omega (arith, even, ahead, place) in (
      suc (i / 2 - from),
      omega (arith, here),
      omega (arith, even, end, other),
      passed b block c.args.owed c.loop-at.left c.in_ok-left.left from (i / 2 - from) i here
          (reached b block c.args.owed c.args.words from c.requires.within c.requires.others c.loop-at.left inv.0 (i / 2 - from) c.loop-at.at i inv.1 here next.from next.end next.none next.one next.skipped inv.3) c.in_ok-left.ensures,
    )

pub returns : goal.returns
returns c =
    let inv = c.loop-at.invariant in
    let place = inv.1 in
    let end = inv.2 in
    let over = c.loop-at-test.false in
    subst (λ (m : ℕ). AreCleanWords c.args.place.now c.args.owed c.args.block.now c.args.from m c.loop-at.left) (let e : inv.0 ≡ 32 - c.args.from = omega (arith, place, end, over) in e) inv.3
