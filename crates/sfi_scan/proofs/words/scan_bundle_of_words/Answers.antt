use Rattle.sfi_scan.proofs.Prelude.{List, sym, subst, arith, Finding}
use Rattle.sfi_scan.proofs.Readings.{empty_list}
use Rattle.sfi_scan.proofs.WordStretches.{words_scanned_one}
use Rattle.sfi_scan.proofs.words.scan_bundle_of_words.Goals as goal

pub returns-then-count-gt0 : goal.returns-then-count-gt0
returns-then-count-gt0 g c =
    words_scanned_one g.F.FindingSink.takes c.args.place.now c.args.owed c.args.bundle.now c.scan_words-next.new.found c.scan_words-next.result c.args.sink.now _ c.told-bundle c.scan_words-next.ensures
    (let few = c.count.ensures.few in omega (arith, few, c.count.ensures.value)) c.put.ensures

pub returns-else-count-gt0 : goal.returns-else-count-gt0
returns-else-count-gt0 g c =
    let last = c.scan_words-next.new.found in
    let none = empty_list last (omega (arith, c.if-count-gt0.false, c.count.ensures.value)) in
    words_scanned_one g.F.FindingSink.takes c.args.place.now c.args.owed c.args.bundle.now last c.scan_words-next.result c.args.sink.now c.args.sink.now c.told-bundle c.scan_words-next.ensures
    (let few = c.count.ensures.few in omega (arith, few, c.count.ensures.value)) (subst (λ (l : List Finding). g.F.FindingSink.takes c.args.sink.now l c.args.sink.now) (sym none) (g.met.F.FindingSink.none c.args.sink.now))
