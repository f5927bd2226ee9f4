use Rattle.sfi_check.proofs.Prelude.{rules, ◌≤◌, ◌<◌, ◌/◌, length, take, refl, arith}
use Rattle.sfi_check.proofs.Leading.{step_fault}
use Rattle.sfi_check.proofs.Stretches.{stretch_step, stretch_taken}
use Rattle.sfi_check.proofs.piece.feed_code.Goals as goal

pub returns-in-Some : goal.returns-in-Some
returns-in-Some g c = λ first so_far h.
    step_fault c.args.reader.now c.args.tally.now so_far (take c.min-len.result c.args.rest.now) c.args.rest.now c.min-len.result c.in-Some.fault refl c.in-Some.ensures.fault h

pub scan_stretch-tally-requires : goal.scan_stretch-tally-requires
scan_stretch-tally-requires g c =
    let h = c.requires.so_far.2 in
    let some : 0 < c.min-len.result = let not_zero = c.if-len-eq0.false in omega arith in
    (c.min-len.result / 16, (stretch_taken h.at c.args.place.now c.stretch_length.result c.min-len.result c.args.rest.now h.stands.right (c.requires.next h.at h.stands) (c.stretch_length.ensures.length h.at h.stands) c.min-len.ensures some).stretch)

pub returns : goal.returns
returns g c = λ first so_far h.
    let len = c.min-len.result in
    let n = len / 16 in
    let some : 0 < len = let not_zero = c.if-len-eq0.false in omega arith in
    let taken = stretch_taken h.at c.args.place.now c.stretch_length.result len c.args.rest.now h.stands.right (c.requires.next h.at h.stands) (c.stretch_length.ensures.length h.at h.stands) c.min-len.ensures some in
    let scanned = c.scan_stretch-tally.ensures n taken.stretch in
    let same_tally = scanned.handed.0 in
    let same_sink = scanned.handed.1 in
    let counts = scanned.handed.2 in
    let handed = scanned.handed.3 in
    let inside : len ≤ length c.args.rest.now = omega (arith, c.min-len.ensures) in (
      omega arith,
      inside,
      stretch_step c.args.reader.now c.take.new.self c.args.tally.now c.add_bundles.new.self c.scan_stretch-tally.new.sink.tally.now _ so_far (take len c.args.rest.now) c.args.place.now c.stretch_length.result n scanned.found c.owed_at-owed.result c.scan_stretch-tally.result
          c.requires.next c.stretch_length.ensures.length taken.le taken.some taken.stretch.whole c.owed_at-owed.ensures scanned.found_are scanned.few c.add_bundles.ensures counts (search rules)
          c.in_default.ensures.goes_on (λ before holds. g.met.F.FindingSink.more first c.args.sink.now _ before scanned.found holds (search rules)) h,
      c.in_default.ensures.falls,
    )
