use Rattle.sfi_io.proofs.Prelude.{arith}
use Rattle.sfi_io.proofs.Digits.{both_small, class_digit_some, digit_kept, pair_is, wrong_pair}
use Rattle.sfi_io.proofs.hexadecimal.byte_of.Goals as goal

pub overflow_mul-result : goal.overflow_mul-result
overflow_mul-result c = let s = both_small c.class_of-first.result c.class_of-second.result c.if-first-second-lt-WHITE.true in omega (arith, s.0)

pub overflow_add-result : goal.overflow_add-result
overflow_add-result c = let s = both_small c.class_of-first.result c.class_of-second.result c.if-first-second-lt-WHITE.true in omega (arith, s.0, s.1)

pub returns-then-first-second-lt-WHITE-clause-pair : goal.returns-then-first-second-lt-WHITE-clause-pair
returns-then-first-second-lt-WHITE-clause-pair c =
    let s = both_small c.class_of-first.result c.class_of-second.result c.if-first-second-lt-WHITE.true in
    pair_is c.args.high c.args.low _ _ (class_digit_some c.args.high c.class_of-first.result c.ranges.high.fits c.class_of-first.ensures s.0) (class_digit_some c.args.low c.class_of-second.result c.ranges.low.fits c.class_of-second.ensures s.1)

pub returns-then-first-second-lt-WHITE-clause-kept : goal.returns-then-first-second-lt-WHITE-clause-kept
returns-then-first-second-lt-WHITE-clause-kept c =
    let s = both_small c.class_of-first.result c.class_of-second.result c.if-first-second-lt-WHITE.true in (
      digit_kept c.args.high _ c.ranges.high.fits (class_digit_some c.args.high c.class_of-first.result c.ranges.high.fits c.class_of-first.ensures s.0),
      digit_kept c.args.low _ c.ranges.low.fits (class_digit_some c.args.low c.class_of-second.result c.ranges.low.fits c.class_of-second.ensures s.1),
    )

pub returns-else-first-second-lt-WHITE-clause-none : goal.returns-else-first-second-lt-WHITE-clause-none
returns-else-first-second-lt-WHITE-clause-none c _ =
    let large = c.if-first-second-lt-WHITE.false in
    wrong_pair c.args.high c.args.low c.class_of-first.result c.class_of-second.result c.ranges.high.fits c.ranges.low.fits c.class_of-first.ensures c.class_of-second.ensures (omega arith)
