use Rattle.sfi_scan.proofs.Prelude.{arith}
use Rattle.sfi_scan.proofs.WordMarks.{none_ahead, first_ahead}
use Rattle.sfi_scan.proofs.words.block.first_word_from.Goals as goal

pub returns-then-ahead-eq0-clause-none : goal.returns-then-ahead-eq0-clause-none
returns-then-ahead-eq0-clause-none c i from less = none_ahead c.args.words c.args.at c.if-ahead-eq0.true i from

pub returns-clause-end : goal.returns-clause-end
returns-clause-end c = let first = first_ahead c.args.words c.args.at c.ranges.words.fits c.if-ahead-eq0.false in omega (arith, first.below)

pub returns-clause-none : goal.returns-clause-none
returns-clause-none c i from less = (first_ahead c.args.words c.args.at c.ranges.words.fits c.if-ahead-eq0.false).none i from less

pub returns-clause-one : goal.returns-clause-one
returns-clause-one c less = (first_ahead c.args.words c.args.at c.ranges.words.fits c.if-ahead-eq0.false).one
