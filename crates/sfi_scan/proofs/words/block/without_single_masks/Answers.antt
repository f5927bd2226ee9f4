use Rattle.sfi_scan.proofs.Prelude.{both_ways}
use Rattle.sfi_scan.proofs.Starts.{taken}
use Rattle.sfi_scan.proofs.WordMarks.{stays_in}
use Rattle.sfi_scan.proofs.words.block.without_single_masks.Goals as goal

pub returns-then-not-single-clause-masks : goal.returns-then-not-single-clause-masks
returns-then-not-single-clause-masks c i inside lt there none = absurd (both_ways _ none there)

pub returns-then-words-eq0-clause-masks : goal.returns-then-words-eq0-clause-masks
returns-then-words-eq0-clause-masks c i inside lt there none = absurd (both_ways _ none there)

pub returns-clause-words : goal.returns-clause-words
returns-clause-words c i lt h = stays_in c.args.words c.single_masks_of.result c.bits_without.result i c.bits_without.ensures lt h

pub returns-clause-masks : goal.returns-clause-masks
returns-clause-masks c i inside lt there none = (
  c.if-not-single.false,
  c.single_masks_of.ensures i inside lt (taken c.args.words c.single_masks_of.result c.bits_without.result i c.bits_without.ensures lt there none),
)
