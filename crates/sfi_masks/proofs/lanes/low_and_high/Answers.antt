use Rattle.sfi_masks.proofs.Vectors.{low_bytes, high_bytes}
use Rattle.sfi_masks.proofs.lanes.low_and_high.Goals as goal

pub returns-clause-low : goal.returns-clause-low
returns-clause-low c = low_bytes c.args.bytes.now c.requires

pub returns-clause-high : goal.returns-clause-high
returns-clause-high c = high_bytes c.args.bytes.now c.requires
