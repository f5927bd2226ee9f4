use Rattle.sfi_scan.proofs.Prelude.{refl}
use Rattle.sfi_scan.proofs.TableEntries.{data_pair_told}
use Rattle.sfi_scan.proofs.tables.are_data_pair.Goals as goal

pub returns : goal.returns
returns c = data_pair_told c.args.first c.args.second c.args.target c.number-place.result c.number-place.ensures.value c.ranges.first.fits c.number-place.ensures.in_range c.if-first-place.false _ refl
