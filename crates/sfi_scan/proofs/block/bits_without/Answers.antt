use Rattle.sfi_scan.proofs.Starts.{without_is}
use Rattle.sfi_scan.proofs.block.bits_without.Goals as goal

pub returns : goal.returns
returns c = without_is c.args.mask c.args.other c.ranges.other.fits
