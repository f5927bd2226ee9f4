-- What holds of images, of their faults and regions: laws, and further lemmas, for proofs here and in the crates above.
use Rattle.sfi_image.specs.Prefixes.{CutShort, Trails, WholeIsImage}
use Rattle.sfi_image.specs.Laws.{OneImage, NeverBoth, OneFault, SomeReading}
use Rattle.sfi_image.proofs.Steps as ending
use Rattle.sfi_image.proofs.OneReading as reading
use Rattle.sfi_image.proofs.SomeReading as some
pub use Rattle.sfi_image.proofs.Regions.{whole_bundles, code_ends, masked_unit}
pub use Rattle.sfi_image.proofs.Formats.{right_in_second}

pub one_image : OneImage
one_image = reading.one_image

pub never_both : NeverBoth
never_both = reading.no_fault

pub one_fault : OneFault
one_fault = reading.one_fault

pub some_reading : SomeReading
some_reading = some.some_reading

pub cut_short : CutShort
cut_short = ending.cut_short

pub trails : Trails
trails = ending.trails

pub whole_is_image : WholeIsImage
whole_is_image = ending.whole_is_image
