-- What holds of every text: the laws.
use Rattle.sfi_build.specs.Laws.{SomeBuilding, CodeLabelsBeginUnits}
use Rattle.sfi_build.proofs.Whole as labels

pub some_building : SomeBuilding
some_building = labels.some_building

pub code_labels_begin_units : CodeLabelsBeginUnits
code_labels_begin_units = labels.code_labels_begin_units
