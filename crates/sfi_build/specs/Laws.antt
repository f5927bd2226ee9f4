-- What holds of every text.
use Rattle.std.specs.Prelude.{◌⊎◌, ℕ, List}
use Rattle.std.specs.List.{All}
use Rattle.sfi_formats.specs.declared.place.Place.{Place}
use Rattle.sfi_image.specs.Spelling.{Part}
use Rattle.sfi_image.specs.Parts.{IsImage}
use Rattle.sfi_link.specs.Names.{MapEntry, BeginsUnit}
use Rattle.sfi_build.specs.declared.fault.BuildFault.{BuildFault}
use Rattle.sfi_build.specs.Texts.{IsTextBuild, IsTextMap, IsBuildFault}

-- each text has a build or a fault
abbrev pub SomeBuilding : Type 0
SomeBuilding = (given : List Place) (text : List ℕ)
    → ((bytes : List ℕ) × IsTextBuild given text bytes)
    ⊎ ((f : BuildFault) × IsBuildFault given text f)

-- at each label in the code of a text's map a unit of its sandbox's code begins in the text's image
abbrev pub CodeLabelsBeginUnits : Type 0
CodeLabelsBeginUnits =
    (given : List Place) (text bytes : List ℕ) (entries : List MapEntry) (parts : List Part)
    → IsTextMap given text entries → IsTextBuild given text bytes → IsImage bytes parts
    → All (BeginsUnit parts) entries
