-- What holds of the names of a sandbox.
use Rattle.std.specs.Prelude.{◌≡◌, ◌<◌, ◌≤◌, ℕ, List, length}
use Rattle.sfi_source.specs.declared.item.Named.{Named}
use Rattle.sfi_source.specs.declared.item.Named.TheVariants.{Unknown}
use Rattle.sfi_source.specs.Names.{meaning, place_of, met}

-- a name that is there is met without a change
abbrev pub MetNamesStay : Type 0
MetNamesStay =
    (names : List (List ℕ × Named)) (name : List ℕ) → place_of names name < length names
    → names ≡ met names name

-- a name that is not there names nothing
abbrev pub NewNamesNameNothing : Type 0
NewNamesNameNothing =
    (names : List (List ℕ × Named)) (name : List ℕ) → length names ≤ place_of names name
    → meaning names name ≡ Unknown
