-- What holds of the definitions themselves.
use Rattle.std.specs.Prelude.{◌≡◌, ℕ, ◌<◌, ◌⊎◌, List}
use Rattle.std.specs.List.{All}
use Rattle.sfi_image.specs.declared.fault.LayoutFault.{LayoutFault}
use Rattle.sfi_image.specs.Spelling.{Part}
use Rattle.sfi_image.specs.Parts.{IsImage}
use Rattle.sfi_image.specs.Faults.{IsFault}

-- bytes are the image of one list of sandboxes at most
abbrev pub OneImage : Type 0
OneImage = (b : List ℕ) (ps qs : List Part) → IsImage b ps → IsImage b qs → ps ≡ qs

-- no image has a fault
abbrev pub NeverBoth : Type 0
NeverBoth = (b : List ℕ) (ps : List Part) (k : LayoutFault) → IsImage b ps → IsFault b k → ⊥

-- bytes have one fault at most
abbrev pub OneFault : Type 0
OneFault = (b : List ℕ) (j k : LayoutFault) → IsFault b j → IsFault b k → j ≡ k

-- bytes are an image or have a fault
abbrev pub SomeReading : Type 0
SomeReading = (b : List ℕ) → All (λ x. x < 256) b
    → ((ps : List Part) × IsImage b ps) ⊎ ((k : LayoutFault) × IsFault b k)
