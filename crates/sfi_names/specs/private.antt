-- Words that private contracts and proofs alone cite: no public statement rests on them.
use Rattle.std.specs.Prelude.{ℕ, List}
use Rattle.sfi_names.specs.declared.image.Missing.{Missing}
use Rattle.sfi_names.specs.declared.image.Missing.TheVariants.{NoImage, NoSandbox}
use Rattle.sfi_image.specs.Keeping.{IsBeyond}
use Rattle.sfi_names.specs.Images.{IsNoImage}

-- why there are no first data bytes of a sandbox `number`
abbrev pub HasNoInit : List ℕ → ℕ → Missing → Type 0
HasNoInit image number NoImage = IsNoImage image
HasNoInit image number NoSandbox = IsBeyond image number
HasNoInit image number m = ⊥
