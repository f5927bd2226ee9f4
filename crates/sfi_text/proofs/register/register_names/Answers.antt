use Rattle.std.proofs.Common.{refl}
use Rattle.std.specs.Fmt.{digits}
use Rattle.sfi_text.proofs.register.register_names.Goals as goal

pub returns : goal.returns
unfolding digits
returns c = refl
