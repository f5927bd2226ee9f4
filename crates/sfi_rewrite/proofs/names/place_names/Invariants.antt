use Rattle.sfi_rewrite.proofs.Prelude.{AllZip, take, named, IsPlacedName}
use Rattle.sfi_rewrite.proofs.names.place_names.Given as goal

abbrev pub invariant-loop-place : goal.invariant-loop-place
invariant-loop-place l = AllZip (IsPlacedName l.part.format l.part.items) (take l.place (named l.part)) l.names.items
