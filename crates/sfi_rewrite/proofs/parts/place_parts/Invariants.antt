use Rattle.sfi_rewrite.proofs.Prelude.{All, AllZip, take, IsPlacedPart, IsRewritten}
use Rattle.sfi_rewrite.proofs.parts.place_parts.Given as goal

abbrev pub invariant-loop-number : goal.invariant-loop-number
invariant-loop-number l = record {
  rewritten : AllZip IsRewritten (take l.number l.parts) l.placed.items;
  right : All IsPlacedPart l.placed.items;
}
