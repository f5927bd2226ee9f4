use Rattle.sfi_image.proofs.Prelude.{◌≡◌, ◌++◌, take, flat_map, Format, views, part}
use Rattle.sfi_image.proofs.writing.write_valid_parts.Given as goal

abbrev pub invariant-loop-one : goal.invariant-loop-one
invariant-loop-one l = (f : Format) → l.bytes.items ≡ l.initial.bytes.items ++ flat_map part (views f (take l.one-index l.parts))
