use Rattle.std.proofs.Common.{◌-◌, length}
use Rattle.sfi_image.specs.Spelling.{view}
use Rattle.sfi_native.proofs.Listed.{AreThere}
use Rattle.sfi_native.proofs.listing.lines_of.Given as goal

-- the units so far are there
abbrev pub invariant-loop-offset : goal.invariant-loop-offset
invariant-loop-offset l = AreThere l.sandbox (view l.fn.format l.part) l.offset l.lines.items

abbrev pub decreases-loop-offset : goal.decreases-loop-offset
decreases-loop-offset l = length l.part.code.now - l.offset
