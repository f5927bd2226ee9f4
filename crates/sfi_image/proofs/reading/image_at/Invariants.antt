use Rattle.sfi_image.proofs.Prelude.{ℕ, length, views}
use Rattle.sfi_image.specs.Keeping.{HasPassed, unread}
use Rattle.sfi_image.proofs.reading.image_at.Given as goal

abbrev pub invariant-loop-parts : goal.invariant-loop-parts
invariant-loop-parts l = (n : ℕ) × HasPassed l.bytes l.format n (views l.format l.parts.items) l.cursor

abbrev pub decreases-loop-parts : goal.decreases-loop-parts
decreases-loop-parts l = length (unread l.cursor)
