use Rattle.sfi_image.proofs.Prelude.{ℕ, ◌≤◌, ◌↔◌, All, take}
use Rattle.sfi_image.specs.Spelling.{ends_below}
use Rattle.sfi_image.proofs.zones.largest_end.Given as goal

abbrev pub invariant-loop-number : goal.invariant-loop-number
invariant-loop-number l = (most : ℕ) → (l.largest ≤ most) ↔ All (λ end. end ≤ most) (take l.number (ends_below l.spans))
