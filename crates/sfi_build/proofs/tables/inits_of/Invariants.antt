use Rattle.sfi_link.proofs.Prelude.{◌≡◌, ℕ, List, length, map, take, drop, contents, each_with}
use Rattle.sfi_build.specs.Tables.{tails_from, sandbox_with}
use Rattle.sfi_build.proofs.Making.{after}
use Rattle.sfi_build.proofs.tables.inits_of.Given as goal

-- the first sandboxes have their first data bytes, with tails which those of the rest follow
abbrev pub invariant-loop-sandbox : goal.invariant-loop-sandbox
invariant-loop-sandbox l =
    (tails : List (List ℕ)) × (length tails ≡ l.sandbox)
    × (tails_from l.places l.placed 0 l.shared l.parts ≡ after tails (tails_from l.places l.placed l.sandbox (drop l.sandbox l.shared) (drop l.sandbox l.parts)))
    × (contents l.inits.items ≡ map (λ s. s.bytes) (each_with sandbox_with tails (take l.sandbox l.parts)))
