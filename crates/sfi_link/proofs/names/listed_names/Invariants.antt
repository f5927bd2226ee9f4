use Rattle.sfi_link.proofs.Prelude.{◌≡◌, ◌++◌, drop, map_from}
use Rattle.sfi_link.proofs.names.listed_names.Given as goal

-- the sandboxes so far are listed, and those that are left complete the list
abbrev pub invariant-loop-number : goal.invariant-loop-number
invariant-loop-number l = l.listed.items ++ map_from l.given l.number l.source (drop l.number l.placed) ≡ map_from l.given 0 l.source l.placed
