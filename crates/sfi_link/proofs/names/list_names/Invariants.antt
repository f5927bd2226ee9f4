use Rattle.sfi_link.proofs.Prelude.{◌≡◌, ◌++◌, map, drop, entries_of}
use Rattle.sfi_link.proofs.names.list_names.Given as goal

-- the names so far are listed, and those that are left complete the list
abbrev pub invariant-loop-place : goal.invariant-loop-place
invariant-loop-place l =
    let texts = map (λ e. e.0) l.names in
    l.listed.items ++ entries_of l.number l.at texts l.place (drop l.place l.placed) ≡ l.initial.listed.items ++ entries_of l.number l.at texts 0 l.placed
