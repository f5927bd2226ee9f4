use Rattle.std.proofs.Common.{◌≡◌, List, length}
use Rattle.std.specs.List.{flat_map}
use Rattle.sfi_image.specs.declared.part.Gate.{Gate}
use Rattle.sfi_image.specs.Spelling.{gate}
use Rattle.sfi_places.specs.private.{IsReplaced, GatesGo}
use Rattle.sfi_places.proofs.Writing.{some_moved}
use Rattle.sfi_places.proofs.addresses.move_gates.Given as goal

-- the first `i` gates are moved
abbrev pub invariant-loop-i : goal.invariant-loop-i
invariant-loop-i l =
    (gs : List Gate) → length gs ≡ l.fn.gate_count → GatesGo l.fn.from l.fn.to gs
    → IsReplaced l.initial.image l.image l.fn.offset (flat_map gate gs) (flat_map gate (some_moved l.fn.from l.fn.to gs l.i))
