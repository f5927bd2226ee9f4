use Rattle.sfi_image.proofs.Prelude.{ℕ, List, [], Part, after_gates}
use Rattle.sfi_image.specs.Keeping.{HasRead}
use Rattle.sfi_image.proofs.CursorSteps.{GatesTaken}
use Rattle.sfi_image.proofs.cursor.ImageCursor.take_gates.Given as goal

abbrev pub invariant-loop : goal.invariant-loop
invariant-loop l = (bytes : List ℕ) (n : ℕ) (ps : List Part) → HasRead bytes (after_gates n ps l.fields []) l.initial.self → GatesTaken bytes n ps l.fields l.counter l.all l.self
