use Rattle.std.proofs.Common.{◌∙◌, Result, ap}
use Rattle.sfi_places.specs.declared.moving.MoveFault.{MoveFault}
use Rattle.sfi_places.specs.declared.moving.MoveFault.TheVariants.{NoImage, NoSandbox, NoPlace}
use Rattle.sfi_c.specs.Moves.{move_number}
use Rattle.sfi_c.specs.private.{move_said_of}
use Rattle.sfi_c.proofs.moving.sfi_c_move.Goals as goal

pub returns-clause-only_moved : goal.returns-clause-only_moved
returns-clause-only_moved c = λ now moved.
    c.number.ensures ∙ ap move_number c.move_answer_of.ensures ∙ ap (λ (r : Result (Unit {0}) MoveFault). move_number (move_said_of r)) (c.move_sandbox.ensures.only_moved now moved)

pub returns-clause-only_beyond : goal.returns-clause-only_beyond
returns-clause-only_beyond c = λ beyond.
    c.number.ensures ∙ ap move_number c.move_answer_of.ensures ∙ ap (λ (r : Result (Unit {0}) MoveFault). move_number (move_said_of r)) (c.move_sandbox.ensures.only_fault NoSandbox beyond)

pub returns-clause-only_layout : goal.returns-clause-only_layout
returns-clause-only_layout c = λ k fault.
    c.number.ensures ∙ ap move_number c.move_answer_of.ensures ∙ ap (λ (r : Result (Unit {0}) MoveFault). move_number (move_said_of r)) (c.move_sandbox.ensures.only_fault (NoImage k) fault)

pub returns-clause-only_place : goal.returns-clause-only_place
returns-clause-only_place c = λ wrong.
    c.number.ensures ∙ ap move_number c.move_answer_of.ensures ∙ ap (λ (r : Result (Unit {0}) MoveFault). move_number (move_said_of r)) (c.move_sandbox.ensures.only_fault NoPlace wrong)
