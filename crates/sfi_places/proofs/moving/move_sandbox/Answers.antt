use Rattle.sfi_places.proofs.Moves.{only_moved, only_fault, accepted}
use Rattle.sfi_places.proofs.moving.move_sandbox.Goals as goal

pub returns-clause-only_moved : goal.returns-clause-only_moved
returns-clause-only_moved c = only_moved c.args.image.now c.try_move.new.image c.args.number c.args.to c.try_move.result c.try_move.ensures.moved c.try_move.ensures.fault

pub returns-clause-only_fault : goal.returns-clause-only_fault
returns-clause-only_fault c = only_fault c.args.image.now c.try_move.new.image c.args.number c.args.to c.try_move.result c.try_move.ensures.moved c.try_move.ensures.fault

pub returns-clause-accepted : goal.returns-clause-accepted
returns-clause-accepted c = accepted c.args.image.now c.try_move.new.image c.args.number c.args.to c.try_move.result c.try_move.ensures.moved
