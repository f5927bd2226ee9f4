-- What holds of sandboxes at other places, and beside those of another image: the laws, for proofs in the crates above.
use Rattle.sfi_places.specs.Moving.{FindingsArePlaceless, CleanIsPlaceless, MovedIsRight, AcceptedMoves, OneMoves}
use Rattle.sfi_places.specs.Beside.{BesideIsAsOne, BesideByPairs, RightAreBeside, ChangesBesideAreOthers, StepsBesideAreChanges}
use Rattle.sfi_places.proofs.Relaid as beside
use Rattle.sfi_places.proofs.Neighbours as neighbours
use Rattle.sfi_places.proofs.Moves as moves
use Rattle.sfi_places.proofs.Placeless as moving

pub findings_are_placeless : FindingsArePlaceless
findings_are_placeless = moving.findings_are_placeless

pub clean_is_placeless : CleanIsPlaceless
clean_is_placeless = moving.clean_is_placeless

pub moved_is_right : MovedIsRight
moved_is_right = beside.moved_is_right

pub accepted_moves : AcceptedMoves
accepted_moves = beside.accepted_moves

pub one_moves : OneMoves
one_moves = moves.one_moves

pub beside_is_as_one : BesideIsAsOne
beside_is_as_one = beside.beside_is_as_one

pub beside_by_pairs : BesideByPairs
beside_by_pairs = beside.beside_by_pairs

pub right_are_beside : RightAreBeside
right_are_beside = neighbours.right_are_beside

pub changes_beside_are_others : ChangesBesideAreOthers
changes_beside_are_others = neighbours.are_others

pub steps_beside_are_changes : StepsBesideAreChanges
steps_beside_are_changes = neighbours.steps_are_changes
