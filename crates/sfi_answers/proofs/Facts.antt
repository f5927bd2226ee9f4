-- What holds of what is built and then moved: the laws.
use Rattle.sfi_answers.specs.Laws.{MovedIsLinked, NamesGoAlong}
use Rattle.sfi_answers.proofs.MovedLinks as moves

pub moved_is_linked : MovedIsLinked
moved_is_linked = moves.moved_is_linked

pub names_go_along : NamesGoAlong
names_go_along = moves.names_go_along
