-- `control::moves::point_moved` meets its contract: each field is what its call says. Assumes nothing.
use Rattle.control.specs.Moves.{move_point}
use Rattle.control.proofs.moves.point_moved.Goals as goal

pub returns : goal.returns
unfolding move_point
returns c = cc
