-- `control::moves::glide_after` meets its contract: the code makes the definition's test. Assumes nothing.
use Rattle.arith.proofs.Tests.{tests}
use Rattle.control.specs.Moves.{glide_after}
use Rattle.control.proofs.moves.glide_after.Goals as goal

pub returns-then-j-g : goal.returns-then-j-g
unfolding glide_after
returns-then-j-g c = search tests

pub returns : goal.returns
unfolding glide_after
returns c = search tests
