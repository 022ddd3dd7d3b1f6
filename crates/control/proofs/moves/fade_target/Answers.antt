-- `control::moves::fade_target` meets its contract: the code makes the definition's test. Assumes nothing.
use Rattle.arith.proofs.Tests.{tests}
use Rattle.control.specs.Moves.{fade_target}
use Rattle.control.proofs.moves.fade_target.Goals as goal

pub returns-then-c-eq0 : goal.returns-then-c-eq0
unfolding fade_target
returns-then-c-eq0 c = search tests

pub returns : goal.returns
unfolding fade_target
returns c = search tests
