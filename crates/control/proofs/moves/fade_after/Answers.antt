-- `control::moves::fade_after` meets its contract: the code makes the definition's test. Assumes nothing.
use Rattle.arith.proofs.Tests.{tests}
use Rattle.control.specs.Moves.{fade_after}
use Rattle.control.proofs.moves.fade_after.Goals as goal

pub returns-then-p-fade : goal.returns-then-p-fade
unfolding fade_after
returns-then-p-fade c = search tests

pub returns : goal.returns
unfolding fade_after
returns c = search tests
