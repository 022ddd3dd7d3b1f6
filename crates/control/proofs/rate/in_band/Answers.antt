-- `control::rate::in_band` meets its contract: the code makes the definition's two tests. Assumes nothing.
use Rattle.arith.proofs.Tests.{tests}
use Rattle.control.proofs.rate.in_band.Goals as goal

pub returns-then-b-rate : goal.returns-then-b-rate
returns-then-b-rate c = search tests

pub returns-else-b-rate : goal.returns-else-b-rate
returns-else-b-rate c = search tests
