-- `control::moves::point_plan` meets its contract: the code makes the definition's test. Assumes nothing.
use mathlib.Core.Path.{sym}
use native.Mathlib.Numerals.{add-one}
use Rattle.arith.proofs.Tests.{tests}
use Rattle.control.specs.Moves.{point_plan}
use Rattle.control.proofs.moves.point_plan.Goals as goal

pub returns-then-old-new : goal.returns-then-old-new
unfolding point_plan
returns-then-old-new c = search (tests, sym c.fade_target-new.ensures)

pub returns-else-old-new : goal.returns-else-old-new
unfolding point_plan
returns-else-old-new c = search (tests, add-one, sym c.fade_target-new.ensures)
