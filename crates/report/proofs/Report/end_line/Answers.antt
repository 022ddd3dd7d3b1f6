-- `report::Report::end_line` meets its contract. Assumes nothing.
use mathlib.Core.Path.{sym, subst}
use Rattle.report.specs.Inner.{Limited}
use Rattle.report.proofs.Limited.{scan_limited}
use Rattle.report.proofs.Report.end_line.Goals as goal

pub line-printed-requires : goal.line-printed-requires
line-printed-requires c = subst Limited (sym c.line.ensures) (scan_limited c.args.self.scan)
