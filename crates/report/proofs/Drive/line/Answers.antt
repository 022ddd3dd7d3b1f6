-- `report::Drive::line` meets its contract: a number past a cap is refused as the cap is. Assumes nothing.
use native.Mathlib.Omega.{arith}
use Rattle.report.specs.Report.{line_report}
use Rattle.report.specs.Inner.{drive_line}
use Rattle.report.proofs.Limits.{jump_kept, glide_kept}
use Rattle.report.proofs.Drive.line.Goals as goal

pub returns-in-Jump : goal.returns-in-Jump
unfolding drive_line line_report
returns-in-Jump c =
    let kept = jump_kept c.args.self.voice c.in-Jump.a 8192 (omega arith) in
    rw (c.in-Jump.is, ← kept, ← c.rate.ensures, ← c.order.ensures) c.after_answer.ensures

pub returns-in-Glide : goal.returns-in-Glide
unfolding drive_line line_report
returns-in-Glide c =
    let kept = glide_kept c.args.self.voice c.in-Glide.rate c.in-Glide.count 8192 65537 (omega arith) (omega arith) in
    rw (c.in-Glide.is, ← kept, ← c.glide.ensures, ← c.order-in-Glide.ensures) c.after_answer-in-Glide.ensures
