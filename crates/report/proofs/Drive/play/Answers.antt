-- `report::Drive::play` meets its contract. Assumes nothing.
use mathlib.Core.Path.{◌≡◌, ap, ◌∙◌}
use lib.IntN.{pos}
use Rattle.std.proofs.lemmas.List.{take-replicate}
use Rattle.player.specs.Calls.{played_of, play_answer}
use Rattle.report.specs.Report.{line_report}
use Rattle.report.specs.Inner.{silent, drive_line}
use Rattle.report.proofs.Plays.{by_count}
use Rattle.report.proofs.Drive.play.Goals as goal

pub returns : goal.returns
unfolding drive_line line_report
returns c =
    let a = c.args in
    let answered : played_of c.play-answer.result _ ≡ play_answer a.lent.book.now a.lent.store.now a.self.voice (silent a.count) =
    c.play-answer.ensures ∙ ap (play_answer a.lent.book.now a.lent.store.now a.self.voice) (take-replicate a.count 4096 (pos 0) c.requires) in
    rw (← by_count a.lent.book.now a.lent.store.now a.self.voice c.play-answer.result a.self.plays a.count _ answered) c.after_play.ensures
