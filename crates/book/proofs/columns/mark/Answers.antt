-- `book::columns::mark` meets its contract. Assumes nothing.
use Rattle.std.proofs.Common.{rules, ◌≡◌, ℕ, ◌<◌, ◌≤◌, true, length, ℤ, ◌-ℤ◌, nat_abs, sym, ◌∙◌, arith, w16, w32, SFits}
use Rattle.arith.specs.Lists.{at}
use Rattle.arith.proofs.Bits.{reads}
use Rattle.arith.proofs.Tests.{eq_z_true}
use Rattle.book.specs.Columns.{Tested}
use Rattle.book.proofs.ColumnBounds.{kept_tested, tested_more, raised_more, raised_set, raised_next}
use Rattle.book.proofs.columns.mark.Goals as goal

pub loop-k-preserved : goal.loop-k-preserved
loop-k-preserved c =
    let l = c.loop-k in
    let difference : ℕ → ℤ = at c.args.differences.now in
    let next : ℕ → ℤ = at c.args.next.now in
    let from : ℕ → ℤ = at c.args.from.now in
    let to-fits : SFits w32 (at c.args.differences.now l.k) = search rules in
    let next_fits : SFits w32 (at c.args.next.now l.k) = search rules in
    let from-fits : SFits w32 (at c.args.from.now l.k) = search rules in
    let old_fits : SFits w16 (at l.bounds l.k) = search rules in
    let fits : SFits w16 c.kept.result = search rules in
    let inside : l.k < length l.bounds = omega arith in
    let rule = simp (reads, to-fits, next_fits, from-fits) at c.follows.ensures in
    let right : c.follows.result ≡ true → nat_abs (next l.k) ≤ 32767 → nat_abs (from l.k) ≤ 32767 → difference l.k ≡ next l.k -ℤ from l.k =
    λ e small low. eq_z_true _ _ (sym (rule (omega arith) (omega arith)) ∙ e) in
    let told = kept_tested c.follows.result old_fits (simp (reads, old_fits) at c.kept.ensures) right in (
      simp (reads, fits) (raised_more l.invariant.0 (raised_set l.bounds l.k c.kept.result inside told.0)),
      simp (reads, fits) (raised_next (λ j x. Tested x (difference j) (next j) (from j)) (λ j x y. tested_more) l.bounds l.k c.kept.result inside told.0 told.1 l.invariant.1),
    )
