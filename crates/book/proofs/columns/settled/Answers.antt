-- `book::columns::settled` meets its contract. Assumes nothing.
use Rattle.std.proofs.Common.{◌≡◌, ℕ, Bool, true, false, ◌&&◌, leb, sym, ap, ◌∙◌, arith, leb-true}
use Rattle.arith.specs.Tests.{every}
use Rattle.arith.proofs.Tests.{&&-left, &&-right}
use Rattle.book.specs.declared.places.Parts.{Parts}
use Rattle.book.specs.Book.{level_taps, decimation_taps}
use Rattle.book.specs.Check.{coefficients_in_range, tap_sum, sums_in_range, words_in_range, phase_sum}
use Rattle.book.proofs.ColumnBounds.{settled}
use Rattle.book.proofs.Whole.{array}
use Rattle.book.proofs.columns.settled.Goals as goal
use Rattle.book.proofs.columns.settled.Goals.{then-impulses_settled, else-impulses_settled}

abbrev level : Parts → Bool
level p = leb (tap_sum (level_taps p.words.now)) 32767

abbrev decimation : Parts → Bool
decimation p = leb (tap_sum (decimation_taps p.words.now)) 32767

-- a test that holds did not fail
clash : {v r s : Bool} → v ≡ true → v ≡ r → r ≡ false → s ≡ true
clash e f g = let z : ◌≡◌ {A = ℕ} 0 1 = cc in absurd (omega arith)

-- what the bounds and the sums of taps settle
ranged : (p : Parts) {r : Bool} → (r ≡ true → (words_in_range p.words.now 5 (array p) ≡ true) × (every p.sizes.phases (λ q. leb (phase_sum p.words.now q) 65536) ≡ true)) → r ≡ true → level p && decimation p ≡ true
    → (coefficients_in_range p.words.now ≡ true) × (sums_in_range p.words.now ≡ true)
ranged p ranges e both =
    let b = p.words.now in
    settled b (ap (λ s. s.phases) p.read) (ap (λ s. s.taps) p.read) p.long (ranges e) (leb-true (tap_sum (level_taps b)) 32767 (&&-left (level p) (decimation p) both)) (leb-true (tap_sum (decimation_taps b)) 32767 (&&-right (level p) (decimation p) both))

pub differences_right-requires-clause-in_range : goal.differences_right-requires-clause-in_range
differences_right-requires-clause-in_range c =
    let p = c.args.book.now in
    elim c.if-impulses_settled.branch [
      | then-impulses_settled w ↦ (ranged p c.impulses_settled.ensures.ranges w.if-impulses_settled.true (sym w.tap_sums_within.ensures ∙ sym w.value-is ∙ c.if-tap_sums_within.true)).0
      | else-impulses_settled w ↦ clash c.if-tap_sums_within.true w.value-is w.if-impulses_settled.false
    ]

pub returns-then-tap_sums_within : goal.returns-then-tap_sums_within
returns-then-tap_sums_within c h =
    let p = c.args.book.now in
    let right = sym c.differences_right.ensures ∙ h in
    elim c.if-impulses_settled.branch [
      | then-impulses_settled w ↦
          let r = ranged p c.impulses_settled.ensures.ranges w.if-impulses_settled.true (sym w.tap_sums_within.ensures ∙ sym w.value-is ∙ c.if-tap_sums_within.true) in
          (r.0, r.1, right)
      | else-impulses_settled w ↦ (clash c.if-tap_sums_within.true w.value-is w.if-impulses_settled.false, clash c.if-tap_sums_within.true w.value-is w.if-impulses_settled.false, right)
    ]
