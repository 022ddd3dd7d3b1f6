-- `octave::sum_around` meets its contract. Assumes nothing.
use Rattle.std.proofs.Common.{◌≡◌, sym, ℕ, ◌+◌, ◌^◌, ◌≤◌, List, ℤ, pos, nat_abs, ◌+ℤ◌, ◌-ℤ◌, ◌*ℤ◌, arith}
use mir.Syntax.{w32, w64}
use mir.Val.{SFits}
use mir.Facts.{sfits_widen}
use Rattle.arith.specs.Lists.{at}
use Rattle.arith.proofs.Bits.{reads}
use Rattle.arith.proofs.Lists.{word_at_bound}
use Rattle.book.proofs.Around.{around, around_more, around_fits, word_fits, pair_fits, tap_fits, tapped_fits}
use Rattle.octave.proofs.sum_around.Goals as goal
use Rattle.octave.proofs.sum_around.Goals.{After-word_after}

-- after the calls in a turn
module _ (c : After-word_after) where
  abbrev level : List ℤ
  level = c.args.plan.now.level.now

  abbrev taps : List ℤ
  taps = c.args.plan.now.taps.words.now

  small : (i : ℕ) → nat_abs (at level i) ≤ 2 ^ 29
  small i = omega (arith, c.args.plan.now.small i)

  abbrev k : ℕ
  k = c.loop-k.k

  abbrev left : ℤ
  left = c.word_before.result

  abbrev right : ℤ
  right = c.word_after.result

  tap : SFits w32 (at taps k)
  tap = tap_fits taps c.args.plan.now.taps.bounded k c.loop-k-test.true

  wide_tap : SFits w64 (at taps k)
  wide_tap = sfits_widen tt tap

  left_small : nat_abs left ≤ 2 ^ 29
  left_small = rw c.word_before.ensures (word_at_bound level (2 ^ 29) small (pos c.args.centre -ℤ pos k))

  right_small : nat_abs right ≤ 2 ^ 29
  right_small = rw c.word_after.ensures (word_at_bound level (2 ^ 29) small (pos c.args.centre +ℤ pos k))

  left_fits : SFits w64 left
  left_fits = sfits_widen tt (word_fits left left_small)

  right_fits : SFits w64 right
  right_fits = sfits_widen tt (word_fits right right_small)

  pair : SFits w64 (left +ℤ right)
  pair = pair_fits left right left_small right_small

  product : SFits w64 (at taps k *ℤ (left +ℤ right))
  product = tapped_fits taps c.args.plan.now.taps.bounded k c.loop-k-test.true left right left_small right_small

  more : around taps level c.args.centre (k + 1) ≡ around taps level c.args.centre k +ℤ at taps k *ℤ (left +ℤ right)
  more = around_more taps level c.args.centre k (omega arith) c.word_before.ensures c.word_after.ensures

  one_more : SFits w64 (around taps level c.args.centre k +ℤ at taps k *ℤ (left +ℤ right))
  one_more = rw (← more) (around_fits taps c.args.plan.now.taps.bounded level c.args.centre small (k + 1) (omega arith))

pub overflow_add-sum : goal.overflow_add-sum
overflow_add-sum c = simp (reads, left_fits c, right_fits c) (pair c)

pub overflow_mul-sum : goal.overflow_mul-sum
overflow_mul-sum c = simp (reads, tap c, wide_tap c, left_fits c, right_fits c, pair c) (product c)

pub overflow_add-sum-in-loop-k : goal.overflow_add-sum-in-loop-k
overflow_add-sum-in-loop-k c = simp (c.loop-k.invariant, reads, tap c, wide_tap c, left_fits c, right_fits c, pair c, product c) (one_more c)

pub loop-k-preserved : goal.loop-k-preserved
loop-k-preserved c = simp (c.loop-k.invariant, reads, tap c, wide_tap c, left_fits c, right_fits c, pair c, product c, one_more c) (sym (more c))
