-- `pair_sums::pair_product` meets its contract: products of two 16-bit numbers, and their sum by the caller's bound, fit in 32 bits.
-- Assumes nothing.
use mathlib.Core.Path.{refl}
use Prim.Native.Nat.{◌+◌}
use native.Mathlib.Omega.{arith}
use lib.IntN.{ℤ, ◌+ℤ◌, ◌*ℤ◌}
use lib.Signed.{nat_abs-le}
use mir.Syntax.{w16, w32}
use mir.Val.{SFits}
use mir.Facts.{sfits_widen}
use Rattle.arith.specs.Lists.{at}
use Rattle.arith.proofs.Bits.{reads, to_z_of_z_from}
use Rattle.arith.proofs.Integers.{abs-*-≤, abs_fits}
use Rattle.pair_sums.proofs.pair_product.Goals as goal
use Rattle.pair_sums.proofs.pair_product.Goals.{After-result-4-1, Start}

product-fits : (x y : ℤ) → SFits w16 x → SFits w16 y → SFits w32 (x *ℤ y)
product-fits x y f g = abs_fits w32 (x *ℤ y) (omega (arith, abs-*-≤ x y {m = 32768} {n = 32768} (nat_abs-le x f.sfits) (nat_abs-le y g.sfits)))

module _ (c : After-result-4-1) where
  abbrev s : Start
  s = c.before.before.before.before

  abbrev tap : ℤ
  tap = at s.args.rows.now s.args.r

  abbrev word : ℤ
  word = at s.args.words.now s.args.i

  abbrev next_tap : ℤ
  next_tap = at s.args.rows.now (s.args.r + 1)

  abbrev next_word : ℤ
  next_word = at s.args.words.now (s.args.i + 1)

  tap_fits : SFits w16 tap
  tap_fits = record { sfits = c.before.before.before.result-1.given }

  word_fits : SFits w16 word
  word_fits = record { sfits = c.before.before.result-2-1.given }

  next_tap_fits : SFits w16 next_tap
  next_tap_fits = record { sfits = c.before.result-3-1.given }

  next_word_fits : SFits w16 next_word
  next_word_fits = record { sfits = c.result-4-1.given }

  first : SFits w32 (tap *ℤ word)
  first = product-fits tap word tap_fits word_fits

  second : SFits w32 (next_tap *ℤ next_word)
  second = product-fits next_tap next_word next_tap_fits next_word_fits

  both : SFits w32 (tap *ℤ word +ℤ next_tap *ℤ next_word)
  both = abs_fits w32 (tap *ℤ word +ℤ next_tap *ℤ next_word) (omega (arith, s.requires.small))

pub overflow_cast-result : goal.overflow_cast-result
overflow_cast-result c = let f : SFits w16 (at c.before.args.rows.now c.before.args.r) = record { sfits = c.result-1.given } in simp (reads, f) (sfits_widen tt f)

pub overflow_cast-result-2 : goal.overflow_cast-result-2
overflow_cast-result-2 c =
    let s = c.before.before in
    let f : SFits w16 (at s.args.words.now s.args.i) = record { sfits = c.result-2-1.given } in simp (reads, f) (sfits_widen tt f)

pub overflow_mul-result : goal.overflow_mul-result
overflow_mul-result c =
    let s = c.before.before in
    let f : SFits w16 (at s.args.rows.now s.args.r) = record { sfits = c.before.result-1.given } in
    let g : SFits w16 (at s.args.words.now s.args.i) = record { sfits = c.result-2-1.given } in
    simp (reads, to_z_of_z_from w16, f, g) (product-fits _ _ f g)

pub overflow_cast-result-3 : goal.overflow_cast-result-3
overflow_cast-result-3 c =
    let s = c.before.before.before in
    let f : SFits w16 (at s.args.rows.now (s.args.r + 1)) = record { sfits = c.result-3-1.given } in simp (reads, f) (sfits_widen tt f)

pub overflow_cast-result-4 : goal.overflow_cast-result-4
overflow_cast-result-4 c = simp (reads, next_word_fits c) (sfits_widen tt (next_word_fits c))

pub overflow_mul-result-2 : goal.overflow_mul-result-2
overflow_mul-result-2 c = simp (reads, to_z_of_z_from w16, next_tap_fits c, next_word_fits c) (second c)

pub overflow_add-result-3 : goal.overflow_add-result-3
overflow_add-result-3 c = simp (reads, to_z_of_z_from w16, tap_fits c, word_fits c, next_tap_fits c, next_word_fits c, first c, second c) (both c)

pub returns : goal.returns
returns c = simp (reads, to_z_of_z_from w16, tap_fits c, word_fits c, next_tap_fits c, next_word_fits c, first c, second c, both c) refl
