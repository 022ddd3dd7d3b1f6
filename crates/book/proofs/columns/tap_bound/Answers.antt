-- `book::columns::tap_bound` meets its contract. Assumes nothing.
use Rattle.std.proofs.Common.{rules, ◌≡◌, ℕ, ◌+◌, ◌*◌, ◌≤◌, true, false, List, ℤ, pos, negsuc, nat_abs, refl, ◌∙◌, ap₂, arith, w16, SFits, to_z, of_z}
use Rattle.std.specs.Int.{int_max}
use lib.Signed.{lt_z}
use Rattle.arith.specs.Lists.{at}
use Rattle.arith.proofs.Bits.{reads}
use Rattle.arith.proofs.Linear.{linear}
use Rattle.book.specs.Columns.{tap_bound}
use Rattle.book.proofs.columns.tap_bound.Goals as goal

-- the bound of tap k in all four phases
abbrev largest : List ℤ → ℕ → ℕ → ℤ
largest bounds taps k = int_max (int_max (at bounds k) (at bounds (taps + k))) (int_max (at bounds (2 * taps + k)) (at bounds (3 * taps + k)))

-- the code takes it in three steps; each number fits
steps : (b0 b1 b2 b3 x y z : ℤ) → SFits w16 b0 → SFits w16 b1 → SFits w16 b2 → SFits w16 b3 → SFits w16 x → SFits w16 y
    → x ≡ int_max (to_z w16 (of_z w16 b0)) (to_z w16 (of_z w16 b1)) → y ≡ int_max (to_z w16 (of_z w16 b2)) (to_z w16 (of_z w16 b3)) → z ≡ int_max (to_z w16 (of_z w16 x)) (to_z w16 (of_z w16 y))
    → z ≡ int_max (int_max b0 b1) (int_max b2 b3)
steps b0 b1 b2 b3 x y z f0 f1 f2 f3 g h p q r = (simp (reads, g, h) at r) ∙ ap₂ int_max (simp (reads, f0, f1) at p) (simp (reads, f2, f3) at q)

fits_small : (z : ℤ) → SFits w16 z → nat_abs z ≤ 32768
fits_small (pos n) f = omega (arith, simp linear at f)
fits_small (negsuc n) f = omega (arith, simp linear at f)

bounds_tap : (bounds : List ℤ) (taps k : ℕ) (z : ℤ) → z ≡ largest bounds taps k → SFits w16 z → lt_z z (pos 32767) ≡ true → (nat_abs z + 1 ≡ tap_bound bounds taps k) × (nat_abs z + 1 ≤ 65537)
unfolding tap_bound
bounds_tap bounds taps k z e f l = (rw (← e, l) refl, omega (arith, fits_small z f))

bounds_nothing : (bounds : List ℤ) (taps k : ℕ) (z : ℤ) → z ≡ largest bounds taps k → lt_z z (pos 32767) ≡ false → 65537 ≡ tap_bound bounds taps k
unfolding tap_bound
bounds_nothing bounds taps k z e l = rw (← e, l) refl

pub returns-then-bound-lt32767 : goal.returns-then-bound-lt32767
returns-then-bound-lt32767 c =
    let fits : SFits w16 c.max-bound.result = search rules in
    let b = c.args.bounds.now in
    let n = c.args.taps in
    let k = c.args.k in
    let is = steps (at b k) (at b (n + k)) (at b (2 * n + k)) (at b (3 * n + k)) c.max-first.result c.max-second.result c.max-bound.result (search rules) (search rules) (search rules) (search rules) (search rules) (search rules) c.max-first.ensures.value c.max-second.ensures.value c.max-bound.ensures.value in
    simp (reads, fits) (bounds_tap c.args.bounds.now c.args.taps c.args.k c.max-bound.result is fits (simp (reads, fits) at c.if-bound-lt32767.true))

pub returns : goal.returns
returns c =
    let fits : SFits w16 c.max-bound.result = search rules in
    let b = c.args.bounds.now in
    let n = c.args.taps in
    let k = c.args.k in
    let is = steps (at b k) (at b (n + k)) (at b (2 * n + k)) (at b (3 * n + k)) c.max-first.result c.max-second.result c.max-bound.result (search rules) (search rules) (search rules) (search rules) (search rules) (search rules) c.max-first.ensures.value c.max-second.ensures.value c.max-bound.ensures.value in
    (bounds_nothing c.args.bounds.now c.args.taps c.args.k c.max-bound.result is (simp (reads, fits) at c.if-bound-lt32767.false), omega arith)
