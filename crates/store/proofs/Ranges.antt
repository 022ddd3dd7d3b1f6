-- S and T in their ranges, by the tests that the code makes on them as unsigned numbers. Assumes nothing.
use mathlib.Core.Bool.{true, false}
use mathlib.Core.Path.{◌≡◌}
use Prim.Native.Nat.{ℕ, ◌≤◌, ◌<◌}
use native.Mathlib.Omega.{arith}
use borrow.Author.Tests.{le-leb, lt-leb}
use Rattle.std.proofs.Common.{ltb, not}
use Rattle.std.proofs.lemmas.Bool.Decides.{nat_tests}
use lib.IntN.{ℤ, pos, nat_abs}
use Rattle.arith.proofs.Tests.{within_size}
use Rattle.store.specs.Sizes.{samples_in_range, top_in_range}

pub samples_inside : (S : ℕ) → 1 ≤ S → S ≤ 1048576 → samples_in_range (pos S) ≡ true
unfolding samples_in_range
samples_inside S l h = rw (le-leb 1 S l, le-leb S 1048576 h)

pub samples_below : (S : ℕ) → S < 1 → samples_in_range (pos S) ≡ false
unfolding samples_in_range
samples_below S l = rw (lt-leb 1 S l)

pub samples_above : (S : ℕ) → 1048576 < S → samples_in_range (pos S) ≡ false
unfolding samples_in_range
samples_above S h = let l : 1 ≤ S = omega arith in rw (le-leb 1 S l, lt-leb S 1048576 h)

pub top_inside : (T : ℕ) → T ≤ 4 → top_in_range (pos T) ≡ true
unfolding top_in_range
top_inside T h = let l : 0 ≤ T = omega arith in rw (le-leb 0 T l, le-leb T 4 h)

pub top_above : (T : ℕ) → 4 < T → top_in_range (pos T) ≡ false
unfolding top_in_range
top_above T h = let l : 0 ≤ T = omega arith in rw (le-leb 0 T l, lt-leb T 4 h)

pub ruleset ranges = (samples_inside, samples_below, samples_above, top_inside, top_above)

-- and how large they are there, also where they are words of a header

pub samples_high : (S : ℤ) → samples_in_range S ≡ true → nat_abs S ≤ 1048576
unfolding samples_in_range
samples_high S e = (within_size 1 1048576 S e).1

pub top_high : (T : ℤ) → top_in_range T ≡ true → nat_abs T ≤ 4
unfolding top_in_range
top_high T e = (within_size 0 4 T e).1

-- the one test that the code makes on T
pub top_beyond : (T : ℕ) → ltb 4 T ≡ not (top_in_range (pos T))
unfolding top_in_range
top_beyond T = grind (arith, nat_tests)
