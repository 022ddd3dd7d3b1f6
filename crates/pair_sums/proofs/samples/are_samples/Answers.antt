-- `pair_sums::samples::are_samples` meets its contract. Assumes nothing.
use mathlib.Core.Path.{◌≡◌}
use Prim.Native.Nat.{ℕ, suc, ◌+◌, ◌%◌, ◌≤◌, ◌<◌, ◌^◌}
use native.Mathlib.Nat.{le_trans}
use native.Mathlib.Decide.{ℕ_discrete, dec_le}
use native.Mathlib.Omega.{arith}
use borrow.Author.Tests.{eqb-true}
use lib.Bits.{bit_or, or_lt}
use Rattle.std.proofs.Common.{List, length, nat_abs}
use Rattle.std.proofs.lemmas.Int.{ints}
use lib.IntN.{ℤ, pos, ◌+ℤ◌, ◌*ℤ◌}
use mir.Syntax.{w32}
use mir.Val.{Fits, SFits, of_z, to_z}
use mir.Facts.{Fits-of_z, of_z-to_z, to_z_pos}
use Rattle.arith.specs.Lists.{at}
use Rattle.arith.proofs.Bits.{reads}
use Rattle.arith.proofs.Integers.{abs_triangle, abs_fits}
use Rattle.arith.proofs.Linear.{lt_no}
use Rattle.arith.proofs.Lists.{at_outside}
use Rattle.pair_sums.specs.Pairs.{sample_part, Samples}
use Rattle.pair_sums.proofs.SampleBits.{or_holds, or_holds_last, or_clear, or_clear_last, bits_low, sample_is, sample_none}
use Rattle.pair_sums.proofs.samples.are_samples.Goals as goal

module _ (words : List ℤ) (small : (k : ℕ) → nat_abs (at words k) ≤ 2 ^ 26) where
  abbrev raised : ℕ → ℤ
  raised k = at words k +ℤ pos 8388608

  raised_fits : (k : ℕ) → SFits w32 (raised k)
  raised_fits k = abs_fits w32 (raised k) (omega (arith, abs_triangle (at words k) (pos 8388608), small k))

  -- the bits of the words below i, and of one more
  module _ (i bits : ℕ) (fits : Fits w32 bits) (below : (k : ℕ) → k < i → of_z w32 (raised k) ≤ bits) (clear_below : (k : ℕ) → k < i → bits % 256 ≡ 0 → of_z w32 (raised k) % 256 ≡ 0) where
    abbrev all : ℕ
    all = bit_or bits (of_z w32 (raised i))

    all_read : of_z w32 (to_z w32 all) ≡ all
    all_read = of_z-to_z {w = w32} (record { fits = or_lt 32 bits (of_z w32 (raised i)) (omega (arith, fits)) (omega (arith, Fits-of_z (raised_fits i))) })

    more : ((k : ℕ) → k < i + 1 → of_z w32 (raised k) ≤ all) × ((k : ℕ) → k < i + 1 → all % 256 ≡ 0 → of_z w32 (raised k) % 256 ≡ 0)
    more = ((λ k l. held k l (ℕ_discrete k i)), (λ k l e. clear k l e (ℕ_discrete k i)))
      where
        held : (k : ℕ) → k < i + 1 → Dec (k ≡ i) → of_z w32 (raised k) ≤ all
        held k l (yes e) = rw e (or_holds_last bits (of_z w32 (raised i)))
        held k l (no n) = le_trans (below k (omega arith)) (or_holds bits (of_z w32 (raised i)))

        clear : (k : ℕ) → k < i + 1 → all % 256 ≡ 0 → Dec (k ≡ i) → of_z w32 (raised k) % 256 ≡ 0
        clear k l z (yes e) = rw e (or_clear_last bits (of_z w32 (raised i)) z)
        clear k l z (no n) = clear_below k (omega arith) (or_clear bits (of_z w32 (raised i)) z)

  -- past the end there are zeros
  samples : (bits : ℕ) → bits < 16777216 → bits % 256 ≡ 0 → ((k : ℕ) → k < length words → of_z w32 (raised k) ≤ bits) → ((k : ℕ) → k < length words → bits % 256 ≡ 0 → of_z w32 (raised k) % 256 ≡ 0)
      → Samples words
  samples bits low clear below clear_below k = go (dec_le (suc k) (length words))
    where
      go : Dec (k < length words) → at words k ≡ pos 256 *ℤ sample_part (at words k)
      go (yes l) = sample_is (at words k) (raised_fits k) (omega (arith, below k l)) (clear_below k l clear)
      go (no l) = rw (at_outside words k (omega arith)) sample_none

pub loop-word-preserved : goal.loop-word-preserved
loop-word-preserved c =
    let words = c.args.words.now in
    let i = c.loop-word.word-index in
    let bits = c.loop-word.bits-bits in
    let f : SFits w32 (at words i) = record { sfits = omega arith } in
    let read = of_z-to_z c.loop-word.auto.bits in
    let below = rw read at c.loop-word.invariant.0 in
    let clear = rw read at c.loop-word.invariant.1 in
    let m = more words c.requires i bits c.loop-word.auto.bits below clear in
    let a = all_read words c.requires i bits c.loop-word.auto.bits below clear in
    (simp (reads, f, a) m.0, simp (reads, f, a) m.1)

pub returns : goal.returns
returns c r =
    let bits = c.loop-word.bits-bits in
    let read = of_z-to_z c.loop-word.auto.bits in
    let low : bits < 16777216 = bits_low bits c.loop-word.auto.bits (lt_no c.if-bits-lt0.false) (grind (arith, ints)) in
    let e : to_z w32 bits ≡ pos bits = to_z_pos w32 (omega arith) in
    let clear : bits % 256 ≡ 0 = eqb-true (bits % 256) 0 (rw e at r) in
    samples c.args.words.now c.requires bits low clear (λ k l. (rw read at c.loop-word.invariant.0) k (omega arith)) (λ k l. (rw read at c.loop-word.invariant.1) k (omega arith))
