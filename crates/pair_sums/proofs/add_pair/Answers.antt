-- `pair_sums::add_pair` meets its contract. Assumes nothing.
use Rattle.std.proofs.Common.{◌≡◌, ap₂, ◌∙◌, ℕ, ◌+◌, ◌<◌, ℤ, ◌+ℤ◌, List, length, set, arith, le_refl, length-set}
use native.Mathlib.Decide.{ℕ_discrete}
use mir.Syntax.{w32}
use mir.Val.{SFits}
use Rattle.arith.specs.Lists.{at}
use Rattle.arith.proofs.Bits.{reads}
use Rattle.arith.proofs.Integers.{abs_fits}
use Rattle.pair_sums.specs.Pairs.{pair_product}
use Rattle.pair_sums.proofs.Pairs.{added_same, added_other}
use Rattle.pair_sums.proofs.add_pair.Goals as goal

-- with a pair more at j
more : (sums last : List ℤ) (j : ℕ) (v w : ℤ) (before product : ℕ → ℤ) → j < length sums → j < length last → v +ℤ w ≡ before j +ℤ product j
    → ((i : ℕ) → i < j → at sums i +ℤ at last i ≡ before i +ℤ product i) → (i : ℕ) → i < j + 1 → at (set sums j v) i +ℤ at (set last j w) i ≡ before i +ℤ product i
more sums last j v w before product l k here below i m = go (ℕ_discrete i j)
  where
    go : Dec (i ≡ j) → at (set sums j v) i +ℤ at (set last j w) i ≡ before i +ℤ product i
    go (yes p) = rw p (added_same sums last j v w l k ∙ here)
    go (no n) = added_other sums last j v w i n ∙ below i (omega arith)

pub loop-j-preserved : goal.loop-j-preserved
loop-j-preserved c =
    let j = c.loop-j.j in
    let sums = c.loop-j.sums in
    let last = c.loop-j.last in
    let made = c.pair_product.result in
    let before : ℕ → ℤ = λ i. at c.args.sums.now i +ℤ at c.args.last.now i in
    let product : ℕ → ℤ = λ i. pair_product c.args.rows.now c.args.words.now c.args.place c.args.k i in
    let value : ℤ = at sums j +ℤ at last j in
    let f : SFits w32 (at sums j) = record { sfits = omega arith } in
    let g : SFits w32 (at last j) = record { sfits = omega arith } in
    let value_is : value ≡ before j = c.loop-j.invariant.3 j (le_refl j) (omega arith) in
    let h : SFits w32 value = rw value_is (abs_fits w32 (before j) (omega (arith, (c.requires.small j (omega arith)).0))) in
    let m : SFits w32 made = record { sfits = c.pair_product.type_inv } in (
      simp length-set c.loop-j.invariant.0,
      simp length-set c.loop-j.invariant.1,
      simp (reads, f, g, h, m) (λ i l. more sums last j value made before product (omega arith) (omega arith) (ap₂ ◌+ℤ◌ value_is c.pair_product.ensures) c.loop-j.invariant.2 i l),
      simp (reads, f, g, h, m) (λ i l k. added_other sums last j value made i (λ e. omega (arith, e)) ∙ c.loop-j.invariant.3 i (omega arith) k),
    )
