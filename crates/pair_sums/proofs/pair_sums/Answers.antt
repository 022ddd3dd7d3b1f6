-- `pair_sums::pair_sums` meets its contract. Assumes nothing.
use Rattle.std.proofs.Common.{◌≡◌, refl, sym, ap₂, ◌∙◌, List, ℕ, zero, suc, ◌+◌, ◌*◌, ◌≤◌, ◌<◌, ℤ, pos, ◌+ℤ◌, arith, add-one}
use Rattle.arith.specs.Sum.{sum}
use Rattle.arith.proofs.Sum.{sum_more}
use Rattle.pair_sums.specs.Pairs.{pair_product, pair_sum, place_of}
use Rattle.pair_sums.proofs.Pairs.{zeros_at}
use Rattle.pair_sums.proofs.pair_sums.Goals as goal

-- before the first pair
none : (rows words : List ℤ) (a b j : ℕ) → pos 0 +ℤ pos 0 ≡ pair_sum rows words a b 0 j
unfolding sum
none rows words a b j = refl

first : (a b : ℕ) → a ≡ place_of a b 0
unfolding place_of
first a b = refl

next : (a b k : ℕ) → b + 2 * k ≡ place_of a b (k + 1)
unfolding place_of
next a b k = rw add-one refl

place_inside : (a b k pairs : ℕ) → k < pairs → a + 32 ≤ 208 → b + 2 * pairs + 28 ≤ 208 → place_of a b k + 32 ≤ 208
unfolding place_of
place_inside a b zero pairs l m n = m
place_inside a b (suc k) pairs l m n = omega arith

pub loop-k-init : goal.loop-k-init
loop-k-init c = (first c.args.a c.args.b, λ j l. ap₂ ◌+ℤ◌ (zeros_at 16 j) (zeros_at 16 j) ∙ none c.args.rows.now c.args.words.now c.args.a c.args.b j)

pub add_pair-requires-clause-inside : goal.add_pair-requires-clause-inside
add_pair-requires-clause-inside c =
    (rw c.loop-k.invariant.0 (place_inside c.args.a c.args.b c.loop-k.k c.args.pairs (omega arith) c.requires.inside.1 c.requires.inside.2), omega arith)

pub loop-k-preserved : goal.loop-k-preserved
loop-k-preserved c =
    let k = c.loop-k.k in (
      next c.args.a c.args.b k,
      λ j l. c.add_pair.ensures j l
          ∙ ap₂ (λ x y. x +ℤ pair_product c.args.rows.now c.args.words.now y k j) (c.loop-k.invariant.1 j l) c.loop-k.invariant.0
          ∙ sym (sum_more k (λ i. pair_product c.args.rows.now c.args.words.now (place_of c.args.a c.args.b i) i j)),
    )
