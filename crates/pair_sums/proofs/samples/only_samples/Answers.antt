-- `pair_sums::samples::only_samples` meets its contract. Assumes nothing.
use Rattle.std.proofs.Common.{◌≡◌, sym, subst, ℕ, zero, suc, ◌≤◌, ◌^◌, List, [], ◌∷◌, ◌++◌, length, ℤ, nat_abs, arith}
use Rattle.std.specs.Slice.Iter.{chunks_rest}
use Rattle.arith.specs.Lists.{at}
use Rattle.arith.proofs.Lists.{at_outside}
use Rattle.pair_sums.specs.Pairs.{Samples}
use Rattle.pair_sums.proofs.SampleBits.{sample_none}
use Rattle.pair_sums.proofs.samples.only_samples.Goals as goal

-- samples in front and behind
both : (xs ys : List ℤ) → Samples xs → Samples ys → Samples (xs ++ ys)
both [] ys front back k = back k
both (x ∷ xs) ys front back zero = front 0
both (x ∷ xs) ys front back (suc k) = both xs ys (λ i. front (suc i)) back k

behind : (P : ℤ → Type 0) (xs ys : List ℤ) → ((k : ℕ) → P (at (xs ++ ys) k)) → (k : ℕ) → P (at ys k)
behind P [] ys all k = all k
behind P (x ∷ xs) ys all k = behind P xs ys (λ i. all (suc i)) k

none_left : (xs : List ℤ) → length xs ≡ 0 → Samples xs
none_left xs e k = rw (at_outside xs k (omega arith)) sample_none

pub loop-words-preserved : goal.loop-words-preserved
loop-words-preserved c =
    let e = c.in-Some.ensures.steps.1.0 in (
      behind (λ x. nat_abs x ≤ 2 ^ 26) c.in-Some.words.now (chunks_rest c.next.new.self) (λ k. subst (λ z. nat_abs (at z k) ≤ 2 ^ 26) e (c.loop-words.invariant.0 k)),
      λ back. c.loop-words.invariant.1 (subst Samples (sym e) (both c.in-Some.words.now (chunks_rest c.next.new.self) (c.are_samples.ensures c.if-not-are_samples.false) back)),
    )

pub returns : goal.returns
returns c e = c.loop-words.invariant.1 (none_left (chunks_rest c.loop-words.words-iterator) c.in-None.ensures.steps.1.0)
