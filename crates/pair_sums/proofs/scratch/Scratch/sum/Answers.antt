-- `Scratch::sum` meets its contract: what is rounded is small. Assumes nothing.
use Rattle.std.proofs.Common.{◌≡◌, subst, List, ℕ, ◌+◌, ◌*◌, ◌/◌, ◌%◌, ◌<◌, ◌≤◌, ℤ, nat_abs, arith, le_refl}
use Rattle.arith.specs.Lists.{at}
use Rattle.pair_sums.specs.declared.places.Places.{Places}
use Rattle.pair_sums.specs.Forms.{line_at, SmallAt, SmallIn}
use Rattle.pair_sums.specs.declared.scratch.Form.TheVariants.{TwoParts, OnePart}
use Rattle.pair_sums.proofs.scratch.Scratch.sum.Goals as goal

-- sums over words that are small, as they stand in line
sums_small : (rows : List ℤ) (places : Places) (words sums : List ℤ) (c : ℕ) → SmallAt rows places words c
    → ((p j : ℕ) → p < 4 → j < 16 → at sums (16 * p + j) ≡ line_at rows places words p j) → (t : ℕ) → t < 64 → nat_abs (at sums t) ≤ c
sums_small rows places words sums c small are t l =
    let p = t / 16 in
    let j = t % 16 in
    let lp : p < 4 = omega arith in
    let lj : j < 16 = omega arith in
    let e : 16 * p + j ≡ t = omega arith in
    subst (λ i. nat_abs (at sums i) ≤ c) e (rw (are p j lp lj) (small.0 p places.pairs j lp (le_refl places.pairs) lj))

pub round_parts-requires : goal.round_parts-requires
round_parts-requires c =
    let small : SmallIn TwoParts c.args.rows.now c.args.places c.args.self.now.high c.args.self.now.low = rw c.in-TwoParts.is at c.requires in
    λ t l. (sums_small _ c.args.places _ _ _ small.0 c.all_sums.ensures t l, sums_small _ c.args.places _ _ _ small.1 c.all_sums-in-TwoParts.ensures t l)

pub round_samples-requires : goal.round_samples-requires
round_samples-requires c =
    let small : SmallIn OnePart c.args.rows.now c.args.places c.args.self.now.high c.args.self.now.low = rw c.in-OnePart.is at c.requires in
    sums_small _ c.args.places _ _ _ small c.all_sums.ensures
