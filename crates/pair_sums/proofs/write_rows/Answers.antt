-- `pair_sums::write_rows` meets its contract. Assumes nothing.
use Rattle.std.proofs.Common.{arith, ◌≡◌, ◌∙◌, ℕ, ◌+◌, ◌*◌, ◌<◌, List, ℤ}
use native.Mathlib.Decide.{ℕ_discrete}
use mir.Syntax.{w16}
use mir.Val.{SFits}
use Rattle.arith.specs.Lists.{at}
use Rattle.arith.proofs.Bits.{reads}
use Rattle.pair_sums.proofs.write_rows.Goals as goal

-- a pair more behind those that stand: R holds of places among the taps and of taps
pairs_more : (R : ℕ → ℤ → Type 0) (before after : List ℤ) (first k : ℕ) → ((i : ℕ) → i < 32 * (first + k) → at after i ≡ at before i)
    → ((i j : ℕ) → i < k → j < 16 → R (2 * i) (at before (32 * (first + i) + 2 * j)) × R (2 * i + 1) (at before (32 * (first + i) + 2 * j + 1)))
    → ((j : ℕ) → j < 16 → R (2 * k) (at after (32 * (first + k) + 2 * j)) × R (2 * k + 1) (at after (32 * (first + k) + 2 * j + 1)))
    → (i j : ℕ) → i < k + 1 → j < 16 → R (2 * i) (at after (32 * (first + i) + 2 * j)) × R (2 * i + 1) (at after (32 * (first + i) + 2 * j + 1))
pairs_more R before after first k same stood here i j l m = go (ℕ_discrete i k)
  where
    go : Dec (i ≡ k) → R (2 * i) (at after (32 * (first + i) + 2 * j)) × R (2 * i + 1) (at after (32 * (first + i) + 2 * j + 1))
    go (yes e) = rw e (here j m)
    go (no e) =
        let was = stood i j (omega (arith, e)) m in
        let first_same = same (32 * (first + i) + 2 * j) (omega (arith, e)) in
        let second_same = same (32 * (first + i) + 2 * j + 1) (omega (arith, e)) in
        (rw first_same was.0, rw second_same was.1)

pub loop-k-preserved : goal.loop-k-preserved
loop-k-preserved g c =
    let first : SFits w16 c.tap.result = record { sfits = c.tap.type_inv } in
    let second : SFits w16 c.tap-in-loop-k.result = record { sfits = c.tap-in-loop-k.type_inv } in
    let here = simp (reads, first, second) at c.write_row.ensures.pairs in (
      pairs_more (goal.F-post g c.args.tap) c.loop-k.rows c.write_row.new.rows c.args.first c.loop-k.k c.write_row.ensures.front_same c.loop-k.invariant.0
          (λ j l. let e = here j l in (rw e.0 c.tap.ensures, rw e.1 c.tap-in-loop-k.ensures)),
      λ i l. c.write_row.ensures.front_same i (omega arith) ∙ c.loop-k.invariant.1 i l,
    )
