-- The points of a run of outputs. Assumes nothing.
use mathlib.Core.Path.{◌≡◌, refl, sym, ap, ap₂, ◌∙◌}
use mathlib.Core.Bool.{cond}
use mathlib.Core.List.{List, ◌∷◌, ◌++◌}
use Prim.Native.Nat.{ℕ, zero, suc, ◌+◌, ◌-◌, ◌*◌, ◌<◌}
use native.Mathlib.Omega.{arith}
use borrow.Author.Tests.{ne_eqb}
use lib.Dec.{eqb}
use lib.IntN.{ℤ, pos}
use lib.ListN.{length, drop}
use Rattle.arith.specs.Lists.{at, tabulate}
use Rattle.arith.proofs.Lists.{tabulate_ext}
use Rattle.control.specs.declared.Control.{Control}
use Rattle.control.specs.declared.Plan.{Plan}
use Rattle.positions.specs.Runs.{first_plan, second_plan, run_plan}
use Rattle.multiplies.specs.Multiplies.{values_made}
use Rattle.multiplies.specs.Inner.{run_values}
use Rattle.points.specs.Runs.{run_points}

module _ (make : Plan → ℤ) (F : ℕ) (c : Control) where
  pub length_run : (n : ℕ) → length (run_points make F c n) ≡ 2 * n
  unfolding run_points
  length_run zero = refl
  length_run (suc n) = let e : suc (suc (2 * n)) ≡ 2 * suc n = omega arith in ap (λ k. suc (suc k)) (length_run n) ∙ e

  -- what holds of each point holds of all
  pub run_all : (Q : ℤ → Type 0) (n : ℕ) → ((k : ℕ) → k < n → Q (make (first_plan F c k)) × Q (make (second_plan F c k))) → Q (pos 0)
      → (i : ℕ) → Q (at (run_points make F c n) i)
  unfolding run_points
  run_all Q zero h z i = z
  run_all Q (suc n) h z zero = (h n (omega arith)).1
  run_all Q (suc n) h z (suc zero) = (h n (omega arith)).0
  run_all Q (suc n) h z (suc (suc i)) = run_all Q n (λ k l. h k (omega arith)) z i

  -- without its newest points a run is a shorter one
  pub run_drop : (m d : ℕ) (t : List ℤ) → drop (2 * d) (run_points make F c (d + m) ++ t) ≡ run_points make F c m ++ t
  unfolding run_points
  run_drop m zero t = let e : 0 + m ≡ m = omega arith in ap (λ k. run_points make F c k ++ t) e
  run_drop m (suc d) t =
      let e : 2 * suc d ≡ suc (suc (2 * d)) = omega arith in
      let f : suc d + m ≡ suc (d + m) = omega arith in
      ap₂ (λ j k. drop j (run_points make F c k ++ t)) e f ∙ run_drop m d t

  -- points by their number, the oldest being 0
  pub run_tabulate : (f : ℕ → ℤ) (n : ℕ) → ((k : ℕ) → k < n → (f (2 * k) ≡ make (first_plan F c k)) × (f (2 * k + 1) ≡ make (second_plan F c k)))
      → tabulate (2 * n) (λ j. f (2 * n - suc j)) ≡ run_points make F c n
  unfolding run_points tabulate
  run_tabulate f zero h = refl
  run_tabulate f (suc n) h =
      let e : 2 * suc n ≡ suc (suc (2 * n)) = omega arith in
      let two : suc (suc (2 * n)) - 1 ≡ 2 * n + 1 = omega arith in
      let one : suc (suc (2 * n)) - 2 ≡ 2 * n = omega arith in
      let x = h n (omega arith) in
      let rest : tabulate (2 * n) (λ j. f (suc (suc (2 * n)) - suc (suc (suc j)))) ≡ tabulate (2 * n) (λ j. f (2 * n - suc j)) = tabulate_ext (2 * n) (λ j l. ap f (omega arith)) in
      ap (λ m. tabulate m (λ j. f (m - suc j))) e
      ∙ ap₂ ◌∷◌ (ap f two ∙ x.1) (ap₂ ◌∷◌ (ap f one ∙ x.0) (rest ∙ run_tabulate f n (λ k l. h k (omega arith))))

-- ---- the level values of a run

-- each point of it makes as many
pub run_made : (p : Plan) (k P : ℕ) → values_made (run_plan p k P).step ≡ values_made p.step
unfolding values_made
run_made p k P = go p.step
  where
    go : (s : ℕ) → ◌≡◌ {A = ℕ} (cond (eqb (cond (eqb s 0) 0 (s + k)) 0) 1 2) (cond (eqb s 0) 1 2)
    go zero = refl
    go (suc s) =
        let n = ne_eqb (suc s) 0 (λ e. omega arith) in
        ap (λ t. cond (eqb (cond t 0 (suc s + k)) 0) 1 2) n ∙ ap (λ t. cond t 1 2) (ne_eqb (suc s + k) 0 (λ e. omega arith)) ∙ ap (λ t. cond t 1 2) (sym n)

pub values_run : (F : ℕ) (c : Control) (m n : ℕ) → ((k : ℕ) → k < n → (values_made (first_plan F c k).step ≡ m) × (values_made (second_plan F c k).step ≡ m)) → run_values F c n ≡ 2 * n * m
unfolding run_values
values_run F c m zero h = omega arith
values_run F c m (suc n) h =
    let last = h n (omega arith) in
    omega (arith, values_run F c m n (λ k l. h k (omega arith)), last.0, last.1)
