-- Request (h): from demand 3 twice, and the distance of the exact sums. The player is not looked at. Assumes nothing.
use mathlib.Core.List.{List}
use mathlib.Core.Path.{◌≡◌, sym, ap, ◌∙◌}
use Prim.Native.Nat.{ℕ, ◌+◌, ◌*◌, ◌^◌, ◌≤◌, ◌<◌}
use native.Mathlib.Nat.{mul-div_cancel, le-div_iff_mul-le}
use native.Mathlib.Omega.{arith}
use lib.IntN.{ℤ, pos, nat_abs, ◌-ℤ◌, ◌*ℤ◌}
use lib.ListN.{length}
use lib.Pow.{pow_mono}
use Rattle.arith.specs.Lists.{at}
use Rattle.arith.proofs.Linear.{poly, abs-pos-*}
use Rattle.player.specs.Calls.{open_answer}
use Rattle.drive.specs.Exact.{exact_scale, exact_fresh}
use Rattle.drive.specs.Lists.{handed_out, exact_sums}
use Rattle.drive.specs.Demand.{store_of, CloseTo, Close}
use Rattle.drive.proofs.Scaled.{apart_by, apart_swap}
use Rattle.drive.proofs.Settings.{scale_pos}
use Rattle.drive.proofs.Steps.{Paired}
use Rattle.drive.proofs.Theorem.{demand3}
use Rattle.sensitivity.specs.Sensitivity.{movement, Moved, Sensitivity}
use Rattle.sensitivity.proofs.Apart.{SumsApart}
use Rattle.sensitivity.proofs.Sums.{sums_apart}

-- a common factor of two numbers cancels
cancel : (s p q : ℕ) → 0 < s → p * s ≤ q * s → p ≤ q
cancel s p q some h = rw (mul-div_cancel q some) at ((le-div_iff_mul-le some).1 h)

-- two samples, each close to its sum, where the two sums lie within 8 × 2^T × D
samples_moved : (T D scale : ℕ) (x y sum sum' : ℤ) → 0 < scale → CloseTo T scale x sum → CloseTo T scale y sum' → SumsApart T D scale sum sum'
    → 128 * nat_abs (x -ℤ y) ≤ movement T D
samples_moved T D scale x y sum sum' some close close' apart =
    let factor : pos scale *ℤ x -ℤ pos scale *ℤ y ≡ pos scale *ℤ (x -ℤ y) = simp poly (omega arith) in
    let scaled : nat_abs (pos scale *ℤ x -ℤ pos scale *ℤ y) ≡ scale * nat_abs (x -ℤ y) = ap nat_abs factor ∙ abs-pos-* scale (x -ℤ y) in
    let to-sum = apart_by (pos scale *ℤ x) sum (pos scale *ℤ y) in
    let to-other = apart_by sum sum' (pos scale *ℤ y) in
    cancel scale (128 * nat_abs (x -ℤ y)) (movement T D) some (omega (arith, scaled, to-sum, to-other, apart_swap sum' (pos scale *ℤ y), close, close', apart))

-- the same of lists
all_moved : (T D scale : ℕ) (xs ys sums sums' : List ℤ) → 0 < scale → Close T scale xs sums → Close T scale ys sums' → Paired (SumsApart T D scale) sums sums' → Moved T D xs ys
all_moved T D scale xs ys sums sums' some close close' apart = (
  close.0 ∙ apart.0 ∙ sym close'.0,
  λ k l.
      let inside : k < length sums = omega (arith, close.0) in
      let inside' : k < length ys = omega (arith, apart.0, close'.0) in
      samples_moved T D scale (at xs k) (at ys k) (at sums k) (at sums' k) some (close.1 k l) (close'.1 k inside') (apart.1 k inside),
)

pub sensitivity : Sensitivity
sensitivity b old new rest rest' card D s s' differ calls =
    let T = card.top in
    let v = (open_answer card).voice in
    all_moved T D (exact_scale b T) (handed_out b (store_of b old card rest) v calls) (handed_out b (store_of b new card rest') v calls)
    (exact_sums b old T (exact_fresh card) calls) (exact_sums b new T (exact_fresh card) calls) (scale_pos s)
    ((demand3 b old rest card s).0 calls) ((demand3 b new rest' card s').0 calls) (sums_apart b old new card D s s' differ calls)

-- samples are whole: at most one step more than 8 × 2^T × D
pub whole_steps : (T D : ℕ) (xs ys : List ℤ) → T ≤ 4 → Moved T D xs ys → (k : ℕ) → k < length xs → nat_abs (at xs k -ℤ at ys k) ≤ 8 * 2 ^ T * D + 1
whole_steps T D xs ys top moved k l = omega (arith, moved.1 k l, pow_mono {i = T} {j = 4} top)
