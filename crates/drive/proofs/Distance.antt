-- How far values, points and output sums lie from the exact player's (document 01, "The exact sum"), and how far apart the exact ones of
-- two recordings lie.
-- What is known of words, of the sum of a value and of the sum of an output comes in as hypotheses. No step gives anything away: the last
-- one ends at the very distance that is allowed.
use mathlib.Core.Path.{◌≡◌, sym, ap, ◌∙◌}
use mathlib.Core.List.{List}
use Prim.Native.Nat.{ℕ, ◌+◌, ◌*◌, ◌-◌, ◌^◌, ◌≤◌, ◌<◌}
use native.Mathlib.Nat.{mul-le-mul_left, mul-le-mul_right, le_trans}
use native.Mathlib.Omega.{arith}
use lib.Dec.{eqb}
use lib.IntN.{ℤ, pos, nat_abs, ◌-ℤ◌, ◌*ℤ◌}
use lib.Pow.{pow-add, pow_pos, pow_mono}
use Rattle.arith.specs.Floor.{near}
use Rattle.arith.specs.Lists.{at, word_at}
use Rattle.arith.proofs.Linear.{abs-pos-*}
use Rattle.book.specs.Book.{sizes_of, level_taps}
use Rattle.control.specs.declared.Plan.{Plan}
use Rattle.store.specs.Store.{store_level}
use Rattle.values.specs.Values.{unit, limited_word, value_sum, level_value, value}
use Rattle.points.specs.Points.{point}
use Rattle.decimation.specs.Decimation.{output_sum}
use Rattle.drive.specs.Demand.{CloseTo}
use Rattle.drive.specs.Exact.{exact_level, exact_value, exact_point, point_scale, exact_scale}
use Rattle.drive.proofs.Scaled.{apart_times, apart_multiple, apart_factor, near_apart, fade_apart, fade_close}

-- ---- powers: an exact value of level l is a whole number over 2^(15l + 34), brought to 2^(14T + 38) for all levels

-- words over 2^(14l), taps over 2^14, and the unit; the words' 2^8 comes out
value_scale : (l : ℕ) → 2 ^ (14 * l) * (16384 * unit l) ≡ 256 * 2 ^ (15 * l + 34)
unfolding unit
value_scale l =
    let e : 14 * l + (14 + (28 + l)) ≡ 8 + (15 * l + 34) = omega arith in
    ap (λ (n : ℕ). 2 ^ (14 * l) * n) (sym (pow-add 2 14 (28 + l))) ∙ sym (pow-add 2 (14 * l) (14 + (28 + l)))
    ∙ ap (λ (n : ℕ). 2 ^ n) e ∙ pow-add 2 8 (15 * l + 34)

common_scale : (T l : ℕ) → l ≤ T → T ≤ 4 → 2 ^ (14 * (T - l) + (4 - l)) * 2 ^ (15 * l + 34) ≡ 2 ^ (14 * T + 38)
common_scale T l below top =
    let e : 14 * (T - l) + (4 - l) + (15 * l + 34) ≡ 14 * T + 38 = omega arith in
    sym (pow-add 2 (14 * (T - l) + (4 - l)) (15 * l + 34)) ∙ ap (λ (n : ℕ). 2 ^ n) e

-- coefficients of at most 2^16 together, over the unit, and words 2^(15l) times as large as samples: 2^(10 + l) times a sample
value_size : (l : ℕ) → 65536 * unit l * 2 ^ (15 * l) ≡ 2 ^ (10 + l) * 2 ^ (15 * l + 34)
unfolding unit
value_size l =
    let e : 16 + (28 + l) + 15 * l ≡ 10 + l + (15 * l + 34) = omega arith in
    ap (λ (n : ℕ). n * 2 ^ (15 * l)) (sym (pow-add 2 16 (28 + l))) ∙ sym (pow-add 2 (16 + (28 + l)) (15 * l))
    ∙ ap (λ (n : ℕ). 2 ^ n) e ∙ pow-add 2 (10 + l) (15 * l + 34)

unit-pos : (l : ℕ) → 0 < 16384 * unit l
unfolding unit
unit-pos l = omega (arith, pow_pos (28 + l))

-- four times the words' distance, and 1 for the value's own rounding
one_rounding : (l : ℕ) → 4 * (2 ^ l - 1) + 1 ≡ 2 ^ (l + 2) - 3
one_rounding l = omega (arith, pow-add 2 l 2, pow_pos l)

-- ---- how far

-- the exact words of level l, and their sum at P
abbrev exact_word : List ℤ → List ℤ → ℕ → ℤ → ℤ
exact_word b samples l = word_at (exact_level (level_taps b) samples l)

abbrev exact_sum : List ℤ → List ℤ → ℕ → ℕ → ℤ
exact_sum b samples l P = value_sum b (exact_word b samples l) l P

module _ (b samples store : List ℤ) (T : ℕ) (top : T ≤ 4)
    (sum-apart : (c d : ℤ) (w w' : ℤ → ℤ) (X l P : ℕ) → ((i : ℤ) → nat_abs (c *ℤ w i -ℤ d *ℤ w' i) ≤ X)
    → nat_abs (c *ℤ value_sum b w l P -ℤ d *ℤ value_sum b w' l P) ≤ 65536 * unit l * X)
    (words_close : (l : ℕ) → l ≤ T → (i : ℤ)
    → 2 * nat_abs (pos (2 ^ (14 * l)) *ℤ limited_word (store_level store l) l i -ℤ pos 256 *ℤ word_at (exact_level (level_taps b) samples l) i) ≤ 2 ^ (14 * l) * (2 ^ l - 1)) where
  -- a value's sum: four times the words' distance
  value_sum_close : (l P : ℕ) → l ≤ T
      → 2 * nat_abs (pos (2 ^ (14 * l)) *ℤ value_sum b (limited_word (store_level store l) l) l P -ℤ pos 256 *ℤ exact_sum b samples l P) ≤ 2 ^ (14 * l) * (16384 * unit l) * (4 * (2 ^ l - 1))
  value_sum_close l P below =
      let u = 2 ^ (14 * l) in
      let X = u * (2 ^ l - 1) in
      let w = limited_word (store_level store l) l in
      let w' = exact_word b samples l in
      let each : (i : ℤ) → nat_abs (pos (2 * u) *ℤ w i -ℤ pos 512 *ℤ w' i) ≤ X = λ i. omega (arith, apart_times 2 u 256 (w i) (w' i), words_close l below i) in
      omega (arith, apart_times 2 u 256 (value_sum b w l P) (value_sum b w' l P), sum-apart (pos (2 * u)) (pos 512) w w' X l P each)

  -- a value, at its level's own scale
  level_value_close : (l P : ℕ) → l ≤ T
      → 2 * nat_abs (pos (2 ^ (15 * l + 34)) *ℤ value b store l P -ℤ exact_sum b samples l P) ≤ 2 ^ (15 * l + 34) * (2 ^ (l + 2) - 3)
  unfolding value level_value
  level_value_close l P below =
      let s = 2 ^ (15 * l + 34) in
      let X = 4 * (2 ^ l - 1) in
      let D = 16384 * unit l in
      let u = 2 ^ (14 * l) in
      let A = value_sum b (limited_word (store_level store l) l) l P in
      let E = exact_sum b samples l P in
      let rounded = near_apart u D A (pos 256 *ℤ E) (u * D * X) (unit-pos l) (value_sum_close l P below) in
      let scaled : 2 * nat_abs (pos (256 * s) *ℤ near A D -ℤ pos 256 *ℤ E) ≤ 256 * s + 256 * s * X = rw (value_scale l) at rounded in
      rw (← one_rounding l) (omega (arith, apart_multiple 256 s (near A D) E, scaled))

  -- a value, at the common scale
  pub value_close : (l P : ℕ) → l ≤ T
      → 2 * nat_abs (pos (2 ^ (14 * T + 38)) *ℤ value b store l P -ℤ exact_value b samples T l P) ≤ 2 ^ (14 * T + 38) * (2 ^ (T + 2) - 3)
  unfolding exact_value
  value_close l P below =
      let k = 2 ^ (14 * (T - l) + (4 - l)) in
      let s = 2 ^ (15 * l + 34) in
      let Z = 2 ^ (T + 2) - 3 in
      let no_more : 2 ^ (l + 2) - 3 ≤ Z = omega (arith, pow_mono {i = l + 2} {j = T + 2} (omega arith)) in
      let close : 2 * nat_abs (pos s *ℤ value b store l P -ℤ exact_sum b samples l P) ≤ s * Z = le_trans (level_value_close l P below) (mul-le-mul_left s no_more) in
      rw (← common_scale T l below top) (omega (arith, apart_multiple k s (value b store l P) (exact_sum b samples l P), mul-le-mul_left k close))

  -- a point: a value, or a mean of two values that is rounded once more
  pub point_close : 1 ≤ (sizes_of b).fade → (p : Plan) → p.old ≤ T → p.new ≤ T → p.step ≤ (sizes_of b).fade
      → 2 * nat_abs (pos (point_scale b T) *ℤ point b store p -ℤ exact_point b samples T p) ≤ point_scale b T * (2 ^ (T + 2) - 2)
  unfolding point exact_point point_scale
  point_close some p from to inside =
      let P = p.position in
      let value-at : ℕ → ℤ = λ l. value b store l P in
      let exact-at : ℕ → ℤ = λ l. exact_value b samples T l P in
      let Z = 2 ^ (T + 2) - 3 in
      let two-roundings : 1 + Z ≡ 2 ^ (T + 2) - 2 = omega (arith, pow-add 2 T 2, pow_pos T) in
      rw (← two-roundings)
      (fade_close (sizes_of b).fade p.step inside (2 ^ (14 * T + 38)) (value-at p.old) (value-at p.new) (exact-at p.old) (exact-at p.new) Z some
      (value_close p.old P from) (value_close p.new P to) (eqb p.step 0))

pub output_scale : (b : List ℤ) (T : ℕ) → exact_scale b T ≡ point_scale b T * 2 ^ 22
unfolding exact_scale point_scale
output_scale b T =
    let e : 14 * T + 60 ≡ 14 * T + 38 + 22 = omega arith in
    rw (e, pow-add 2 (14 * T + 38) 22) (omega arith)

-- an output, before the limit: taps of at most 2^15 together, over 2^22, and the last rounding
pub output_sum_close : (b : List ℤ) (T : ℕ)
    → ((c d : ℤ) (h h' : List ℤ) (X : ℕ) → ((k : ℕ) → nat_abs (c *ℤ at h k -ℤ d *ℤ at h' k) ≤ X) → nat_abs (c *ℤ output_sum b h -ℤ d *ℤ output_sum b h') ≤ 32768 * X)
    → (h e : List ℤ) → ((k : ℕ) → 2 * nat_abs (pos (point_scale b T) *ℤ at h k -ℤ at e k) ≤ point_scale b T * (2 ^ (T + 2) - 2))
    → CloseTo T (exact_scale b T) (near (output_sum b h) (2 ^ 22)) (output_sum b e)
output_sum_close b T sum-apart h e points-close =
    let s = point_scale b T in
    let Z = 2 ^ (T + 2) - 2 in
    let O = output_sum b h in
    let E = output_sum b e in
    let each : (k : ℕ) → nat_abs (pos (2 * s) *ℤ at h k -ℤ pos 2 *ℤ at e k) ≤ s * Z = λ k. omega (arith, apart_multiple 2 s (at h k) (at e k), points-close k) in
    let summed : 2 * nat_abs (pos s *ℤ O -ℤ E) ≤ 32768 * (s * Z) = omega (arith, apart_multiple 2 s O E, sum-apart (pos (2 * s)) (pos 2) h e (s * Z) each) in
    let all-roundings : Z + 2 ≡ 4 * 2 ^ T = omega (arith, pow-add 2 T 2, pow_pos T) in
    rw (output_scale b T) (omega (arith, near_apart s (2 ^ 22) O E (32768 * (s * Z)) (omega arith) summed, ap (λ (n : ℕ). s * n) all-roundings))

-- ---- two recordings x and y: how far apart their exact values and points lie. How large one is, is how far c = 1 times it lies from d = 0 times it

module _ (b x y : List ℤ) (T : ℕ) (top : T ≤ 4) (c d : ℤ) (X : ℕ)
    (sum-apart : (c d : ℤ) (w w' : ℤ → ℤ) (X l P : ℕ) → ((i : ℤ) → nat_abs (c *ℤ w i -ℤ d *ℤ w' i) ≤ X)
    → nat_abs (c *ℤ value_sum b w l P -ℤ d *ℤ value_sum b w' l P) ≤ 65536 * unit l * X)
    (words-apart : (l : ℕ) (i : ℤ) → nat_abs (c *ℤ exact_word b x l i -ℤ d *ℤ exact_word b y l i) ≤ 2 ^ (15 * l) * X) where
  -- 2^(10 + l) times as far as the samples, so at most 2^(10 + T) times
  exact_value_apart : (l P : ℕ) → l ≤ T → nat_abs (c *ℤ exact_value b x T l P -ℤ d *ℤ exact_value b y T l P) ≤ 2 ^ (10 + T) * X * 2 ^ (14 * T + 38)
  unfolding exact_value
  exact_value_apart l P below =
      let k = 2 ^ (14 * (T - l) + (4 - l)) in
      let s = 2 ^ (15 * l + 34) in
      let apart = c *ℤ exact_sum b x l P -ℤ d *ℤ exact_sum b y l P in
      let sums : nat_abs apart ≤ 65536 * unit l * (2 ^ (15 * l) * X) = sum-apart c d (exact_word b x l) (exact_word b y l) (2 ^ (15 * l) * X) l P (words-apart l) in
      let sized : nat_abs apart ≤ 2 ^ (10 + l) * (s * X) = omega (arith, sums, ap (λ (n : ℕ). n * X) (value_size l)) in
      let no_more : 2 ^ (10 + l) ≤ 2 ^ (10 + T) = pow_mono {i = 10 + l} {j = 10 + T} (omega arith) in
      let small = le_trans sized (mul-le-mul_right (s * X) no_more) in
      rw (apart_factor (pos k) c d (exact_sum b x l P) (exact_sum b y l P), ← common_scale T l below top, abs-pos-*) (omega (arith, mul-le-mul_left k small))

  -- a mean brings nothing further apart
  pub exact_point_apart : (p : Plan) → p.old ≤ T → p.new ≤ T → p.step ≤ (sizes_of b).fade
      → nat_abs (c *ℤ exact_point b x T p -ℤ d *ℤ exact_point b y T p) ≤ 2 ^ (10 + T) * X * point_scale b T
  unfolding exact_point point_scale
  exact_point_apart p from to inside =
      let P = p.position in
      let of-x : ℕ → ℤ = λ l. exact_value b x T l P in
      let of-y : ℕ → ℤ = λ l. exact_value b y T l P in
      let mean =
      fade_apart (sizes_of b).fade p.step inside c d (of-x p.old) (of-x p.new) (of-y p.old) (of-y p.new) (2 ^ (10 + T) * X * 2 ^ (14 * T + 38))
      (exact_value_apart p.old P from) (exact_value_apart p.new P to) (eqb p.step 0) in
      omega (arith, mean)
