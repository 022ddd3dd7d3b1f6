-- The sums of a run: those of the parts of its words make those of the words. Assumes nothing.
use mathlib.Core.Path.{◌≡◌, sym, ap, ap₂, ◌∙◌}
use mathlib.Core.Bool.{Bool, true}
use mathlib.Core.List.{List}
use Prim.Native.Nat.{ℕ, ◌+◌, ◌-◌, ◌*◌, ◌≤◌, ◌<◌}
use native.Mathlib.Nat.{le_trans, mul-le-mul_right}
use native.Mathlib.Omega.{arith}
use Rattle.std.proofs.Math.Logic.{∥∥₁_elim}
use Rattle.std.proofs.Props.{props}
use lib.IntN.{ℤ, pos, nat_abs, ◌+ℤ◌, ◌*ℤ◌}
use lib.ListN.{length, get_or}
use Rattle.arith.specs.Lists.{at}
use Rattle.windows.specs.Parts.{Within, Small, Samples, PartsOf, SamplesOf}
use Rattle.dot_products.specs.Sums.{dot_sum, Fits32, Summable, Readable, sum_here, sum_next, mixed_value, PartSums, parts_value}
use Rattle.windows.specs.Runs.{RowFits, RunOf, run_value}
use Rattle.windows.proofs.Dots.{dot_sum_bound, small_fits, samples_fit, dot_sum_scaled, dot_sum_parts}

module _ {window table : List ℤ} {positive : Bool} {W : ℕ} {rows firsts offsets : List ℕ} (run : RunOf window table positive W rows firsts offsets) where
  abbrev n : ℕ
  n = length rows

  abbrev first : ℕ → ℕ
  first k = get_or firsts k 0

  abbrev row : ℕ → ℕ
  row k = get_or rows k 0

  -- a row whose coefficients of words behind the window are 0
  abbrev Fits : ℕ → ℕ → Type 0
  Fits k r = RowFits table positive r (length window - first k) W

  -- ---- what may be summed

  -- words whose sums over any row fit 32 bits
  abbrev Summed : List ℤ → Type 0
  Summed words = (a r m : ℕ) → RowFits table positive r m W → (j : ℕ) → j ≤ W → Fits32 (dot_sum words a table r j)

  pub small_summed : (words : List ℤ) → Small words → Summed words
  small_summed words small a r m f = small_fits words a table r W f.size small

  pub samples_summed : (words : List ℤ) → positive ≡ true → Samples words → Summed words
  samples_summed words known samples a r m f j h = ∥∥₁_elim (f.one known) (hlevel props) (λ p. samples_fit words a table r W f.size samples p j h)

  summable : (words : List ℤ) {r : ℕ} (k : ℕ) → k < n → length words ≡ 192 → Summed words → Fits k r → Summable words (first k) table r W
  summable words {r} k h l summed f = record {
    narrow = run.wide;
    words_room = omega (arith, l, run.inside k h, run.window_high, run.wide);
    table_room = f.room;
    fits = summed (first k) r (length window - first k) f;
  }

  pub readable : (x y : List ℤ) → length x ≡ 192 → length y ≡ 192 → Summed x → Summed y → Readable x y table W rows firsts
  readable x y l m s t = record { here = λ k h. summable x k h l s (run.here k h); next = λ k h. summable y k h m t (run.next k h) }

  -- ---- the sums over the window's words

  abbrev pub base : ℕ → ℤ
  base k = dot_sum window (first k) table (row k) W

  abbrev pub next : ℕ → ℤ
  next k = dot_sum window (first k) table (row k + W) W

  same-value : {f g : ℕ → ℤ} → ((k : ℕ) → k < n → f k ≡ base k) → ((k : ℕ) → k < n → g k ≡ next k)
      → (k : ℕ) → k < n → mixed_value (f k) (g k) (get_or offsets k 0) ≡ run_value window table W rows firsts offsets k
  unfolding run_value
  same-value e d k h = ap₂ (λ x y. mixed_value x y (get_or offsets k 0)) (e k h) (d k h)

  -- ---- of samples

  module _ {x y : List ℤ} (s : SamplesOf window (length window) x y) where
    scaled : (words : List ℤ) → ((j : ℕ) → j < length window → at window j ≡ at words j *ℤ pos 256) → {r : ℕ} (k : ℕ) → k < n → Fits k r
        → dot_sum words (first k) table r W *ℤ pos 256 ≡ dot_sum window (first k) table r W
    scaled words e {r} k h fits = sym (dot_sum_scaled table r W fits.rest window words (first k) (pos 256) (λ j m. e (first k + j) (omega arith)))

    samples_here : (k : ℕ) → k < n → sum_here x table W rows firsts k *ℤ pos 256 ≡ base k
    samples_here k h = scaled x (λ j m. (s.word j m).0) k h (run.here k h)

    samples_next : (k : ℕ) → k < n → sum_next y table W rows firsts k *ℤ pos 256 ≡ next k
    samples_next k h = scaled y (λ j m. (s.word j m).1) k h (run.next k h)

    pub samples_value : (k : ℕ) → k < n
        → mixed_value (sum_here x table W rows firsts k *ℤ pos 256) (sum_next y table W rows firsts k *ℤ pos 256) (get_or offsets k 0) ≡ run_value window table W rows firsts offsets k
    samples_value = same-value samples_here samples_next

  -- ---- of words in two parts

  part_dot : (words : List ℤ) (c : ℕ) → Within c words → (r k : ℕ) → Fits k r → nat_abs (dot_sum words (first k) table r W) ≤ 65536 * c
  part_dot words c small r k fits = le_trans (dot_sum_bound words (first k) table r W c (λ j m. small (first k + j))) (mul-le-mul_right c fits.size)

  module _ {high low : List ℤ} (p : PartsOf window (length window) high low) where
    joined : {r : ℕ} (k : ℕ) → k < n → Fits k r → dot_sum high (first k) table r W *ℤ pos 16384 +ℤ dot_sum low (first k) table r W ≡ dot_sum window (first k) table r W
    joined {r} k h fits = sym (dot_sum_parts table r W fits.rest window high low (first k) (pos 16384) (λ j m. p.word (first k + j) (omega arith)))

    -- the first sums, of the high parts over the rows, and of the low parts over the rows behind them
    module _ (one two : List ℤ) (ones : (k : ℕ) → k < n → (at one k ≡ sum_here high table W rows firsts k) × (at two k ≡ sum_next low table W rows firsts k)) where
      parts-here : (k : ℕ) → k < n → at one k *ℤ pos 16384 +ℤ sum_here low table W rows firsts k ≡ base k
      parts-here k h = ap (λ x. x *ℤ pos 16384 +ℤ sum_here low table W rows firsts k) (ones k h).0 ∙ joined k h (run.here k h)

      parts_next : (k : ℕ) → k < n → sum_next high table W rows firsts k *ℤ pos 16384 +ℤ at two k ≡ next k
      parts_next k h = ap (λ y. sum_next high table W rows firsts k *ℤ pos 16384 +ℤ y) (ones k h).1 ∙ joined k h (run.next k h)

      -- values may be made of them
      pub parts-sums : (k : ℕ) → k < n → PartSums (at one k) (sum_here low table W rows firsts k) (sum_next high table W rows firsts k) (at two k) (get_or offsets k 0)
      parts-sums k h = record {
        high_size = rw (ones k h).0 (omega (arith, part_dot high 8192 p.high_small (row k) k (run.here k h)));
        low_size = omega (arith, part_dot low 16383 p.low_small (row k) k (run.here k h));
        next_high_size = omega (arith, part_dot high 8192 p.high_small (row k + W) k (run.next k h));
        next_low_size = rw (ones k h).1 (omega (arith, part_dot low 16383 p.low_small (row k + W) k (run.next k h)));
        offset_low = run.offset_low k h;
      }

      pub parts-value : (k : ℕ) → k < n
          → parts_value (at one k) (sum_here low table W rows firsts k) (sum_next high table W rows firsts k) (at two k) (get_or offsets k 0) ≡ run_value window table W rows firsts offsets k
      unfolding parts_value
      parts-value = same-value parts-here parts_next
