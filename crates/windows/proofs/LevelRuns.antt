-- The values of a level at a run's positions are those of the run's window. Assumes nothing.
use mathlib.Core.Path.{◌≡◌, sym, ap, ap₂, subst, ◌∙◌}
use mathlib.Core.Bool.{Bool}
use mathlib.Core.List.{List}
use Prim.Native.Nat.{ℕ, suc, ◌+◌, ◌*◌, ◌-◌, ◌/◌, ◌%◌, ◌^◌, ◌≤◌, ◌<◌}
use native.Mathlib.Nat.{div-add-mod, mul-le-mul_right, mul-div-mul_right, add-mul-div_right, add-mul-mod_self_right, mod-lt}
use native.Mathlib.Omega.{arith}
use lib.IntN.{ℤ, pos, ◌-ℤ◌, ◌*ℤ◌}
use lib.ListN.{length, get_or}
use lib.Pow.{pow_pos}
use Rattle.arith.specs.Lists.{at}
use Rattle.arith.proofs.Linear.{linear}
use Rattle.arith.proofs.Sum.{sum_ext}
use Rattle.book.specs.Book.{sizes_of}
use Rattle.book.proofs.Accepted.{Accepted, sizes_bounded}
use Rattle.values.specs.Values.{limited_word, unit, phase_at, offset_at, level_value}
use Rattle.values.specs.Inner.{phase_total}
use Rattle.values.proofs.Values.{unit-pos, phase_below}
use Rattle.values.proofs.Phases.{word_units, level_value_phases}
use Rattle.rows.specs.Rows.{row_width, RowsOf}
use Rattle.windows.specs.Places.{PlacesOf}
use Rattle.dot_products.specs.Sums.{dot_sum, mixed_value}
use Rattle.windows.specs.Runs.{RowFits, RunOf, run_value}
use Rattle.rows.proofs.ImpulseRows.{row_width_between, taps_fit, row_tap, row_rest, row_total}
use Rattle.windows.proofs.Dots.{dot_sum_rest}
use Rattle.windows.proofs.Staged.{staged_small}

-- ---- a position's distance from the beginning of a window, in 2^-32 words

-- both numbers multiplied
scale_rest : (n k : ℕ) {m : ℕ} → 0 < m → n * m % (k * m) ≡ n % k * m
scale_rest n k {m} h = omega (arith, ap (λ x. x * m) (div-add-mod n k), div-add-mod (n * m) (k * m), ap (λ q. k * m * q) (mul-div-mul_right n k h))

module _ (b : List ℤ) (l : ℕ) (low : l ≤ 4) (base P : ℕ) (behind : base * unit l ≤ P) where
  abbrev up : ℕ
  up = 2 ^ (4 - l)

  abbrev M : ℕ
  M = (sizes_of b).phases

  abbrev pub distance : ℕ
  distance = (P - base * unit l) * up

  whole : P ≡ P - base * unit l + base * unit l
  whole = omega arith

  word_is : P / unit l ≡ (P - base * unit l) / unit l + base
  word_is = ap (λ n. n / unit l) whole ∙ add-mul-div_right (P - base * unit l) base (unit-pos l)

  rest_is : distance % 2 ^ 32 ≡ P % unit l * up
  rest_is =
      ap (λ n. distance % n) (word_units l low) ∙ scale_rest (P - base * unit l) (unit l) (pow_pos (4 - l))
      ∙ ap (λ n. n * up) (sym (ap (λ n. n % unit l) whole ∙ add-mul-mod_self_right (P - base * unit l) base (unit l)))

  scaled_is : distance % 2 ^ 32 * M ≡ P % unit l * M * up
  scaled_is = let e : P % unit l * up * M ≡ P % unit l * M * up = omega arith in ap (λ n. n * M) rest_is ∙ e

  pub distance_words : distance / 2 ^ 32 ≡ P / unit l - base
  distance_words =
      let e : distance / 2 ^ 32 ≡ (P - base * unit l) / unit l = ap (λ n. distance / n) (word_units l low) ∙ mul-div-mul_right (P - base * unit l) (unit l) (pow_pos (4 - l)) in
      omega (arith, word_is)

  pub distance_phase : distance % 2 ^ 32 * M / 2 ^ 32 ≡ phase_at b l P
  unfolding phase_at
  distance_phase = ap₂ (λ n m. n / m) scaled_is (word_units l low) ∙ mul-div-mul_right (P % unit l * M) (unit l) (pow_pos (4 - l))

  pub distance_offset : distance % 2 ^ 32 * M % 2 ^ 32 ≡ offset_at b l P * up
  unfolding offset_at
  distance_offset = ap₂ (λ n m. n % m) scaled_is (word_units l low) ∙ scale_rest (P % unit l * M) (unit l) (pow_pos (4 - l))

-- ---- a book's rows

module _ (b : List ℤ) (a : Accepted b) {table : List ℤ} {positive : Bool} (t : RowsOf b table positive) where
  abbrev N : ℕ
  N = (sizes_of b).taps

  abbrev W : ℕ
  W = row_width N

  wide : N ≤ W
  wide = taps_fit N (sizes_bounded b a).taps_high

  row_fits : (q n : ℕ) → q ≤ (sizes_of b).phases → N ≤ n → RowFits table positive (q * W) n W
  row_fits q n h l = record {
    room = let in_table : suc q * W ≤ ((sizes_of b).phases + 1) * W = mul-le-mul_right W (omega arith) in omega (arith, in_table, t.room);
    size = row_total b a t q h;
    rest = λ k m. row_rest b a t q h k (omega arith);
    one = λ e. t.each e q h;
  }

  -- ---- a run

  module _ (words : List ℤ) (l : ℕ) (low : l ≤ 4) (base last : ℕ) (apart : last ≤ base + 127) (n : ℕ) (P : ℕ → ℕ)
      (behind : (k : ℕ) → k < n → base * unit l ≤ P k) (before : (k : ℕ) → k < n → P k / unit l ≤ last) where
    abbrev q : ℕ → ℕ
    q k = phase_at b l (P k)

    reached : (k : ℕ) → k < n → base ≤ P k / unit l
    reached k h = omega (arith, word_is b l low base (P k) (behind k h))

    module _ (window : List ℤ) (rows firsts offsets : List ℕ) where
      -- the window has the words from word last + N/2 back, and the places are those of the positions, from the beginning `start` on
      pub record Prepared (taps width phases start : ℕ) : Type 0 where
        pub rows_length : length rows ≡ n
        pub enough : last - base + taps ≤ length window
        pub window_high : length window ≤ 160
        pub staged : (k : ℕ) → k < length window → at window k ≡ limited_word words l (pos (last + taps / 2) -ℤ pos k)
        pub places : PlacesOf phases width (last - base) n (λ k. (P k - start) * 2 ^ (4 - l)) rows firsts offsets

      module _ (p : Prepared N W (sizes_of b).phases (base * unit l)) where
        row_is : (k : ℕ) → k < n → get_or rows k 0 ≡ q k * W
        row_is k h = p.places.row k h ∙ ap (λ x. x * W) (distance_phase b l low base (P k) (behind k h))

        next-row-is : (k : ℕ) → k < n → get_or rows k 0 + W ≡ suc (q k) * W
        next-row-is k h = omega (arith, row_is k h)

        first-is : (k : ℕ) → k < n → get_or firsts k 0 ≡ last - P k / unit l
        first-is k h = omega (arith, p.places.first k h, distance_words b l low base (P k) (behind k h), before k h, reached k h)

        -- the window has a value's words
        inside : (k : ℕ) → k < n → get_or firsts k 0 + N ≤ length window
        inside k h = omega (arith, first-is k h, reached k h, p.enough)

        placed : (k : ℕ) → k < length rows → k < n
        placed k h = omega (arith, h, p.rows_length)

        run_of : RunOf window table positive W rows firsts offsets
        run_of = record {
          window_high = p.window_high;
          wide = (row_width_between N).1;
          words_small = staged_small window words l (last + N / 2) (length window) low p.staged;
          inside = λ k h. omega (arith, inside k (placed k h));
          here = λ k h. rw (row_is k (placed k h)) (row_fits (q k) _ (omega (arith, phase_below b a l (P k))) (omega (arith, inside k (placed k h))));
          next = λ k h. rw (next-row-is k (placed k h)) (row_fits (suc (q k)) _ (phase_below b a l (P k)) (omega (arith, inside k (placed k h))));
          offset_low = λ k h. let m = placed k h in rw (p.places.offset k m) (mod-lt (distance b l low base (P k) (behind k m) % 2 ^ 32 * (sizes_of b).phases) (pow_pos 32));
        }

        -- the words from a value's first place on, times a row, are the sum over a phase
        total-is : (k m : ℕ) → k < n → m ≤ (sizes_of b).phases → {r : ℕ} → r ≡ m * W → dot_sum window (get_or firsts k 0) table r W ≡ phase_total b (limited_word words l) l (P k) m
        unfolding dot_sum phase_total
        total-is k m h o e = rw e (dot_sum_rest window (get_or firsts k 0) table (m * W) N W wide (row_rest b a t m o) ∙ sum_ext N (λ j i. ap₂ ◌*ℤ◌ (word-there j i) (row_tap b a t m o j i)))
          where
            word-there : (j : ℕ) → j < N → at window (get_or firsts k 0 + j) ≡ limited_word words l (pos (P k / unit l + N / 2) -ℤ pos j)
            word-there j i =
                let f = first-is k h in
                let place : pos (last + N / 2) -ℤ pos (get_or firsts k 0 + j) ≡ pos (P k / unit l + N / 2) -ℤ pos j = simp linear (omega (arith, f, before k h)) in
                p.staged (get_or firsts k 0 + j) (omega (arith, inside k h)) ∙ ap (limited_word words l) place

        offset_is : (k : ℕ) → k < n → get_or offsets k 0 ≡ offset_at b l (P k) * 2 ^ (4 - l)
        offset_is k h = p.places.offset k h ∙ distance_offset b l low base (P k) (behind k h)

        run-value : (k : ℕ) → k < n → run_value window table W rows firsts offsets k ≡ level_value b words l (P k)
        unfolding run_value mixed_value
        run-value k h =
            level_value_phases b a words l (P k) low (total-is k (q k) h (omega (arith, phase_below b a l (P k))) (row_is k h))
            (total-is k (suc (q k)) h (phase_below b a l (P k)) (next-row-is k h)) (offset_is k h)

      -- the same of sizes that are the book's, and of rows of w words
      abbrev pub LevelRun : ℕ → Type 0
      LevelRun w = RunOf window table positive w rows firsts offsets × ((k : ℕ) → k < n → run_value window table w rows firsts offsets k ≡ level_value b words l (P k))
          × ((k : ℕ) → k < n → get_or offsets k 0 ≡ offset_at b l (P k) * 2 ^ (4 - l))

      pub level-run : {taps width phases start w : ℕ} → taps ≡ N → width ≡ W → phases ≡ (sizes_of b).phases → start ≡ base * unit l → w ≡ width → Prepared taps width phases start → LevelRun w
      level-run {taps} {width} {phases} {start} {w} e f g h i p =
          let all : LevelRun W = of_book (rw (e, f, g, h) at p) in
          subst LevelRun (sym (i ∙ f)) all
        where
          of_book : Prepared N W (sizes_of b).phases (base * unit l) → LevelRun W
          of_book p = (run_of p, run-value p, offset_is p)
