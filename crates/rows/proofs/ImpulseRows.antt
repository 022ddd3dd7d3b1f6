-- The rows of a book: what each write leaves, how wide they are, and what an accepted book's rows add up to. Assumes nothing.
use mathlib.Core.Path.{◌≡◌, refl, sym, ap, subst, ◌∙◌}
use mathlib.Core.Bool.{Bool, true, false, cond}
use mathlib.Core.List.{List, ◌++◌}
use mathlib.Core.Logic.{◌⊎◌, inl, inr}
use Prim.Native.Nat.{ℕ, suc, ◌+◌, ◌-◌, ◌*◌, ◌/◌, ◌%◌, ◌≤◌, ◌<◌}
use native.Mathlib.Nat.{mul-le-mul_right}
use native.Mathlib.Decide.{ℕ_discrete, dec_lt}
use native.Mathlib.Omega.{arith}
use borrow.Author.Tests.{leb-true, lt-ltb, le-ltb}
use lib.Dec.{leb}
use lib.IntN.{ℤ, pos, negsuc, nat_abs}
use lib.ListN.{length, take, drop, length-append, length-drop}
use lib.Seq.{length-take-le, get_or-take, get_or-drop}
use Rattle.std.proofs.lemmas.List.{get_or-append_right, get_or_append_left}
use Rattle.arith.specs.Limit.{limit}
use Rattle.arith.specs.Lists.{at, part}
use Rattle.arith.proofs.Lists.{part_length}
use Rattle.arith.specs.Sum.{total}
use Rattle.arith.specs.Tests.{within}
use Rattle.arith.proofs.Limit.{limit-same}
use Rattle.arith.proofs.Sum.{total_ext, total-same, total-split}
use Rattle.arith.proofs.Tests.{&&-left, every-at, within_true}
use Rattle.book.specs.Book.{sizes_of, impulse_word, impulse}
use Rattle.book.specs.Check.{words_in_range, coefficients_in_range, phase_sum}
use Rattle.book.proofs.Accepted.{Accepted, sizes_bounded, phase_sum_bound}
use Rattle.book.proofs.Bounds.{row_below}
use Rattle.book.proofs.Parts.{impulse_stored, impulse_past, impulse_end}
use Rattle.rows.specs.Rows.{row_width, narrowed, source_word, row_word, PutAt, PhasesOf, RowsOf}

-- ---- a part of a table that was lent, and came back as a row

module _ (table row : List ℤ) (a k n : ℕ) (many : k ≡ n) (room : a + n ≤ length table) (long : length row ≡ length (part table a k)) where
  abbrev behind : List ℤ
  behind = drop k (drop a table)

  row_length : length row ≡ n
  row_length = long ∙ part_length table a k (omega arith) ∙ many

  front : length (take a table) ≡ a
  front = length-take-le a table (omega arith)

  pub lent_length : length (take a table ++ (row ++ behind)) ≡ length table
  lent_length = simp (length-append, length-drop) (omega (arith, row_length, front))

  pub put_lent : PutAt row a n table (take a table ++ (row ++ behind))
  put_lent = record {
    word = λ i h. let e : a + i - a ≡ i = omega arith in
        get_or-append_right (take a table) (row ++ behind) a (a + i) (pos 0) front (omega arith) ∙ ap (at (row ++ behind)) e ∙ get_or_append_left row behind (pos 0) i (omega (arith, row_length));
    before = λ j h. get_or_append_left (take a table) (row ++ behind) (pos 0) j (omega (arith, front)) ∙ get_or-take a table j (pos 0) h;
    behind = λ j h. let e : a + (k + (j - a - n)) ≡ j = omega arith in
        get_or-append_right (take a table) (row ++ behind) a j (pos 0) front (omega arith) ∙ get_or-append_right row behind n (j - a) (pos 0) row_length (omega arith)
        ∙ get_or-drop k (drop a table) (j - a - n) (pos 0) ∙ get_or-drop a table (k + (j - a - n)) (pos 0) ∙ ap (at table) e;
  }

-- the same where only the first n words of it were written
pub put_front : {table row : List ℤ} {a m n : ℕ} {table₁ : List ℤ} → PutAt row a m table table₁ → n ≤ m → ((k : ℕ) → n ≤ k → k < m → at row k ≡ at table (a + k)) → PutAt row a n table table₁
put_front {table} {row} {a} {m} {n} {table₁} p h same = record { word = λ k l. p.word k (omega arith); before = p.before; behind = λ j l. go j l (dec_lt j (a + m)) }
  where
    go : (j : ℕ) → a + n ≤ j → Dec (j < a + m) → at table₁ j ≡ at table j
    go j l (no d) = p.behind j (omega arith)
    go j l (yes d) = let e : a + (j - a) ≡ j = omega arith in subst (λ i. at table₁ i ≡ at table i) e (p.word (j - a) (omega arith) ∙ same (j - a) (omega arith) (omega arith))

-- ---- the rows of the phases below q

abbrev narrow : ℤ → ℤ
narrow = limit (negsuc 32767) (pos 32767)

module _ (source : ℕ → ℤ) (N q k : ℕ) where
  source_word_tap : k < N → source_word source N q k ≡ source (q * N + k)
  unfolding source_word
  source_word_tap h = simp (lt-ltb k N h)

  source_word_rest : N ≤ k → source_word source N q k ≡ pos 0
  unfolding source_word
  source_word_rest h = simp (le-ltb k N h)

-- a row of a book's words
pub narrowed_row : (b : List ℤ) (i k : ℕ) {x : ℤ} → x ≡ narrow (at b (5 + i + k)) → x ≡ narrowed b (i + k)
narrowed_row b i k e = let place : 5 + i + k ≡ 5 + (i + k) = omega arith in e ∙ ap (λ n. narrow (at b n)) place

pub phases_none : (source : ℕ → ℤ) (N W : ℕ) (table : List ℤ) → ((j : ℕ) → at table j ≡ pos 0) → PhasesOf source N W 0 table
phases_none source N W table zeros = record { word = λ q k h l. absurd (omega arith); rest = λ j h. zeros j }

pub phases_more : {source : ℕ → ℤ} {N W q : ℕ} {row table table₁ : List ℤ} → PhasesOf source N W q table → N ≤ W → ((k : ℕ) → k < N → at row k ≡ source (q * N + k))
    → PutAt row (q * W) N table table₁ → PhasesOf source N W (q + 1) table₁
phases_more {source} {N} {W} {q} {row} {table} {table₁} p wide words put = record {
  word = λ i k h l. at_row i k h l (ℕ_discrete i q) (dec_lt k N);
  rest = λ j h. put.behind j (omega arith) ∙ p.rest j (omega arith);
}
  where
    at_row : (i k : ℕ) → i < q + 1 → k < W → Dec (i ≡ q) → Dec (k < N) → at table₁ (i * W + k) ≡ source_word source N i k
    at_row i k h l (yes d) (yes m) = rw d (put.word k m ∙ words k m ∙ sym (source_word_tap source N q k m))
    at_row i k h l (yes d) (no m) =
        rw d (put.behind (q * W + k) (omega arith) ∙ p.rest (q * W + k) (omega arith) ∙ sym (source_word_rest source N q k (omega arith)))
    at_row i k h l (no n) d =
        let below : i < q = omega arith in
        put.before (i * W + k) (omega (arith, mul-le-mul_right W below)) ∙ p.word i k below l

-- ---- rows of eight words are two rows of four

pub halves : {source : ℕ → ℤ} {h : ℕ} {words table : List ℤ} → PhasesOf source 8 8 h words → PhasesOf (at words) 4 8 (2 * h) table → PhasesOf source 4 8 (2 * h) table
halves {source} {h} {words} p t = record { word = λ q k m l. t.word q k m l ∙ same q k m (dec_lt k 4); rest = t.rest }
  where
    word : (j : ℕ) → j < h * 8 → at words j ≡ source j
    word j m =
        let place : j / 8 * 8 + j % 8 ≡ j = omega arith in
        let e : at words (j / 8 * 8 + j % 8) ≡ source (j / 8 * 8 + j % 8) = p.word (j / 8) (j % 8) (omega arith) (omega arith) ∙ source_word_tap source 8 (j / 8) (j % 8) (omega arith) in
        subst (λ i. at words i ≡ source i) place e

    same : (q k : ℕ) → q < 2 * h → Dec (k < 4) → source_word (at words) 4 q k ≡ source_word source 4 q k
    same q k m (yes l) = source_word_tap (at words) 4 q k l ∙ word (q * 4 + k) (omega arith) ∙ sym (source_word_tap source 4 q k l)
    same q k m (no n) = let l : 4 ≤ k = omega arith in source_word_rest (at words) 4 q k l ∙ sym (source_word_rest source 4 q k l)

-- ---- the width of a row

abbrev pub Width : ℕ → Type 0
Width w = (w ≡ 8) ⊎ (w ≡ 16) ⊎ (w ≡ 32)

width_between : {w : ℕ} → Width w → (8 ≤ w) × (w ≤ 32)
width_between (inl e) = omega arith
width_between (inr (inl e)) = omega arith
width_between (inr (inr e)) = omega arith

module _ (N : ℕ) where
  pub row_width_is : Width (row_width N)
  unfolding row_width
  row_width_is = go (leb N 8) (leb N 16)
    where
      go : (s t : Bool) → Width (cond s 8 (cond t 16 32))
      go true t = inl refl
      go false true = inr (inl refl)
      go false false = inr (inr refl)

  pub row_width_between : (8 ≤ row_width N) × (row_width N ≤ 32)
  row_width_between = width_between row_width_is

  pub taps_fit : N ≤ 24 → N ≤ row_width N
  unfolding row_width
  taps_fit h = go (leb N 8) (leb N 16) refl refl
    where
      go : (s t : Bool) → leb N 8 ≡ s → leb N 16 ≡ t → N ≤ cond s 8 (cond t 16 32)
      go true t e d = leb-true N 8 e
      go false true e d = leb-true N 16 d
      go false false e d = omega arith

-- ---- the rows of an accepted book

module _ (b : List ℤ) (a : Accepted b) where
  abbrev N : ℕ
  N = (sizes_of b).taps

  abbrev M : ℕ
  M = (sizes_of b).phases

  abbrev W : ℕ
  W = row_width (sizes_of b).taps

  wide : N ≤ W
  wide = taps_fit N (sizes_bounded b a).taps_high

  -- its impulses fit 16 bits
  narrow_same : (i : ℕ) → i < M * N → narrow (at b (5 + i)) ≡ at b (5 + i)
  unfolding coefficients_in_range words_in_range
  narrow_same i h =
      let word = every-at (M * N) (λ i. within (negsuc 32767) (pos 32767) (at b (5 + i))) (&&-left _ _ a.ranged) i h in
      let r = within_true (negsuc 32767) (pos 32767) (at b (5 + i)) word in
      limit-same (negsuc 32767) (pos 32767) (at b (5 + i)) r.0 r.1

  module _ (q k : ℕ) where
    row_word_tap : k < N → row_word b q k ≡ impulse b q k
    unfolding row_word
    row_word_tap h = simp (lt-ltb k N h)

    row_word_rest : N ≤ k → row_word b q k ≡ pos 0
    unfolding row_word
    row_word_rest h = simp (le-ltb k N h)

    narrow_row : q < M → source_word (narrowed b) N q k ≡ row_word b q k
    unfolding impulse_word
    narrow_row h = go (dec_lt k N)
      where
        go : Dec (k < N) → source_word (narrowed b) N q k ≡ row_word b q k
        go (yes l) = source_word_tap (narrowed b) N q k l ∙ narrow_same (q * N + k) (row_below h l) ∙ sym (impulse_stored b q k h) ∙ sym (row_word_tap l)
        go (no n) = let l : N ≤ k = omega arith in source_word_rest (narrowed b) N q k l ∙ sym (row_word_rest l)

  -- what the rows are
  pub record Whole (table : List ℤ) : Type 0 where
    pub room : (M + 1) * W ≤ length table
    pub word : (q k : ℕ) → q ≤ M → k < W → at table (q * W + k) ≡ row_word b q k

  -- behind the phases' rows comes that of phase 0, from its second impulse on
  pub rows_whole : {row table table₁ : List ℤ} → PhasesOf (narrowed b) N W M table → ((k : ℕ) → k < N - 1 → at row k ≡ narrowed b (suc k)) → PutAt row (M * W) (N - 1) table table₁
      → (M + 1) * W ≤ length table₁ → Whole table₁
  unfolding impulse_word
  rows_whole {row} {table} {table₁} p words put room = record {
    room = room;
    word = λ q k h l. at_row q k h l (dec_lt q M) (dec_lt (suc k) N);
  }
    where
      at_row : (q k : ℕ) → q ≤ M → k < W → Dec (q < M) → Dec (suc k < N) → at table₁ (q * W + k) ≡ row_word b q k
      at_row q k h l (yes m) d = put.before (q * W + k) (row_below m l) ∙ p.word q k m l ∙ narrow_row q k m
      at_row q k h l (no m) (yes d) =
          let e : q ≡ M = omega arith in
          let place : suc k ≡ 0 * N + suc k = omega arith in
          rw e (put.word k (omega arith) ∙ words k (omega arith) ∙ ap (narrowed b) place ∙ narrow_same (0 * N + suc k) (row_below (sizes_bounded b a).phases_low d)
          ∙ sym (impulse_past b k d) ∙ sym (row_word_tap M k (omega arith)))
      at_row q k h l (no m) (no d) =
          let e : q ≡ M = omega arith in
          rw e (put.behind (M * W + k) (omega arith) ∙ p.rest (M * W + k) (omega arith) ∙ sym (last k (omega arith) (dec_lt k N)))
        where
          last : (k : ℕ) → N ≤ suc k → Dec (k < N) → row_word b M k ≡ pos 0
          last k h (yes l) = row_word_tap M k l ∙ impulse_end b k h
          last k h (no n) = row_word_rest M k (omega arith)

  -- ---- what they add up to

  module _ {table : List ℤ} {positive : Bool} (r : RowsOf b table positive) (q : ℕ) (h : q ≤ M) where
    pub row_tap : (k : ℕ) → k < N → at table (q * W + k) ≡ impulse b q k
    row_tap k l = r.word q k h (omega (arith, wide)) ∙ row_word_tap q k l

    pub row_rest : (k : ℕ) → N ≤ k → k < W → at table (q * W + k) ≡ pos 0
    row_rest k m l = r.word q k h l ∙ row_word_rest q k m

    ends : W ≡ N + (W - N)
    ends = omega (arith, wide)

    pub row_total : total W (λ k. nat_abs (at table (q * W + k))) ≤ 65536
    unfolding phase_sum
    row_total =
        let word : ℕ → ℕ = λ k. nat_abs (at table (q * W + k)) in
        let taps : total N word ≡ phase_sum b q = total_ext N (λ k l. ap nat_abs (row_tap k l)) in
        let rest : total (W - N) (λ k. word (N + k)) ≡ total (W - N) (λ k. 0) = total_ext (W - N) (λ k l. ap nat_abs (row_rest (N + k) (omega arith) (omega arith))) in
        omega (arith, ap (λ n. total n word) ends, total-split N (W - N) word, taps, rest, total-same (W - N) 0, phase_sum_bound b a q h)
