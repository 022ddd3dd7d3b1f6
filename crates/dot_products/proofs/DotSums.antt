-- A sum of products and one product more, and one of parts of lists. Assumes nothing.
use mathlib.Core.Path.{◌≡◌, sym, ap, ap₂, subst, ◌∙◌}
use mathlib.Core.List.{List, ◌++◌, append-nil}
use Prim.Native.Nat.{ℕ, suc, ◌+◌, ◌-◌, ◌≤◌}
use native.Mathlib.Omega.{arith}
use lib.IntN.{ℤ, ◌+ℤ◌, ◌*ℤ◌}
use lib.ListN.{length, drop}
use lib.Seq.{drop-length}
use Rattle.arith.specs.Lists.{at, part, tabulate, overwrite}
use Rattle.arith.proofs.Lists.{at_part, part_length, length-tabulate}
use Rattle.arith.proofs.Written.{newest}
use Rattle.arith.proofs.Sum.{sum_ext, sum_more}
use Rattle.dot_products.specs.Sums.{dot_sum, Summable, Fits32}

-- and one product more
pub dot_sum_more : (words : List ℤ) (a : ℕ) (table : List ℤ) (r n : ℕ) → dot_sum words a table r (n + 1) ≡ dot_sum words a table r n +ℤ at words (a + n) *ℤ at table (r + n)
unfolding dot_sum
dot_sum_more words a table r n = sum_more n (λ k. at words (a + k) *ℤ at table (r + k))

-- the same from the first word on
pub dot_sum_next : (words table : List ℤ) (n : ℕ) → dot_sum words 0 table 0 (n + 1) ≡ dot_sum words 0 table 0 n +ℤ at words n *ℤ at table n
dot_sum_next words table n = let e : 0 + n ≡ n = omega arith in dot_sum_more words 0 table 0 n ∙ ap (λ k. dot_sum words 0 table 0 n +ℤ at words k *ℤ at table k) e

-- of the words from place a on, and the coefficients from place r on
module _ (words : List ℤ) (a : ℕ) (table : List ℤ) (r : ℕ) where
  abbrev words_on : List ℤ
  words_on = part words a (length words - a)

  abbrev table_on : List ℤ
  table_on = part table r (length table - r)

  pub dot_sum_on : (n : ℕ) → a + n ≤ length words → r + n ≤ length table → dot_sum words_on 0 table_on 0 n ≡ dot_sum words a table r n
  unfolding dot_sum
  dot_sum_on n h l = sum_ext n (λ k m. let e : 0 + k ≡ k = omega arith in
      ap₂ ◌*ℤ◌ (ap (at words_on) e ∙ at_part words a (length words - a) k (omega arith)) (ap (at table_on) e ∙ at_part table r (length table - r) k (omega arith)))

  pub summable_on : {W : ℕ} → Summable words a table r W → Summable words_on 0 table_on 0 W
  summable_on {W} s = record {
    narrow = s.narrow;
    words_room = omega (arith, s.words_room, part_length words a (length words - a) (omega (arith, s.words_room)));
    table_room = omega (arith, s.table_room, part_length table r (length table - r) (omega (arith, s.table_room)));
    fits = λ n h. subst Fits32 (sym (dot_sum_on n (omega (arith, s.words_room)) (omega (arith, s.table_room)))) (s.fits n h);
  }

  pub dot_on : {W : ℕ} → Summable words a table r W → {x : ℤ} → x ≡ dot_sum words_on 0 table_on 0 W → x ≡ dot_sum words a table r W
  dot_on {W} s e = rw (← dot_sum_on W s.words_room s.table_room) e

-- a line of n words of which all are written, the newest in front
pub newest_all : {A : Type 0} (xs : List A) (n : ℕ) (f : ℕ → A) → length xs ≡ n → newest xs n f n ≡ tabulate n (λ j. f (n - suc j))
newest_all {A} xs n f e =
    let values : List A = tabulate n (λ j. f (n - suc j)) in
    let none : n - n ≡ 0 = omega arith in
    let all : 0 + length values ≡ length xs = omega (arith, e, length-tabulate n (λ j. f (n - suc j))) in
    ap (λ a. overwrite xs a values) none ∙ ap (λ a. values ++ drop a xs) all ∙ ap (λ ys. values ++ ys) (drop-length xs) ∙ append-nil values
