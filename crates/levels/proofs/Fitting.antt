-- What is known where the builder's numbers 1 to 9 are not given. Assumes nothing.
use mathlib.Core.Path.{◌≡◌}
use mathlib.Core.Bool.{not, ◌&&◌}
use mathlib.Core.List.{List}
use Prim.Native.Nat.{ℕ, ◌≤◌}
use borrow.Author.Tests.{ltb-false}
use lib.IntN.{ℤ, pos}
use Rattle.arith.proofs.Tests.{&&-left, &&-right}
use Rattle.refusal.specs.Number.{refuse}
use Rattle.book.specs.Check.{book_number}
use Rattle.refusal.proofs.Numbers.{none_first, none_second, condition_fails, not_refused}
use Rattle.store.specs.Sizes.{samples_in_range, top_in_range, store_length}
use Rattle.store.proofs.Ranges.{samples_high, top_high}
use Rattle.levels.specs.Build.{build_number}

pub record Fitting (b : List ℤ) (S T words : ℕ) : Type 0 where
  pub book : book_number b ≡ 0
  pub samples_high : S ≤ 1048576
  pub top_high : T ≤ 4
  pub room : store_length S T ≤ words

pub fitting : (b : List ℤ) (S T words : ℕ) → build_number b S T words ≡ 0 → Fitting b S T words
unfolding build_number
fitting b S T words e =
    let e8 = none_second (book_number b) _ e in
    let sizes = not_refused 7 (samples_in_range (pos S) && top_in_range (pos T)) (none_first _ _ e8) in
    record {
      book = none_first (book_number b) _ e;
      samples_high = samples_high (pos S) (&&-left _ (top_in_range (pos T)) sizes);
      top_high = top_high (pos T) (&&-right (samples_in_range (pos S)) _ sizes);
      room = ltb-false words (store_length S T) (condition_fails 8 _ (none_second (refuse 8 (not (samples_in_range (pos S) && top_in_range (pos T)))) _ e8));
    }
