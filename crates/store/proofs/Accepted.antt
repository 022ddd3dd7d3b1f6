-- What is known of an accepted store. Assumes nothing.
use mathlib.Core.Bool.{not, ◌&&◌}
use mathlib.Core.List.{List}
use mathlib.Core.Path.{◌≡◌}
use Prim.Native.Nat.{◌≤◌}
use borrow.Author.Tests.{ltb-false}
use lib.Dec.{ltb}
use lib.IntN.{ℤ}
use lib.ListN.{length}
use Rattle.arith.specs.Lists.{at}
use Rattle.arith.proofs.Tests.{&&-left, &&-right}
use Rattle.refusal.specs.Number.{refuse}
use Rattle.refusal.proofs.Numbers.{none_first, none_second, condition_fails, not_refused}
use Rattle.store.specs.Sizes.{samples_in_range, top_in_range, store_length}
use Rattle.store.specs.Store.{sample_count, top_level}
use Rattle.store.specs.Check.{store_number}
use Rattle.store.proofs.Ranges.{samples_high, top_high}

pub record Accepted (store : List ℤ) : Type 0 where
  pub header : 2 ≤ length store
  pub samples_high : sample_count store ≤ 1048576
  pub top_high : top_level store ≤ 4
  pub room : store_length (sample_count store) (top_level store) ≤ length store

pub accepted : (store : List ℤ) → store_number store ≡ 0 → Accepted store
unfolding store_number sample_count top_level
accepted store e =
    let e8 = none_second (refuse 9 (ltb (length store) 2)) _ e in
    let sizes = not_refused 7 (samples_in_range (at store 0) && top_in_range (at store 1)) (none_first _ _ e8) in
    let e9 = none_second (refuse 8 (not (samples_in_range (at store 0) && top_in_range (at store 1)))) _ e8 in
    record {
      header = ltb-false _ _ (condition_fails 8 _ (none_first _ _ e));
      samples_high = samples_high (at store 0) (&&-left _ (top_in_range (at store 1)) sizes);
      top_high = top_high (at store 1) (&&-right (samples_in_range (at store 0)) _ sizes);
      room = ltb-false _ _ (condition_fails 8 _ (none_first _ _ e9));
    }
