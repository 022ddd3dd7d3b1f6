-- The laws of a layout: where a level lies, and that room for levels 0..T is room for fewer. Assumes nothing.
use mathlib.Core.Path.{◌≡◌, ap₂}
use mathlib.Core.List.{List}
use Prim.Native.Nat.{ℕ, ◌+◌, ◌-◌, ◌≤◌}
use native.Mathlib.Omega.{arith}
use lib.IntN.{ℤ}
use lib.ListN.{length, get_or, take, drop}
use Rattle.arith.proofs.Lists.{part_length}
use Rattle.store.specs.Sizes.{level_length, level_start}
use Rattle.store.specs.Store.{sample_count, top_level, store_level}
use Rattle.store.proofs.Lengths.{level_length-≤, levels_below_mono, level_start_is, level_start_more}
use Rattle.values.specs.declared.layout.Layout.{Layout}
use Rattle.values.specs.Layout.{LevelsIn, LayoutOf}

pub fewer_levels : {b store : List ℤ} {T j : ℕ} {l : Layout} → LayoutOf b store T l → j ≤ T → LayoutOf b store j l
fewer_levels {b} {store} {T} {j} {l} o h =
    let levels = o.levels in
    let S = sample_count store in
    let top = top_level store in
    let above : j + 1 ≤ T + 1 = omega arith in
    record {
      sizes = o.sizes;
      levels = record {
        samples_high = levels.samples_high;
        starts = levels.starts;
        room = omega (arith, levels.room, level_start_is S top (j + 1), level_start_is S top (T + 1), levels_below_mono S above);
      };
    }

-- the words between the place of a level and the next one's
module _ {store : List ℤ} {level : ℕ} {l : Layout} (low : level ≤ 4) (levels : LevelsIn store level l) where
  abbrev pub start : ℕ
  start = get_or l.starts level 0

  abbrev pub end : ℕ
  end = get_or l.starts (level + 1) 0

  abbrev S : ℕ
  S = sample_count store

  start_is : start ≡ level_start S (top_level store) level
  start_is = levels.starts level (omega arith)

  end_is : end ≡ start + level_length S level
  end_is = omega (arith, levels.starts (level + 1) (omega arith), level_start_more S (top_level store) level, start_is)

  pub start_below : start ≤ end
  start_below = omega (arith, end_is)

  pub end_inside : end ≤ length store
  end_inside = omega (arith, levels.starts (level + 1) (omega arith), levels.room)

  pub words_are : take (end - start) (drop start store) ≡ store_level store level
  unfolding store_level
  words_are =
      let count : end - start ≡ level_length S level = omega (arith, end_is) in
      ap₂ (λ n a. take n (drop a store)) count start_is

  pub words_count : length (take (end - start) (drop start store)) ≤ 1048576
  words_count =
      omega (arith, part_length store start (end - start) (omega (arith, end_is, end_inside)), end_is, level_length-≤ S level, levels.samples_high)
