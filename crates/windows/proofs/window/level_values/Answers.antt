-- `windows::window::level_values` meets its contract: the window has every word that the run's values read, and its values are the level's. Assumes
-- nothing.
use mathlib.Core.Path.{◌≡◌, refl, ap, ◌∙◌}
use mathlib.Core.List.{List}
use Prim.Native.Nat.{ℕ, suc, ◌+◌, ◌*◌, ◌-◌, ◌/◌, ◌%◌, ◌^◌, ◌≤◌, ◌<◌}
use native.Mathlib.Nat.{le_trans, div-add-mod', div-mul-le_self, mod-eq_of_lt, le-div_iff_mul-le, div-lt_iff_lt-mul}
use native.Mathlib.Omega.{arith}
use lib.IntN.{ℤ, pos, ◌-ℤ◌}
use lib.ListN.{length, get_or, length-take}
use lib.Pow.{pow_mono, pow_pos}
use Rattle.arith.specs.Lists.{at, tabulate}
use Rattle.arith.proofs.Lists.{tabulate_ext}
use Rattle.book.proofs.Accepted.{Accepted, accepted, sizes_bounded}
use Rattle.values.specs.Values.{limited_word, unit, offset_at, level_value}
use Rattle.rows.specs.Rows.{row_width}
use Rattle.windows.specs.declared.source.Source.{Source}
use Rattle.windows.specs.Places.{PlacesOf}
use Rattle.windows.specs.Runs.{Together, run_value}
use Rattle.rows.proofs.ImpulseRows.{row_width_is, row_width_between}
use Rattle.windows.proofs.LevelRuns.{distance_words, LevelRun, level-run}
use Rattle.windows.proofs.window.level_values.Goals as goal

quotient-≤ : {x y : ℕ} (k : ℕ) → 0 < k → x ≤ y → x / k ≤ y / k
quotient-≤ {x} k h l = (le-div_iff_mul-le h).1 (le_trans (div-mul-le_self x k) l)

-- an offset of level 0
sixteens : {l x : ℕ} (y : ℕ) → l ≡ 0 → x ≡ y * 2 ^ (4 - l) → x % 16 ≡ 0
sixteens {l} {x} y e d = let m : x ≡ y * 16 = d ∙ ap (λ n. y * 2 ^ (4 - n)) e in omega arith

-- positions that a window has room for
module _ (s : Source) (positions : List ℕ) (level : ℕ) (t : Together positions level) where
  abbrev book : List ℤ
  book = s.book.now

  abbrev taps : ℕ
  taps = s.layout.taps

  abbrev count : ℕ
  count = length positions

  abbrev position_at : ℕ → ℕ
  position_at k = get_or positions k 0

  abbrev base : ℕ
  base = position_at 0 / 2 ^ (28 + level)

  abbrev last : ℕ
  last = position_at (count - 1) / 2 ^ (28 + level)

  sound : Accepted book
  sound = accepted book s.laid_out.sizes.book_accepted

  few : taps ≤ 24
  few = omega (arith, s.laid_out.sizes.taps, (sizes_bounded book sound).taps_high)

  phases_few : s.layout.phases ≤ 128
  phases_few = omega (arith, s.laid_out.sizes.phases, (sizes_bounded book sound).phases_high)

  spread_low : last ≤ base + 127
  unfolding unit
  spread_low = t.apart

  in_order : base ≤ last
  in_order = quotient-≤ (2 ^ (28 + level)) (pow_pos (28 + level)) (t.between (count - 1) (omega (arith, t.some))).0

  last_high : last < 2 ^ 33
  last_high =
      let h : 2 ^ 28 ≤ 2 ^ (28 + level) = pow_mono {i = 28} (omega arith) in
      (div-lt_iff_lt-mul (pow_pos (28 + level))).1 (omega (arith, t.early))

  -- how many words the window has
  abbrev reach : ℕ
  reach = (last - base + taps + 7) / 8 * 8

  reach_high : reach ≤ 160
  reach_high = omega (arith, spread_low, few)

  -- where it begins
  abbrev start : ℕ
  start = base * 2 ^ (28 + level) % 2 ^ 64

  start_is : start ≡ base * unit level
  unfolding unit
  start_is = mod-eq_of_lt (omega (arith, (t.between 0 t.some).1, t.early, div-add-mod' (position_at 0) (2 ^ (28 + level))))

  behind : (k : ℕ) → k < count → base * unit level ≤ position_at k
  unfolding unit
  behind k h = omega (arith, (t.between k h).0, div-add-mod' (position_at 0) (2 ^ (28 + level)))

  before_last : (k : ℕ) → k < count → position_at k / unit level ≤ last
  unfolding unit
  before_last k h = quotient-≤ (2 ^ (28 + level)) (pow_pos (28 + level)) (t.between k h).1

  near_by : (k : ℕ) → k < count → (start ≤ position_at k) × ((position_at k - start) * 2 ^ (4 - level) / 2 ^ 32 ≤ last - base)
  near_by k h = rw start_is (behind k h, omega (arith, distance_words book level t.level_high base (position_at k) (behind k h), before_last k h))

  -- once the words are staged
  module _ (words window : List ℤ) (rows firsts offsets : List ℕ) (w : ℕ) where
    abbrev Run : Type 0
    Run = LevelRun book sound s.staged words level t.level_high base last spread_low count position_at behind before_last window rows firsts offsets w

    run : {width from : ℕ} → width ≡ row_width taps → w ≡ width → length rows ≡ count → length window ≡ reach
        → ((k : ℕ) → k < reach → at window k ≡ limited_word words level (pos from -ℤ pos k)) → from ≡ last + taps / 2
        → PlacesOf s.layout.phases width (last - base) count (λ k. (position_at k - start) * 2 ^ (4 - level)) rows firsts offsets → Run
    run e i room long staged m places =
        let sizes = s.laid_out.sizes in
        level-run book sound s.staged words level t.level_high base last spread_low count position_at behind before_last window rows firsts offsets sizes.taps (e ∙ ap row_width sizes.taps)
        sizes.phases start_is i
        (record {
          rows_length = room;
          enough = omega (arith, long);
          window_high = omega (arith, long, reach_high);
          staged = λ k h. staged k (omega (arith, long)) ∙ ap (λ n. limited_word words level (pos n -ℤ pos k)) m;
          places = places;
        })

    -- its values, and its offsets at level 0
    all_values : Run → {n : ℕ} → n ≡ count → tabulate n (λ j. run_value window s.table.now w rows firsts offsets (n - suc j)) ≡ tabulate count (λ j. level_value book words level (position_at (count - suc j)))
    all_values r e = rw e (tabulate_ext count (λ j h. r.1 (count - suc j) (omega arith)))

    all_sixteens : Run → {n : ℕ} → n ≡ count → level ≡ 0 → (k : ℕ) → k < n → get_or offsets k 0 % 16 ≡ 0
    all_sixteens r e z k h = sixteens (offset_at book level (position_at k)) z (r.2 k (omega arith))

pub places-requires-clause-sizes : goal.places-requires-clause-sizes
places-requires-clause-sizes c =
    let s = c.args.source.now in
    let positions = c.args.positions.now in
    let t = c.requires.together in
    let wide = rw (← c.row_width-width.ensures) at (row_width_between s.layout.taps) in
    (omega arith, phases_few s positions c.args.level t, wide.1, omega (arith, spread_low s positions c.args.level t))

pub places-requires-clause-near_by : goal.places-requires-clause-near_by
places-requires-clause-near_by c = near_by c.args.source.now c.args.positions.now c.args.level c.requires.together

pub overflow_add-window : goal.overflow_add-window
overflow_add-window c = omega (arith, reach_high c.args.source.now c.args.positions.now c.args.level c.requires.together)

pub overflow_add-window-2 : goal.overflow_add-window-2
overflow_add-window-2 c = omega (arith, reach_high c.args.source.now c.args.positions.now c.args.level c.requires.together)

pub overflow_mul-window : goal.overflow_mul-window
overflow_mul-window c = omega (arith, reach_high c.args.source.now c.args.positions.now c.args.level c.requires.together)

pub slice_bounds-window-end : goal.slice_bounds-window-end
slice_bounds-window-end c = omega (arith, reach_high c.args.source.now c.args.positions.now c.args.level c.requires.together)

pub slice_bounds-window-end-2 : goal.slice_bounds-window-end-2
slice_bounds-window-end-2 c = simp length-take (omega (arith, reach_high c.args.source.now c.args.positions.now c.args.level c.requires.together))

pub staged-requires : goal.staged-requires
staged-requires c =
    let s = c.args.source.now in
    let positions = c.args.positions.now in
    let t = c.requires.together in
    let reach = reach_high s positions c.args.level t in
    (t.level_high, simp length-take (omega (arith, reach)), omega (arith, last_high s positions c.args.level t, few s positions c.args.level t))

pub run-requires-clause-width : goal.run-requires-clause-width
run-requires-clause-width c = rw c.row_width-width.ensures (row_width_is c.args.source.now.layout.taps)

pub run-requires-clause-run : goal.run-requires-clause-run
run-requires-clause-run c =
    let s = c.args.source.now in
    let positions = c.args.positions.now in
    let t = c.requires.together in
    let high = reach_high s positions c.args.level t in
    let many : length c.places.new.rows ≡ length positions = (simp length-take at c.places.auto.rows) ∙ omega arith in
    let long : length c.staged.new.window ≡ reach s positions c.args.level t = (simp length-take at c.staged.auto.window) ∙ omega (arith, high) in
    (run s positions c.args.level t c.args.words.now c.staged.new.window c.places.new.rows c.places.new.firsts c.places.new.offsets c.row_width-width.result c.row_width-width.ensures refl
    many long (λ k h. c.staged.ensures k (simp length-take (omega (arith, high)))) (omega arith) c.places.ensures).0

pub run-requires-clause-offsets : goal.run-requires-clause-offsets
run-requires-clause-offsets c =
    let s = c.args.source.now in
    let positions = c.args.positions.now in
    let t = c.requires.together in
    let high = reach_high s positions c.args.level t in
    let many : length c.places.new.rows ≡ length positions = (simp length-take at c.places.auto.rows) ∙ omega arith in
    let long : length c.staged.new.window ≡ reach s positions c.args.level t = (simp length-take at c.staged.auto.window) ∙ omega (arith, high) in
    all_sixteens s positions c.args.level t c.args.words.now c.staged.new.window c.places.new.rows c.places.new.firsts c.places.new.offsets c.row_width-width.result
    (run s positions c.args.level t c.args.words.now c.staged.new.window c.places.new.rows c.places.new.firsts c.places.new.offsets c.row_width-width.result c.row_width-width.ensures refl
    many long (λ k h. c.staged.ensures k (simp length-take (omega (arith, high)))) (omega arith) c.places.ensures) many

pub returns : goal.returns
returns c =
    let s = c.args.source.now in
    let positions = c.args.positions.now in
    let t = c.requires.together in
    let high = reach_high s positions c.args.level t in
    let many : length c.places.new.rows ≡ length positions = (simp length-take at c.places.auto.rows) ∙ omega arith in
    let long : length c.staged.new.window ≡ reach s positions c.args.level t = (simp length-take at c.staged.auto.window) ∙ omega (arith, high) in
    c.run.ensures
    ∙ all_values s positions c.args.level t c.args.words.now c.staged.new.window c.places.new.rows c.places.new.firsts c.places.new.offsets c.row_width-width.result
    (run s positions c.args.level t c.args.words.now c.staged.new.window c.places.new.rows c.places.new.firsts c.places.new.offsets c.row_width-width.result c.row_width-width.ensures refl
    many long (λ k h. c.staged.ensures k (simp length-take (omega (arith, high)))) (omega arith) c.places.ensures) many
