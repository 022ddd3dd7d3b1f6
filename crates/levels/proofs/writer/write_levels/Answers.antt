-- `levels::writer::write_levels` meets its contract. Assumes nothing.
use mathlib.Core.Path.{◌≡◌, sym, ap, ap₂, ◌∙◌}
use mathlib.Core.List.{List}
use Prim.Native.Nat.{ℕ, ◌+◌, ◌^◌, ◌≤◌, ◌<◌}
use native.Mathlib.Nat.{le_refl, le_trans, pow-le-pow_right}
use native.Mathlib.Omega.{arith}
use lib.IntN.{ℤ, nat_abs}
use lib.ListN.{length, drop}
use Rattle.arith.specs.Lists.{at, part, overwrite}
use Rattle.book.specs.Check.{tap_sum}
use Rattle.octave.specs.Octave.{half_length, next_level}
use Rattle.store.specs.Sizes.{level_length, levels_below}
use Rattle.levels.specs.Levels.{level_of, levels_of}
use Rattle.store.proofs.Lengths.{level_length-zero, level_length_more, levels_below-zero, levels_below_more, levels_below_mono}
use Rattle.arith.proofs.Parts.{overwrite_again, length-overwrite}
use Rattle.levels.proofs.Laws.{length_first, length_levels, level_bound, levels_zero, level_begins, levels_more}
use Rattle.levels.proofs.writer.write_levels.Goals as goal

module _ (taps samples given : List ℤ) (top : ℕ) (room : levels_below (length samples) (top + 1) ≤ length given) where
  -- levels 0..j have room in the store
  fits : (j : ℕ) → j ≤ top → length (levels_of taps samples j) ≤ length given
  fits j h =
      let e : j + 1 ≤ top + 1 = omega arith in
      omega (arith, length_levels taps samples j, levels_below_mono (length samples) e, room)

  -- they cover level 0, which is written first
  longer : (j : ℕ) → length (levels_of taps samples 0) ≤ length (levels_of taps samples j)
  longer j =
      let h : 0 + 1 ≤ j + 1 = omega arith in
      omega (arith, length_levels taps samples 0, length_levels taps samples j, levels_below_mono (length samples) h)

  module _ (first : List ℤ) (first_is : first ≡ overwrite given 0 (levels_of taps samples 0)) where
    -- what is written over level 0 is written over the store that was given
    over_first : (j : ℕ) → overwrite first 0 (levels_of taps samples j) ≡ overwrite given 0 (levels_of taps samples j)
    over_first j =
        ap (λ xs. overwrite xs 0 (levels_of taps samples j)) first_is
        ∙ overwrite_again given (levels_of taps samples 0) (levels_of taps samples j) (longer j)

    -- at each turn
    module _ (j start long : ℕ) (store : List ℤ) (inside : j ≤ top) (start_is : start ≡ levels_below (length samples) j) (long_is : long ≡ level_length (length samples) j)
        (now : store ≡ overwrite first 0 (levels_of taps samples j)) where
      store_is : store ≡ overwrite given 0 (levels_of taps samples j)
      store_is = now ∙ over_first j

      store_length : length store ≡ length given
      store_length = ap length store_is ∙ length-overwrite given (levels_of taps samples j) 0 (omega (arith, fits j inside))

      level_now : part store start long ≡ level_of taps samples j
      level_now =
          ap (λ xs. part xs start long) store_is
          ∙ ap₂ (λ m n. part (overwrite given 0 (levels_of taps samples j)) m n) start_is long_is
          ∙ level_begins taps samples (drop (0 + length (levels_of taps samples j)) given) j j (le_refl j)

      -- the level above lies in the store
      next_fits : j < top → start + long + half_length long ≤ length given
      next_fits more =
          let h : j + 1 + 1 ≤ top + 1 = omega arith in
          omega (arith, levels_below_more (length samples) j, start_is, long_is, ap half_length long_is, level_length_more (length samples) j, levels_below_more (length samples) (j + 1), levels_below_mono (length samples) h, room)

      level_small : tap_sum taps ≤ 32768 → ((k : ℕ) → nat_abs (at samples k) ≤ 2 ^ 15) → top ≤ 4 → j < top → (k : ℕ) → nat_abs (at (part store start long) k) ≤ 2 ^ 26
      level_small few small four more k =
          let h : 23 + j ≤ 26 = omega arith in
          rw level_now (le_trans (level_bound taps samples few small j k) (pow-le-pow_right (omega arith) h))

      next_start : start + long ≡ levels_below (length samples) (j + 1)
      next_start = omega (arith, start_is, long_is, levels_below_more (length samples) j)

      next_long : half_length long ≡ level_length (length samples) (j + 1)
      next_long = ap half_length long_is ∙ sym (level_length_more (length samples) j)

pub first_level-requires : goal.first_level-requires
first_level-requires c =
    let taps = c.args.taps.now.words.now in
    let samples = c.args.samples.now in
    omega (arith, fits taps samples c.args.store.now c.args.top c.requires.room.2 0 (omega arith), ap length (levels_zero taps samples), length_first samples)

pub loop-level-init : goal.loop-level-init
loop-level-init c =
    let taps = c.args.taps.now.words.now in
    let samples = c.args.samples.now in
    let given = c.args.store.now in
    let top = c.args.top in
    let room = c.requires.room.2 in
    let first = c.first_level.new.store in
    let first_is : first ≡ overwrite given 0 (levels_of taps samples 0) = c.first_level.ensures.written ∙ ap (overwrite given 0) (sym (levels_zero taps samples)) in
    (sym (levels_below-zero (length samples)), sym (level_length-zero (length samples)), first_is ∙ sym (over_first taps samples given top room first first_is 0))

pub write_next-requires : goal.write_next-requires
write_next-requires c =
    let taps = c.args.taps.now.words.now in
    let samples = c.args.samples.now in
    let given = c.args.store.now in
    let top = c.args.top in
    let room = c.requires.room.2 in
    let first = c.first_level.new.store in
    let first_is : first ≡ overwrite given 0 (levels_of taps samples 0) = c.first_level.ensures.written ∙ ap (overwrite given 0) (sym (levels_zero taps samples)) in
    let j = c.loop-level._level in
    let i = c.loop-level.invariant in
    record {
      room = omega (arith, next_fits taps samples given top room first first_is j c.loop-level.start c.loop-level.length c.loop-level.store (omega arith) i.0 i.1 i.2 c.loop-level-test.true, store_length taps samples given top room first first_is j c.loop-level.start c.loop-level.length c.loop-level.store (omega arith) i.0 i.1 i.2);
      small = level_small taps samples given top room first first_is j c.loop-level.start c.loop-level.length c.loop-level.store (omega arith) i.0 i.1 i.2 c.args.taps.now.bounded c.first_level.ensures.small c.requires.room.1 c.loop-level-test.true;
    }

pub overflow_add-start : goal.overflow_add-start
overflow_add-start c =
    let taps = c.args.taps.now.words.now in
    let samples = c.args.samples.now in
    let given = c.args.store.now in
    let top = c.args.top in
    let room = c.requires.room.2 in
    let first = c.first_level.new.store in
    let first_is : first ≡ overwrite given 0 (levels_of taps samples 0) = c.first_level.ensures.written ∙ ap (overwrite given 0) (sym (levels_zero taps samples)) in
    let j = c.loop-level._level in
    let i = c.loop-level.invariant in
    omega (arith, next_fits taps samples given top room first first_is j c.loop-level.start c.loop-level.length c.loop-level.store (omega arith) i.0 i.1 i.2 c.loop-level-test.true)

pub loop-level-preserved : goal.loop-level-preserved
loop-level-preserved c =
    let taps = c.args.taps.now.words.now in
    let samples = c.args.samples.now in
    let given = c.args.store.now in
    let top = c.args.top in
    let room = c.requires.room.2 in
    let first = c.first_level.new.store in
    let first_is : first ≡ overwrite given 0 (levels_of taps samples 0) = c.first_level.ensures.written ∙ ap (overwrite given 0) (sym (levels_zero taps samples)) in
    let j = c.loop-level._level in
    let i = c.loop-level.invariant in (
      next_start taps samples given top room first first_is j c.loop-level.start c.loop-level.length c.loop-level.store (omega arith) i.0 i.1 i.2,
      c.half_length-length.ensures ∙ next_long taps samples given top room first first_is j c.loop-level.start c.loop-level.length c.loop-level.store (omega arith) i.0 i.1 i.2,
      ◌∙◌ {b = overwrite c.loop-level.store (c.loop-level.start + c.loop-level.length) (next_level taps (part c.loop-level.store c.loop-level.start c.loop-level.length))} c.write_next.ensures
          (levels_more taps samples first j i.2 i.0 i.1),
    )

pub returns : goal.returns
returns c =
    let taps = c.args.taps.now.words.now in
    let samples = c.args.samples.now in
    let given = c.args.store.now in
    let top = c.args.top in
    let room = c.requires.room.2 in
    let first = c.first_level.new.store in
    let first_is : first ≡ overwrite given 0 (levels_of taps samples 0) = c.first_level.ensures.written ∙ ap (overwrite given 0) (sym (levels_zero taps samples)) in
    let j = c.loop-level._level in
    let i = c.loop-level.invariant in
    let e : j ≡ top = omega arith in
    store_is taps samples given top room first first_is j c.loop-level.start c.loop-level.length c.loop-level.store (omega arith) i.0 i.1 i.2 ∙ ap (λ T. overwrite given 0 (levels_of taps samples T)) e
