-- `store::check` meets its contract: it makes the tests of 9, 8, 9 and 18 in their order. Assumes nothing.
use Rattle.std.proofs.Common.{◌≡◌, ◌&&◌, true, List, ℤ, ◌≤◌, ltb, length, sym, ap₂, ◌∙◌, lt-ltb, le-ltb, not, arith}
use Rattle.arith.specs.Lists.{at}
use Rattle.arith.proofs.Tests.{&&-left, &&-right, test_fails, test_holds}
use Rattle.refusal.specs.Number.{refuse, ◌otherwise◌}
use Rattle.store.specs.Sizes.{samples_in_range, top_in_range, store_length}
use Rattle.store.specs.Store.{sample_count, top_level}
use Rattle.store.specs.Check.{lengths_right, store_number}
use Rattle.store.proofs.Ranges.{samples_high, top_high}
use Rattle.store.proofs.Lengths.{store_length_is}
use Rattle.store.proofs.check.Goals as goal
use Rattle.store.proofs.check.Goals.{Else-not-sizes_in_range, Else-store-store_length}

-- ---- what is left of a store's number where those before are not given
module _ (store : List ℤ) where
  module _ (sized : samples_in_range (at store 0) && top_in_range (at store 1) ≡ true) where
    count_high : sample_count store ≤ 1048576
    unfolding sample_count
    count_high = samples_high (at store 0) (&&-left _ (top_in_range (at store 1)) sized)

    level_high : top_level store ≤ 4
    unfolding top_level
    level_high = top_high (at store 1) (&&-right (samples_in_range (at store 0)) _ sized)

    from_9 : 2 ≤ length store
        → store_number store ≡ refuse 9 (ltb (length store) (store_length (sample_count store) (top_level store))) otherwise refuse 18 (not (lengths_right store))
    unfolding store_number refuse ◌otherwise◌
    from_9 long = simp (le-ltb (length store) 2 long, sized)

  from_18 : samples_in_range (at store 0) && top_in_range (at store 1) ≡ true → 2 ≤ length store → store_length (sample_count store) (top_level store) ≤ length store
      → store_number store ≡ refuse 18 (not (lengths_right store))
  unfolding refuse ◌otherwise◌
  from_18 sized long room = from_9 sized long ∙ simp (le-ltb (length store) _ room)

-- ---- the answers
pub returns-then-store-lt2 : goal.returns-then-store-lt2
unfolding store_number refuse ◌otherwise◌
returns-then-store-lt2 c = simp (lt-ltb _ _ c.if-store-lt2.true)

pub returns-then-not-sizes_in_range : goal.returns-then-not-sizes_in_range
unfolding store_number refuse ◌otherwise◌
returns-then-not-sizes_in_range c = simp (le-ltb (length c.args.store.now) 2 c.if-store-lt2.false, test_fails c.sizes_in_range.ensures c.if-not-sizes_in_range.true)

sized : (c : Else-not-sizes_in_range) → samples_in_range (at c.args.store.now 0) && top_in_range (at c.args.store.now 1) ≡ true
sized c = test_holds c.sizes_in_range.ensures c.if-not-sizes_in_range.false

pub store_length-requires : goal.store_length-requires
store_length-requires c =
    let e = sized c.before.before in
    (omega (arith, count_high c.args.store.now e), omega (arith, level_high c.args.store.now e))

pub returns-then-store-store_length : goal.returns-then-store-store_length
unfolding refuse ◌otherwise◌
returns-then-store-store_length c =
    let called_for = c.store_length.ensures ∙ ap₂ store_length c.sample_count.ensures c.top_level.ensures in
    sym (from_9 _ (sized c.before.before.before.before) c.if-store-lt2.false ∙ simp (sym called_for, lt-ltb _ _ c.if-store-store_length.true))

-- the store has the words that S and T call for
roomy : (c : Else-store-store_length) → let store = c.args.store.now in store_length (sample_count store) (top_level store) ≤ length store
roomy c = let called_for = c.store_length.ensures ∙ ap₂ store_length c.sample_count.ensures c.top_level.ensures in omega arith

pub lengths_right-requires : goal.lengths_right-requires
lengths_right-requires c =
    let store = c.args.store.now in
    let e = sized c.before.before.before.before in
    (count_high store e, level_high store e, omega (arith, roomy c, store_length_is (sample_count store) (top_level store)))

pub returns-then-not-lengths_right : goal.returns-then-not-lengths_right
unfolding refuse
returns-then-not-lengths_right c =
    let r = c.before.before in
    sym (from_18 _ (sized r.before.before.before.before) c.if-store-lt2.false (roomy r) ∙ simp (test_fails c.lengths_right.ensures c.if-not-lengths_right.true))

pub returns : goal.returns
unfolding refuse
returns c =
    let r = c.before.before in
    sym (from_18 _ (sized r.before.before.before.before) c.if-store-lt2.false (roomy r) ∙ simp (test_holds c.lengths_right.ensures c.if-not-lengths_right.false))
