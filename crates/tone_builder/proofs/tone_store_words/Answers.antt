-- `tone_builder::tone_store_words` meets its contract. Assumes nothing.
use Rattle.std.proofs.Common.{pos}
use Rattle.arith.proofs.Tests.{&&-left, &&-right, test_fails, test_holds}
use Rattle.store.specs.Sizes.{samples_in_range, top_in_range}
use Rattle.store.proofs.Ranges.{samples_high, top_high}
use Rattle.tone_builder.specs.Store.{store_words}
use Rattle.tone_builder.proofs.tone_store_words.Goals as goal

pub returns-then-not-in_range : goal.returns-then-not-in_range
unfolding store_words
returns-then-not-in_range c = simp (test_fails c.in_range.ensures c.if-not-in_range.true)

pub store_length-requires : goal.store_length-requires
store_length-requires c =
    let a = c.args in
    let sized = test_holds c.in_range.ensures c.if-not-in_range.false in
    (samples_high (pos a.sample_count) (&&-left _ (top_in_range (pos a.top)) sized), top_high (pos a.top) (&&-right (samples_in_range (pos a.sample_count)) _ sized))

pub returns : goal.returns
unfolding store_words
returns c = simp (test_holds c.in_range.ensures c.if-not-in_range.false) c.store_length.ensures
