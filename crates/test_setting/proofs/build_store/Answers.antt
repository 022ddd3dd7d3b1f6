-- `test_setting::build_store` meets its contract: the book, S and T are accepted, and the store has just the words that are written. Assumes nothing.
use mathlib.Core.List.{List, append-nil}
use mathlib.Core.Path.{◌≡◌, refl, ap, ◌∙◌}
use Prim.Native.Nat.{suc}
use lib.IntN.{ℤ}
use lib.ListN.{length}
use lib.Seq.{drop-length}
use Rattle.arith.specs.Sum.{total}
use Rattle.arith.specs.Tests.{eq_z, every}
use Rattle.arith.proofs.Lists.{length-tabulate}
use Rattle.refusal.specs.Number.{refuse, ◌otherwise◌}
use Rattle.book.specs.Book.{sizes_of, differences_at, level_taps_at, decimation_taps_at, book_length, impulse_word, impulse, difference, level_taps, decimation_taps}
use Rattle.book.specs.Check.{power_of_two, sizes_in_range, words_in_range, coefficients_in_range, differences_right, phase_sum, tap_sum, sums_in_range, book_number}
use Rattle.octave.specs.Octave.{half_length}
use Rattle.store.specs.Sizes.{samples_in_range, top_in_range, level_length, levels_below, header_length, level_start, store_length}
use Rattle.levels.specs.Build.{build_number, build_answer}
use Rattle.levels.proofs.Stores.{accepted_store}
use Rattle.test_hum.specs.Hum.{sample_of, state_after, hum_samples, draw_answer}
use Rattle.test_setting.specs.Setting.{test_book, test_recording, test_store}
use Rattle.test_setting.proofs.build_store.Goals as goal

length_recording : length test_recording ≡ 6400
unfolding test_recording hum_samples
length_recording = length-tabulate 6400 (λ k. sample_of (state_after 0 (suc k)))

length_store : store_length 6400 2 ≡ 11205
unfolding total half_length level_length levels_below header_length level_start store_length
length_store = refl

accepted : build_number test_book 6400 2 11205 ≡ 0
unfolding eq_z every total refuse ◌otherwise◌ sizes_of differences_at level_taps_at decimation_taps_at book_length impulse_word impulse difference level_taps decimation_taps power_of_two sizes_in_range words_in_range coefficients_in_range differences_right phase_sum tap_sum sums_in_range book_number samples_in_range top_in_range half_length level_length levels_below header_length level_start store_length build_number
accepted = refl

-- a store of just the words that are written holds them alone
store_filled : (given : List ℤ) → length given ≡ 11205 → (build_answer test_book test_recording 2 given).store ≡ test_store
unfolding build_answer test_store
store_filled given e =
    let none : (build_answer test_book test_recording 2 given).number ≡ 0 = simp (length_recording, e, accepted) in
    let end : store_length (length test_recording) 2 ≡ length given = simp (length_recording, length_store, e) in
    accepted_store test_book test_recording given 2 none ∙ simp (end, drop-length, append-nil)

pub returns-clause-state : goal.returns-clause-state
unfolding draw_answer
returns-clause-state c = ap (λ d. d.state) (c.draw-state.ensures ∙ ap (draw_answer 0) c.told-samples)

pub returns-clause-built : goal.returns-clause-built
unfolding draw_answer test_recording
returns-clause-built c =
    let drawn = ap (λ d. d.samples) (c.draw-state.ensures ∙ ap (draw_answer 0) c.told-samples) in
    ap (λ a. a.store) c.build.ensures ∙ ap (λ xs. (build_answer test_book xs 2 c.args.store.now).store) drawn ∙ store_filled c.args.store.now c.told-store
