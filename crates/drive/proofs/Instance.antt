-- Demand 3 applied: book K, a recording of three samples, an opening at rate 1 with T 0, and a list with a refused order in it. The
-- hypotheses hold, and the samples of the conclusion are computed. Assumes nothing.
use mathlib.Core.Bool.{true}
use mathlib.Core.List.{List, [], ◌∷◌}
use mathlib.Core.Path.{◌≡◌, refl}
use Prim.Native.Nat.{ℕ}
use lib.Ieee.{binary32, of_bits}
use lib.IntN.{ℤ, pos, negsuc}
use lib.ListN.{replicate}
use Rattle.arith.specs.Floor.{floor_div, even_of, nearest, near}
use Rattle.arith.specs.Lists.{at, word_at, tabulate}
use Rattle.arith.specs.Sum.{sum, total, sum_around}
use Rattle.arith.specs.Tests.{eq_z, within, every}
use Rattle.refusal.specs.Number.{refuse, ◌otherwise◌}
use Rattle.book.specs.Book.{sizes_of, differences_at, level_taps_at, decimation_taps_at, book_length, impulse_word, impulse, difference, level_taps, decimation_taps}
use Rattle.book.specs.BookK.{book_k}
use Rattle.book.specs.Check.{power_of_two, sizes_in_range, words_in_range, coefficients_in_range, differences_right, phase_sum, tap_sum, sums_in_range, book_number}
use Rattle.octave.specs.Octave.{half_length, level_sum, level_word, next_level}
use Rattle.store.specs.Sizes.{samples_in_range, top_in_range, level_length, levels_below, header_length, level_start, store_length}
use Rattle.store.specs.Store.{header_of, sample_count, top_level, store_level}
use Rattle.store.specs.Check.{lengths_right, store_number}
use Rattle.levels.specs.Levels.{first_level, level_of, levels_of}
use Rattle.levels.specs.Build.{built_store}
use Rattle.control.specs.declared.Card.{Card}
use Rattle.control.specs.declared.Order.TheVariants.{Jump}
use Rattle.control.specs.Rate.{rate_in_range, rate_of, octave_level, asked_level, advance}
use Rattle.control.specs.Moves.{fresh_control, jumped, sought, glide_after, move_glide, fade_target, point_plan, fade_after, move_point, move_output}
use Rattle.control.specs.Orders.{ordered}
use Rattle.arith.specs.Limit.{limit}
use Rattle.values.specs.Values.{limited_word, unit, phase_at, offset_at, coefficient, value_sum, level_value, value}
use Rattle.points.specs.Points.{point}
use Rattle.player.specs.Outputs.{push, push_two, next_voice, voice_after, outputs}
use Rattle.decimation.specs.Decimation.{output_sum, output}
use Rattle.refusals.specs.Refusals.{output_count_wrong, position_wrong, levels_wrong, top_wrong, levels_number, fade_wrong, rate_wrong, glide_wrong, history_wrong, late_number, open_number, order_input_number, order_number, seek_number, play_state_number, play_number}
use Rattle.player.specs.Calls.{zero_voice, fresh_voice, open_answer, order_answer, seek_answer, play_answer}
use Rattle.drive.specs.Exact.{exact_scale, exact_fresh}
use Rattle.drive.specs.Lists.{Call, order, seek, play, call_voice, call_samples, handed_out, exact_sums}
use Rattle.drive.specs.Demand.{Setting, store_of, Close}
use Rattle.drive.proofs.Settings.{at_every_place}
use Rattle.drive.proofs.Theorem.{demand3}

abbrev pub book : List ℤ
book = book_k

abbrev pub recording : List ℤ
recording = pos 0 ∷ pos 1000 ∷ pos 2000 ∷ []

abbrev pub card : Card
card = record { rate = of_bits binary32 0x3f80_0000; top = 0 }

-- three words after header and levels
abbrev pub store : List ℤ
store = store_of book recording card (pos 9 ∷ negsuc 8 ∷ pos 9 ∷ [])

-- two outputs, a jump to rate 2, which T 0 refuses, two more, a seek to the start and one output
abbrev pub calls : List Call
calls = play (replicate 2 (pos 0)) ∷ order (Jump (of_bits binary32 0x4000_0000)) ∷ play (replicate 2 (pos 7)) ∷ seek 0 ∷ play (pos 0 ∷ []) ∷ []

sample_fits : (k : ℕ) → within (negsuc 32767) (pos 32767) (at recording k) ≡ true
unfolding every
sample_fits = at_every_place (within (negsuc 32767) (pos 32767)) recording refl refl

-- none of the hypotheses is impossible
pub setting : Setting book recording card
unfolding eq_z every total refuse ◌otherwise◌ sizes_of differences_at level_taps_at decimation_taps_at book_length impulse_word impulse difference level_taps decimation_taps power_of_two sizes_in_range words_in_range coefficients_in_range differences_right phase_sum tap_sum sums_in_range book_number samples_in_range top_in_range of_bits rate_in_range open_number
setting = record { book_accepted = refl; samples_counted = refl; samples_16_bit = sample_fits; opening_accepted = refl }

-- the conclusion for this list
pub conclusion : Close 0 (exact_scale book 0) (handed_out book store (open_answer card).voice calls) (exact_sums book recording 0 (exact_fresh card) calls)
conclusion = (demand3 book recording (pos 9 ∷ negsuc 8 ∷ pos 9 ∷ []) card setting).0 calls

-- and the samples that it speaks of
pub handed_out_lem : handed_out book store (open_answer card).voice calls ≡ pos 500 ∷ pos 1500 ∷ pos 1000 ∷ pos 0 ∷ pos 500 ∷ []
unfolding floor_div even_of nearest near word_at tabulate sum total sum_around eq_z every refuse ◌otherwise◌ sizes_of differences_at level_taps_at decimation_taps_at book_length impulse_word impulse difference level_taps decimation_taps power_of_two sizes_in_range words_in_range coefficients_in_range differences_right phase_sum tap_sum sums_in_range book_number half_length samples_in_range top_in_range level_length levels_below header_length level_start store_length header_of sample_count top_level store_level lengths_right store_number first_level level_sum level_word next_level level_of levels_of built_store of_bits rate_in_range rate_of octave_level asked_level advance fresh_control jumped sought glide_after move_glide fade_target point_plan fade_after move_point move_output limit limited_word unit phase_at offset_at coefficient value_sum level_value value point push push_two output_sum output next_voice voice_after outputs output_count_wrong position_wrong levels_wrong top_wrong levels_number fade_wrong rate_wrong glide_wrong history_wrong late_number open_number order_input_number order_number seek_number play_state_number play_number zero_voice fresh_voice open_answer ordered order_answer seek_answer play_answer call_voice call_samples handed_out
handed_out_lem = refl
