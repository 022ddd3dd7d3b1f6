-- Request (h) applied, where its factor is reached: a book whose sums of absolute values are the largest that are accepted, recordings of
-- six samples that differ by 100 at every other place, an opening at rate 2 with T 1, and a list with a refused order in it. The
-- hypotheses hold, and both tones of the conclusion are computed: they lie 8 × 2 × 100 apart. Assumes nothing.
use mathlib.Core.Bool.{true}
use mathlib.Core.List.{List, [], ◌∷◌}
use mathlib.Core.Path.{◌≡◌, refl}
use Prim.Native.Nat.{ℕ, zero, suc, ◌*◌, ◌^◌, ◌≤◌}
use native.Mathlib.Omega.{arith}
use lib.Ieee.{of_bits}
use lib.IntN.{ℤ, pos, negsuc, nat_abs, ◌-ℤ◌}
use Rattle.arith.specs.Floor.{floor_div, even_of, nearest, near}
use Rattle.arith.specs.Lists.{at, word_at, tabulate}
use Rattle.arith.specs.Sum.{sum, total, sum_around}
use Rattle.arith.specs.Tests.{eq_z, within, every}
use Rattle.refusal.specs.Number.{refuse, ◌otherwise◌}
use Rattle.book.specs.Book.{sizes_of, differences_at, level_taps_at, decimation_taps_at, book_length, impulse_word, impulse, difference, level_taps, decimation_taps}
use Rattle.book.specs.Check.{power_of_two, sizes_in_range, words_in_range, coefficients_in_range, differences_right, phase_sum, tap_sum, sums_in_range, book_number}
use Rattle.octave.specs.Octave.{half_length, level_sum, level_word, next_level}
use Rattle.store.specs.Sizes.{samples_in_range, top_in_range, level_length, levels_below, header_length, level_start, store_length}
use Rattle.store.specs.Store.{header_of, sample_count, top_level, store_level}
use Rattle.store.specs.Check.{lengths_right, store_number}
use Rattle.levels.specs.Levels.{first_level, level_of, levels_of}
use Rattle.levels.specs.Build.{built_store}
use Rattle.control.specs.Rate.{rate_in_range, rate_of, octave_level, asked_level, advance}
use Rattle.control.specs.Moves.{fresh_control, jumped, sought, glide_after, move_glide, fade_target, point_plan, fade_after, move_point, move_output}
use Rattle.control.specs.Orders.{ordered}
use Rattle.arith.specs.Limit.{limit}
use Rattle.values.specs.Values.{limited_word, unit, phase_at, offset_at, coefficient, value_sum, level_value, value}
use Rattle.points.specs.Points.{point}
use Rattle.player.specs.Outputs.{push, push_two, next_voice, voice_after, outputs}
use Rattle.decimation.specs.Decimation.{output_sum, output}
use Rattle.refusals.specs.Refusals.{output_count_wrong, position_wrong, levels_wrong, top_wrong, levels_number, fade_wrong, rate_wrong, glide_wrong, history_wrong, late_number, open_number, order_input_number, order_number, seek_number, play_state_number, play_number}
use Rattle.player.specs.Calls.{zero_voice, fresh_voice, open_answer, order_answer, seek_answer, play_answer}
use Rattle.drive.specs.Lists.{call_voice, call_samples, handed_out}
use Rattle.drive.specs.Demand.{Setting, store_of}
use Rattle.drive.proofs.Settings.{at_every_place}
use Rattle.sensitivity.specs.Sensitivity.{Differ, Moved}
use Rattle.sensitivity.proofs.Theorem.{sensitivity}
use Rattle.sensitivity.proofs.Inputs.{book, old, new, card, rest, rest', calls}

old_fits : (k : ℕ) → within (negsuc 32767) (pos 32767) (at old k) ≡ true
unfolding every
old_fits = at_every_place (within (negsuc 32767) (pos 32767)) old refl refl

new_fits : (k : ℕ) → within (negsuc 32767) (pos 32767) (at new k) ≡ true
unfolding every
new_fits = at_every_place (within (negsuc 32767) (pos 32767)) new refl refl

differ_each : (k : ℕ) → nat_abs (at old k -ℤ at new k) ≤ 100
differ_each zero = omega arith
differ_each (suc zero) = omega arith
differ_each (suc (suc zero)) = omega arith
differ_each (suc (suc (suc zero))) = omega arith
differ_each (suc (suc (suc (suc zero)))) = omega arith
differ_each (suc (suc (suc (suc (suc zero))))) = omega arith
differ_each (suc (suc (suc (suc (suc (suc k)))))) = omega arith

-- none of the hypotheses is impossible
pub old_setting : Setting book old card
unfolding eq_z every total refuse ◌otherwise◌ sizes_of differences_at level_taps_at decimation_taps_at book_length impulse_word impulse difference level_taps decimation_taps power_of_two sizes_in_range words_in_range coefficients_in_range differences_right phase_sum tap_sum sums_in_range book_number samples_in_range top_in_range of_bits rate_in_range open_number
old_setting = record { book_accepted = refl; samples_counted = refl; samples_16_bit = old_fits; opening_accepted = refl }

pub new_setting : Setting book new card
new_setting = record { book_accepted = old_setting.book_accepted; samples_counted = old_setting.samples_counted; samples_16_bit = new_fits; opening_accepted = old_setting.opening_accepted }

pub differ : Differ 100 old new
differ = record { equal_length = refl; at_each_place = differ_each }

-- the conclusion for this list
abbrev pub old_tone : List ℤ
old_tone = handed_out book (store_of book old card rest) (open_answer card).voice calls

abbrev pub new_tone : List ℤ
new_tone = handed_out book (store_of book new card rest') (open_answer card).voice calls

pub conclusion : Moved 1 100 old_tone new_tone
conclusion = sensitivity book old new rest rest' card 100 old_setting new_setting differ calls

-- and the samples that it speaks of
pub old_tone_lem : old_tone ≡ negsuc 479 ∷ negsuc 519 ∷ negsuc 199 ∷ negsuc 479 ∷ []
unfolding floor_div even_of nearest near word_at tabulate sum total sum_around eq_z every refuse ◌otherwise◌ sizes_of differences_at level_taps_at decimation_taps_at book_length impulse_word impulse difference level_taps decimation_taps power_of_two sizes_in_range words_in_range coefficients_in_range differences_right phase_sum tap_sum sums_in_range book_number half_length samples_in_range top_in_range level_length levels_below header_length level_start store_length header_of sample_count top_level store_level lengths_right store_number first_level level_sum level_word next_level level_of levels_of built_store of_bits rate_in_range rate_of octave_level asked_level advance fresh_control jumped sought glide_after move_glide fade_target point_plan fade_after move_point move_output limit limited_word unit phase_at offset_at coefficient value_sum level_value value point push push_two output_sum output next_voice voice_after outputs output_count_wrong position_wrong levels_wrong top_wrong levels_number fade_wrong rate_wrong glide_wrong history_wrong late_number open_number order_input_number order_number seek_number play_state_number play_number zero_voice fresh_voice open_answer ordered order_answer seek_answer play_answer call_voice call_samples handed_out
old_tone_lem = refl

pub new_tone_lem : new_tone ≡ negsuc 2079 ∷ negsuc 1719 ∷ negsuc 599 ∷ negsuc 2079 ∷ []
unfolding floor_div even_of nearest near word_at tabulate sum total sum_around eq_z every refuse ◌otherwise◌ sizes_of differences_at level_taps_at decimation_taps_at book_length impulse_word impulse difference level_taps decimation_taps power_of_two sizes_in_range words_in_range coefficients_in_range differences_right phase_sum tap_sum sums_in_range book_number half_length samples_in_range top_in_range level_length levels_below header_length level_start store_length header_of sample_count top_level store_level lengths_right store_number first_level level_sum level_word next_level level_of levels_of built_store of_bits rate_in_range rate_of octave_level asked_level advance fresh_control jumped sought glide_after move_glide fade_target point_plan fade_after move_point move_output limit limited_word unit phase_at offset_at coefficient value_sum level_value value point push push_two output_sum output next_voice voice_after outputs output_count_wrong position_wrong levels_wrong top_wrong levels_number fade_wrong rate_wrong glide_wrong history_wrong late_number open_number order_input_number order_number seek_number play_state_number play_number zero_voice fresh_voice open_answer ordered order_answer seek_answer play_answer call_voice call_samples handed_out
new_tone_lem = refl

-- the first two lie as far apart as the recordings let them, but for the part that roundings have
pub reached : nat_abs (at old_tone 0 -ℤ at new_tone 0) ≡ 8 * 2 ^ 1 * 100
reached = rw (old_tone_lem, new_tone_lem) refl
