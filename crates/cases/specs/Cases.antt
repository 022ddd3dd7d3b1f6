-- The starred bench cases of document 01 as one table, case I as document 02 (a) has it, cases E and F as (g) has them, and the sample that
-- document 02 (b) states: what the definitions give, and what the documents state.
use Rattle.std.specs.Prelude.{◌≡◌, refl, List, [], ◌∷◌, map, ℕ, Float, ℤ, pos, negsuc, length, replicate}
use Rattle.std.specs.Float.{binary32}
use Rattle.std.specs.Float.Ieee.{of_bits}
use Rattle.arith.specs.Floor.{floor_div, even_of, nearest, near}
use Rattle.arith.specs.Lists.{word_at, tabulate}
use Rattle.arith.specs.Sum.{sum, total, sum_around}
use Rattle.arith.specs.Tests.{eq_z, every}
use Rattle.refusal.specs.Number.{refuse, ◌otherwise◌}
use Rattle.book.specs.Book.{sizes_of, differences_at, level_taps_at, decimation_taps_at, book_length, impulse_word, impulse, difference, level_taps, decimation_taps}
use Rattle.book.specs.BookK.{book_with, book_k}
use Rattle.book.specs.Check.{power_of_two, sizes_in_range, words_in_range, coefficients_in_range, differences_right, phase_sum, tap_sum, sums_in_range, book_number}
use Rattle.octave.specs.Octave.{half_length, level_sum, level_word, next_level}
use Rattle.store.specs.Sizes.{samples_in_range, top_in_range, level_length, levels_below, header_length, level_start, store_length}
use Rattle.store.specs.Store.{header_of, sample_count, top_level, store_level}
use Rattle.store.specs.Check.{lengths_right, store_number}
use Rattle.levels.specs.Levels.{first_level, level_of, levels_of}
use Rattle.levels.specs.Build.{build_number, built_store, build_answer}
use Rattle.player.specs.declared.Voice.{Voice}
use Rattle.control.specs.declared.Order.TheVariants.{Jump, Glide}
use Rattle.player.specs.Calls.{Answer}
use Rattle.control.specs.Rate.{rate_in_range, rate_of, octave_level, asked_level, advance}
use Rattle.control.specs.Moves.{fresh_control, jumped, gliding, sought, glide_rate, glide_after, move_glide, fade_target, point_plan, fade_after, move_point, move_output}
use Rattle.control.specs.Orders.{ordered}
use Rattle.arith.specs.Limit.{limit}
use Rattle.values.specs.Values.{limited_word, unit, phase_at, offset_at, coefficient, value_sum, level_value, value}
use Rattle.points.specs.Points.{point}
use Rattle.player.specs.Outputs.{push, push_two, next_voice, voice_after, outputs}
use Rattle.decimation.specs.Decimation.{output_sum, output}
use Rattle.refusals.specs.Refusals.{glide_count_wrong, output_count_wrong, position_wrong, levels_wrong, top_wrong, levels_number, fade_wrong, rate_wrong, glide_wrong, history_wrong, late_number, open_number, order_input_number, order_number, seek_number, play_state_number, play_number, point_bound}
use Rattle.test_hum.specs.Hum.{next_state, sample_of, state_after, hum_samples}
use Rattle.player.specs.Calls.{zero_voice, fresh_voice, open_answer, order_answer, seek_answer, Played, play_answer}

-- rates, by the bit pattern of the f32
abbrev pub rate1 : Float
rate1 = of_bits binary32 0x3f80_0000

abbrev pub rate2 : Float
rate2 = of_bits binary32 0x4000_0000

-- the store built for a recording, of just the words that it needs
abbrev pub store_for : List ℤ → List ℤ → ℕ → List ℤ
store_for b samples T = (build_answer b samples T (replicate (store_length (length samples) T) (pos 0))).store

-- the voice that an opening returns, and what a play of n words on it leaves; the words that it is lent are no samples of any case, so that a play
-- which is refused shows
abbrev pub opened : Float → ℕ → Answer
opened r T = open_answer (record { rate = r; top = T })

abbrev pub played_by : List ℤ → List ℤ → Voice → ℕ → Played
played_by b samples v n = play_answer b (store_for b samples v.control.top) v (replicate n (pos 7))

pub record Case : Type 0 where
  pub found : List ℤ
  pub stated : List ℤ

-- K, T 0, samples 0 1000 2000, r = 1, play 4: 500 1500 1000 0
unfoldable pub case_a : Case
case_a = record {
  found = (played_by book_k (pos 0 ∷ pos 1000 ∷ pos 2000 ∷ []) (opened rate1 0).voice 4).words;
  stated = pos 500 ∷ pos 1500 ∷ pos 1000 ∷ pos 0 ∷ [];
}

-- the same, T 1, r = 2: play 3 gives 1000 1000 0
unfoldable pub case_b : Case
case_b = record {
  found = (played_by book_k (pos 0 ∷ pos 1000 ∷ pos 2000 ∷ []) (opened rate2 1).voice 3).words;
  stated = pos 1000 ∷ pos 1000 ∷ pos 0 ∷ [];
}

-- K with F 4, T 1, samples 0 1000 0 1000, open at 1, jump to 2, play 2: 500 0; level 1 is then current
unfoldable pub case_c : Case
case_c =
    let p = played_by (book_with 4 16384 16384) (pos 0 ∷ pos 1000 ∷ pos 0 ∷ pos 1000 ∷ []) (order_answer (opened rate1 1).voice (Jump rate2)).voice 2 in
    record {
      found = pos p.voice.control.fade.from ∷ pos p.voice.control.fade.to ∷ p.words;
      stated = pos 1 ∷ pos 1 ∷ pos 500 ∷ pos 0 ∷ [];
    }

-- with K itself: 0 0
unfoldable pub case_d : Case
case_d = record {
  found = (played_by book_k (pos 0 ∷ pos 1000 ∷ pos 0 ∷ pos 1000 ∷ []) (order_answer (opened rate1 1).voice (Jump rate2)).voice 2).words;
  stated = pos 0 ∷ pos 0 ∷ [];
}

-- near(1/2) = 0, near(−1/2) = 0, near(−3/2) = −2, near(−5/4) = −1
unfoldable pub case_e : Case
case_e = record {
  found = near (pos 1) 2 ∷ near (negsuc 0) 2 ∷ near (negsuc 2) 2 ∷ near (negsuc 4) 4 ∷ [];
  stated = pos 0 ∷ pos 0 ∷ negsuc 1 ∷ negsuc 0 ∷ [];
}

-- K with h[0] = 32: sample 1 stands in level 1 as 0, sample −1 as 0; before the levels stand S 1, T 1 and two lengths of 1
unfoldable pub case_f₁ : Case
case_f₁ = record {
  found = store_for (book_with 1 32 16384) (pos 1 ∷ []) 1;
  stated = pos 1 ∷ pos 1 ∷ pos 1 ∷ pos 1 ∷ pos 256 ∷ pos 0 ∷ [];
}

unfoldable pub case_f₂ : Case
case_f₂ = record {
  found = store_for (book_with 1 32 16384) (negsuc 0 ∷ []) 1;
  stated = pos 1 ∷ pos 1 ∷ pos 1 ∷ pos 1 ∷ negsuc 255 ∷ pos 0 ∷ [];
}

-- K with g[0] = 32767, T 0, samples 32767 three times, r = 1, play 1: 32767; with −32768 three times: −32768
unfoldable pub case_g₁ : Case
case_g₁ = record {
  found = (played_by (book_with 1 16384 32767) (replicate 3 (pos 32767)) (opened rate1 0).voice 1).words;
  stated = pos 32767 ∷ [];
}

unfoldable pub case_g₂ : Case
case_g₂ = record {
  found = (played_by (book_with 1 16384 32767) (replicate 3 (negsuc 32767)) (opened rate1 0).voice 1).words;
  stated = negsuc 32767 ∷ [];
}

-- glide 2 to 1 over 3, first R: 223696213
unfoldable pub case_h : Case
case_h =
    let v = (order_answer (opened rate2 1).voice (Glide rate1 3)).voice in
    record { found = pos (played_by book_k (pos 0 ∷ []) v 1).voice.control.rate ∷ []; stated = pos 223696213 ∷ [] }

-- store for S 3, T 1: 9 words; S 1, T 4: 12; S 1048576, T 4: 2031623
unfoldable pub case_i : Case
case_i = record {
  found = pos (store_length 3 1) ∷ pos (store_length 1 4) ∷ pos (store_length 1048576 4) ∷ [];
  stated = pos 9 ∷ pos 12 ∷ pos 2031623 ∷ [];
}

-- T 0: r = 1/16 gives R 8388608; the f32 just below 2 gives 268435440; 2 is refused 10
unfoldable pub case_j : Case
case_j = record {
  found = pos (opened (of_bits binary32 0x3d80_0000) 0).voice.control.rate
      ∷ pos (opened (of_bits binary32 0x3fff_ffff) 0).voice.control.rate
      ∷ pos (opened rate2 0).number
      ∷ [];
  stated = pos 8388608 ∷ pos 268435440 ∷ pos 10 ∷ [];
}

-- the test hum: from state 0 the first sample is −17298
unfoldable pub case_hum : Case
case_hum = record { found = hum_samples 0 1; stated = negsuc 17297 ∷ [] }

unfoldable pub starred_cases : List Case
starred_cases = case_a ∷ case_b ∷ case_c ∷ case_d ∷ case_e ∷ case_f₁ ∷ case_f₂ ∷ case_g₁ ∷ case_g₂ ∷ case_h ∷ case_i ∷ case_j ∷ case_hum ∷ []

-- each case is as stated
pub starred : map (λ c. c.found) starred_cases ≡ map (λ c. c.stated) starred_cases
unfolding starred_cases case_a case_b case_c case_d case_e case_f₁ case_f₂ case_g₁ case_g₂ case_h case_i case_j case_hum next_state sample_of state_after hum_samples floor_div even_of nearest near word_at tabulate sum total sum_around eq_z every refuse ◌otherwise◌ sizes_of differences_at level_taps_at decimation_taps_at book_length impulse_word impulse difference level_taps decimation_taps power_of_two sizes_in_range words_in_range coefficients_in_range differences_right phase_sum tap_sum sums_in_range book_number half_length samples_in_range top_in_range level_length levels_below header_length level_start store_length header_of sample_count top_level store_level lengths_right store_number first_level level_sum level_word next_level level_of levels_of build_number built_store build_answer of_bits rate_in_range rate_of octave_level asked_level advance fresh_control jumped gliding sought glide_rate glide_after move_glide fade_target point_plan fade_after move_point move_output limit limited_word unit phase_at offset_at coefficient value_sum level_value value point push push_two output_sum output next_voice voice_after outputs glide_count_wrong output_count_wrong position_wrong levels_wrong top_wrong levels_number fade_wrong rate_wrong glide_wrong history_wrong late_number open_number order_input_number order_number seek_number play_state_number play_number zero_voice fresh_voice open_answer ordered order_answer seek_answer play_answer
starred = refl

-- ---- a play of more outputs than a program here can lend: 1048577 is refused 11, after 17; 1048576 is accepted

unfoldable pub long_plays : Case
long_plays =
    let v = (opened rate1 0).voice in
    let store = store_for book_k (pos 0 ∷ pos 1000 ∷ pos 2000 ∷ []) 0 in
    let number : List ℤ → ℕ → ℤ = λ history n. pos (play_number book_k store v.control point_bound history n) in
    record {
      found = number v.history 1048577 ∷ number (pos 536870913 ∷ v.history) 1048577 ∷ number v.history 1048576 ∷ [];
      stated = pos 11 ∷ pos 17 ∷ pos 0 ∷ [];
    }

pub long_plays_lem : long_plays.found ≡ long_plays.stated
unfolding long_plays floor_div even_of nearest near word_at tabulate sum total sum_around eq_z every refuse ◌otherwise◌ sizes_of differences_at level_taps_at decimation_taps_at book_length impulse_word impulse difference level_taps decimation_taps power_of_two sizes_in_range words_in_range coefficients_in_range differences_right phase_sum tap_sum sums_in_range book_number half_length samples_in_range top_in_range level_length levels_below header_length level_start store_length header_of sample_count top_level store_level lengths_right store_number first_level level_sum level_word next_level level_of levels_of build_number built_store build_answer of_bits rate_in_range rate_of octave_level asked_level advance fresh_control jumped gliding sought glide_rate glide_after move_glide fade_target point_plan fade_after move_point move_output limit limited_word unit phase_at offset_at coefficient value_sum level_value value point push push_two output_sum output next_voice voice_after outputs glide_count_wrong output_count_wrong position_wrong levels_wrong top_wrong levels_number fade_wrong rate_wrong glide_wrong history_wrong late_number open_number order_input_number order_number seek_number play_state_number play_number zero_voice fresh_voice open_answer ordered order_answer seek_answer play_answer
long_plays_lem = refl
