-- The two players side by side: what relates their states over a whole list. Assumes nothing.
use mathlib.Core.List.{List}
use mathlib.Core.Path.{◌≡◌, refl, ap, ap₂, ◌∙◌}
use Prim.Native.Nat.{ℕ, ◌+◌, ◌-◌, ◌*◌, ◌^◌, ◌≤◌}
use native.Mathlib.Nat.{le_trans, mul-le-mul_left}
use native.Mathlib.Omega.{arith}
use lib.IntN.{ℤ, pos, negsuc, neg_ℤ, nat_abs, ◌-ℤ◌, ◌*ℤ◌}
use lib.ListN.{length}
use lib.Signed.{le_z_yes}
use Rattle.arith.specs.Floor.{near}
use Rattle.arith.specs.Limit.{limit}
use Rattle.arith.specs.Lists.{word_at}
use Rattle.arith.proofs.Linear.{linear}
use Rattle.arith.proofs.Limit.{limit_inside}
use Rattle.arith.proofs.Lists.{word_at_bound}
use Rattle.refusal.specs.Number.{◌otherwise◌}
use Rattle.book.specs.Book.{sizes_of, level_taps}
use Rattle.refusal.proofs.Numbers.{zero_otherwise}
use Rattle.store.specs.Store.{top_level, store_level}
use Rattle.store.specs.Check.{store_number}
use Rattle.store.proofs.Ranges.{top_inside}
use Rattle.levels.specs.Levels.{level_of}
use Rattle.levels.proofs.Laws.{level_bound}
use Rattle.levels.proofs.Stores.{built_top, built_accepted, built_level}
use Rattle.control.specs.declared.Card.{Card}
use Rattle.control.specs.Moves.{fresh_control}
use Rattle.refusals.specs.Refusals.{play_state_number, play_number, point_bound}
use Rattle.refusals.proofs.Accepted.{fresh_valid}
use Rattle.values.specs.Values.{limited_word}
use Rattle.values.proofs.Values.{value_sum_apart}
use Rattle.points.specs.Points.{point}
use Rattle.points.proofs.Points.{point_bound_lem}
use Rattle.decimation.specs.Decimation.{output_sum, output}
use Rattle.decimation.proofs.Sums.{output_sum_apart}
use Rattle.player.specs.declared.Voice.{Voice}
use Rattle.player.specs.Outputs.{next_voice}
use Rattle.player.specs.Calls.{fresh_voice, order_answer, seek_answer, play_answer}
use Rattle.drive.specs.Exact.{exact_level, exact_point, point_scale, exact_scale, exact_output, ExactVoice, exact_fresh, exact_next}
use Rattle.drive.specs.Lists.{Call, order, seek, play, call_number, exact_bound, exact_call_number}
use Rattle.drive.specs.Demand.{Setting, store_of, CloseTo}
use Rattle.drive.proofs.Contraction.{limit_scaled, limit16_apart}
use Rattle.drive.proofs.ExactLevels.{WordClose, word_close}
use Rattle.drive.proofs.Distance.{point_close, output_sum_close}
use Rattle.drive.proofs.Settings.{right, fade_low, top_high, taps_small, samples_small, scale_pos, exact_small}
use Rattle.drive.proofs.Alike.{Alike, Made, fresh_alike, order_number_same, seek_number_same, play_number_same, ordered_alike, sought_alike, output_alike}
use Rattle.drive.proofs.Players.{player, exact}
use Rattle.drive.proofs.Steps.{Steps}

-- twice the distance of a point from its exact point, over the points' scale
abbrev PointClose : ℕ → ℕ → ℤ → ℤ → Type 0
PointClose T scale x y = 2 * nat_abs (pos scale *ℤ x -ℤ y) ≤ scale * (2 ^ (T + 2) - 2)

module _ (b samples rest : List ℤ) (card : Card) (setting : Setting b samples card) where
  abbrev T : ℕ
  T = card.top

  abbrev F : ℕ
  F = (sizes_of b).fade

  abbrev store : List ℤ
  store = store_of b samples card rest

  -- ---- the store's words are the built ones: each level begins where it should, and the limit on reading does nothing to it

  built_word : (l : ℕ) → l ≤ T → (i : ℤ) → limited_word (store_level store l) l i ≡ word_at (level_of (level_taps b) samples l) i
  unfolding limited_word
  built_word l h i =
      let level = level_of (level_taps b) samples l in
      let begins = built_level (level_taps b) samples T rest l h in
      ap (λ words. limit (neg_ℤ (pos (2 ^ (23 + l)))) (pos (2 ^ (23 + l))) (word_at words i)) begins
      ∙ limit_inside (2 ^ (23 + l)) (word_at level i) (word_at_bound level (2 ^ (23 + l)) (level_bound (level_taps b) samples (taps_small setting) (samples_small setting) l) i)

  words_close : (l : ℕ) → l ≤ T → (i : ℤ) → WordClose l (limited_word (store_level store l) l i) (word_at (exact_level (level_taps b) samples l) i)
  words_close l h i = rw (built_word l h i) (word_close (level_taps b) samples (taps_small setting) l i)

  -- the store's numbers are never given, and its T is the card's
  store_accepted : store_number store ≡ 0
  store_accepted = built_accepted (level_taps b) samples T rest setting.samples_counted (top_inside T (top_high setting))

  store_top : top_level store ≡ T
  store_top = built_top (level_taps b) samples T rest

  -- ---- the relation: points at the distance that the words' roundings, a value's and a fade's allow

  abbrev pub Related : Voice → ExactVoice → Type 0
  Related v e = Alike F T (PointClose T (point_scale b T)) point_bound (exact_bound b samples T) v.control v.history e.control e.points

  none_close : PointClose T (point_scale b T) (pos 0) (pos 0)
  none_close = simp linear (omega arith)

  made : Made F T (PointClose T (point_scale b T)) point_bound (exact_bound b samples T) (point b store) (exact_point b samples T)
  made = record {
    small = λ p from to inside. point_bound_lem b (right setting) store p (omega (arith, top_high setting)) (omega (arith, top_high setting)) inside;
    small' = exact_small setting;
    both = point_close b samples store T (top_high setting) (value_sum_apart b (right setting)) words_close (fade_low setting);
    none = none_close;
  }

  pub fresh : Related (fresh_voice card) (exact_fresh card)
  unfolding fresh_voice exact_fresh fresh_control
  fresh = fresh_alike F T (PointClose T (point_scale b T)) point_bound (exact_bound b samples T) none_close _ (fresh_valid F card (fade_low setting) setting.opening_accepted) refl

  -- ---- the steps

  number_same : (v : Voice) (e : ExactVoice) (c : Call) → Related v e → call_number b store v c ≡ exact_call_number b samples T e c
  unfolding call_number exact_call_number order_answer seek_answer play_answer play_number
  number_same v e (order o) r = order_number_same r o
  number_same v e (seek P) r = seek_number_same r P
  number_same v e (play words) r =
      let state : ℕ → ℕ = λ top. play_state_number F top v.control point_bound v.history (length words) in
      ap₂ (λ m k. m otherwise k otherwise state (top_level store)) setting.book_accepted store_accepted
      ∙ zero_otherwise (0 otherwise state (top_level store)) ∙ zero_otherwise (state (top_level store)) ∙ ap state store_top ∙ play_number_same r (length words)

  -- the output of related states is close to the exact sum: the limit brings the two no further apart
  output_close : (v : Voice) (e : ExactVoice) → Related v e → CloseTo T (exact_scale b T) (output b v.history) (exact_output b T e.points)
  unfolding output exact_output
  output_close v e r =
      let s = exact_scale b T in
      let o = near (output_sum b v.history) (2 ^ 22) in
      let scaled = limit_scaled s (negsuc 32767) (pos 32767) o (scale_pos setting) (le_z_yes tt) in
      let apart = limit16_apart s (pos s *ℤ o) (output_sum b e.points) in
      let near-sum = output_sum_close b T (output_sum_apart b (right setting)) v.history e.points r.related in
      rw scaled (le_trans (mul-le-mul_left 256 apart) near-sum)

  pub steps : Steps (CloseTo T (exact_scale b T)) (player b store) (exact b samples T) Related
  unfolding player exact call_number order_answer seek_answer next_voice exact_next
  steps = record {
    number_same = number_same;
    order-kept = λ v e o r h. ordered_alike r o h;
    seek-kept = λ v e P r h. sought_alike r P h;
    output-kept = λ v e r. output_alike r made;
    newest_related = output_close;
  }
