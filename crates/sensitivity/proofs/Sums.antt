-- The exact sums of two recordings that differ by at most D lie within 8 × 2^T × D, over every list of calls. Assumes nothing.
use mathlib.Core.List.{List}
use mathlib.Core.Path.{◌≡◌, refl, ap}
use Prim.Native.Nat.{ℕ, ◌+◌, ◌*◌, ◌^◌, ◌≤◌}
use native.Mathlib.Nat.{le_trans}
use native.Mathlib.Omega.{arith}
use lib.IntN.{ℤ, pos, nat_abs, ◌-ℤ◌, ◌*ℤ◌}
use lib.ListN.{length}
use lib.Pow.{pow-add}
use Rattle.arith.specs.Lists.{at}
use Rattle.arith.proofs.Linear.{linear}
use Rattle.book.specs.Book.{sizes_of, level_taps}
use Rattle.control.specs.declared.Card.{Card}
use Rattle.control.specs.Moves.{fresh_control}
use Rattle.refusals.proofs.Accepted.{fresh_valid}
use Rattle.values.proofs.Values.{value_sum_apart}
use Rattle.decimation.specs.Decimation.{output_sum}
use Rattle.decimation.proofs.Sums.{output_sum_apart}
use Rattle.drive.specs.Exact.{exact_point, point_scale, exact_scale, exact_output, ExactVoice, exact_fresh, exact_next}
use Rattle.drive.specs.Lists.{Call, order, seek, play, exact_bound, exact_call_number, exact_sums}
use Rattle.drive.specs.Demand.{Setting}
use Rattle.drive.proofs.Contraction.{limit16_apart}
use Rattle.drive.proofs.ExactLevels.{exact_word_apart}
use Rattle.drive.proofs.Distance.{exact_point_apart, output_scale}
use Rattle.drive.proofs.Settings.{right, fade_low, top_high, taps_small, exact_small}
use Rattle.drive.proofs.Alike.{Alike, Made, fresh_alike, order_number_same, seek_number_same, play_number_same, ordered_alike, sought_alike, output_alike}
use Rattle.drive.proofs.Players.{exact}
use Rattle.drive.proofs.Steps.{Paired, Steps, all_paired}
use Rattle.sensitivity.specs.Sensitivity.{Differ}
use Rattle.sensitivity.proofs.Apart.{SumsApart}

-- the laws of drive speak of c times one number and d times another: here both once
once : (x y : ℤ) → pos 1 *ℤ x -ℤ pos 1 *ℤ y ≡ x -ℤ y
once x y = simp linear (omega arith)

module _ (b old new : List ℤ) (card : Card) (D : ℕ) (s : Setting b old card) (s' : Setting b new card) (differ : Differ D old new) where
  abbrev T : ℕ
  T = card.top

  abbrev F : ℕ
  F = (sizes_of b).fade

  -- ---- points: a sample counts 2^8 there, each level at most doubles a difference, a value quadruples it, and a fade is a mean

  abbrev PointsApart : ℤ → ℤ → Type 0
  PointsApart x y = nat_abs (pos 1 *ℤ x -ℤ pos 1 *ℤ y) ≤ 2 ^ (10 + T) * D * point_scale b T

  none_apart : PointsApart (pos 0) (pos 0)
  none_apart = simp linear (omega arith)

  samples_apart : (k : ℕ) → nat_abs (pos 1 *ℤ at old k -ℤ pos 1 *ℤ at new k) ≤ D
  samples_apart k = omega (arith, ap nat_abs (once (at old k) (at new k)), differ.at_each_place k)

  made : Made F T PointsApart (exact_bound b old T) (exact_bound b new T) (exact_point b old T) (exact_point b new T)
  made = record {
    small = exact_small s;
    small' = exact_small s';
    both = exact_point_apart b old new T (top_high s) (pos 1) (pos 1) D (value_sum_apart b (right s)) (exact_word_apart (level_taps b) old new (taps_small s) differ.equal_length (pos 1) (pos 1) D samples_apart);
    none = none_apart;
  }

  -- ---- outputs: the last sum at most doubles it, and the limit brings nothing further apart

  outputs_apart : (h h' : List ℤ) → ((k : ℕ) → PointsApart (at h k) (at h' k)) → SumsApart T D (exact_scale b T) (exact_output b T h) (exact_output b T h')
  unfolding exact_output
  outputs_apart h h' points-apart =
      let limited = limit16_apart (exact_scale b T) (output_sum b h) (output_sum b h') in
      let summed = rw (once (output_sum b h) (output_sum b h')) at (output_sum_apart b (right s) (pos 1) (pos 1) h h' (2 ^ (10 + T) * D * point_scale b T) points-apart) in
      le_trans limited (rw (output_scale b T) (omega (arith, summed, ap (λ (n : ℕ). n * (D * point_scale b T)) (pow-add 2 10 T))))

  -- ---- the two exact players side by side

  abbrev Beside : ExactVoice → ExactVoice → Type 0
  Beside e e' = Alike F T PointsApart (exact_bound b old T) (exact_bound b new T) e.control e.points e'.control e'.points

  fresh : Beside (exact_fresh card) (exact_fresh card)
  unfolding exact_fresh fresh_control
  fresh = fresh_alike F T PointsApart (exact_bound b old T) (exact_bound b new T) none_apart _ (fresh_valid F card (fade_low s) s.opening_accepted) refl

  number_same : (e e' : ExactVoice) (c : Call) → Beside e e' → exact_call_number b old T e c ≡ exact_call_number b new T e' c
  unfolding exact_call_number
  number_same e e' (order o) r = order_number_same r o
  number_same e e' (seek P) r = seek_number_same r P
  number_same e e' (play words) r = play_number_same r (length words)

  steps : Steps (SumsApart T D (exact_scale b T)) (exact b old T) (exact b new T) Beside
  unfolding exact exact_call_number exact_next
  steps = record {
    number_same = number_same;
    order-kept = λ e e' o r h. ordered_alike r o h;
    seek-kept = λ e e' P r h. sought_alike r P h;
    output-kept = λ e e' r. output_alike r made;
    newest_related = λ e e' r. outputs_apart e.points e'.points r.related;
  }

  pub sums_apart : (calls : List Call) → Paired (SumsApart T D (exact_scale b T)) (exact_sums b old T (exact_fresh card) calls) (exact_sums b new T (exact_fresh card) calls)
  unfolding exact
  sums_apart calls = all_paired steps (exact_fresh card) (exact_fresh card) calls fresh
