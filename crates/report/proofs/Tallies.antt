-- How much a line can add to the counts, and that they are plain sums where they have room. Assumes nothing.
use mathlib.Core.Path.{◌≡◌, refl, ap, ◌∙◌}
use mathlib.Core.Bool.{Bool, true, false, cond}
use mathlib.Core.List.{List, [], ◌∷◌}
use Prim.Native.Nat.{ℕ, ◌+◌, ◌*◌, ◌≤◌}
use native.Mathlib.Nat.{min-eq_left, mul-le-mul}
use native.Mathlib.Omega.{arith}
use lib.Dec.{eqb}
use lib.IntN.{ℤ, pos}
use lib.ListN.{length, replicate, length-replicate}
use borrow.Author.Tests.{eqb-true}
use Rattle.book.specs.Book.{sizes_of}
use Rattle.book.proofs.Accepted.{accepted, sizes_bounded}
use Rattle.player.specs.declared.Voice.{Voice}
use Rattle.player.specs.Calls.{Answer, Played, order_answer, seek_answer, play_answer}
use Rattle.player.proofs.Accepted.{play_accepted}
use Rattle.player.proofs.Counted.{play_bounded}
use Rattle.control.specs.declared.Order.TheVariants.{Jump as JumpTo, Glide as GlideTo}
use Rattle.drive_text.specs.declared.Line.{Line}
use Rattle.drive_text.specs.declared.Line.TheVariants.{Jump, Glide, Seek, Play, Other}
use Rattle.drive_text.specs.Inner.{number_cap, kept}
use Rattle.report.specs.declared.Drive.{Drive}
use Rattle.report.specs.declared.Printed.{Printed}
use Rattle.report.specs.declared.Printed.TheVariants.{Refused as refused, Played as played}
use Rattle.report.specs.Printed.{plays_of, outputs_of, multiplies_of, sum}
use Rattle.report.specs.Report.{rate, Reported, reported, passed_over, after_answer, after_play, line_report}
use Rattle.report.specs.Inner.{largest32, largest64, Limited, counted}
use Rattle.report.proofs.Plays.{words_length}
use Rattle.report.proofs.Limits.{jump_kept, glide_kept, seek-kept}

-- ---- how much a line adds

-- 4096 outputs, each of 8N + 2B + 1 multiplies for the largest N and B
abbrev pub most_of_line : ℕ
most_of_line = 4096 * 273

pub record Adds (lines : List Printed) : Type 0 where
  pub plays : sum plays_of lines ≤ 1
  pub outputs : sum outputs_of lines ≤ 4096
  pub multiplies : sum multiplies_of lines ≤ most_of_line

none : Adds []
unfolding sum
none = record { plays = omega arith; outputs = omega arith; multiplies = omega arith }

one_refused : Adds (refused ∷ [])
unfolding sum
one_refused = record { plays = omega arith; outputs = omega arith; multiplies = omega arith }

answer_adds : (v : Voice) (a : Answer) → Adds (after_answer v a).printed
unfolding after_answer
answer_adds v a = go (eqb a.number 0)
  where
    go : (t : Bool) → Adds (cond {A = Reported} t (reported a.voice []) (passed_over v)).printed
    go true = none
    go false = one_refused

module _ (b store : List ℤ) (v : Voice) where
  -- an accepted book has at most 273 multiplies for an output
  few_multiplies : (words : List ℤ) → (play_answer b store v words).number ≡ 0 → length words ≤ 4096 → (play_answer b store v words).multiplies ≤ most_of_line
  unfolding play_answer
  few_multiplies words e h =
      let s = sizes_bounded b (accepted b (play_accepted b store v (length words) e).book_accepted) in
      let each : 8 * (sizes_of b).taps + 2 * (sizes_of b).decimation + 1 ≤ 273 = omega (arith, s.taps_high, s.decimation_high) in
      let all : length words * (8 * (sizes_of b).taps + 2 * (sizes_of b).decimation + 1) ≤ 4096 * 273 = mul-le-mul h each in
      omega (arith, all, play_bounded b store v words)

  play_adds : (plays n : ℕ) → n ≤ 4096 → Adds (after_play v plays (play_answer b store v (replicate n (pos 0)))).printed
  unfolding after_play sum
  play_adds plays n h = go (eqb p.number 0) refl
    where
      p : Played
      p = play_answer b store v (replicate n (pos 0))

      words : length (replicate n (pos 0)) ≡ n
      words = length-replicate n (pos 0)

      go : (t : Bool) → eqb p.number 0 ≡ t
          → Adds (cond {A = Reported} t (reported p.voice (played (plays + 1) (length p.words) p.multiplies p.voice.control.fade.from ∷ [])) (passed_over v)).printed
      go true e =
          record {
            plays = omega arith;
            outputs = omega (arith, h, words, words_length b store v (replicate n (pos 0)));
            multiplies = omega (arith, few_multiplies (replicate n (pos 0)) (eqb-true p.number 0 e) (omega (arith, h, words)));
          }
      go false e = one_refused

  pub line_adds : (plays : ℕ) (line : Line) → Limited line → Adds (line_report b store v plays line).printed
  unfolding line_report
  line_adds plays (Jump a) h = answer_adds v (order_answer v (JumpTo (rate a)))
  line_adds plays (Glide a c) h = answer_adds v (order_answer v (GlideTo (rate a) c))
  line_adds plays (Seek p) h = answer_adds v (seek_answer v p)
  line_adds plays (Play n) h = play_adds plays n h
  line_adds plays Other h = one_refused

  -- a line whose numbers are kept up to their cap
  pub line_kept : (plays : ℕ) (line : Line) → line_report b store v plays (kept line) ≡ line_report b store v plays line
  unfolding line_report kept
  line_kept plays (Jump a) = ap (after_answer v) (jump_kept v a number_cap (omega arith))
  line_kept plays (Glide a c) = ap (after_answer v) (glide_kept v a c number_cap number_cap (omega arith) (omega arith))
  line_kept plays (Seek p) = ap (after_answer v) (seek-kept v p number_cap (omega arith))
  line_kept plays (Play n) = refl
  line_kept plays Other = refl

-- ---- plain sums

abbrev pub drive_of : Voice → ℕ → ℕ → ℕ → Drive
drive_of v plays outputs multiplies = record { voice = v; plays = plays; outputs = outputs; multiplies = multiplies }

same_counts : (v : Voice) {p q o u m n : ℕ} → p ≡ q → o ≡ u → m ≡ n → drive_of v p o m ≡ drive_of v q u n
same_counts v {p} {q} {o} {u} {m} {n} x y z = ap (λ k. drive_of v k o m) x ∙ ap (λ k. drive_of v q k m) y ∙ ap (λ k. drive_of v q u k) z

pub counted_sums : (d : Drive) (lines : List Printed)
    → d.plays + sum plays_of lines ≤ largest32 → d.outputs + sum outputs_of lines ≤ largest64 → d.multiplies + sum multiplies_of lines ≤ largest64
    → counted d lines ≡ drive_of d.voice (d.plays + sum plays_of lines) (d.outputs + sum outputs_of lines) (d.multiplies + sum multiplies_of lines)
unfolding counted sum
counted_sums d [] p o m = same_counts d.voice (omega arith) (omega arith) (omega arith)
counted_sums d (refused ∷ lines) p o m =
    counted_sums d lines (omega (arith, p)) (omega (arith, o)) (omega (arith, m)) ∙ same_counts d.voice (omega arith) (omega arith) (omega arith)
counted_sums d (played number outputs multiplies level ∷ lines) p o m =
    let next : Drive = drive_of d.voice (d.plays + 1) (d.outputs + outputs) (d.multiplies + multiplies) in
    let x : d.plays + 1 ≤ largest32 = omega (arith, p) in
    let y : d.outputs + outputs ≤ largest64 = omega (arith, o) in
    let z : d.multiplies + multiplies ≤ largest64 = omega (arith, m) in
    ap (λ e. counted e lines) (same_counts d.voice (min-eq_left x) (min-eq_left y) (min-eq_left z))
    ∙ counted_sums next lines (omega (arith, p)) (omega (arith, o)) (omega (arith, m))
    ∙ same_counts d.voice (omega arith) (omega arith) (omega arith)
