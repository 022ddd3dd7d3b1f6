-- What a play answers depends on the count of its words, and it hands out as many. Assumes nothing.
use mathlib.Core.Path.{◌≡◌, refl, sym, ap, ◌∙◌}
use mathlib.Core.Bool.{Bool, true, false, cond}
use mathlib.Core.List.{List}
use Prim.Native.Nat.{ℕ}
use lib.Dec.{eqb}
use lib.IntN.{ℤ}
use lib.ListN.{length}
use Rattle.std.specs.Prelude.{Result, Ok, Err}
use Rattle.player.specs.declared.Voice.{Voice}
use Rattle.player.specs.declared.Play.{Play}
use Rattle.player.specs.declared.Refused.{Refused}
use Rattle.player.specs.Calls.{played_of, play_answer}
use Rattle.player.specs.Outputs.{outputs}
use Rattle.player.proofs.Blocks.{length-outputs}
use Rattle.report.specs.Report.{after_play}
use Rattle.report.specs.Inner.{silent}

module _ (b store : List ℤ) (v : Voice) where
  -- as many words as it was lent
  pub words_length : (words : List ℤ) → length (play_answer b store v words).words ≡ length words
  unfolding play_answer
  words_length words = go (eqb (play_answer b store v words).number 0)
    where
      go : (t : Bool) → length (cond t (outputs b store v (length words)) words) ≡ length words
      go true = length-outputs b store v (length words)
      go false = refl

  own_words : (r : Result Play Refused) (words : List ℤ) → (played_of r words).words ≡ words
  own_words (Ok p) words = refl
  own_words (Err f) words = refl

  -- of the words only the count is looked at
  by_length : (r : Result Play Refused) (plays : ℕ) (xs ys : List ℤ) → length xs ≡ length ys → after_play v plays (played_of r xs) ≡ after_play v plays (played_of r ys)
  unfolding after_play
  by_length (Ok p) plays xs ys e = rw e refl
  by_length (Err f) plays xs ys e = rw e refl

  -- a play by its answer and a count
  pub by_count : (r : Result Play Refused) (plays count : ℕ) (words : List ℤ) → played_of r words ≡ play_answer b store v (silent count)
      → after_play v plays (played_of r (silent count)) ≡ after_play v plays (play_answer b store v (silent count))
  by_count r plays count words e =
      let n : length (silent count) ≡ length words = sym (ap length (sym (own_words r words) ∙ ap (λ p. p.words) e) ∙ words_length (silent count)) in
      by_length r plays _ _ n ∙ ap (after_play v plays) e
