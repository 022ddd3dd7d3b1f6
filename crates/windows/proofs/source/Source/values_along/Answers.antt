-- `windows::source::Source::values_along` meets its contract: room for levels 0..T is room for a level below, and values are written in front of those that
-- were. Assumes nothing.
use mathlib.Core.Path.{◌≡◌, refl, sym, ap, ◌∙◌}
use mathlib.Core.List.{List, ◌++◌, append_assoc}
use Prim.Native.Nat.{ℕ, zero, suc, ◌+◌, ◌-◌, ◌/◌, ◌^◌, ◌≤◌, ◌<◌}
use native.Mathlib.Nat.{add-zero}
use native.Mathlib.Omega.{arith}
use borrow.Author.Tests.{eqb-true}
use lib.IntN.{ℤ}
use lib.ListN.{length, get_or, take, drop}
use lib.Seq.{get_or-take, get_or-drop}
use Rattle.std.proofs.lemmas.List.{drop-drop}
use Rattle.arith.specs.Lists.{tabulate, overwrite}
use Rattle.arith.proofs.Lists.{tabulate_ext, length-tabulate}
use Rattle.arith.proofs.Written.{length_written, newest, newest_none, newest_next}
use Rattle.values.specs.Values.{unit, level_value, value}
use Rattle.values.proofs.Layouts.{fewer_levels}
use Rattle.windows.specs.Runs.{Together}
use Rattle.windows.proofs.source.Source.values_along.Goals as goal

-- words written in front of those that were written
in_front : (xs : List ℤ) (f : ℕ → ℤ) (m n : ℕ) → 128 ≤ length xs → m + n ≤ 128 → newest (newest xs 128 f m) (128 - m) (λ k. f (m + k)) n ≡ newest xs 128 f (m + n)
in_front xs f m zero h l = sym (newest_none (newest xs 128 f m) (128 - m) (λ k. f (m + k))) ∙ ap (newest xs 128 f) (sym (add-zero m))
in_front xs f m (suc n) h l =
    let long : length (newest xs 128 f m) ≡ length xs = length_written xs (128 - m) (λ j. f (m - suc j)) m (omega arith) in
    sym (newest_next (newest xs 128 f m) (128 - m) (λ k. f (m + k)) n (f (m + n)) {place = 128 - (m + suc n)} (omega arith) (omega arith) refl (omega arith) (omega arith) refl)
    ∙ newest_next xs 128 f (m + n) (f (m + n)) (omega arith) (omega arith) refl (omega arith) refl (in_front xs f m n h (omega arith))

-- a part that was lent, and came back with ys
lent : (xs ys : List ℤ) (a k : ℕ) → length ys ≡ k → take a xs ++ (ys ++ drop k (drop a xs)) ≡ overwrite xs a ys
lent xs ys a k e = ap (λ r. take a xs ++ (ys ++ r)) (drop-drop k a xs ∙ ap (λ n. drop (a + n) xs) (sym e)) ∙ sym (append_assoc (take a xs) ys (drop (a + length ys) xs))

line_more : (f : ℕ → ℤ) (xs line new : List ℤ) (end start k d m : ℕ) → 128 ≤ length xs → d + m ≤ 128 → end + d ≡ 128 → start ≡ end - m → k ≡ m → line ≡ newest xs 128 f d
    → new ≡ tabulate m (λ j. f (d + (m - suc j))) → take start line ++ (new ++ drop k (drop start line)) ≡ newest xs 128 f (d + m)
line_more f xs line new end start k d m h l e s i before now =
    let values : List ℤ = tabulate m (λ j. f (d + (m - suc j))) in
    let place : start ≡ 128 - d - m = omega arith in
    lent line new start k (ap length now ∙ length-tabulate m (λ j. f (d + (m - suc j))) ∙ sym i)
    ∙ ap (overwrite line start) now ∙ ap (λ a. overwrite line a values) place ∙ ap (λ l. overwrite l (128 - d - m) values) before ∙ in_front xs f d m h l

-- m of the positions behind the first d
module _ (positions rest run : List ℕ) (d m : ℕ) (rest_is : rest ≡ drop d positions) (run_is : run ≡ take m rest) (many : length run ≡ m) (some : 1 ≤ m) (inside : d + m ≤ length positions) where
  at_run : (k : ℕ) → k < m → get_or run k 0 ≡ get_or positions (d + k) 0
  at_run k h = ap (λ xs. get_or xs k 0) run_is ∙ get_or-take m rest k 0 h ∙ ap (λ xs. get_or xs k 0) rest_is ∙ get_or-drop d positions k 0

  at_last : get_or run (length run - 1) 0 ≡ get_or positions (d + (m - 1)) 0
  at_last = ap (λ n. get_or run (n - 1) 0) many ∙ at_run (m - 1) (omega arith)

  together : (level : ℕ) → level ≤ 4 → length positions ≤ 128 → ((i k : ℕ) → i ≤ k → k < length positions → get_or positions i 0 ≤ get_or positions k 0)
      → ((k : ℕ) → k < length positions → get_or positions k 0 ≤ 2 ^ 60)
      → get_or rest (m - 1) 0 / 2 ^ (28 + level) ≤ get_or rest 0 0 / 2 ^ (28 + level) + 127 → Together run level
  unfolding unit
  together level low few rising early near =
      let of_rest : (k : ℕ) → k < m → get_or rest k 0 ≡ get_or run k 0 = λ k h. sym (ap (λ xs. get_or xs k 0) run_is ∙ get_or-take m rest k 0 h) in
      record {
        level_high = low;
        some = omega (arith, many);
        few = omega (arith, many);
        between = λ k h. rw (at_last, at_run k (omega (arith, many)), at_run 0 (omega arith)) (rising (d + 0) (d + k) (omega arith) (omega (arith, many)), rising (d + k) (d + (m - 1)) (omega (arith, many)) (omega arith));
        early = rw at_last (early (d + (m - 1)) (omega arith));
        apart = rw many (rw (← of_rest (m - 1) (omega arith), ← of_rest 0 (omega arith)) near);
      }

pub level_words-words-requires : goal.level_words-words-requires
level_words-words-requires c = let s = c.args.self.now in (omega (arith, c.requires.level, s.tops), (fewer_levels s.laid_out c.requires.level).levels)

pub loop-words-init : goal.loop-words-init
loop-words-init c =
    let ps = c.args.positions.now in
    let none : length ps - length ps ≡ 0 = omega arith in
    let f : ℕ → ℤ = λ k. level_value c.args.self.now.book.now c.level_words-words.result.now c.args.level (get_or ps k 0) in
    record {
      left = omega arith;
      end_is = omega arith;
      rest_is = ap (λ n. drop n ps) (sym none);
      line_is = newest_none c.args.line.now 128 f ∙ ap (newest c.args.line.now 128 f) (sym none);
    }

pub level_values-requires-clause-together : goal.level_values-requires-clause-together
level_values-requires-clause-together c =
    let ps = c.args.positions.now in
    let rest = c.loop-words.rest.now in
    let i = c.loop-words.invariant in
    let split = c.split_at.ensures in
    together ps rest c.split_at.result.0.now (length ps - length rest) c.room.result i.rest_is split.front split.front_len c.room.ensures.0 (omega (arith, i.left, c.room.ensures.1))
    c.args.level (omega (arith, c.requires.level, c.args.self.now.tops)) c.requires.few c.requires.rising c.requires.early c.room.ensures.2

pub loop-words-preserved : goal.loop-words-preserved
loop-words-preserved c =
    let ps = c.args.positions.now in
    let rest = c.loop-words.rest.now in
    let run = c.split_at.result.0.now in
    let later = c.split_at.result.1.now in
    let i = c.loop-words.invariant in
    let split = c.split_at.ensures in
    let d = length ps - length rest in
    let m = c.room.result in
    let value : ℕ → ℤ = λ p. level_value c.args.self.now.book.now c.level_words-words.result.now c.args.level p in
    let f : ℕ → ℤ = λ k. value (get_or ps k 0) in
    let inside : d + m ≤ length ps = omega (arith, i.left, c.room.ensures.1) in
    let next : d + m ≡ length ps - length later = omega (arith, i.left, split.back_len) in
    let values : c.level_values.new.line ≡ tabulate m (λ j. f (d + (m - suc j))) =
    c.level_values.ensures ∙ ap (λ n. tabulate n (λ j. value (get_or run (n - suc j) 0))) split.front_len
    ∙ tabulate_ext m (λ j h. ap value (at_run ps rest run d m i.rest_is split.front split.front_len c.room.ensures.0 inside (m - suc j) (omega arith))) in
    record {
      left = omega (arith, i.left, split.back_len);
      end_is = omega (arith, i.left, i.end_is, split.front_len, split.back_len, c.requires.few);
      rest_is = split.back ∙ ap (drop m) i.rest_is ∙ drop-drop m d ps ∙ ap (λ n. drop n ps) next;
      line_is =
          line_more f c.args.line.now c.loop-words.line c.level_values.new.line c.loop-words.end _ _ d m c.requires.line_room (omega (arith, inside, c.requires.few)) i.end_is
          (ap (λ n. c.loop-words.end - n) split.front_len) (omega (arith, split.front_len, i.end_is, inside, c.requires.few)) i.line_is values
          ∙ ap (newest c.args.line.now 128 f) next;
    }

pub returns : goal.returns
unfolding value
returns c =
    let ps = c.args.positions.now in
    let f : List ℤ → ℕ → ℤ = λ words k. level_value c.args.self.now.book.now words c.args.level (get_or ps k 0) in
    let none : length ps - length c.loop-words.rest.now ≡ length ps =
    omega (arith, eqb-true (length c.loop-words.rest.now) 0 (sym c.is_empty.ensures ∙ c.loop-words-test.false)) in
    c.loop-words.invariant.line_is ∙ ap (newest c.args.line.now 128 (f c.level_words-words.result.now)) none ∙ ap (λ words. newest c.args.line.now 128 (f words) (length ps)) c.level_words-words.ensures.0
