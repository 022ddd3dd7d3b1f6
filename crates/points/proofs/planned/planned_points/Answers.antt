-- `points::planned::planned_points` meets its contract: the values of one level are the points without a fade, and the means of two those inside one. Assumes
-- nothing.
use mathlib.Core.Path.{◌≡◌, sym, ap, ap₂, ◌∙◌}
use mathlib.Core.List.{List}
use Prim.Native.Nat.{ℕ, suc, ◌+◌, ◌-◌, ◌≤◌, ◌<◌, ◌^◌}
use native.Mathlib.Omega.{arith}
use lib.IntN.{ℤ, pos, nat_abs}
use lib.ListN.{length, get_or, take, drop, replicate, length-replicate, length-drop}
use lib.Seq.{length-take-le}
use Rattle.arith.specs.Lists.{at, part, tabulate, overwrite}
use Rattle.arith.proofs.Lists.{tabulate_ext, length-tabulate, get_or-tabulate}
use Rattle.arith.proofs.Written.{part_all, part_back}
use Rattle.book.specs.Book.{sizes_of}
use Rattle.book.proofs.Accepted.{Accepted, accepted, sizes_bounded}
use Rattle.control.specs.declared.Plan.{Plan}
use Rattle.values.specs.Values.{value}
use Rattle.values.proofs.Values.{value_small}
use Rattle.positions.specs.Runs.{run_plan}
use Rattle.points.specs.Points.{point}
use Rattle.points.specs.Inner.{faded}
use Rattle.points.proofs.Points.{steady_point, fading_point}
use Rattle.points.proofs.planned.planned_points.Goals as goal
use Rattle.windows.specs.declared.source.Source.{Source}

-- of a source
module _ (s : Source) where
  abbrev b : List ℤ
  b = s.book.now

  abbrev store : List ℤ
  store = s.store.now

  sound : Accepted b
  sound = accepted b s.laid_out.sizes.book_accepted

  fade_is : s.layout.fade ≡ (sizes_of b).fade
  fade_is = s.laid_out.sizes.fade

  fade_between : (1 ≤ s.layout.fade) × (s.layout.fade ≤ 256)
  fade_between = let size = sizes_bounded b sound in (omega (arith, fade_is, size.fade_low), omega (arith, fade_is, size.fade_high))

-- the points of a run of n, newest first, if those of its plans are f
points_are : (s : Source) (p : Plan) (P : ℕ → ℕ) (n : ℕ) (f : ℕ → ℤ) → ((k : ℕ) → k < n → f k ≡ point (b s) (store s) (run_plan p k (P k)))
    → tabulate n (λ j. f (n - suc j)) ≡ tabulate n (λ j. point (b s) (store s) (run_plan p (n - suc j) (P (n - suc j))))
points_are s p P n f e = tabulate_ext n (λ j h. e (n - suc j) (omega arith))

pub returns-then-p-eq0 : goal.returns-then-p-eq0
returns-then-p-eq0 c =
    let s = c.args.source.now in
    let p = c.args.p in
    let n : ℕ = length c.args.positions.now in
    let P : ℕ → ℕ = λ k. get_or c.args.positions.now k 0 in
    c.values_along.ensures
    ∙ ap (overwrite c.args.line.now (128 - n)) (points_are s p P n (λ k. value (b s) (store s) p.old (P k)) (λ k h. sym (steady_point (b s) (store s) p k (P k) c.if-p-eq0.true)))

pub fade_values-requires-clause-steps : goal.fade_values-requires-clause-steps
fade_values-requires-clause-steps c =
    let n : ℕ = length c.args.positions.now in
    let part : length (take (128 - (128 - n)) (drop (128 - n) c.args.line.now)) ≡ n = length-take-le (128 - (128 - n)) (drop (128 - n) c.args.line.now) (omega (arith, length-drop (128 - n) c.args.line.now)) ∙ omega arith in
    let room = c.requires.in_fade c.if-p-eq0.false in
    let fade = fade_between c.args.source.now in
    (omega arith, omega arith, fade.0, fade.1)

-- the values of a level, as they were written
module _ (s : Source) (level : ℕ) (P : ℕ → ℕ) (n : ℕ) (few : n ≤ 128) {line : List ℤ}
    (e : line ≡ overwrite (replicate 128 (pos 0)) (128 - n) (tabulate n (λ j. value (b s) (store s) level (P (n - suc j))))) where
  level_at : (k : ℕ) → k < n → at (take (128 - (128 - n)) (drop (128 - n) line)) k ≡ value (b s) (store s) level (P (n - suc k))
  level_at k h =
      let values : List ℤ = tabulate n (λ j. value (b s) (store s) level (P (n - suc j))) in
      let all : 128 - (128 - n) ≡ length values = omega (arith, length-tabulate n (λ j. value (b s) (store s) level (P (n - suc j)))) in
      ap (λ l. at (take (128 - (128 - n)) (drop (128 - n) l)) k) e
      ∙ ap (λ l. at l k) (part_back (replicate 128 (pos 0)) (128 - n) (128 - (128 - n)) values (omega (arith, length-replicate 128 (pos 0))) all)
      ∙ get_or-tabulate n (λ j. value (b s) (store s) level (P (n - suc j))) k (pos 0) h

  level_small : level ≤ 4 → (k : ℕ) → k < n → nat_abs (at (take (128 - (128 - n)) (drop (128 - n) line)) k) ≤ 2 ^ 29
  level_small l k h = rw (level_at k h) (value_small (b s) (sound s) (store s) level (P (n - suc k)) l)

pub fade_values-requires-clause-small : goal.fade_values-requires-clause-small
fade_values-requires-clause-small c k h =
    let s = c.args.source.now in
    let n : ℕ = length c.args.positions.now in
    let P : ℕ → ℕ = λ i. get_or c.args.positions.now i 0 in
    let part : length (take (128 - (128 - n)) (drop (128 - n) c.args.line.now)) ≡ n = length-take-le (128 - (128 - n)) (drop (128 - n) c.args.line.now) (omega (arith, length-drop (128 - n) c.args.line.now)) ∙ omega arith in
    let in_run : k < n = omega (arith, h) in (
      level_small s c.args.p.old P n c.requires.count.1 c.values_along-2.ensures (omega (arith, s.tops)) k in_run,
      level_small s c.args.p.new P n c.requires.count.1 c.values_along-3.ensures (omega (arith, s.tops)) k in_run,
    )

pub returns : goal.returns
returns c =
    let s = c.args.source.now in
    let p = c.args.p in
    let n : ℕ = length c.args.positions.now in
    let P : ℕ → ℕ = λ i. get_or c.args.positions.now i 0 in
    let few = c.requires.count.1 in
    let line = c.args.line.now in
    let part : length (take (128 - (128 - n)) (drop (128 - n) line)) ≡ n = length-take-le (128 - (128 - n)) (drop (128 - n) line) (omega (arith, length-drop (128 - n) line)) ∙ omega arith in
    let last : ℕ = p.step + n - 1 in
    let old : ℕ → ℤ = at (take (128 - (128 - n)) (drop (128 - n) c.values_along-2.new.line)) in
    let new : ℕ → ℤ = at (take (128 - (128 - n)) (drop (128 - n) c.values_along-3.new.line)) in
    let made : ℕ → ℤ = λ j. faded s.layout.fade (last - j) (old j) (new j) in
    let each : (j : ℕ) → j < n → made j ≡ point (b s) (store s) (run_plan p (n - suc j) (P (n - suc j))) = λ j h.
    let place : last - j ≡ p.step + (n - suc j) = omega arith in
    ap (λ i. faded s.layout.fade i (old j) (new j)) place
    ∙ ap₂ (faded s.layout.fade (p.step + (n - suc j))) (level_at s p.old P n few c.values_along-2.ensures j h) (level_at s p.new P n few c.values_along-3.ensures j h)
    ∙ ap (λ F. faded F (p.step + (n - suc j)) (value (b s) (store s) p.old (P (n - suc j))) (value (b s) (store s) p.new (P (n - suc j)))) (fade_is s)
    ∙ sym (fading_point (b s) (store s) p (n - suc j) (P (n - suc j)) c.if-p-eq0.false) in
    let points = c.fade_values.ensures ∙ ap (λ i. tabulate i made) part ∙ tabulate_ext n each in
    part_all line (128 - n) (128 - (128 - n)) c.fade_values.new.line (ap length points ∙ length-tabulate n (λ j. point (b s) (store s) (run_plan p (n - suc j) (P (n - suc j)))) ∙ omega arith)
    ∙ ap (overwrite line (128 - n)) points
