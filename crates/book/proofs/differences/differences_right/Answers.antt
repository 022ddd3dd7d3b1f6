-- `book::differences::differences_right` meets its contract, which is one of three runs of words (`Runs`). Assumes nothing.
use Rattle.std.proofs.Common.{rules, ◌≡◌, ℕ, ◌+◌, ◌-◌, ◌≤◌, Bool, true, ◌&&◌, List, length, ℤ, pos, ◌-ℤ◌, sym, refl, ap, ◌∙◌, arith, w32, SFits}
use Rattle.arith.specs.Lists.{at, part}
use Rattle.arith.specs.Tests.{eq_z, every}
use Rattle.arith.proofs.Bits.{reads}
use Rattle.book.specs.declared.places.Parts.{Parts}
use Rattle.book.specs.Check.{differences_right}
use Rattle.book.specs.Inner.{impulses, differences}
use Rattle.book.proofs.Bounds.{bounded}
use Rattle.book.proofs.Chained.{made, not_made, &&-assoc}
use Rattle.book.proofs.Runs.{right_at, differences_runs}
use Rattle.book.proofs.Sections.{impulses_small, section, last_word, first_words}
use Rattle.book.proofs.Whole.{array, room, array_is, impulses_long, impulse_small}
use Rattle.book.proofs.differences.differences_right.Goals as goal
use Rattle.book.proofs.differences.differences_right.Goals.{then-run_right, else-run_right}

pub run_right-requires-clause-next_small : goal.run_right-requires-clause-next_small
run_right-requires-clause-next_small c = impulses_small c.args.book.now c.impulses-impulses.ensures.words c.requires.in_range _ _

pub run_right-requires-clause-from_small : goal.run_right-requires-clause-from_small
run_right-requires-clause-from_small c = impulses_small c.args.book.now c.impulses-impulses.ensures.words c.requires.in_range _ _

pub run_right-requires-then-run_right-clause-next_small : goal.run_right-requires-then-run_right-clause-next_small
run_right-requires-then-run_right-clause-next_small c = search (impulses_small c.args.book.now c.impulses-impulses.ensures.words c.requires.in_range)

pub run_right-requires-then-run_right-clause-from_small : goal.run_right-requires-then-run_right-clause-from_small
run_right-requires-then-run_right-clause-from_small c = impulses_small c.args.book.now c.impulses-impulses.ensures.words c.requires.in_range _ _

-- the rule, over the sizes that were read, without the differences that are known to be right
module _ (p : Parts) (s : ℕ) where
  abbrev b : List ℤ
  b = p.words.now

  abbrev A : ℕ
  A = array p

  abbrev N : ℕ
  N = p.sizes.taps

  abbrev early : Bool
  early = every (A - N - s) (right_at b (5 + A + s) (5 + N + s) (5 + s))

  abbrev late : Bool
  late = every (N - 1) (right_at b (5 + A + (A - N)) 6 (5 + (A - N)))

  abbrev final : Bool
  final = eq_z (at b (4 + A + A)) (pos 0 -ℤ at b (4 + A))

  rule : s + N ≤ A → every s (λ i. eq_z (at (differences b) i) (at (impulses b) (N + i) -ℤ at (impulses b) i)) ≡ true → early && late && final ≡ differences_right b
  rule h e =
      let known = sym (first_words p refl refl N s (omega arith)) ∙ e in
      &&-assoc early late final ∙ sym (differences_runs b A N s (bounded b p.in_range) (sym (array_is p)) (ap (λ z. z.taps) p.read) h known)

-- the runs, as the code takes them
module _ (p : Parts) (s : ℕ) {is ds : List ℤ} (impulses_are : is ≡ impulses p.words.now) (differences_are : ds ≡ differences p.words.now) (inside : s + N p s ≤ A p s) where
  abbrev last : ℕ
  last = length is - p.sizes.taps

  abbrev end : ℕ
  end = length is - 1

  abbrev right : (to count next behind from many : ℕ) → Bool
  right to count next behind from many = every (length (part ds to count)) (λ i. eq_z (at (part ds to count) i) (at (part is next behind) i -ℤ at (part is from many) i))

  known : (length is ≡ A p s) × (2 ≤ p.sizes.taps) × (p.sizes.taps ≤ A p s)
  known = let r = room p in (impulses_long p impulses_are, r.3, r.2)

  early_is : right s (last - s) (s + p.sizes.taps) (length is - (s + p.sizes.taps)) s (last - s) ≡ early p s
  early_is =
      let n = A p s - N p s - s in
      let next : 5 + (s + p.sizes.taps) ≡ 5 + p.sizes.taps + s = omega arith in
      section p impulses_are differences_are s (s + p.sizes.taps) s n (omega (arith, known)) (omega (arith, known)) (omega (arith, known)) (omega (arith, known)) (omega (arith, known)) (omega (arith, known))
      ∙ ap (λ j. every n (right_at (b p s) (5 + A p s + s) j (5 + s))) next

  late_is : right last (end - last) 1 (p.sizes.taps - 1) last (end - last) ≡ late p s
  late_is =
      section p impulses_are differences_are last 1 last (p.sizes.taps - 1) (omega (arith, known)) (omega (arith, known)) (omega (arith, known)) (omega (arith, known)) (omega (arith, known)) (omega (arith, known))
      ∙ ap (λ z. every (p.sizes.taps - 1) (right_at (b p s) (5 + A p s + (z - p.sizes.taps)) 6 (5 + (z - p.sizes.taps)))) known.0

  final_is : eq_z (at ds end) (pos 0 -ℤ at is end) ≡ final p s
  final_is = ap (λ z. eq_z (at ds (z - 1)) (pos 0 -ℤ at is (z - 1))) known.0 ∙ last_word p impulses_are differences_are (omega (arith, known))

pub returns-then-run_right-2 : goal.returns-then-run_right-2
returns-then-run_right-2 c =
    let p = c.args.book.now in
    let s = c.args.start in
    let is = c.impulses-impulses in
    let ds = c.differences-differences in
    let r1 = c.run_right.ensures ∙ early_is p s is.ensures.words ds.ensures.words c.requires.start_inside in
    let r2 : c.if-run_right.value ≡ early p s && late p s =
    elim c.if-run_right.branch [
      | then-run_right w ↦ made r1 w.if-run_right.true (w.run_right-then-run_right.ensures ∙ late_is p s is.ensures.words ds.ensures.words c.requires.start_inside) w.value-is
      | else-run_right w ↦ not_made (late p s) r1 w.if-run_right.false w.value-is
    ] in
    let end = length is.result.now - 1 in
    let to-fits : SFits w32 (at ds.result.now end) = search rules in
    let from-fits : SFits w32 (at is.result.now end) = search rules in
    let small = impulse_small p c.requires.in_range is.result.now is.ensures.words end (omega (arith, is.ensures)) in
    let told = (simp (reads, to-fits, from-fits) at c.follows.ensures) (omega arith) small in
    made r2 c.if-run_right-2.true (told ∙ final_is p s is.ensures.words ds.ensures.words c.requires.start_inside) refl ∙ rule p s c.requires.start_inside c.requires.start_right

pub returns-else-run_right-2 : goal.returns-else-run_right-2
returns-else-run_right-2 c =
    let p = c.args.book.now in
    let s = c.args.start in
    let is = c.impulses-impulses in
    let ds = c.differences-differences in
    let r1 = c.run_right.ensures ∙ early_is p s is.ensures.words ds.ensures.words c.requires.start_inside in
    let r2 : c.if-run_right.value ≡ early p s && late p s =
    elim c.if-run_right.branch [
      | then-run_right w ↦ made r1 w.if-run_right.true (w.run_right-then-run_right.ensures ∙ late_is p s is.ensures.words ds.ensures.words c.requires.start_inside) w.value-is
      | else-run_right w ↦ not_made (late p s) r1 w.if-run_right.false w.value-is
    ] in
    not_made (final p s) r2 c.if-run_right-2.false refl ∙ rule p s c.requires.start_inside c.requires.start_right
