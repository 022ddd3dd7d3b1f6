-- `store::lengths_right` meets its contract. Assumes nothing.
use Rattle.std.proofs.Common.{◌≡◌, rules, refl, sym, ap, ◌∙◌, suc, ◌+◌, ◌<◌, ◌≤◌, ℕ, List, ℤ, pos, of_z, w32, length, arith}
use mir.Val.{SFits}
use lib.Dec.{eqb}
use borrow.Author.Tests.{ne_eqb, eq-eqb}
use Rattle.arith.specs.Lists.{at}
use Rattle.arith.specs.Tests.{eq_z, every}
use Rattle.arith.proofs.Lists.{at_part, part_length}
use Rattle.arith.proofs.Tests.{eqb_bits, every_more, every_not}
use Rattle.octave.specs.Octave.{half_length}
use Rattle.store.specs.Store.{sample_count, top_level}
use Rattle.store.specs.Check.{lengths_right}
use Rattle.store.proofs.Lengths.{level_length-zero, level_length-≤, level_length_more}
use Rattle.store.proofs.lengths_right.Invariants.{right}
use Rattle.store.proofs.lengths_right.Goals as goal
use Rattle.store.proofs.lengths_right.Goals.{After-written_lengths-word-items, In-loop-word}

-- a word whose bits are those of a small number is that number
word_is : (x : ℤ) (n : ℕ) → SFits w32 x → n ≤ 1048576 → eqb (of_z w32 x) n ≡ eq_z x (pos n)
word_is x n fits small = eqb_bits w32 x (pos n) fits (record { sfits = omega arith })

lengths_count : (c : After-written_lengths-word-items) → length c.written_lengths-word-items.result.now ≡ suc (top_level c.args.store.now)
lengths_count c = ap length c.written_lengths-word-items.ensures ∙ part_length c.args.store.now 2 (1 + top_level c.args.store.now) (omega arith) ∙ omega arith

module _ (c : In-loop-word) where
  abbrev store : List ℤ
  store = c.args.store.now

  abbrev j : ℕ
  j = c.loop-word.word-index

  abbrev word : ℤ
  word = at c.written_lengths-word-items.result.now j

  in_turn : j < suc (top_level store)
  in_turn = omega (arith, lengths_count c.before.before)

  length_small : c.loop-word.length ≤ 1048576
  length_small = omega (arith, level_length-≤ (sample_count store) j)

  looked_at : SFits w32 word → eqb (of_z w32 word) c.loop-word.length ≡ right store j
  looked_at fits =
      word_is word c.loop-word.length fits length_small
      ∙ ap (λ x. eq_z x (pos c.loop-word.length)) (ap (λ l. at l j) c.written_lengths-word-items.ensures ∙ at_part store 2 _ j (omega (arith, in_turn)))
      ∙ ap (λ n. eq_z (at store (2 + j)) (pos n)) c.loop-word.invariant.length

pub loop-word-init : goal.loop-word-init
unfolding every
loop-word-init c = record { length = c.sample_count-length.ensures ∙ sym (level_length-zero _); right = refl }

pub overflow_cast-length : goal.overflow_cast-length
overflow_cast-length c = record { sfits = omega (arith, length_small c.before) }

pub returns-then-word-length : goal.returns-then-word-length
unfolding lengths_right
returns-then-word-length c =
    let t = c.before.before in
    let fits : SFits w32 (word t) = search rules in
    sym (every_not (suc (top_level (store t))) (right (store t)) (j t) (in_turn t) (sym (looked_at t fits) ∙ ne_eqb _ _ c.if-word-length.true))

pub loop-word-preserved : goal.loop-word-preserved
loop-word-preserved c =
    let t = c.before.before.before in
    let fits : SFits w32 (word t) = search rules in
    record {
      length = c.half_length-length.ensures ∙ ap half_length c.loop-word.invariant.length ∙ sym (level_length_more (sample_count (store t)) (j t));
      right = every_more (j t) (right (store t)) c.loop-word.invariant.right (sym (looked_at t fits) ∙ eq-eqb _ _ c.if-word-length.false);
    }

pub returns : goal.returns
unfolding lengths_right
returns c =
    let store = c.args.store.now in
    let end : c.loop-word.word-index ≡ suc (top_level store) = omega (arith, lengths_count c.before.before) in
    sym (ap (λ n. every n (right store)) (sym end) ∙ c.loop-word.invariant.right)
