-- `rows::lobes` meets its contract: each row that comes is the front of those that are left. Assumes nothing.
use mathlib.Core.Path.{◌≡◌, sym, ap, ◌∙◌}
use mathlib.Core.List.{List, [], ◌∷◌, ◌++◌}
use mathlib.Core.Logic.{◌⊎◌, inl, inr}
use Prim.Native.Nat.{ℕ, ◌+◌, ◌-◌, ◌*◌, ◌/◌, ◌≤◌, ◌<◌}
use native.Mathlib.Decide.{ℕ_discrete, dec_le}
use native.Mathlib.Nat.{mul-le-mul_right}
use native.Mathlib.Omega.{arith}
use lib.IntN.{ℤ, pos}
use lib.ListN.{length, get_or-append}
use lib.Signed.{◌≤ℤ◌}
use Rattle.std.proofs.lemmas.List.{get_or-append-add}
use Rattle.std.proofs.Math.ListN.{length-append}
use Rattle.arith.specs.Lists.{at}
use Rattle.rows.specs.Rows.{Positive}
use Rattle.rows.proofs.lobes.Goals as goal

-- of n rows of W words m are passed, and the rest is the next row and what follows it
module _ (table rest row later : List ℤ) (W m n : ℕ) (cut : rest ≡ row ++ later) (wide : length row ≡ W) (left : length rest + m * W ≡ n * W)
    (same : (k : ℕ) → k < length rest → at rest k ≡ at table (m * W + k)) where
  whole : length rest ≡ W + length later
  whole = ap length cut ∙ omega (arith, length-append row later)

  left_later : {p : ℕ} → p ≡ m + 1 → length later + p * W ≡ n * W
  left_later e = rw e (omega (arith, whole, left))

  same_later : {p : ℕ} → p ≡ m + 1 → (k : ℕ) → k < length later → at later k ≡ at table (p * W + k)
  same_later {p} e k h =
      let j : m * W + (length row + k) ≡ p * W + k = rw e (omega (arith, wide)) in
      sym (get_or-append-add row later k (pos 0)) ∙ ap (λ xs. at xs (length row + k)) (sym cut) ∙ same (length row + k) (omega (arith, whole, wide)) ∙ ap (at table) j

  at_row : (k : ℕ) → k < W → at row k ≡ at table (m * W + k)
  at_row k h = sym (get_or-append row later (pos 0) k (omega (arith, wide))) ∙ ap (λ xs. at xs k) (sym cut) ∙ same k (omega (arith, whole))

  one_more : (j : ℕ) → 1 ≤ j → j < W → (pos 1 ≤ℤ at row (j - 1)) ⊎ (pos 1 ≤ℤ at row j) → ((i : ℕ) → i < m → Positive table (i * W) W)
      → {p : ℕ} → p ≡ m + 1 → (i : ℕ) → i < p → Positive table (i * W) W
  one_more j low high found all e i h = go (ℕ_discrete i m)
    where
      here : (pos 1 ≤ℤ at row (j - 1)) ⊎ (pos 1 ≤ℤ at row j) → Positive table (m * W) W
      here (inl l) = record { place = j - 1; inside = omega arith; above = rw (at_row (j - 1) (omega arith)) at l }
      here (inr l) = record { place = j; inside = high; above = rw (at_row j high) at l }

      go : Dec (i ≡ m) → Positive table (i * W) W
      go (yes d) = rw d (here found)
      go (no x) = all i (omega arith)

-- where less than a row is left, all are passed
passed : (W m n r : ℕ) → r + m * W ≡ n * W → r < W → n ≤ m
passed W m n r e l = go (dec_le n m)
  where
    go : Dec (n ≤ m) → n ≤ m
    go (yes h) = h
    go (no h) = let more : m + 1 ≤ n = omega arith in omega (arith, mul-le-mul_right W more)

pub loop-row-preserved : goal.loop-row-preserved
loop-row-preserved c =
    let table = c.args.table.now in
    let W = c.args.width in
    let i = c.loop-row.invariant in
    let row = c.in-Some.row.now in
    let later = c.next.new.self.rest.now in
    let rest = c.loop-row.row-iterator.rest.now in
    let m = length c.loop-row.yielded in
    let s = c.in-Some.ensures.steps in
    let wide : length row ≡ W = s.1.1 ∙ i.0 in
    let more = length-append c.loop-row.yielded (c.in-Some.row ∷ []) in (
      s.0 ∙ i.0,
      left_later table rest row later W m c.args.count s.1.0 wide i.1 i.2 more,
      same_later table rest row later W m c.args.count s.1.0 wide i.1 i.2 more,
      one_more table rest row later W m c.args.count s.1.0 wide i.1 i.2 (c.args.taps / 2) (omega (arith, c.requires)) (omega (arith, c.requires)) (c.lobe.ensures c.if-not-lobe.false) i.3 more,
    )

pub returns : goal.returns
returns c e q h =
    let i = c.loop-row.invariant in
    i.3 q (omega (arith, passed c.args.width (length c.loop-row.yielded) c.args.count (length c.loop-row.row-iterator.rest.now) i.1 (omega (arith, i.0, c.in-None.ensures.steps.1.0))))
