-- `windows::window::room` meets its contract. The loop's invariant: one position at least is left, and no more than there are; one lies in no distance
-- from itself. Assumes nothing.
use mathlib.Core.Path.{◌≡◌, ap}
use Prim.Native.Nat.{ℕ, ◌-◌, ◌/◌, ◌^◌, ◌≤◌, ◌<◌}
use native.Mathlib.Decide.{dec_lt}
use native.Mathlib.Nat.{div-le_self}
use native.Mathlib.Omega.{arith}
use mathlib.Core.List.{List}
use lib.ListN.{get_or}
use Rattle.windows.proofs.window.room.Goals as goal
use Rattle.windows.proofs.window.room.Goals.{In-loop-count}

-- a turn has two positions at least
several : (c : In-loop-count) → 2 ≤ c.before.before.loop-count.count
several c = go (dec_lt 1 n)
  where
    n : ℕ
    n = c.before.before.loop-count.count

    positions : List ℕ
    positions = c.before.before.before.before.args.positions.now

    go : Dec (1 < n) → 2 ≤ n
    go (yes h) = h
    go (no h) =
        let e : n - 1 ≡ 0 = omega arith in
        let same : get_or positions (n - 1) 0 / 2 ^ c.before.before.before.before.args.shift ≡ get_or positions 0 0 / 2 ^ c.before.before.before.before.args.shift =
        ap (λ k. get_or positions k 0 / 2 ^ c.before.before.before.before.args.shift) e in
        absurd (omega (arith, same, c.loop-count-test.true))

pub bounds-positions-0 : goal.bounds-positions-0
bounds-positions-0 c = omega (arith, c.before.requires)

pub overflow_shr-base : goal.overflow_shr-base
overflow_shr-base c = omega (arith, c.before.requires)

pub loop-count-init : goal.loop-count-init
loop-count-init c = (omega (arith, c.before.requires), omega arith)

pub overflow_add-base : goal.overflow_add-base
overflow_add-base c =
    let s = c.before.before in
    omega (arith, div-le_self (get_or s.args.positions.now 0 0) (2 ^ s.args.shift), s.requires)

pub offset_bounds-positions-count : goal.offset_bounds-positions-count
offset_bounds-positions-count c = omega (arith, c.before.before.requires)

pub overflow_shr-positions : goal.overflow_shr-positions
overflow_shr-positions c = omega (arith, c.before.before.before.requires)

pub overflow_add-count : goal.overflow_add-count
overflow_add-count c = omega (arith, c.before.before.before.before.requires)

pub loop-count-smaller : goal.loop-count-smaller
loop-count-smaller c = omega (arith, several c)

pub loop-count-preserved : goal.loop-count-preserved
loop-count-preserved c = (omega (arith, several c), omega arith)

pub returns : goal.returns
returns c = (omega arith, omega arith, omega (arith, c.loop-count-test.false))
