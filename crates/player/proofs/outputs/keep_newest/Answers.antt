-- `player::outputs::keep_newest` meets its contract. Assumes nothing.
use mathlib.Core.Path.{◌≡◌, sym, ap, ◌∙◌}
use mathlib.Core.List.{◌++◌}
use Prim.Native.Nat.{◌+◌, ◌-◌}
use native.Mathlib.Omega.{arith}
use lib.ListN.{take, drop}
use lib.Seq.{paste}
use Rattle.arith.specs.Lists.{part}
use Rattle.arith.proofs.Lists.{part_length}
use Rattle.player.proofs.outputs.keep_newest.Goals as goal

pub returns : goal.returns
returns c =
    let xs = c.args.line.now in
    let a = c.args.start in
    let n : a + 81 - a ≡ 81 = omega arith in
    c.copy_within.ensures.after
    ∙ ap (paste xs 128 (drop a xs)) n
    ∙ ap (λ m. take 128 xs ++ part xs a 81 ++ drop (128 + m) xs) (sym (part_length xs a 81 (omega arith)))
