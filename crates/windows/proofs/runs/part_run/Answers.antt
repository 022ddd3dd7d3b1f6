-- `windows::runs::part_run` meets its contract: the sums of the two parts make those of the words. Assumes nothing.
use mathlib.Core.Path.{◌≡◌, ◌∙◌}
use mathlib.Core.Bool.{Bool}
use mathlib.Core.List.{List}
use Prim.Native.Nat.{ℕ, suc, ◌-◌, ◌≤◌}
use native.Mathlib.Omega.{arith}
use lib.IntN.{ℤ, nat_abs}
use lib.ListN.{length}
use Rattle.arith.proofs.Lists.{tabulate_ext}
use Rattle.arith.proofs.Parts.{zeros_every}
use Rattle.windows.specs.Parts.{Small, PartsOf}
use Rattle.dot_products.specs.Sums.{Readable}
use Rattle.windows.specs.Runs.{RunOf}
use Rattle.windows.proofs.RunSums.{small_summed, readable, parts-sums, parts-value}
use Rattle.windows.proofs.runs.part_run.Goals as goal

-- once the words are taken apart
module _ {window table high low : List ℤ} {rows firsts offsets : List ℕ} {W : ℕ} {positive : Bool} (run : RunOf window table positive W rows firsts offsets) (parts : PartsOf window (length window) high low)
    (high_length : length high ≡ 192) (low_length : length low ≡ 192) where
  high_small : Small high
  high_small k = omega (arith, parts.high_small k)

  low_small : Small low
  low_small k = omega (arith, parts.low_small k)

  high_low : Readable high low table W rows firsts
  high_low = readable run high low high_length low_length (small_summed run high high_small) (small_summed run low low_small)

  low_high : Readable low high table W rows firsts
  low_high = readable run low high low_length high_length (small_summed run low low_small) (small_summed run high high_small)

pub split-requires-clause-parts : goal.split-requires-clause-parts
split-requires-clause-parts g c = (zeros_every (λ x. nat_abs x ≤ 8192) (omega arith) 192, zeros_every (λ x. nat_abs x ≤ 16383) (omega arith) 192)

pub first_sums-requires-clause-readable : goal.first_sums-requires-clause-readable
first_sums-requires-clause-readable g c = high_low c.requires.run c.split.ensures (omega arith) (omega arith)

pub part_values-requires-clause-readable : goal.part_values-requires-clause-readable
part_values-requires-clause-readable g c = low_high c.requires.run c.split.ensures (omega arith) (omega arith)

pub part_values-requires-clause-sums : goal.part_values-requires-clause-sums
part_values-requires-clause-sums g c = parts-sums c.requires.run c.split.ensures c.first_sums.new.one c.first_sums.new.two c.first_sums.ensures

pub returns : goal.returns
returns g c =
    let n = length c.args.places.now.rows.now in
    c.part_values.ensures ∙ tabulate_ext n (λ j h. parts-value c.requires.run c.split.ensures c.first_sums.new.one c.first_sums.new.two c.first_sums.ensures (n - suc j) (omega arith))
