-- `windows::runs::width_run` meets its contract: the sums of samples, times 256, are those of the words. Assumes nothing.
use mathlib.Core.Path.{◌≡◌, ◌∙◌}
use mathlib.Core.Bool.{Bool, true}
use mathlib.Core.List.{List}
use Prim.Native.Nat.{ℕ, suc, ◌-◌}
use native.Mathlib.Omega.{arith}
use lib.IntN.{ℤ}
use lib.ListN.{length}
use Rattle.arith.proofs.Lists.{tabulate_ext}
use Rattle.arith.proofs.Linear.{linear}
use Rattle.arith.proofs.Parts.{zeros_every}
use Rattle.windows.specs.Parts.{Sample, SamplesOf}
use Rattle.dot_products.specs.Sums.{Readable}
use Rattle.windows.specs.Runs.{RunOf}
use Rattle.windows.proofs.RunSums.{samples_summed, readable, samples_value}
use Rattle.windows.proofs.runs.width_run.Goals as goal

-- where all words are such multiples
module _ {window table first second : List ℤ} {rows firsts offsets : List ℕ} {W : ℕ} {positive : Bool} (run : RunOf window table positive W rows firsts offsets) (samples : SamplesOf window (length window) first second)
    (known : positive ≡ true) (first_length : length first ≡ 192) (second_length : length second ≡ 192) where
  twice : Readable first second table W rows firsts
  twice = readable run first second first_length second_length (samples_summed run first known samples.first_narrow) (samples_summed run second known samples.second_narrow)

pub samples_of-requires-clause-samples : goal.samples_of-requires-clause-samples
samples_of-requires-clause-samples g c = let zeros = zeros_every Sample (simp linear (omega arith), simp linear (omega arith)) 192 in (zeros, zeros)

pub sample_values-requires-clause-readable : goal.sample_values-requires-clause-readable
sample_values-requires-clause-readable g c = twice c.requires.run (c.samples_of.ensures c.if-samples_of.true) c.if-source.true (omega arith) (omega arith)

pub returns-then-samples_of : goal.returns-then-samples_of
returns-then-samples_of g c =
    let n = length c.args.places.now.rows.now in
    c.sample_values.ensures ∙ tabulate_ext n (λ j h. samples_value c.requires.run (c.samples_of.ensures c.if-samples_of.true) (n - suc j) (omega arith))
