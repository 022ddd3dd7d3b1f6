-- An output from the newest points (document 01, "One output"). g, the book's decimation taps, are document 01's "halving taps".
use Rattle.std.specs.Prelude.{List, ◌+◌, ◌*◌, ◌^◌, ℤ, pos, negsuc, nat_abs, ◌-ℤ◌, ◌*ℤ◌}
use Rattle.arith.specs.Floor.{near}
use Rattle.arith.specs.Limit.{limit}
use Rattle.arith.specs.Lists.{at}
use Rattle.arith.specs.Sum.{sum}
use Rattle.book.specs.Book.{sizes_of, decimation_taps}

-- the sum over k = 0..2B of g[|k−B|] × (k-th newest point)
unfoldable pub output_sum : List ℤ → List ℤ → ℤ
output_sum b history =
    let B = (sizes_of b).decimation in
    sum (2 * B + 1) (λ k. at (decimation_taps b) (nat_abs (pos k -ℤ pos B)) *ℤ at history k)

-- an output: that sum / 2^22, rounded, limited to −32768..32767
unfoldable pub output : List ℤ → List ℤ → ℤ
output b history = limit (negsuc 32767) (pos 32767) (near (output_sum b history) (2 ^ 22))
