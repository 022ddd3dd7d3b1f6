-- Level values (document 01, "One output").
use Rattle.std.specs.Prelude.{List, ℕ, suc, ◌+◌, ◌-◌, ◌*◌, ◌/◌, ◌%◌, ◌^◌, ℤ, pos, neg_ℤ, ◌+ℤ◌, ◌-ℤ◌, ◌*ℤ◌}
use Rattle.arith.specs.Floor.{near}
use Rattle.arith.specs.Limit.{limit}
use Rattle.arith.specs.Lists.{word_at}
use Rattle.arith.specs.Sum.{sum}
use Rattle.book.specs.Book.{sizes_of, impulse, difference}
use Rattle.store.specs.Store.{store_level}

-- word i of level l, whose words are given, 0 outside; a word beyond ±2^(23+l) is read as that limit
unfoldable pub limited_word : List ℤ → ℕ → ℤ → ℤ
limited_word words l i = limit (neg_ℤ (pos (2 ^ (23 + l)))) (pos (2 ^ (23 + l))) (word_at words i)

-- P counts 2^-(28+l) of a word of level l: t = P / unit
unfoldable pub unit : ℕ → ℕ
unit l = 2 ^ (28 + l)

-- q = floor(d × M), where d = t − floor(t)
unfoldable pub phase_at : List ℤ → ℕ → ℕ → ℕ
phase_at b l P = P % unit l * (sizes_of b).phases / unit l

-- e = d × M − q, times the unit
unfoldable pub offset_at : List ℤ → ℕ → ℕ → ℕ
offset_at b l P = P % unit l * (sizes_of b).phases % unit l

-- G_q[k] + e × difference(q, k), times the unit: e is not rounded
unfoldable pub coefficient : List ℤ → ℕ → ℕ → ℕ → ℤ
coefficient b l P k =
    let q = phase_at b l P in
    pos (unit l) *ℤ impulse b q k +ℤ pos (offset_at b l P) *ℤ difference b q k

-- the sum over k = 1..N of word (p + k − N/2) × (G_q[N−k] + e × difference(q, N−k)), times the unit, where p = floor(t)
unfoldable pub value_sum : List ℤ → (ℤ → ℤ) → ℕ → ℕ → ℤ
value_sum b word l P =
    let N = (sizes_of b).taps in
    sum N (λ i. let k = suc i in word (pos (P / unit l + k) -ℤ pos (N / 2)) *ℤ coefficient b l P (N - k))

-- a level's value: that sum / 16384, rounded once
unfoldable pub level_value : List ℤ → List ℤ → ℕ → ℕ → ℤ
level_value b words l P = near (value_sum b (limited_word words l) l P) (16384 * unit l)

unfoldable pub value : List ℤ → List ℤ → ℕ → ℕ → ℤ
value b store l P = level_value b (store_level store l) l P
