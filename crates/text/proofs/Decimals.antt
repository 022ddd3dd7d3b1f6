-- What std writes of a number is its decimal text. Assumes nothing.
use Rattle.std.proofs.Common.{◌≡◌, ℕ, suc, ◌%◌, ◌^◌, ◌<◌, sym, arith}
use borrow.Author.Tests.{lt-ltb, le-ltb}
use Rattle.std.specs.Fmt as fmt
use Rattle.std.proofs.lemmas.Fmt.{AppendsLastDigit, decimal_from_appends, length-decimal-le_succ}
use Rattle.text.specs.Decimal.{last_decimal_digits, decimal}

last_digit : AppendsLastDigit last_decimal_digits
unfolding last_decimal_digits
last_digit = record {
  one = λ k n l. let e : n % 10 ≡ n = omega arith in simp (lt-ltb n 10 l, e);
  more = λ k n l. simp (le-ltb n 10 l);
}

pub decimal_std : (n : ℕ) → n < 2 ^ 64 → fmt.decimal n ≡ decimal n
unfolding decimal
decimal_std n l = sym (decimal_from_appends last_decimal_digits last_digit (suc n) n l (omega (arith, length-decimal-le_succ n l)))
