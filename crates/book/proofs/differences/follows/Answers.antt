-- `book::differences::follows` meets its contract: the difference of two impulses in range fits, so that nothing wraps. Assumes nothing.
use Rattle.std.proofs.Common.{◌≡◌, ◌+◌, ◌-◌, ◌%◌, ◌^◌, ◌<◌, ◌≤◌, ℤ, ◌-ℤ◌, nat_abs, sym, ap, ◌∙◌, arith, w32, SFits, of_z}
use Rattle.std.proofs.lemmas.Int.{of_z-to_z, wrapping_sub_is, int_wrap_fits}
use Rattle.arith.proofs.Linear.{linear}
use Rattle.arith.proofs.Tests.{eqb_bits}
use Rattle.book.proofs.differences.follows.Goals as goal

less_fits : (x y : ℤ) → nat_abs x ≤ 32768 → nat_abs y ≤ 32768 → SFits w32 (x -ℤ y)
less_fits x y = simp linear (omega arith)

-- the bits of what is left
less_bits : (x y : ℤ) → SFits w32 x → SFits w32 y → SFits w32 (x -ℤ y) → (of_z w32 x + (2 ^ 32 - of_z w32 y)) % 2 ^ 32 ≡ of_z w32 (x -ℤ y)
less_bits x y f g h =
    let m = (of_z w32 x + (2 ^ 32 - of_z w32 y)) % 2 ^ 32 in
    let l : m < 2 ^ 32 = omega arith in
    sym (of_z-to_z w32 m l) ∙ ap (of_z w32) (wrapping_sub_is w32 x y f g ∙ int_wrap_fits w32 (x -ℤ y) h)

pub returns : goal.returns
returns c small low =
    let a = c.args in
    let fits = less_fits a.next a.from small low in
    rw (less_bits a.next a.from c.ranges.next c.ranges.from fits) (eqb_bits w32 a.difference (a.next -ℤ a.from) c.ranges.difference fits)
