use Rattle.std.proofs.Common.{◌*◌, ◌<◌, ◌≤◌, ℕ, refl, arith}
use Rattle.std.specs.Prelude.{ℤ, pos, negsuc, nat_abs, ◌≢◌, zero, suc}
use Rattle.std.proofs.Math.Nat.{mul-le-mul}
use Rattle.tdl_fraction.proofs.Over.{den_positive}
use Rattle.tdl_fraction.proofs.Ranges.{InRange-plus, InRange-minus, InRange-times, InRange-divide, nonzero_from_num}
use Rattle.tdl_value_tests.proofs.fraction.results.Goals as goal

product : (a b : ℕ) → a ≤ 1000 → b ≤ 1000 → a * b ≤ 1000 * 1000
product a b h k = mul-le-mul h k

positive_product : (a b : ℕ) → 0 < a → 0 < b → 0 < a * b
positive_product zero b h k = absurd (omega arith)
positive_product (suc a) b h k = omega arith

size : (n : ℤ) → n ≢ pos 0 → 0 < nat_abs n
size (pos zero) h = absurd (h refl)
size (pos (suc n)) h = omega arith
size (negsuc n) h = omega arith

pub add-sum-requires : goal.add-sum-requires
add-sum-requires c =
    let x = c.args.x in
    let y = c.args.y in
    InRange-plus x y (omega (arith, product x.den y.den c.requires.x_den c.requires.y_den)) (omega (arith, den_positive x)) (omega (arith, den_positive y))

pub sub-difference-requires : goal.sub-difference-requires
sub-difference-requires c =
    let x = c.args.x in
    let y = c.args.y in
    InRange-minus x y (omega (arith, product x.den y.den c.requires.x_den c.requires.y_den)) (omega (arith, den_positive x)) (omega (arith, den_positive y))

pub mul-product-requires : goal.mul-product-requires
mul-product-requires c =
    let x = c.args.x in
    let y = c.args.y in
    InRange-times x y (omega (arith, product x.den y.den c.requires.x_den c.requires.y_den))
    (omega (arith, product _ _ c.requires.x_num c.requires.y_num, positive_product x.den y.den (den_positive x) (den_positive y)))

pub div-quotient-requires-clause-divisor : goal.div-quotient-requires-clause-divisor
div-quotient-requires-clause-divisor c = nonzero_from_num c.args.y c.requires.y_nonzero

pub div-quotient-requires-clause-in_range : goal.div-quotient-requires-clause-in_range
div-quotient-requires-clause-in_range c =
    let x = c.args.x in
    let y = c.args.y in
    InRange-divide x y (nonzero_from_num y c.requires.y_nonzero) (omega (arith, product x.den _ c.requires.x_den c.requires.y_num))
    (omega (arith, product _ y.den c.requires.x_num c.requires.y_den, positive_product x.den _ (den_positive x) (size y.num c.requires.y_nonzero)))
