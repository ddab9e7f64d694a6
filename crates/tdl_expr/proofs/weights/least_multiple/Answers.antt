use Rattle.std.proofs.Common.{ap, ◌*◌, ◌/◌, ◌^◌, ◌<◌, arith}
use Rattle.tdl_fraction.specs.Divisor.{gcd, lcm}
use Rattle.tdl_fraction.proofs.Euclid.{gcd_positive}
use Rattle.tdl_expr.proofs.weights.least_multiple.Goals as goal

pub nonzero_div-result : goal.nonzero_div-result
nonzero_div-result c = rw c.greatest_divisor_of_words.ensures (gcd_positive c.args.a c.args.b c.requires.positive)

pub overflow_mul-result : goal.overflow_mul-result
unfolding lcm
overflow_mul-result c = let fits : c.args.a * (c.args.b / gcd c.args.a c.args.b) < 2 ^ 64 =
    c.requires.fits in rw c.greatest_divisor_of_words.ensures (omega arith)

pub returns : goal.returns
unfolding lcm
returns c = ap (λ g. c.args.a * (c.args.b / g)) c.greatest_divisor_of_words.ensures
