use Rattle.std.proofs.Common.{◌∙◌, sym, subst}
use Rattle.tdl_fraction.specs.Range.{InRange}
use Rattle.tdl_fraction.proofs.Machine.{word_seen, product_fits, product_is}
use Rattle.tdl_fraction.proofs.Wholes.{times_as}
use Rattle.tdl_fraction.proofs.fraction.Frac.mul.Goals as goal

pub times_plus_over-requires-clause-in_range : goal.times_plus_over-requires-clause-in_range
times_plus_over-requires-clause-in_range c =
    let n = c.numerator.ensures in
    let num = word_seen c.args.other _ c.in-Ok.times n.in_range n.value c.in-Ok.ensures.0.0 c.in-Ok.ensures.1 in
    rw (c.denominator.ensures.value, times_as c.args.self c.args.other c.in-Ok.times num) c.requires

pub returns : goal.returns
returns c =
    let n = c.numerator.ensures in
    let num = word_seen c.args.other _ c.in-Ok.times n.in_range n.value c.in-Ok.ensures.0.0 c.in-Ok.ensures.1 in
    rw (c.times_plus_over.ensures, c.denominator.ensures.value) (times_as c.args.self c.args.other c.in-Ok.times num)

pub overflow_mul-product : goal.overflow_mul-product
overflow_mul-product c =
    let l = c.numerator-2.ensures in
    let r = c.numerator-3.ensures in
    product_fits _ _ _ _ l.in_range r.in_range c.requires l.value r.value

pub from_parts-requires-clause-in_range : goal.from_parts-requires-clause-in_range
from_parts-requires-clause-in_range c =
    let l = c.numerator-2.ensures in
    let r = c.numerator-3.ensures in
    subst InRange (sym (product_is _ _ _ _ _ l.in_range r.in_range c.requires l.value r.value c.common_denominator.ensures.value)) c.requires

pub returns-2 : goal.returns-2
returns-2 c =
    let l = c.numerator-2.ensures in
    let r = c.numerator-3.ensures in
    c.from_parts.ensures ∙ product_is _ _ _ _ _ l.in_range r.in_range c.requires l.value r.value c.common_denominator.ensures.value
