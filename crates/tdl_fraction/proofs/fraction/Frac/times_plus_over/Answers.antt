use Rattle.std.proofs.Common.{FitsSigned, rules, arith}
use mir.Syntax.{w128}
use Rattle.tdl_fraction.proofs.Parts.{frac-same, IsFraction-parts}
use Rattle.tdl_fraction.proofs.WholeWords.{divided_num, divided_den, divided_small, factor_small}
use Rattle.tdl_fraction.proofs.fraction.Frac.times_plus_over.Goals as goal

pub overflow_cast-result : goal.overflow_cast-result
overflow_cast-result c =
    let a = c.args in
    let n = c.times_plus-num.ensures in
    let fits : FitsSigned w128 c.times_plus-num.result.0 = search rules in
    omega (
      arith,
      factor_small a.self a.times a.plus _ a.over _ _ c.requires.over c.requires.in_range c.ranges.plus n.numerator fits n.denominator
          c.lowest_terms-num.ensures.denominator,
    )

pub overflow_mul-result : goal.overflow_mul-result
overflow_mul-result c =
    let a = c.args in
    let n = c.times_plus-num.ensures in
    let fits : FitsSigned w128 c.times_plus-num.result.0 = search rules in
    omega (
      arith,
      divided_small a.self a.times a.plus _ a.over _ _ c.requires.over c.requires.in_range c.ranges.plus n.numerator fits n.denominator
          c.lowest_terms-num.ensures.denominator,
    )

pub invariant_of-result : goal.invariant_of-result
invariant_of-result c =
    let a = c.args in
    let n = c.times_plus-num.ensures in
    let fits : FitsSigned w128 c.times_plus-num.result.0 = search rules in
    let own_fits : FitsSigned w128 c.lowest_terms-num.result.0 = search rules in
    let e = c.lowest_terms-num.ensures in
    IsFraction-parts _ _ _
    (divided_num a.self a.times a.plus _ a.over _ _ c.requires.over c.requires.in_range c.ranges.plus n.numerator fits n.denominator e.denominator
    _ own_fits e.numerator)
    (divided_den a.self a.times a.plus _ a.over _ _ c.requires.over c.requires.in_range c.ranges.plus n.numerator fits n.denominator e.denominator)
    c.requires.in_range

pub returns : goal.returns
returns c =
    let a = c.args in
    let n = c.times_plus-num.ensures in
    let fits : FitsSigned w128 c.times_plus-num.result.0 = search rules in
    let own_fits : FitsSigned w128 c.lowest_terms-num.result.0 = search rules in
    let e = c.lowest_terms-num.ensures in
    frac-same _ _ _
    (divided_num a.self a.times a.plus _ a.over _ _ c.requires.over c.requires.in_range c.ranges.plus n.numerator fits n.denominator e.denominator
    _ own_fits e.numerator)
    (divided_den a.self a.times a.plus _ a.over _ _ c.requires.over c.requires.in_range c.ranges.plus n.numerator fits n.denominator e.denominator)
