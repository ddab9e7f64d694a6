use Rattle.tdl_fraction.proofs.Machine.{word_seen, word_positive}
use Rattle.tdl_fraction.proofs.Wholes.{divide_as}
use Rattle.tdl_fraction.proofs.fraction.Frac.div.Goals as goal

pub times_plus_over-requires-clause-over : goal.times_plus_over-requires-clause-over
times_plus_over-requires-clause-over c =
    let n = c.numerator.ensures in
    word_positive c.args.other _ (word_seen c.args.other _ _ n.in_range n.value c.in-Ok.ensures.0.0 c.in-Ok.ensures.1) c.requires.divisor

pub times_plus_over-requires-clause-in_range : goal.times_plus_over-requires-clause-in_range
times_plus_over-requires-clause-in_range c =
    let n = c.numerator.ensures in
    let num = word_seen c.args.other _ c.in-Ok.over n.in_range n.value c.in-Ok.ensures.0.0 c.in-Ok.ensures.1 in
    rw (c.denominator.ensures.value, divide_as c.args.self c.args.other c.in-Ok.over num (word_positive c.args.other _ num c.requires.divisor))
    c.requires.in_range

pub returns-in-Ok : goal.returns-in-Ok
returns-in-Ok c =
    let n = c.numerator.ensures in
    let num = word_seen c.args.other _ c.in-Ok.over n.in_range n.value c.in-Ok.ensures.0.0 c.in-Ok.ensures.1 in
    rw (c.times_plus_over.ensures, c.denominator.ensures.value)
    (divide_as c.args.self c.args.other c.in-Ok.over num (word_positive c.args.other _ num c.requires.divisor))
