use Rattle.std.proofs.Common.{FitsSigned, rules}
use Rattle.std.proofs.lemmas.Int.{to_z-of_z}
use mir.Syntax.{w128}
use Rattle.tdl_fraction.proofs.Spelling.{only_if_some, unread_if_none}
use Rattle.tdl_fraction.proofs.fraction.Frac.read.Goals as goal

pub returns-in_err-numerator-clause-none : goal.returns-in_err-numerator-clause-none
returns-in_err-numerator-clause-none c =
    rw c.from_residual.ensures (λ q r range. c.in_err-numerator.ensures.none r.n r.d r.writes)

pub returns-clause-only : goal.returns-clause-only
returns-clause-only c =
    let fits : FitsSigned w128 c.in_ok-numerator.numerator = search rules in
    only_if_some c.of.result c.args.text.now _ _ _ c.in_ok-numerator.ensures.some (to_z-of_z w128 _ fits) c.of.ensures.value

pub returns-clause-none : goal.returns-clause-none
returns-clause-none c =
    let fits : FitsSigned w128 c.in_ok-numerator.numerator = search rules in
    unread_if_none c.of.result c.args.text.now _ _ _ c.in_ok-numerator.ensures.some (to_z-of_z w128 _ fits) c.of.ensures.found
