use Rattle.std.proofs.Common.{◌∙◌, FitsSigned, rules}
use Rattle.std.proofs.lemmas.Int.{to_z-of_z}
use mir.Syntax.{w128}
use Rattle.tdl_fraction.proofs.Parts.{num-seen}
use Rattle.tdl_fraction.proofs.fraction.Frac.numerator.Goals as goal

pub returns-clause-value : goal.returns-clause-value
returns-clause-value c =
    let fits : FitsSigned w128 c.self.inside.num = search rules in
    to_z-of_z w128 _ fits ∙ num-seen _ _ _ c.self.view_is c.self.invariant.lowest
