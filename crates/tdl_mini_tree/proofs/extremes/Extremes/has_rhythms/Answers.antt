-- The ends of two spans tell whether there is a rhythm for each choice.
use Rattle.std.proofs.Common.{◌∙◌, FitsSigned, rules}
use Rattle.std.proofs.lemmas.Int.{to_z-of_z}
use mir.Syntax.{w128}
use Rattle.tdl_mini_tree.proofs.SpanLemmas.{accepted, none_fits, no_step_fits, spans_fit}
use Rattle.tdl_mini_tree.proofs.extremes.Extremes.has_rhythms.Goals as goal

pub returns-in-Some-Some : goal.returns-in-Some-Some
returns-in-Some-Some c =
    let low_fits : FitsSigned w128 c.in-Some-Some.low = search rules in
    let high_fits : FitsSigned w128 c.in-Some-Some.high = search rules in
    let least_fits : FitsSigned w128 c.in-Some-Some.least = search rules in
    let most_fits : FitsSigned w128 c.in-Some-Some.most = search rules in
    let e = simp to_z-of_z at c.are_rhythms.ensures in
    λ hits steps h k. accepted c.args.self.ends c.args.steps.ends hits steps c.are_rhythms.result h k
    (e ∙ spans_fit c.args.self.ends c.args.steps.ends (c.in-Some-Some.low, c.in-Some-Some.high)
    (c.in-Some-Some.least, c.in-Some-Some.most) c.in-Some-Some.is-0 c.in-Some-Some.is-1)

pub returns-in-None-default : goal.returns-in-None-default
returns-in-None-default c = λ hits steps h k. accepted c.args.self.ends c.args.steps.ends hits steps _ h k
    (none_fits c.args.self.ends c.args.steps.ends c.in-None-default.is-0)

pub returns-in_default-None : goal.returns-in_default-None
returns-in_default-None c = λ hits steps h k. accepted c.args.self.ends c.args.steps.ends hits steps _ h k
    (no_step_fits c.args.self.ends c.args.steps.ends c.in_default-None.is-1)
