-- The ends of two spans enclose the values of both.
use Rattle.std.proofs.Common.{◌≡◌, ◌∙◌, ap₂, ℤ, Some, FitsSigned, to_z, of_z, rules}
use Rattle.std.specs.Int.{int_min, int_max}
use Rattle.std.proofs.lemmas.Int.{to_z-of_z}
use mir.Syntax.{w128}
use Rattle.tdl_mini_tree.proofs.SpanLemmas.{together, first_none, second_none, two_ends}
use Rattle.tdl_mini_tree.proofs.extremes.Extremes.and.Goals as goal

pub returns-in-None-default : goal.returns-in-None-default
returns-in-None-default c = λ these others h k. together _ _ _ these others h k (first_none c.args.self.ends c.args.other.ends c.in-None-default.is-0)

pub returns-in_default-None : goal.returns-in_default-None
returns-in_default-None c = λ these others h k. together _ _ _ these others h k (second_none c.args.self.ends c.args.other.ends c.in_default-None.is-1)

pub returns-in-Some-Some : goal.returns-in-Some-Some
returns-in-Some-Some c =
    let low_fits : FitsSigned w128 c.in-Some-Some.low = search rules in
    let high_fits : FitsSigned w128 c.in-Some-Some.high = search rules in
    let other_low_fits : FitsSigned w128 c.in-Some-Some.other_low = search rules in
    let other_high_fits : FitsSigned w128 c.in-Some-Some.other_high = search rules in
    let min_fits : FitsSigned w128 c.min.result = search rules in
    let max_fits : FitsSigned w128 c.max.result = search rules in
    let low : to_z w128 (of_z w128 c.min.result) ≡ int_min c.in-Some-Some.low c.in-Some-Some.other_low =
    to_z-of_z w128 c.min.result min_fits ∙ c.min.ensures.value ∙ ap₂ int_min (to_z-of_z w128 _ low_fits) (to_z-of_z w128 _ other_low_fits) in
    let high : to_z w128 (of_z w128 c.max.result) ≡ int_max c.in-Some-Some.high c.in-Some-Some.other_high =
    to_z-of_z w128 c.max.result max_fits ∙ c.max.ensures.value ∙ ap₂ int_max (to_z-of_z w128 _ high_fits) (to_z-of_z w128 _ other_high_fits) in
    λ these others h k. together _ _ _ these others h k
    (ap₂ (λ (l t : ℤ). Some (l, t)) low high ∙ two_ends c.args.self.ends c.args.other.ends (c.in-Some-Some.low, c.in-Some-Some.high)
    (c.in-Some-Some.other_low, c.in-Some-Some.other_high) c.in-Some-Some.is-0 c.in-Some-Some.is-1)
