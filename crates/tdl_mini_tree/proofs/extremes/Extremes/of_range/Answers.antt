-- The ends of a range are its least and its greatest number.
use Rattle.std.proofs.Common.{◌≡◌, ◌∙◌, sym, ap₂, ℤ, Some, FitsSigned, to_z, of_z, rules}
use Rattle.std.specs.Int.{int_min, int_max}
use Rattle.std.proofs.lemmas.Int.{to_z-of_z}
use mir.Syntax.{w64, w128}
use Rattle.tdl_mini_tree.specs.Values.{integer_of}
use Rattle.tdl_mini_tree.proofs.SpanLemmas.{range_ends}
use Rattle.tdl_mini_tree.proofs.extremes.Extremes.of_range.Goals as goal

pub returns : goal.returns
returns c =
    let first_fits : FitsSigned w64 c.integer.result = search rules in
    let last_fits : FitsSigned w64 c.integer-2.result = search rules in
    let from_fits : FitsSigned w128 c.from-from.result = search rules in
    let to_fits : FitsSigned w128 c.from-to.result = search rules in
    let min_fits : FitsSigned w128 c.min.result = search rules in
    let max_fits : FitsSigned w128 c.max.result = search rules in
    let from : to_z w128 (of_z w128 c.from-from.result) ≡ integer_of c.args.first =
    to_z-of_z w128 c.from-from.result from_fits ∙ c.from-from.ensures ∙ to_z-of_z w64 c.integer.result first_fits ∙ c.integer.ensures.value in
    let to : to_z w128 (of_z w128 c.from-to.result) ≡ integer_of c.args.last =
    to_z-of_z w128 c.from-to.result to_fits ∙ c.from-to.ensures ∙ to_z-of_z w64 c.integer-2.result last_fits ∙ c.integer-2.ensures.value in
    let low : to_z w128 (of_z w128 c.min.result) ≡ int_min (integer_of c.args.first) (integer_of c.args.last) =
    to_z-of_z w128 c.min.result min_fits ∙ c.min.ensures.value ∙ ap₂ int_min from to in
    let high : to_z w128 (of_z w128 c.max.result) ≡ int_max (integer_of c.args.first) (integer_of c.args.last) =
    to_z-of_z w128 c.max.result max_fits ∙ c.max.ensures.value ∙ ap₂ int_max from to in
    ap₂ (λ (l h : ℤ). Some (l, h)) low high ∙ sym (range_ends (integer_of c.args.first) (integer_of c.args.last))
