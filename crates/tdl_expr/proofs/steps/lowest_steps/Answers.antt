use Rattle.std.proofs.Common.{ℕ, ◌≡◌, ◌/◌, List, map, IfOk, ap, ◌∙◌, subst}
use Rattle.tdl_expr.specs.declared.steps.Step.{Step}
use Rattle.tdl_expr.specs.Weights.{steps_of}
use Rattle.tdl_expr.proofs.JoinLemmas.{divided_pairs}
use Rattle.tdl_expr.proofs.WeightLemmas.{divisor_positive}
use Rattle.tdl_expr.proofs.steps.lowest_steps.Goals as goal

pub divided_steps-requires : goal.divided_steps-requires
divided_steps-requires c = rw c.common_divisor.ensures (divisor_positive c.args.counts.now c.requires.some c.requires.positive)

pub returns : goal.returns
returns c =
    let counts = c.args.counts.now in
    let ids = c.args.ids.now in
    let same = divided_pairs c.common_divisor.result counts ids
    ∙ ap (λ (d : ℕ). steps_of (map (λ count. count / d) counts) ids) c.common_divisor.ensures in
    subst (λ (found : List Step). IfOk c.divided_steps.result (λ steps. steps.items ≡ found)) same c.divided_steps.ensures
