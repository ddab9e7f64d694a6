use Rattle.std.proofs.Common.{List, ◌∷◌, [], ◌++◌, ap, ◌∙◌}
use Rattle.tdl_mini_rows.specs.declared.joins.WeightedRow.{WeightedRow}
use Rattle.tdl_mini_rows.proofs.RangeRows.{twice_steps}
use Rattle.tdl_mini_rows.proofs.steps.repeat_last.Goals as goal

pub returns-in_ok-push-2 : goal.returns-in_ok-push-2
returns-in_ok-push-2 c = λ nodes rows. twice_steps nodes _ _ c.in-Some.last c.in-Some.ensures.items rows _
    (c.in_ok-push-2.ensures.ok ∙ ap (λ (ss : List WeightedRow). ss ++ c.in-Some.last ∷ []) c.in_ok-push.ensures.ok)
