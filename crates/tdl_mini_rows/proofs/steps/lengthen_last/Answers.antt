use Rattle.std.proofs.Common.{refl}
use Rattle.tdl_mini_rows.proofs.RangeRows.{longer_steps}
use Rattle.tdl_mini_rows.proofs.steps.lengthen_last.Goals as goal

pub returns-in_ok-push : goal.returns-in_ok-push
returns-in_ok-push c = λ nodes rows. longer_steps nodes _ _ c.in-Some.last c.in-Some.ensures.items rows _ _ refl c.in_ok-push.ensures.ok
