use Rattle.std.proofs.Common.{◌∷◌, [], ◌∙◌, ap}
use Rattle.tdl_expr.specs.Tree.{Tree}
use Rattle.tdl_meaning.specs.Meaning.{cyc}
use Rattle.tdl_mini.proofs.TextLaws.{steps_share}
use Rattle.tdl_mini.proofs.MeaningLaws.{two_shares}
use Rattle.tdl_mini.proofs.laws.steps_share_the_cycle.Goals as goal

pub returns-clause-two : goal.returns-clause-two
returns-clause-two c kind a b n = ap (λ (t : Tree). cyc t n) (steps_share kind (a ∷ b ∷ [])) ∙ two_shares _ _ n

pub returns-clause-all : goal.returns-clause-all
returns-clause-all c = steps_share
