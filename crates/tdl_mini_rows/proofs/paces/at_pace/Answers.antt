use Rattle.tdl_rows.specs.Joined.{timecat_of}
use Rattle.tdl_mini_rows.specs.Lowered.{paced, laid}
use Rattle.tdl_mini_rows.specs.inside.Views.{steps_at}
use Rattle.tdl_rows.proofs.Gained.{LowersTo-after}
use Rattle.tdl_mini_rows.proofs.paces.at_pace.Goals as goal

pub returns : goal.returns
returns c =
    LowersTo-after _ (timecat_of (steps_at c.args.table.now c.args.steps.now))
    (λ t. paced c.args.rate (laid c.args.parts t)) c.in_ok-id.ensures c.paced.result c.paced.ensures
