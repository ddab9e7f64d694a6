use Rattle.std.proofs.Common.{◌∙◌}
use Rattle.tdl_app.proofs.DrillEnds.{drill_unplayed}
use Rattle.tdl_app.proofs.drills.drill.Goals as goal

pub returns-in_default-clause-played : goal.returns-in_default-clause-played
returns-in_default-clause-played g c =
    drill_unplayed _ _ _ _ _ _ _ _ _ _ _ c.unplayed.ensures.result c.unplayed.ensures.port (c.unplayed.ensures.history ∙ c.new.ensures)
