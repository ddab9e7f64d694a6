use Rattle.tdl_app.proofs.DrillEnds.{drill_put, drill_stopped}
use Rattle.tdl_app.proofs.drills.drill_script.Goals as goal

pub returns-in-Ok-clause-ends : goal.returns-in-Ok-clause-ends
returns-in-Ok-clause-ends g c =
    drill_put c.put_end.result c.in-Ok.ensures.ok c.put_end.ensures.ok c.put_end.ensures.end c.put_end.ensures.err c.put_end.ensures.kept

pub returns-in-Err-clause-ends : goal.returns-in-Err-clause-ends
returns-in-Err-clause-ends g c = drill_stopped c.in-Err.stop _ _ c.in-Err.ensures.err
