use Rattle.std.proofs.Common.{List, ◌∷◌, [], ◌++◌, ap, ◌∙◌}
use Rattle.tdl_log.specs.declared.ends.Ending.{Ending}
use Rattle.tdl_app.specs.inside.Stops.{status_of}
use Rattle.tdl_app.proofs.LoggedRuns.{logs_outcome}
use Rattle.tdl_app.proofs.top_call.log_script.Goals as goal

pub returns-clause-ends : goal.returns-clause-ends
returns-clause-ends g c =
    c.put_logged.ensures.ends ∙ c.add.ensures
    ∙ ap (λ (ends : List Ending). ends ++ record { port = 0; end = c.args.performance.port } ∷ []) c.new-ends.ensures

pub returns-clause-logged : goal.returns-clause-logged
returns-clause-logged g c =
    logs_outcome c.args.tempo (status_of c.args.performance.result) c.status_of.result c.put_logged.result.status c.put_logged.ensures.history
    c.put_logged.ensures.ends
    c.status_of.ensures c.put_logged.ensures.logged
