use Rattle.tdl_log.specs.Log.{log_of}
use Rattle.tdl_log.specs.LogText.{log_text}
use Rattle.tdl_app.proofs.LoggedRuns.{logs_put}
use Rattle.tdl_app.proofs.outcomes.put_logged.Goals as goal

pub returns-clause-logged : goal.returns-clause-logged
returns-clause-logged g c =
    logs_put (log_text (log_of c.args.sheet)) c.args.playing c.logged_status.result c.put_log-logged.result _ c.put_log-logged.ensures.ok
    c.put_log-logged.ensures.err c.put_log-logged.ensures.cause c.logged_status.ensures.put c.logged_status.ensures.failed
