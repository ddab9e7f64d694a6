use Rattle.std.proofs.lemmas.Result.{err_from_is_err_and}
use Rattle.tdl_app.proofs.LinesDrilled.{line_stops}
use Rattle.tdl_app.proofs.drills.play_line.Goals as goal

pub returns-in_err-response-clause-err : goal.returns-in_err-response-clause-err
returns-in_err-response-clause-err g c =
    let p = err_from_is_err_and c.from_residual.result c.from_residual.ensures.1 in
    rw (p.1, p.2) (line_stops _ _ _ _ _ c.accepted_calls_make_changes.ensures c.in_err-response.ensures.replied)
