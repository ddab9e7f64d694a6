use Rattle.std.proofs.lemmas.Result.{err_from_is_err_and}
use Rattle.tdl_app.proofs.LineAnswers.{put_so_far, unput_so_far, unreplied_so_far}
use Rattle.tdl_app.proofs.play.play_line.Goals as goal

pub returns-in_err-response-clause-answered : goal.returns-in_err-response-clause-answered
returns-in_err-response-clause-answered g c =
    let p = err_from_is_err_and c.from_residual.result c.from_residual.ensures.1 in
    rw (p.1, p.2) (unreplied_so_far _ _ _ _ _ _ _ c.in_err-response.ensures.replied)

pub returns-in_err-reply-clause-answered : goal.returns-in_err-reply-clause-answered
returns-in_err-reply-clause-answered g c =
    let p = err_from_is_err_and c.from_residual-in_err-reply.result c.from_residual-in_err-reply.ensures.1 in
    rw (p.1, p.2) (unput_so_far _ _ _ _ _ _ _ c.in_ok-response.ensures.replied)

pub returns-clause-answered : goal.returns-clause-answered
returns-clause-answered g c =
    put_so_far _ _ _ _ c.put.result _ _ (rw (← c.in_ok-reply.ensures) at c.in_ok-response.ensures.replied) (rw c.bytes.ensures at c.put.ensures.ok)
    (rw c.bytes.ensures at c.put.ensures.err) c.put.ensures.kept
