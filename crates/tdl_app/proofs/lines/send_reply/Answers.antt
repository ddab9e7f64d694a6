use Rattle.std.proofs.lemmas.Result.{err_from_is_err_and}
use Rattle.tdl_app.proofs.LineAnswers.{broke_sending}
use Rattle.tdl_app.proofs.lines.send_reply.Goals as goal

pub returns-in_err-send_with-clause-err : goal.returns-in_err-send_with-clause-err
returns-in_err-send_with-clause-err g c =
    let p = err_from_is_err_and c.from_residual.result c.from_residual.ensures.1 in
    rw (p.1, p.2) (broke_sending _ _ c.in_err-send_with.ensures.err c.in_err-send_with.ensures.cause)
