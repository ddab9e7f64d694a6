use Rattle.std.proofs.lemmas.Result.{err_from_is_err_and}
use Rattle.tdl_app.proofs.ScriptEnds.{put_none, put_part, put_whole}
use Rattle.tdl_app.proofs.play.put_end.Goals as goal

pub returns-in_err-line-clause-err : goal.returns-in_err-line-clause-err
returns-in_err-line-clause-err g c =
    let p = err_from_is_err_and c.from_residual.result c.from_residual.ensures.1 in
    λ line is. rw (p.1, p.2) (put_none line _ _)

pub returns-in_err-put-clause-err : goal.returns-in_err-put-clause-err
returns-in_err-put-clause-err g c =
    let p = err_from_is_err_and c.from_residual-in_err-put.result c.from_residual-in_err-put.ensures.1 in
    λ line is. rw (p.1, p.2) (put_part _ c.in_err-put.field-0.0 c.in_ok-line.ensures (rw c.bytes.ensures at c.in_err-put.ensures.err) line is)

pub returns-clause-ok : goal.returns-clause-ok
returns-clause-ok g c = put_whole _ c.in_ok-line.ensures (rw c.bytes.ensures at c.in_ok-put.ensures.ok)
