use Rattle.std.proofs.lemmas.Result.{err_from_is_err_and}
use Rattle.tdl_app.proofs.Streams.{breaks_before}
use Rattle.tdl_app.proofs.event_lines.add_line.Goals as goal

pub returns-in_err-print-clause-err : goal.returns-in_err-print-clause-err
returns-in_err-print-clause-err g c =
    let p = err_from_is_err_and c.from_residual.result c.from_residual.ensures.1 in
    rw (p.1, p.2) (breaks_before _ _ _ _)
