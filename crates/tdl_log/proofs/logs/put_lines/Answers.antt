use Rattle.std.proofs.lemmas.Result.{on_ok_weaker, on_err_weaker}
use Rattle.tdl_control.proofs.PrintLemmas.{on_err_always}
use Rattle.tdl_log.specs.Log.{log_of}
use Rattle.tdl_log.specs.inside.Pieces.{text_after_head}
use Rattle.tdl_log.proofs.PutPages.{cut_part, cut_parts, written_parts}
use Rattle.tdl_log.proofs.PutLines.{log_parts}
use Rattle.tdl_log.proofs.logs.put_lines.Goals as goal

pub returns-in_err-put_head-clause-err : goal.returns-in_err-put_head-clause-err
returns-in_err-put_head-clause-err g c =
    on_err_always c.from_residual.result
    (cut_part (text_after_head (log_of c.args.sheet.now)) (log_parts (log_of c.args.sheet.now)) c.in_err-put_head.ensures.err)

pub returns-clause-ok : goal.returns-clause-ok
returns-clause-ok g c =
    on_ok_weaker c.put_after_head.result (written_parts (log_parts (log_of c.args.sheet.now)) c.in_ok-put_head.ensures.ok) c.put_after_head.ensures.ok

pub returns-clause-err : goal.returns-clause-err
returns-clause-err g c =
    on_err_weaker c.put_after_head.result (cut_parts (log_parts (log_of c.args.sheet.now)) c.in_ok-put_head.ensures.ok) c.put_after_head.ensures.err
