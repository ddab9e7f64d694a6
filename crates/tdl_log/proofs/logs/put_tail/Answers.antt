use Rattle.std.proofs.Common.{length, refl}
use Rattle.std.proofs.lemmas.Result.{on_ok_weaker, on_err_weaker}
use Rattle.tdl_control.proofs.PrintLemmas.{on_err_always}
use Rattle.tdl_log.specs.Log.{log_of}
use Rattle.tdl_log.specs.LogText.{end_line, with_feed}
use Rattle.tdl_log.proofs.PutPages.{cut_part, cut_parts, written_parts}
use Rattle.tdl_log.proofs.PutLines.{tail_parts}
use Rattle.tdl_log.proofs.logs.put_tail.Goals as goal

pub returns-in_err-put_ports-clause-err : goal.returns-in_err-put_ports-clause-err
returns-in_err-put_ports-clause-err g c =
    on_err_always c.from_residual.result
    (cut_part (with_feed (end_line (length c.args.sheet.now.history.entries))) refl c.in_err-put_ports.ensures.err)

pub returns-clause-ok : goal.returns-clause-ok
returns-clause-ok g c =
    on_ok_weaker c.put_end.result (written_parts (tail_parts (log_of c.args.sheet.now) c.len.result c.len.ensures.value) c.in_ok-put_ports.ensures.ok)
    c.put_end.ensures.ok

pub returns-clause-err : goal.returns-clause-err
returns-clause-err g c =
    on_err_weaker c.put_end.result (cut_parts (tail_parts (log_of c.args.sheet.now) c.len.result c.len.ensures.value) c.in_ok-put_ports.ensures.ok)
    c.put_end.ensures.err
