use Rattle.std.proofs.lemmas.Result.{on_ok_weaker, on_err_weaker}
use Rattle.tdl_control.proofs.PrintLemmas.{on_err_always}
use Rattle.tdl_log.proofs.PutPages.{all_but_cut, all_written, cut_from_empty}
use Rattle.tdl_log.proofs.logs.put_log.Goals as goal

pub returns-in_err-put_lines-clause-err : goal.returns-in_err-put_lines-clause-err
returns-in_err-put_lines-clause-err g c = on_err_always c.from_residual.result (cut_from_empty c.new-page.ensures c.in_err-put_lines.ensures.err)

pub returns-clause-ok : goal.returns-clause-ok
returns-clause-ok g c = on_ok_weaker c.flush.result (all_written c.new-page.ensures c.in_ok-put_lines.ensures.ok) c.flush.ensures.ok

pub returns-clause-err : goal.returns-clause-err
returns-clause-err g c = on_err_weaker c.flush.result (all_but_cut c.new-page.ensures c.in_ok-put_lines.ensures.ok) c.flush.ensures.err
