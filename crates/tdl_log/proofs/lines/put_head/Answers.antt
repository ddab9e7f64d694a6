use Rattle.std.proofs.lemmas.Result.{on_ok_weaker, on_err_weaker}
use Rattle.tdl_log.proofs.PutLines.{head_pieces}
use Rattle.tdl_log.proofs.PutPages.{cut_as, written_as}
use Rattle.tdl_log.proofs.lines.put_head.Goals as goal

pub returns-clause-ok : goal.returns-clause-ok
returns-clause-ok g c =
    on_ok_weaker c.put_all.result (written_as (head_pieces c.args.tempo c.bytes.result.now c.as_bytes.result.now (cc) (cc))) c.put_all.ensures.ok

pub returns-clause-err : goal.returns-clause-err
returns-clause-err g c =
    on_err_weaker c.put_all.result (cut_as (head_pieces c.args.tempo c.bytes.result.now c.as_bytes.result.now (cc) (cc))) c.put_all.ensures.err
