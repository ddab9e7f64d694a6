use Rattle.std.proofs.Common.{refl}
use Rattle.std.proofs.lemmas.Result.{on_ok_weaker, on_err_weaker}
use Rattle.tdl_control.proofs.PrintLemmas.{on_err_always}
use Rattle.tdl_log.specs.Log.{log_of}
use Rattle.tdl_log.specs.inside.Pieces.{tail_text}
use Rattle.tdl_log.proofs.PutPages.{cut_part, cut_parts, written_parts}
use Rattle.tdl_log.proofs.logs.put_after_head.Goals as goal

pub returns-in_err-put_entries-clause-err : goal.returns-in_err-put_entries-clause-err
returns-in_err-put_entries-clause-err g c =
    on_err_always c.from_residual.result (cut_part (tail_text (log_of c.args.sheet.now)) refl c.in_err-put_entries.ensures.err)

pub returns-clause-ok : goal.returns-clause-ok
returns-clause-ok g c = on_ok_weaker c.put_tail.result (written_parts refl c.in_ok-put_entries.ensures.ok) c.put_tail.ensures.ok

pub returns-clause-err : goal.returns-clause-err
returns-clause-err g c = on_err_weaker c.put_tail.result (cut_parts refl c.in_ok-put_entries.ensures.ok) c.put_tail.ensures.err
