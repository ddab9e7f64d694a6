use Rattle.std.proofs.lemmas.Result.{on_ok_weaker, on_err_weaker}
use Rattle.tdl_control.proofs.PrintLemmas.{on_err_always}
use Rattle.tdl_log.specs.LogText.{deed_text, with_feed}
use Rattle.tdl_log.proofs.PutPages.{cut_part, cut_parts, written_parts}
use Rattle.tdl_log.proofs.PutLines.{line_parts}
use Rattle.tdl_log.proofs.lines.put_entry.Goals as goal

pub returns-in_err-put_front-clause-err : goal.returns-in_err-put_front-clause-err
returns-in_err-put_front-clause-err g c =
    on_err_always c.from_residual.result
    (cut_part (with_feed (deed_text c.args.entry.now.deed)) (line_parts c.args.place c.args.entry.now) c.in_err-put_front.ensures.err)

pub returns-clause-ok : goal.returns-clause-ok
returns-clause-ok g c =
    on_ok_weaker c.put_deed.result (written_parts (line_parts c.args.place c.args.entry.now) c.in_ok-put_front.ensures.ok) c.put_deed.ensures.ok

pub returns-clause-err : goal.returns-clause-err
returns-clause-err g c =
    on_err_weaker c.put_deed.result (cut_parts (line_parts c.args.place c.args.entry.now) c.in_ok-put_front.ensures.ok) c.put_deed.ensures.err
