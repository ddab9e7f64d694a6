use Rattle.tdl_rows.proofs.Gained.{exit_refused, Refused-append, Refused-first}
use Rattle.tdl_command.specs.View.{count_of}
use Rattle.tdl_prepare.proofs.Rhythms.{rhythm_is}
use Rattle.tdl_prepare.proofs.functions.euclid_fun.Goals as goal

pub returns-in_err-k : goal.returns-in_err-k
returns-in_err-k c = exit_refused _ _ c.from_residual.result c.from_residual.ensures.1 (Refused-first _ c.in_err-k.ensures)

pub returns-in_err-n : goal.returns-in_err-n
returns-in_err-n c = exit_refused _ _ c.from_residual-in_err-n.result c.from_residual-in_err-n.ensures.1
    (Refused-append c.in_ok-k.ensures.gains (Refused-first _ c.in_err-n.ensures))

pub returns : goal.returns
returns c =
    rhythm_is c.in_ok-k.k c.in_ok-n.n c.whole.result (count_of c.args.hits.now) (count_of c.args.steps.now) c.requires.rhythms c.whole.ensures
    c.in_ok-k.ensures c.in_ok-n.ensures
