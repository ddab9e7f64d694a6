use Rattle.std.proofs.Common.{sym, ap}
use Rattle.tdl_rows.specs.Arguments.{argument_at}
use Rattle.tdl_command.specs.declared.names.CountFun.{CountFun}
use Rattle.tdl_prepare.specs.Built.{count_fun}
use Rattle.tdl_prepare.proofs.functions.of_count.Goals as goal

pub returns-in-Ply : goal.returns-in-Ply
returns-in-Ply c = λ nodes h. record { of_rows = h; is = ap (λ (name : CountFun). count_fun name (argument_at nodes c.args.argument)) (sym c.in-Ply.is) }

pub returns-in-Segment : goal.returns-in-Segment
returns-in-Segment c = λ nodes h. record {
  of_rows = h;
  is = ap (λ (name : CountFun). count_fun name (argument_at nodes c.args.argument))
      (sym c.in-Segment.is);
}

pub returns-in-Iter : goal.returns-in-Iter
returns-in-Iter c = λ nodes h. record { of_rows = h; is = ap (λ (name : CountFun). count_fun name (argument_at nodes c.args.argument)) (sym c.in-Iter.is) }
