use Rattle.std.proofs.Common.{sym, ap}
use Rattle.tdl_rows.specs.Arguments.{argument_at}
use Rattle.tdl_command.specs.declared.names.RatioFun.{RatioFun}
use Rattle.tdl_prepare.specs.Built.{ratio_fun}
use Rattle.tdl_prepare.proofs.functions.of_ratio.Goals as goal

pub returns-in-Fast : goal.returns-in-Fast
returns-in-Fast c = λ nodes h. record { of_rows = h; is = ap (λ (name : RatioFun). ratio_fun name (argument_at nodes c.args.argument)) (sym c.in-Fast.is) }

pub returns-in-Slow : goal.returns-in-Slow
returns-in-Slow c = λ nodes h. record { of_rows = h; is = ap (λ (name : RatioFun). ratio_fun name (argument_at nodes c.args.argument)) (sym c.in-Slow.is) }

pub returns-in-Earlier : goal.returns-in-Earlier
returns-in-Earlier c = λ nodes h. record {
  of_rows = h;
  is = ap (λ (name : RatioFun). ratio_fun name (argument_at nodes c.args.argument))
      (sym c.in-Earlier.is);
}

pub returns-in-Later : goal.returns-in-Later
returns-in-Later c = λ nodes h. record { of_rows = h; is = ap (λ (name : RatioFun). ratio_fun name (argument_at nodes c.args.argument)) (sym c.in-Later.is) }
