use Rattle.std.proofs.Common.{sym, ap}
use Rattle.tdl_rows.specs.Arguments.{argument_at}
use Rattle.tdl_command.specs.declared.marks.Way.{Way}
use Rattle.tdl_prepare.specs.Built.{shift_fun}
use Rattle.tdl_prepare.proofs.functions.of_way.Goals as goal

pub returns-in-Earlier : goal.returns-in-Earlier
returns-in-Earlier c = λ nodes h. record { of_rows = h; is = ap (λ (way : Way). shift_fun way (argument_at nodes c.args.argument)) (sym c.in-Earlier.is) }

pub returns-in-Later : goal.returns-in-Later
returns-in-Later c = λ nodes h. record { of_rows = h; is = ap (λ (way : Way). shift_fun way (argument_at nodes c.args.argument)) (sym c.in-Later.is) }
