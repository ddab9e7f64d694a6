use Rattle.tdl_rows.proofs.Gained.{exit_refused, Refused-first}
use Rattle.tdl_prepare.specs.Built.{shift_fun}
use Rattle.tdl_prepare.specs.Numbers.{ratio_built}
use Rattle.tdl_command.specs.View.{ratio_of}
use Rattle.tdl_prepare.proofs.Sequences.{of_number}
use Rattle.tdl_prepare.proofs.functions.shift_fun.Goals as goal

pub returns-in_err-argument : goal.returns-in_err-argument
returns-in_err-argument c = exit_refused _ _ c.from_residual.result c.from_residual.ensures.1 (Refused-first _ c.in_err-argument.ensures)

pub returns : goal.returns
returns c =
    of_number c.of_way.result (ratio_built (ratio_of c.args.by.now)) (shift_fun c.args.way) c.in_ok-argument.argument c.in_ok-argument.ensures
    (c.of_way.ensures _)
