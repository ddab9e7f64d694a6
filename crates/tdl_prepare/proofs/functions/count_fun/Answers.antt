use Rattle.tdl_rows.proofs.Gained.{exit_refused, Refused-first}
use Rattle.tdl_prepare.specs.Built.{count_fun}
use Rattle.tdl_prepare.specs.Numbers.{count_built}
use Rattle.tdl_command.specs.View.{count_of}
use Rattle.tdl_prepare.proofs.Sequences.{of_number}
use Rattle.tdl_prepare.proofs.functions.count_fun.Goals as goal

pub returns-in_err-argument : goal.returns-in_err-argument
returns-in_err-argument c = exit_refused _ _ c.from_residual.result c.from_residual.ensures.1 (Refused-first _ c.in_err-argument.ensures)

pub returns : goal.returns
returns c =
    of_number c.of_count.result (count_built (count_of c.args.count.now)) (count_fun c.args.name) c.in_ok-argument.argument c.in_ok-argument.ensures
    (c.of_count.ensures _)
