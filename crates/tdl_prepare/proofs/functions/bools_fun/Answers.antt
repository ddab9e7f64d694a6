use Rattle.tdl_rows.proofs.Gained.{exit_refused, Refused-first}
use Rattle.tdl_prepare.specs.Built.{bools_built, bools_fun}
use Rattle.tdl_command.specs.View.{reading_of}
use Rattle.tdl_prepare.proofs.Sequences.{of_row}
use Rattle.tdl_prepare.proofs.functions.bools_fun.Goals as goal

pub returns-in_err-bools : goal.returns-in_err-bools
returns-in_err-bools c = exit_refused _ _ c.from_residual.result c.from_residual.ensures.1 (Refused-first _ c.in_err-bools.ensures)

pub returns : goal.returns
returns c =
    of_row c.of_bools.result (bools_built (reading_of c.args.text.now)) (bools_fun c.args.name) c.in_ok-bools.bools c.in_ok-bools.ensures
    (c.of_bools.ensures _)
