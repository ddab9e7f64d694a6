use Rattle.std.proofs.Common.{refl}
use Rattle.tdl_command.specs.View.{line_of}
use Rattle.tdl_answer.specs.TextFaults.{IsFaultOfText, of_reading, of_preparing}
use Rattle.tdl_answer.proofs.ReadTexts.{exit_err, line_not_read, line_not_prepared, prepared_fits, prepared_text}
use Rattle.tdl_answer.proofs.texts.read_text.Goals as goal

pub returns-in_err-line-clause-err : goal.returns-in_err-line-clause-err
returns-in_err-line-clause-err c =
    let fault = c.in_err-line.field-0.0 in
    exit_err (IsFaultOfText c.args.text.now) (of_reading fault) c.from_residual.result c.from_residual.ensures.1
    (line_not_read c.args.text.now fault c.in_err-line.ensures.refused)

pub returns-in_err-prepare-clause-err : goal.returns-in_err-prepare-clause-err
returns-in_err-prepare-clause-err c =
    let fault = c.in_err-prepare.field-0.0 in
    exit_err (IsFaultOfText c.args.text.now) (of_preparing fault) c.from_residual-in_err-prepare.result c.from_residual-in_err-prepare.ensures.1
    (line_not_prepared c.args.text.now (line_of c.in_ok-line.line.command) c.in_ok-line.ensures.line fault c.in_err-prepare.ensures.only)

pub returns-clause-ok : goal.returns-clause-ok
returns-clause-ok c =
    prepared_text c.args.text.now c.in_ok-line.line.text.now (line_of c.in_ok-line.line.command) c.in_ok-line.ensures.line c.in_ok-line.ensures.text
    (prepared_fits _ c.in_ok-prepare.field-0 _ refl c.in_ok-prepare.ensures.refused) c.in_ok-prepare.field-0 c.in_ok-prepare.ensures.ok
