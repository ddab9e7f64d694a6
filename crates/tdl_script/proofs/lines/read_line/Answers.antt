-- A line that is too long is refused, and else what is read of it is kept.
use Rattle.std.proofs.lemmas.Result.{err_from_is_err_and}
use Rattle.tdl_command.specs.Tree.{line}
use Rattle.tdl_line_machine.specs.declared.goals.Goal.TheVariants.{Line as a_line}
use Rattle.tdl_line_texts.proofs.KeptTexts.{valid_command}
use Rattle.tdl_line_texts.proofs.LinesRead.{too_long, whole_alone}
use Rattle.tdl_script.proofs.lines.read_line.Goals as goal

pub returns-in_err-check_length-clause-refused : goal.returns-in_err-check_length-clause-refused
returns-in_err-check_length-clause-refused c =
    let p = err_from_is_err_and c.from_residual.result c.from_residual.ensures.1 in
    rw (p.1, p.2) (too_long a_line c.args.text.now _ c.in_err-check_length.ensures.err)

pub returns-in_err-check_length-clause-exact : goal.returns-in_err-check_length-clause-exact
returns-in_err-check_length-clause-exact c =
    let p = err_from_is_err_and c.from_residual.result c.from_residual.ensures.1 in
    rw (p.1, p.2) (λ l h. whole_alone a_line c.args.text.now (line l) _ h (too_long a_line c.args.text.now _ c.in_err-check_length.ensures.err))

pub returns-in_err-command-clause-exact : goal.returns-in_err-command-clause-exact
returns-in_err-command-clause-exact c =
    let p = err_from_is_err_and c.from_residual-in_err-command.result c.from_residual-in_err-command.ensures.1 in
    rw (p.1, p.2) (λ l h. whole_alone a_line c.args.text.now (line l) _ h c.in_err-command.ensures.refused)

pub invariant_of-result : goal.invariant_of-result
invariant_of-result c = record {
  valid = valid_command c.args.text.now c.in-Line.command (rw c.in-Line.is at c.in_ok-command.ensures.whole);
}
