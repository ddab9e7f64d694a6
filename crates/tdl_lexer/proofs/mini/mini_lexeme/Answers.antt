use Rattle.std.proofs.Common.{◌∙◌, ap, Err}
use Rattle.tdl_lexer.proofs.MiniAnswers.{mini_ok, mini_err}
use Rattle.tdl_lexer.proofs.mini.mini_lexeme.Goals as goal

pub returns-in-Ok : goal.returns-in-Ok
returns-in-Ok c = mini_ok c.args.last c.args.rest.now c.in-Ok.lexeme c.in-Ok.ensures

pub returns-in-Err : goal.returns-in-Err
returns-in-Err c = ap Err c.at_front.ensures ∙ mini_err c.args.last c.args.rest.now c.in-Err.kind c.in-Err.ensures
