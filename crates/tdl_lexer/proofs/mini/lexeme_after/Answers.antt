use Rattle.std.proofs.Common.{◌≡◌, ◌-◌, get_or, length, take, drop, arith}
use Rattle.std.proofs.lemmas.Grind.{common_steps}
use Rattle.tdl_lexer.proofs.MiniAnswers.{run_answer, dot_answer, ascii_answer}
use Rattle.tdl_lexer.proofs.mini.lexeme_after.Goals as goal

pub returns-then-is_run_byte : goal.returns-then-is_run_byte
returns-then-is_run_byte c = run_answer c.args.last c.args.rest.now c.run.result c.in-len1-up.len_at_least c.if-is_run_byte.ensures c.run.ensures

pub returns-in-46 : goal.returns-in-46
returns-in-46 c =
    let text = c.args.rest.now in
    let after : take (length text - 1) (drop 1 text) ≡ drop 1 text = grind (arith, common_steps) in
    dot_answer c.args.last text (take (length text - 1) (drop 1 text)) c.dot.result c.in-len1-up.len_at_least c.in-46.is after c.dot.ensures

pub returns-in_default-2 : goal.returns-in_default-2
returns-in_default-2 c =
    let text = c.args.rest.now in
    let no_minus : get_or text 0 0 ≡ 45 → ⊥ = λ e. omega arith in
    let no_dot : get_or text 0 0 ≡ 46 → ⊥ = λ e. omega arith in
    ascii_answer c.args.last text c.in-len1-up.len_at_least c.if-is_run_byte.ensures no_minus no_dot c.if-is_plain_mark.ensures c.if-is_ascii.ensures
