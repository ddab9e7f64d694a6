use Rattle.std.proofs.Common.{◌∙◌, ◌≡◌, ◌+◌, ◌-◌, [], ◌∷◌, ◌++◌, ap, take, drop, length, arith}
use Rattle.std.proofs.lemmas.Grind.{common_steps}
use Rattle.tdl_lexer.specs.Tokens.{language}
use Rattle.tdl_lexer.specs.inside.Lexeme.{form_at}
use Rattle.tdl_lexer.proofs.ModeFinds.{finds}
use Rattle.tdl_lexer.proofs.TokenSteps.{read_none, read_more, fault_there}
use Rattle.tdl_lexer.proofs.readers.tokens.Goals as goal

pub loop-at-init : goal.loop-at-init
loop-at-init c =
    let mode = c.args.mode in
    read_none (language mode) (form_at mode) (finds mode) c.args.text.now _ _
    (c.of-tokens.ensures ∙ c.in_ok-with_capacity.ensures.items) c.blank_len-at.ensures.is

pub returns-in-Err : goal.returns-in-Err
returns-in-Err c =
    let mode = c.args.mode in
    fault_there (language mode) (form_at mode) (finds mode) c.args.text.now c.loop-at.tokens c.loop-at.at c.in-Err.flaw c.loop-at.invariant
    c.loop-at-test.true c.in-Err.ensures.is

pub loop-at-preserved : goal.loop-at-preserved
loop-at-preserved c =
    let mode = c.args.mode in
    let text = c.args.text.now in
    let end = c.loop-at.at + c.in-Ok.lexeme.len in
    let pushed = c.in_ok-push.ensures.ok ∙ ap (λ t. c.loop-at.tokens ++ t ∷ []) c.token.ensures in
    let rest : take (length text - end) (drop end text) ≡ drop end text = grind (arith, common_steps) in
    read_more (language mode) (form_at mode) (finds mode) text _ c.loop-at.tokens _ c.loop-at.at c.blank_len.result c.in-Ok.lexeme c.loop-at.invariant
    c.in-Ok.ensures.is pushed rest c.blank_len.ensures.is
