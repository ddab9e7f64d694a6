use Rattle.std.proofs.Common.{◌≡◌, ◌∙◌, ◌-◌, sym, subst, ap, take, drop, length, arith}
use Rattle.std.proofs.lemmas.Grind.{common_steps}
use Rattle.tdl_lexer.specs.declared.signs.Mode.{Mode}
use Rattle.tdl_lexer.specs.Tokens.{language, byte_before}
use Rattle.tdl_lexer.specs.inside.Lexeme.{form_at, lexeme_at, mini_lexeme, line_lexeme}
use Rattle.tdl_lexer.proofs.ModeFinds.{finds}
use Rattle.tdl_lexer.proofs.LexemeLemmas.{lexeme_within, flaw_within}
use Rattle.tdl_lexer.proofs.readers.lexeme_at.Goals as goal

pub returns-in-Mini : goal.returns-in-Mini
returns-in-Mini c =
    let mode = c.args.mode in
    let text = c.args.text.now in
    let at = c.args.at in
    let last = byte_before text at in
    let rest : take (length text - at) (drop at text) ≡ drop at text = grind (arith, common_steps) in
    let mini = c.mini_lexeme.ensures ∙ ap (λ byte. mini_lexeme byte (take (length text - at) (drop at text))) c.byte_before.ensures
    ∙ ap (mini_lexeme last) rest in
    let is = subst (λ (m : Mode). c.mini_lexeme.result ≡ lexeme_at m last (drop at text)) (sym c.in-Mini.is) mini in
    record {
      is = is;
      within = lexeme_within (language mode) (form_at mode) (finds mode) last text at _ is c.requires.inside;
      past = flaw_within (language mode) (form_at mode) (finds mode) last text at _ is c.requires.inside;
    }

pub returns-in-Line : goal.returns-in-Line
returns-in-Line c =
    let mode = c.args.mode in
    let text = c.args.text.now in
    let at = c.args.at in
    let last = byte_before text at in
    let rest : take (length text - at) (drop at text) ≡ drop at text = grind (arith, common_steps) in
    let line = c.line_lexeme.ensures ∙ ap line_lexeme rest in
    let is = subst (λ (m : Mode). c.line_lexeme.result ≡ lexeme_at m last (drop at text)) (sym c.in-Line.is) line in
    record {
      is = is;
      within = lexeme_within (language mode) (form_at mode) (finds mode) last text at _ is c.requires.inside;
      past = flaw_within (language mode) (form_at mode) (finds mode) last text at _ is c.requires.inside;
    }
