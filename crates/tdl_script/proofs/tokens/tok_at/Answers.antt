-- The token of a sign is what the grammar reads of its bytes.
use Rattle.std.specs.Prelude.{slice_range}
use Rattle.std.proofs.Common.{◌∙◌, sym, ap, subst}
use Rattle.tdl_lexer.specs.declared.signs.Sign.{Sign}
use Rattle.tdl_line_reader.specs.declared.tokens.Tok.TheVariants as tok
use Rattle.tdl_line_texts.specs.Texts.{IsSigned}
use Rattle.tdl_line_machine.specs.Tokens as token
use Rattle.tdl_script.proofs.ReadToks.{plain_tok}
use Rattle.tdl_script.proofs.tokens.tok_at.Goals as goal

pub returns-in-Number : goal.returns-in-Number
returns-in-Number c = λ t is.
    let bytes = slice_range c.args.text.now c.args.token.at c.args.token.end in
    plain_tok (tok.Number c.number_of.result) t
    (ap token.number c.number_of.ensures ∙ sym (subst (λ (s : Sign). IsSigned s bytes t) c.in-Number.is is))

pub returns-in-Word : goal.returns-in-Word
returns-in-Word c = λ t is.
    let bytes = slice_range c.args.text.now c.args.token.at c.args.token.end in
    plain_tok (tok.Name c.name_of.result) t (ap token.name c.name_of.ensures ∙ sym (subst (λ (s : Sign). IsSigned s bytes t) c.in-Word.is is))

pub returns-in-Mark : goal.returns-in-Mark
returns-in-Mark c = λ t is.
    let bytes = slice_range c.args.text.now c.args.token.at c.args.token.end in
    plain_tok (tok.Mark c.mark_of.result) t (ap token.mark c.mark_of.ensures ∙ sym (subst (λ (s : Sign). IsSigned s bytes t) c.in-Mark.is is))

pub returns-in-End : goal.returns-in-End
returns-in-End c = λ t is.
    let bytes = slice_range c.args.text.now c.args.token.at c.args.token.end in
    plain_tok tok.End t (sym (subst (λ (s : Sign). IsSigned s bytes t) c.in-End.is is))
