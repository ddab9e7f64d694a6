use Rattle.std.proofs.Common.{◌∙◌, ap, take}
use Rattle.std.specs.Char.{is_ascii_digit}
use Rattle.tdl_lexer.proofs.Fronts.{take-length_front}
use Rattle.tdl_mini.proofs.DigitLemmas.{digits_plain}
use Rattle.tdl_mini.proofs.tokens.digits_of.Goals as goal

pub returns-clause-value : goal.returns-clause-value
returns-clause-value c = ap (λ n. take n c.args.text.now) c.digits_len.ensures ∙ take-length_front is_ascii_digit c.args.text.now

pub returns-clause-plain : goal.returns-clause-plain
returns-clause-plain c = digits_plain c.args.text.now _ c.digits_len.ensures
