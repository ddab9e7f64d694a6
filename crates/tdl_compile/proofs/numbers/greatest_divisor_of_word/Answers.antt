use Rattle.std.proofs.Common.{◌∙◌}
use Rattle.tdl_expr.proofs.Numbers.{gcd_rest}
use Rattle.tdl_compile.proofs.numbers.greatest_divisor_of_word.Goals as goal

pub returns : goal.returns
returns c = c.greatest_divisor_of_words-2.ensures ∙ gcd_rest c.args.number c.args.other
