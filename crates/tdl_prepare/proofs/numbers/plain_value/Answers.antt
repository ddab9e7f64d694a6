use Rattle.std.proofs.Common.{sym, ap, ◌∙◌}
use Rattle.tdl_prepare.specs.Numbers.{negated, plain_value}
use Rattle.tdl_prepare.proofs.numbers.plain_value.Goals as goal

pub returns-in-Bare-clause-value : goal.returns-in-Bare-clause-value
returns-in-Bare-clause-value c = c.number_value.ensures.value ∙ ap plain_value (sym c.in-Bare.is)

pub returns-in-Signed-clause-value : goal.returns-in-Signed-clause-value
returns-in-Signed-clause-value c =
    c.negated.ensures.value ∙ (ap (negated c.in-Signed.is_negative) c.number_value-in-Signed.ensures.value ∙ ap plain_value (sym c.in-Signed.is))

pub returns-in-Quotient-clause-value : goal.returns-in-Quotient-clause-value
returns-in-Quotient-clause-value c =
    c.negated-in-Quotient.ensures.value ∙ (ap (negated c.in-Quotient.is_negative) c.quotient.ensures.value ∙ ap plain_value (sym c.in-Quotient.is))
