use Rattle.std.proofs.Common.{ap}
use Rattle.std.specs.Option.{option_copied}
use Rattle.tdl_fraction.proofs.Spelling.{no_numerator, no_denominator}
use Rattle.tdl_fraction.proofs.text.parse.Goals as goal

pub returns-in_err-numerator-clause-none : goal.returns-in_err-numerator-clause-none
returns-in_err-numerator-clause-none c =
    rw c.from_residual.ensures (no_numerator c.args.text.now _ _ _ c.cut-parts.ensures c.in_err-numerator.ensures.value)

pub returns-in_err-number-in-Some-clause-none : goal.returns-in_err-number-in-Some-clause-none
returns-in_err-number-in-Some-clause-none c =
    rw c.from_residual-in_err-number-in-Some.ensures
    (no_denominator c.args.text.now _ _ _ _ c.cut-parts.ensures (ap option_copied c.in-Some.is) c.in_err-number-in-Some.ensures.value)
