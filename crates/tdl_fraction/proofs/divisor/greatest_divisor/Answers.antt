use Rattle.std.proofs.Common.{◌∙◌, sym}
use Rattle.tdl_fraction.proofs.Euclid.{gcd-mod, gcd-zero}
use Rattle.tdl_fraction.proofs.divisor.greatest_divisor.Goals as goal

pub loop-y-preserved : goal.loop-y-preserved
loop-y-preserved c = gcd-mod _ _ ∙ c.loop-y.invariant

pub returns-then-y-eq0 : goal.returns-then-y-eq0
returns-then-y-eq0 c = sym (gcd-zero _ _ c.if-y-eq0.true) ∙ c.loop-y.invariant

pub returns : goal.returns
returns c = c.greatest_divisor_of_words.ensures ∙ gcd-mod _ _ ∙ c.loop-y.invariant
