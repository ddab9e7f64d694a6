use Rattle.std.proofs.Common.{sym, ◌∙◌, subst}
use Rattle.tdl_fraction.specs.Range.{InRange}
use Rattle.tdl_fraction.proofs.WholeWords.{minus_passed}
use Rattle.tdl_fraction.proofs.fraction.Frac.sub.Goals as goal

pub add_whole-requires : goal.add_whole-requires
add_whole-requires c =
    let n = c.numerator.ensures in
    let one = sym c.denominator.ensures.value ∙ c.if-denominator-eq1.true in
    subst InRange (sym (minus_passed c.args.self c.args.other _ n.in_range n.value one)) c.requires

pub returns-then-denominator-eq1 : goal.returns-then-denominator-eq1
returns-then-denominator-eq1 c =
    let n = c.numerator.ensures in
    let one = sym c.denominator.ensures.value ∙ c.if-denominator-eq1.true in
    c.add_whole.ensures ∙ minus_passed c.args.self c.args.other _ n.in_range n.value one
