use Rattle.std.proofs.Common.{ap₂}
use Rattle.tdl_combinator.specs.TreeFun as made
use Rattle.tdl_prepare.proofs.Variants.{boxed}
use Rattle.tdl_prepare.proofs.nested.chain.Goals as goal

pub returns : goal.returns
returns c = λ nodes h.
    let one = boxed nodes c.in_ok-first.first.value c.args.first c.in_ok-first.ensures.ok h.0 in
    let other = boxed nodes c.in_ok-next.next.value c.args.next c.in_ok-next.ensures.ok h.1 in
    record { of_rows = (one.of_rows, other.of_rows); is = ap₂ made.Chain one.is other.is }
