use Rattle.std.proofs.Common.{ap}
use Rattle.tdl_combinator.specs.TreeFun as made
use Rattle.tdl_prepare.proofs.Variants.{boxed}
use Rattle.tdl_prepare.proofs.nested.within.Goals as goal

pub returns : goal.returns
returns c = λ nodes h.
    let part = boxed nodes c.in_ok-then.then.value c.args.part c.in_ok-then.ensures.ok h in
    record { of_rows = part.of_rows; is = ap (made.Within c.args.from c.args.to) part.is }
