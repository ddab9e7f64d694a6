use Rattle.std.proofs.Common.{ap}
use Rattle.tdl_rows.specs.Arguments.{argument_at}
use Rattle.tdl_combinator.specs.TreeFun as made
use Rattle.tdl_prepare.proofs.Variants.{boxed}
use Rattle.tdl_prepare.proofs.nested.every.Goals as goal

pub returns : goal.returns
returns c = λ nodes h.
    let part = boxed nodes c.in_ok-then.then.value c.args.part c.in_ok-then.ensures.ok h.1 in
    record { of_rows = (h.0, part.of_rows); is = ap (made.Every (argument_at nodes c.args.n)) part.is }
