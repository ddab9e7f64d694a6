use Rattle.std.proofs.Common.{sym, ap, ◌∙◌}
use Rattle.tdl_rows.specs.Arguments.{argument_at}
use Rattle.tdl_combinator.specs.TreeFun as made
use Rattle.tdl_command.specs.declared.names.CycleFun.{CycleFun}
use Rattle.tdl_prepare.specs.inside.Views.{cycle_at}
use Rattle.tdl_prepare.proofs.Variants.{boxed}
use Rattle.tdl_prepare.proofs.nested.cycle.Goals as goal

pub returns-in-EveryAt : goal.returns-in-EveryAt
returns-in-EveryAt c = λ nodes h.
    let part = boxed nodes c.in_ok-then.then.value c.args.part c.in_ok-then.ensures.ok h.1.1 in
    record {
      of_rows = (h.0, (h.1.0, part.of_rows));
      is = ap (made.EveryAt (argument_at nodes c.args.first) (argument_at nodes c.args.second)) part.is
          ∙ ap (λ (name : CycleFun). cycle_at name c.args.first c.args.second c.args.part nodes) (sym c.in-EveryAt.is);
    }

pub returns-in-WhenMod : goal.returns-in-WhenMod
returns-in-WhenMod c = λ nodes h.
    let part = boxed nodes c.in_ok-then.then.value c.args.part c.in_ok-then.ensures.ok h.1.1 in
    record {
      of_rows = (h.0, (h.1.0, part.of_rows));
      is = ap (made.WhenMod (argument_at nodes c.args.first) (argument_at nodes c.args.second)) part.is
          ∙ ap (λ (name : CycleFun). cycle_at name c.args.first c.args.second c.args.part nodes) (sym c.in-WhenMod.is);
    }
