use Rattle.std.proofs.Common.{sym, ap, ◌∙◌}
use Rattle.tdl_combinator.specs.Funs.{fun_at}
use Rattle.tdl_combinator.specs.TreeFun as made
use Rattle.tdl_command.specs.declared.names.LayerFun.{LayerFun}
use Rattle.tdl_prepare.specs.Built.{layer_fun}
use Rattle.tdl_prepare.proofs.Variants.{boxed}
use Rattle.tdl_prepare.proofs.nested.layer.Goals as goal

pub returns-in-Superimpose : goal.returns-in-Superimpose
returns-in-Superimpose c = λ nodes h.
    let part = boxed nodes c.in_ok-then.then.value c.args.part c.in_ok-then.ensures.ok h in
    record {
      of_rows = part.of_rows;
      is = ap made.Superimpose part.is ∙ ap (λ (name : LayerFun). layer_fun name (fun_at nodes c.args.part)) (sym c.in-Superimpose.is);
    }

pub returns-in-Jux : goal.returns-in-Jux
returns-in-Jux c = λ nodes h.
    let part = boxed nodes c.in_ok-then.then.value c.args.part c.in_ok-then.ensures.ok h in
    record {
      of_rows = part.of_rows;
      is = ap made.Jux part.is ∙ ap (λ (name : LayerFun). layer_fun name (fun_at nodes c.args.part)) (sym c.in-Jux.is);
    }
