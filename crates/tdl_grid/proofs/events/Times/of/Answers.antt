use Rattle.std.proofs.Common.{rules, sym, ap, ◌∙◌}
use Rattle.std.proofs.lemmas.Int.{to_z-of_z}
use mir.Syntax.{w128}
use Rattle.tdl_fraction.specs.Rational.{frac}
use Rattle.tdl_grid.specs.Times.{IsTimeOf}
use Rattle.tdl_grid.proofs.Roots.{count_is}
use Rattle.tdl_grid.proofs.Sums.{read}
use Rattle.tdl_grid.proofs.events.Times.of.Goals as goal

pub invariant_of-result : goal.invariant_of-result
invariant_of-result c =
    let u = c.args.unit in
    let r = c.requires in
    let at = count_is u r.positive r.small c.args.stop _ r.stop c.count_at.ensures.value in
    let end : IsTimeOf u (read c.count_at.result) c.args.stop = record {
      positive = r.positive;
      small = r.small;
      same = sym at ∙ ap (λ n. frac n u) (sym (to_z-of_z w128 c.count_at.result (search rules)));
    } in
    (end, end)
