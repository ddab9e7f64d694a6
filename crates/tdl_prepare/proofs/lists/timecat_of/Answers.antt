use Rattle.std.proofs.Common.{ℕ, pos, List, ◌∙◌, sym, subst, ap, length, arith}
use Rattle.std.proofs.lemmas.List.{length-map}
use Rattle.tdl_fraction.specs.Rational.{Rational, frac}
use Rattle.tdl_expr.specs.Tree.{Tree}
use Rattle.tdl_expr.specs.Weights.{whole_weights, AreWeights}
use Rattle.tdl_mini_tree.specs.Numbers.{weight_parts}
use Rattle.tdl_rows.specs.Built.{Built}
use Rattle.tdl_rows.specs.Lowers.{LowersTo}
use Rattle.tdl_rows.proofs.Pushes.{joined_row}
use Rattle.tdl_command.specs.declared.tree.Part.{Part}
use Rattle.tdl_prepare.specs.inside.Parts.{weights_of}
use Rattle.tdl_prepare.proofs.Weights.{timecat-rows, positive, sum_fits}
use Rattle.tdl_prepare.proofs.lists.timecat_of.Goals as goal

pub timecat-requires-clause-weights : goal.timecat-requires-clause-weights
timecat-requires-clause-weights c =
    let same = c.deref.ensures.value ∙ c.in_ok-weights.ensures in
    let fits = sum_fits c.args.parts.now c.requires.parts in
    subst AreWeights (sym same)
    (c.whole_weights_laws.ensures.decimals (weights_of c.args.parts.now) (positive c.args.parts.now c.requires.parts)
    (omega (arith, fits, c.requires.each, c.requires.few)))

pub timecat-requires-clause-each : goal.timecat-requires-clause-each
timecat-requires-clause-each c =
    omega (
      arith,
      ap (λ (ws : List Rational). length ws) (c.deref.ensures.value ∙ c.in_ok-weights.ensures),
      length-map (weights_of c.args.parts.now) (λ (n : ℕ). frac (pos n) 10000),
      length-map c.args.parts.now (λ (p : Part). weight_parts p.weight),
      c.requires.each,
    )

pub returns : goal.returns
returns c =
    let weights = ap whole_weights (c.deref.ensures.value ∙ c.in_ok-weights.ensures) in
    let count = length-map c.args.parts.now (λ (p : Part). weight_parts p.weight) in
    let P : Built Tree → Type 0 = λ built. LowersTo c.args.table.now c.timecat.new.table built c.timecat.result in
    subst P (timecat-rows c.args.table.now (weights_of c.args.parts.now) c.args.ids.now _ (count ∙ sym c.requires.each) weights)
    (joined_row _ _ _ _ c.timecat.result c.timecat.ensures.ok c.timecat.ensures.refused c.timecat.ensures.only c.timecat.ensures.err)
