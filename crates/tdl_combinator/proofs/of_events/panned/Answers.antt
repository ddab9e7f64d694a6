use Rattle.std.proofs.Common.{◌≡◌, ℤ, [], ◌∷◌, ap, ◌∙◌, arith}
use Rattle.std.proofs.lemmas.Int.{ints}
use Rattle.tdl_control.specs.declared.keys.Key.TheVariants.{Pan}
use Rattle.tdl_control.specs.declared.leaves.Leaf.TheVariants.{Controls}
use Rattle.tdl_control.specs.declared.ops.MapOp.TheVariants.{Union}
use Rattle.tdl_control.specs.Map.{KeyValues, put}
use Rattle.tdl_control.specs.Setting.{Number}
use Rattle.tdl_expr.specs.declared.joinings.Side.TheVariants.{Left}
use Rattle.tdl_expr.specs.Tree.{Tree, Pure}
use Rattle.tdl_expr.specs.Rows.{tree_at}
use Rattle.tdl_rows.specs.Built.{Built, one_row, ◌▸◌}
use Rattle.tdl_rows.proofs.Gained.{LowersTo-same}
use Rattle.tdl_combinator.specs.Makings.{section_of}
use Rattle.tdl_combinator.proofs.Sequels.{next_row}
use Rattle.tdl_combinator.proofs.of_events.panned.Goals as goal

pub returns : goal.returns
returns c =
    let joined : Tree → Tree → Built Tree = λ v p. section_of Left Union v p in
    let same : c.set.new.self ≡ (Pan, Number c.args.pan) ∷ [] =
    c.in_ok-set.ensures.ok
    ∙ (ap (λ (n : ℤ). put c.new-controls.result Pan (Number n)) (omega (arith, ints))
    ∙ ap (λ (entries : KeyValues). put entries Pan (Number c.args.pan)) c.new-controls.ensures) in
    LowersTo-same _ _ _ _ c.section_of.result
    (ap (λ (entries : KeyValues). one_row 0 (Pure (Controls entries)) ▸ λ v. joined v (tree_at c.args.table.now c.args.child)) same)
    (next_row _ (one_row 0 (Pure (Controls c.set.new.self))) joined c.args.child c.requires c.in_ok-side.ensures c.section_of.result c.section_of.ensures)
