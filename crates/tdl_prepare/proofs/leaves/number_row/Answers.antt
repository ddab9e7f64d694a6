use Rattle.std.proofs.Common.{◌≡◌, ℤ, [], ◌∷◌, ap, ◌∙◌, arith}
use Rattle.std.proofs.lemmas.Int.{ints}
use Rattle.tdl_control.specs.declared.leaves.Leaf.TheVariants.{Controls}
use Rattle.tdl_control.specs.Map.{KeyValues, put}
use Rattle.tdl_control.specs.Setting.{Number}
use Rattle.tdl_expr.specs.Tree.{Pure}
use Rattle.tdl_rows.specs.Built.{one_row}
use Rattle.tdl_rows.proofs.Gained.{LowersTo-same}
use Rattle.tdl_prepare.proofs.leaves.number_row.Goals as goal

pub returns : goal.returns
returns c =
    let same : c.set.new.self ≡ (c.args.key, Number c.args.number) ∷ [] =
    c.in_ok-set.ensures.ok
    ∙ (ap (λ (n : ℤ). put c.new-controls.result c.args.key (Number n)) (omega (arith, ints))
    ∙ ap (λ (entries : KeyValues). put entries c.args.key (Number c.args.number)) c.new-controls.ensures) in
    LowersTo-same _ _ _ _ c.pure.result (ap (λ (entries : KeyValues). one_row 0 (Pure (Controls entries))) same) c.pure.ensures
