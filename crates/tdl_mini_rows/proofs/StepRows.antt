-- Rows with weights, by their trees.
use Rattle.std.proofs.Common.{◌≡◌, ℕ, List, [], ◌∷◌, map, length, refl, sym, ap, ◌∙◌}
use Rattle.std.specs.List.{All}
use Rattle.std.proofs.lemmas.List.{length-map}
use Rattle.std.proofs.lemmas.List.Elements.{All-map}
use Rattle.tdl_expr.specs.declared.ids.NodeId.{NodeId}
use Rattle.tdl_expr.specs.declared.nodes.Node.{Node}
use Rattle.tdl_expr.specs.Tree.{Tree, Steps, step, TimeCat}
use Rattle.tdl_expr.specs.Rows.{IsRow, tree_at, trees_of, weighted}
use Rattle.tdl_expr.specs.Joins.{joined_steps}
use Rattle.tdl_expr.specs.Weights.{steps_of, whole_weights, ten_thousandths}
use Rattle.tdl_expr.proofs.JoinLemmas.{All-of_map}
use Rattle.tdl_rows.specs.Joined.{joins, timecat_of, steps_from, tree_of, weight_of_parts}
use Rattle.tdl_rows.specs.Lowers.{trees_at}
use Rattle.tdl_rows.proofs.Pushes.{same_joins}
use Rattle.tdl_mini_rows.specs.declared.joins.WeightedRow.{WeightedRow}
use Rattle.tdl_mini_rows.specs.inside.Views.{step_at, steps_at, rows_of, counts_of, AreRows}

pub trees_in : (nodes : List Node) (steps : List WeightedRow) → map tree_of (steps_at nodes steps) ≡ trees_at nodes (rows_of steps)
trees_in nodes [] = refl
trees_in nodes (s ∷ steps) = ap (λ (ts : List Tree). tree_at nodes s.id ∷ ts) (trees_in nodes steps)

pub All-of_rows : (P : NodeId → Type 0) (steps : List WeightedRow) → All P (rows_of steps) → All (λ s. P s.id) steps
All-of_rows P steps all = All-of_map P (λ s. s.id) steps all

weighted-steps : (nodes : List Node) (weights : List ℕ) (steps : List WeightedRow)
    → weighted (trees_of nodes) (steps_of weights (rows_of steps)) ≡ steps_from weights (map tree_of (steps_at nodes steps))
weighted-steps nodes [] steps = refl
weighted-steps nodes (w ∷ ws) [] = refl
weighted-steps nodes (w ∷ ws) (s ∷ steps) = ap (λ (ts : Steps). step w (tree_at nodes s.id) ts) (weighted-steps nodes ws steps)

weights-steps : (nodes : List Node) (steps : List WeightedRow) → ten_thousandths (counts_of steps) ≡ map (λ s. weight_of_parts s.parts) (steps_at nodes steps)
weights-steps nodes [] = refl
weights-steps nodes (s ∷ steps) = ap (λ ws. weight_of_parts s.parts ∷ ws) (weights-steps nodes steps)

length-steps_at : (nodes : List Node) (steps : List WeightedRow) → length (rows_of steps) ≡ length (steps_at nodes steps)
length-steps_at nodes steps = length-map steps (λ s. s.id) ∙ sym (length-map steps (step_at nodes))

pub timecat-rows : (nodes : List Node) (steps : List WeightedRow) (ids : List NodeId) (ws : List ℕ) → ids ≡ rows_of steps
    → ws ≡ whole_weights (ten_thousandths (counts_of steps)) → joins (length ids) (joined_steps TimeCat (weighted (trees_of nodes) (steps_of ws ids)))
    ≡ timecat_of (steps_at nodes steps)
timecat-rows nodes steps ids ws e f =
    ap (λ (is : List NodeId). joins (length is) (joined_steps TimeCat (weighted (trees_of nodes) (steps_of ws is)))) e
    ∙ same_joins _ _ _ _ (length-steps_at nodes steps)
    (ap (joined_steps TimeCat) (weighted-steps nodes ws steps
    ∙ ap (λ (ns : List ℕ). steps_from ns (map tree_of (steps_at nodes steps))) (f ∙ ap whole_weights (weights-steps nodes steps))))

pub AreRows-ids : (nodes : List Node) (steps : List WeightedRow) → AreRows nodes steps → All (IsRow nodes) (rows_of steps)
AreRows-ids nodes steps all = All-map (IsRow nodes) (λ s. s.id) steps all
