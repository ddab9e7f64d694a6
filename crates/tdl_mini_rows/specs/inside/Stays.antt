-- What stays while a table gains rows: steps, and stacks of sequences at a pace.
use Rattle.std.proofs.Common.{◌≡◌, ℕ, List, [], ◌∷◌, get_or, refl, ap}
use Rattle.std.proofs.lemmas.List.Elements.{All-head, All-tail}
use Rattle.tdl_expr.specs.declared.nodes.Node.{Node}
use Rattle.tdl_expr.specs.Tree.{Tree}
use Rattle.tdl_expr.specs.Rows.{IsRow}
use Rattle.tdl_rows.specs.Chosen.{StaysMade}
use Rattle.tdl_rows.specs.Joined.{Weighted}
use Rattle.tdl_rows.specs.Lowers.{Gains}
use Rattle.tdl_rows.specs.Stays.{row_after}
use Rattle.tdl_mini_rows.specs.declared.joins.WeightedRow.{WeightedRow}
use Rattle.tdl_mini_rows.specs.Lowered.{paced_stack}
use Rattle.tdl_mini_rows.specs.inside.Bounds.{AreSequences}
use Rattle.tdl_mini_rows.specs.inside.Views.{step_at, steps_at, AreRows}

module _ {old mid : List Node} {links : List ℕ} (gains : Gains old mid links) where
  pub steps_after : (steps : List WeightedRow) → AreRows old steps → AreRows mid steps
  steps_after steps all = λ k d h. row_after gains (get_or steps k d).id (all k d h)

  pub step_after : (s : WeightedRow) → IsRow old s.id → step_at mid s ≡ step_at old s
  step_after s h = ap (λ (t : Tree). let w : Weighted = record { parts = s.parts; tree = t } in w) (gains.older s.id h)

  pub steps_at-after : (steps : List WeightedRow) → AreRows old steps → steps_at mid steps ≡ steps_at old steps
  steps_at-after [] all = refl
  steps_at-after (s ∷ steps) all =
      let first : step_at mid s ≡ step_at old s = step_after s (All-head (λ s. IsRow old s.id) s steps all) in
      let rest : steps_at mid steps ≡ steps_at old steps = steps_at-after steps (All-tail (λ s. IsRow old s.id) s steps all) in
      cc

  pub stack-stays : (steps : List WeightedRow) → AreRows old steps → AreSequences steps
      → StaysMade (AreRows mid steps × AreSequences steps) (paced_stack (steps_at old steps)) (paced_stack (steps_at mid steps))
  stack-stays steps rows bounded = record {
    stands = (steps_after steps rows, bounded);
    same = λ rate. ap (λ (ss : List Weighted). paced_stack ss rate) (steps_at-after steps rows);
  }
