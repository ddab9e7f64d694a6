-- Lists of rows, one more at a time, from the last to the first.
use Rattle.std.proofs.Common.{◌≡◌, ℕ, suc, ◌-◌, ◌<◌, ◌≤◌, List, ◌∷◌, length, get_or, drop, map, sym, ap, ◌∙◌, subst, arith}
use Rattle.std.specs.List.{All}
use Rattle.std.proofs.Math.Seq.{drop-cons}
use Rattle.tdl_expr.specs.declared.ids.NodeId.{NodeId}
use Rattle.tdl_expr.specs.declared.steps.Step.{Step}
use Rattle.tdl_expr.specs.Tree.{Tree, Trees, Steps, child, step}
use Rattle.tdl_expr.specs.Rows.{row, in_order, weighted}
use Rattle.tdl_expr.specs.Valid.{IsValid, AreValid, AreValidSteps}
use Rattle.tdl_expr.proofs.JoinLemmas.{All-of_map}
use Rattle.tdl_compile.specs.declared.sizes.RowBounds.{RowBounds}
use Rattle.tdl_compile.specs.declared.sizes.Group.{Group}
use Rattle.tdl_compile.specs.inside.Sizes.{NumbersStandFor, CollectsTrees, CollectsSteps}

pub collected_child : (trees : List Tree) (xs ids : List NodeId) (id : NodeId) (b : RowBounds) (g out : Group)
    → xs ≡ id ∷ ids → NumbersStandFor b (row trees id) → (AreValid (in_order trees ids) → CollectsTrees g (in_order trees ids))
    → ((e : Tree) (rest : Trees) → IsValid e → AreValid rest → NumbersStandFor b e → CollectsTrees g rest → CollectsTrees out (child e rest))
    → AreValid (in_order trees xs) → CollectsTrees out (in_order trees xs)
collected_child trees xs ids id b g out e s rest with =
    let P : List NodeId → Type 0 = λ ys. AreValid (in_order trees ys) → CollectsTrees out (in_order trees ys) in
    subst P (sym e) (λ valid. with (row trees id) (in_order trees ids) valid.0 valid.1 s (rest valid.1))

pub collected_step : (trees : List Tree) (xs steps : List Step) (s : Step) (b : RowBounds) (g out : Group)
    → xs ≡ s ∷ steps → NumbersStandFor b (row trees s.child) → (AreValidSteps (weighted trees steps) → CollectsSteps g (weighted trees steps))
    → ((e : Tree) (rest : Steps) → 0 < s.weight → IsValid e → AreValidSteps rest → NumbersStandFor b e → CollectsSteps g rest
    → CollectsSteps out (step s.weight e rest))
    → AreValidSteps (weighted trees xs) → CollectsSteps out (weighted trees xs)
collected_step trees xs steps s b g out e stands rest with =
    let P : List Step → Type 0 = λ ys. AreValidSteps (weighted trees ys) → CollectsSteps out (weighted trees ys) in
    subst P (sym e) (λ valid. with (row trees s.child) (weighted trees steps) valid.0 valid.1 valid.2 stands (rest valid.2))

-- the item before the rest
pub drop_before : {X : Type 0} (xs : List X) (at : ℕ) (d : X) → 0 < at → at ≤ length xs → drop (at - 1) xs ≡ get_or xs (at - 1) d ∷ drop at xs
drop_before xs at d p h =
    let same : suc (at - 1) ≡ at = omega arith in
    drop-cons xs (at - 1) d (omega arith) ∙ ap (λ k. get_or xs (at - 1) d ∷ drop k xs) same

pub child_below : (rows : ℕ) (steps : List Step) → All (λ id. id.index < rows) (map (λ s. s.child) steps) → All (λ s. s.child.index < rows) steps
child_below rows steps h = All-of_map (λ id. id.index < rows) (λ (s : Step). s.child) steps h
