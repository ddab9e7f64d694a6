-- The rows of a table stand for valid trees.
use Rattle.std.proofs.Common.{◌≡◌, ℕ, zero, suc, ◌<◌, ◌≤◌, List, [], ◌∷◌, ◌++◌, length, get_or, refl, arith}
use Rattle.std.specs.List.{All, sum_by}
use Rattle.std.proofs.lemmas.List.Elements.{All-head, All-tail}
use Rattle.std.proofs.lemmas.List.Sums.{sum_by-cons}
use Rattle.tdl_expr.specs.declared.ids.NodeId.{NodeId}
use Rattle.tdl_expr.specs.declared.steps.Step.{Step}
use Rattle.tdl_expr.specs.declared.nodes.Node.{Node}
use Rattle.tdl_expr.specs.declared.nodes.Node.TheVariants.{Silence, Pure, Fast, TimeCat, Cat, Stack, Rev, Pick, When, Shift, Join, Ply, Gate}
use Rattle.tdl_expr.specs.Tree.{Tree}
use Rattle.tdl_expr.specs.Tree as tree
use Rattle.tdl_expr.specs.Bounds.{sum_of_weights}
use Rattle.tdl_expr.specs.Rows.{HasCounts, HasShares, IsTable, in_order, weighted, tree_of, trees_on, tree_at}
use Rattle.tdl_expr.specs.Valid.{IsValid, AreValid, AreValidSteps}

-- each tree of a list is valid, and past its end there is silence
abbrev AllValid : List Tree → Type 0
AllValid trees = (k : ℕ) → IsValid (get_or trees k tree.Silence)

one_more_valid : (trees : List Tree) (e : Tree) → AllValid trees → IsValid e → AllValid (trees ++ e ∷ [])
one_more_valid [] e all valid zero = valid
one_more_valid [] e all valid (suc k) = tt
one_more_valid (first ∷ trees) e all valid zero = all 0
one_more_valid (first ∷ trees) e all valid (suc k) = one_more_valid trees e (λ j. all (suc j)) valid k

pub same_sum : (trees : List Tree) (steps : List Step) → sum_of_weights (weighted trees steps) ≡ sum_by (λ (s : Step). s.weight) steps
same_sum trees [] = refl
same_sum trees (s ∷ steps) = omega (arith, same_sum trees steps, sum_by-cons (λ (x : Step). x.weight) s steps)

pub some_weight : (steps : List Step) → 1 ≤ length steps → All (λ s. 0 < s.weight) steps → 0 < sum_by (λ (s : Step). s.weight) steps
some_weight [] some positive = absurd (omega arith)
some_weight (s ∷ steps) some positive =
    let first : 0 < s.weight = All-head (λ s. 0 < s.weight) s steps positive in omega (arith, sum_by-cons (λ (x : Step). x.weight) s steps)

module _ (trees : List Tree) (all : AllValid trees) where
  in_order-valid : (ids : List NodeId) → AreValid (in_order trees ids)
  in_order-valid [] = tt
  in_order-valid (id ∷ ids) = (all id.index, in_order-valid ids)

  weighted-valid : (steps : List Step) → All (λ s. 0 < s.weight) steps → AreValidSteps (weighted trees steps)
  weighted-valid [] positive = tt
  weighted-valid (s ∷ steps) positive = (
    All-head (λ s. 0 < s.weight) s steps positive,
    all s.child.index,
    weighted-valid steps (All-tail (λ s. 0 < s.weight) s steps positive),
  )

  tree_of-valid : (node : Node) → HasCounts node → HasShares node → IsValid (tree_of trees node)
  tree_of-valid Silence counts shares = tt
  tree_of-valid (Pure leaf) counts shares = tt
  tree_of-valid (Fast rate id) counts shares = (shares, all id.index)
  tree_of-valid (TimeCat steps) counts shares = (omega (arith, same_sum trees steps, some_weight steps counts.0 shares.0), weighted-valid steps shares.0)
  tree_of-valid (Cat ids) counts shares = in_order-valid ids
  tree_of-valid (Stack ids) counts shares = in_order-valid ids
  tree_of-valid (Rev id) counts shares = all id.index
  tree_of-valid (Pick selector ids) counts shares = (all selector.index, in_order-valid ids)
  tree_of-valid (When modulus test met other) counts shares = (shares, all met.index, all other.index)
  tree_of-valid (Shift by id) counts shares = all id.index
  tree_of-valid (Join side op left right) counts shares = (all left.index, all right.index)
  tree_of-valid (Ply times id) counts shares = (shares, all id.index)
  tree_of-valid (Gate from to inside id) counts shares = all id.index

trees_on-valid : (trees : List Tree) (nodes : List Node) → AllValid trees
    → ((k : ℕ) → k < length nodes → HasCounts (get_or nodes k Silence) × HasShares (get_or nodes k Silence)) → AllValid (trees_on trees nodes)
trees_on-valid trees [] all each = all
trees_on-valid trees (node ∷ nodes) all each =
    let first = each 0 (omega arith) in
    trees_on-valid (trees ++ tree_of trees node ∷ []) nodes
    (one_more_valid trees (tree_of trees node) all (tree_of-valid trees all node first.0 first.1))
    (λ k h. each (suc k) (omega arith))

pub valid_row : (nodes : List Node) (id : NodeId) → IsTable nodes → IsValid (tree_at nodes id)
valid_row nodes id table = trees_on-valid [] nodes (λ k. tt) (λ k h. let n = table.each k h in (n.counts, n.shares)) id.index
