-- The trees of rows: those of older rows stay, and a row's tree is that of its node over all rows.
use Rattle.std.proofs.Common.{◌≡◌, ℕ, zero, suc, ◌+◌, ◌<◌, List, [], ◌∷◌, ◌++◌, map, length, get_or, refl, sym, ap, ◌∙◌, subst, arith, length-append}
use Rattle.std.specs.List.{All}
use Rattle.std.proofs.Math.ListN.{get_or-append}
use Rattle.std.proofs.Math.Seq.{get_or-append_seam}
use Rattle.std.proofs.lemmas.List.Elements.{All-head, All-tail}
use Rattle.tdl_expr.specs.declared.ids.NodeId.{NodeId}
use Rattle.tdl_expr.specs.declared.steps.Step.{Step}
use Rattle.tdl_expr.specs.declared.nodes.Node.{Node}
use Rattle.tdl_expr.specs.declared.nodes.Node.TheVariants.{Silence, Pure, Fast, TimeCat, Cat, Stack, Rev, Pick, When, Shift, Join, Ply, Gate}
use Rattle.tdl_expr.specs.Tree.{Tree, Trees, Steps}
use Rattle.tdl_expr.specs.Tree as tree
use Rattle.tdl_expr.specs.Rows.{children, IsNode, row, in_order, weighted, tree_of, trees_on}

pub one_more : {X : Type 0} (xs : List X) (x : X) → length (xs ++ x ∷ []) ≡ length xs + 1
one_more xs x = length-append xs (x ∷ [])

pub trees_on-append : (trees : List Tree) (nodes : List Node) (node : Node)
    → trees_on trees (nodes ++ node ∷ []) ≡ trees_on trees nodes ++ tree_of (trees_on trees nodes) node ∷ []
trees_on-append trees [] node = refl
trees_on-append trees (first ∷ nodes) node = trees_on-append (trees ++ tree_of trees first ∷ []) nodes node

pub length-trees_on : (trees : List Tree) (nodes : List Node) → length (trees_on trees nodes) ≡ length trees + length nodes
length-trees_on trees [] = omega arith
length-trees_on trees (node ∷ nodes) =
    omega (arith, length-trees_on (trees ++ tree_of trees node ∷ []) nodes, one_more trees (tree_of trees node))

-- the trees that are there stay
pub trees_on-stay : (trees : List Tree) (nodes : List Node) (k : ℕ) → k < length trees
    → get_or (trees_on trees nodes) k tree.Silence ≡ get_or trees k tree.Silence
trees_on-stay trees [] k h = refl
trees_on-stay trees (node ∷ nodes) k h =
    let further : k < length (trees ++ tree_of trees node ∷ []) = omega (arith, one_more trees (tree_of trees node)) in
    trees_on-stay (trees ++ tree_of trees node ∷ []) nodes k further ∙ get_or-append trees (tree_of trees node ∷ []) tree.Silence k h

-- rows below a number are the same in both lists
abbrev pub AgreeBelow : ℕ → List Tree → List Tree → Type 0
AgreeBelow rows trees others = (k : ℕ) → k < rows → get_or trees k tree.Silence ≡ get_or others k tree.Silence

module _ (rows : ℕ) (trees others : List Tree) (agree : AgreeBelow rows trees others) where
  first-agrees : (id : NodeId) (ids : List NodeId) → All (λ id. id.index < rows) (id ∷ ids) → row trees id ≡ row others id
  first-agrees id ids below = agree id.index (All-head (λ id. id.index < rows) id ids below)

  pub in_order-agree : (ids : List NodeId) → All (λ id. id.index < rows) ids → in_order trees ids ≡ in_order others ids
  in_order-agree [] below = refl
  in_order-agree (id ∷ ids) below =
      let first = first-agrees id ids below in
      let rest : in_order trees ids ≡ in_order others ids = in_order-agree ids (All-tail (λ id. id.index < rows) id ids below) in
      cc

  pub weighted-agree : (steps : List Step) → All (λ id. id.index < rows) (map (λ s. s.child) steps) → weighted trees steps ≡ weighted others steps
  weighted-agree [] below = refl
  weighted-agree (s ∷ steps) below =
      let first = first-agrees s.child (map (λ s. s.child) steps) below in
      let rest : weighted trees steps ≡ weighted others steps =
      weighted-agree steps (All-tail (λ id. id.index < rows) s.child (map (λ s. s.child) steps) below) in
      cc

  -- the tree of a node depends on its children alone
  pub tree_of-agree : (node : Node) → All (λ id. id.index < rows) (children node) → tree_of trees node ≡ tree_of others node
  tree_of-agree Silence below = refl
  tree_of-agree (Pure leaf) below = refl
  tree_of-agree (Fast rate id) below = ap (tree.Fast rate) (first-agrees id [] below)
  tree_of-agree (TimeCat steps) below = ap tree.TimeCat (weighted-agree steps below)
  tree_of-agree (Cat ids) below = ap tree.Cat (in_order-agree ids below)
  tree_of-agree (Stack ids) below = ap tree.Stack (in_order-agree ids below)
  tree_of-agree (Rev id) below = ap tree.Rev (first-agrees id [] below)
  tree_of-agree (Pick selector ids) below =
      let first = first-agrees selector ids below in
      let rest : in_order trees ids ≡ in_order others ids = in_order-agree ids (All-tail (λ id. id.index < rows) selector ids below) in
      cc
  tree_of-agree (When modulus test met other) below =
      let first = first-agrees met (other ∷ []) below in
      let second = first-agrees other [] (All-tail (λ id. id.index < rows) met (other ∷ []) below) in
      cc
  tree_of-agree (Shift by id) below = ap (tree.Shift by) (first-agrees id [] below)
  tree_of-agree (Join side op left right) below =
      let first = first-agrees left (right ∷ []) below in
      let second = first-agrees right [] (All-tail (λ id. id.index < rows) left (right ∷ []) below) in
      cc
  tree_of-agree (Ply times id) below = ap (tree.Ply times) (first-agrees id [] below)
  tree_of-agree (Gate from to inside id) below = ap (tree.Gate from to inside) (first-agrees id [] below)

-- where children stand below, a row after so many trees is the tree of its node over all
pub trees_on-row : (trees : List Tree) (nodes : List Node) (k : ℕ) → k < length nodes → IsNode (length trees + k) (get_or nodes k Silence)
    → get_or (trees_on trees nodes) (length trees + k) tree.Silence ≡ tree_of (trees_on trees nodes) (get_or nodes k Silence)
trees_on-row trees [] k h node = absurd (omega arith)
trees_on-row trees (first ∷ nodes) zero h node =
    let more = trees ++ tree_of trees first ∷ [] in
    let within : length trees < length more = omega (arith, one_more trees (tree_of trees first)) in
    let here : get_or (trees_on more nodes) (length trees) tree.Silence ≡ tree_of trees first =
    trees_on-stay more nodes (length trees) within ∙ get_or-append_seam trees (tree_of trees first) [] tree.Silence in
    let agree : AgreeBelow (length trees + 0) trees (trees_on more nodes) =
    λ j lt. let lt' : j < length trees = omega arith in sym (trees_on-stay trees (first ∷ nodes) j lt') in
    let at : ℕ → Type 0 = λ j. get_or (trees_on more nodes) j tree.Silence ≡ tree_of (trees_on more nodes) first in
    let same : length trees ≡ length trees + 0 = omega arith in
    subst at same (here ∙ tree_of-agree (length trees + 0) trees (trees_on more nodes) agree first node.below)
trees_on-row trees (first ∷ nodes) (suc k) h node =
    let more = trees ++ tree_of trees first ∷ [] in
    let same : length more + k ≡ length trees + suc k = omega (arith, one_more trees (tree_of trees first)) in
    let at : ℕ → Type 0 = λ j. IsNode j (get_or nodes k Silence)
    → get_or (trees_on more nodes) j tree.Silence ≡ tree_of (trees_on more nodes) (get_or nodes k Silence) in
    let lt : k < length nodes = omega arith in
    subst at same (trees_on-row more nodes k lt) node
