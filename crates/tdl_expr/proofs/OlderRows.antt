-- Rows that are there stand for what they stood for when a table has grown.
--     tree_at-append, KeepsRows-append
--                                      of the rows before more nodes
--     KeepsRows-trans                  of two growths one after the other
--     in_order-older, weighted-older, tree_of-older
--                                      of lists of rows, of steps and of a node, where each older row
--                                      stands for what it stood for, as after a push or a join
use Rattle.std.proofs.Common.{◌≡◌, List, [], ◌∷◌, ◌++◌, map, length, get_or, refl, ap, ◌∙◌, arith, length-append}
use Rattle.std.specs.List.{All}
use Rattle.tdl_expr.specs.declared.ids.NodeId.{NodeId}
use Rattle.tdl_expr.specs.declared.steps.Step.{Step}
use Rattle.tdl_expr.specs.declared.nodes.Node.{Node}
use Rattle.tdl_expr.specs.Tree.{Tree}
use Rattle.tdl_expr.specs.Tree as tree
use Rattle.tdl_expr.specs.Older.{KeepsRows}
use Rattle.tdl_expr.specs.Rows.{children, IsRow, in_order, weighted, tree_of, trees_on, trees_of, tree_at}
use Rattle.tdl_expr.proofs.RowTrees.{length-trees_on, trees_on-stay, AgreeBelow, in_order-agree, weighted-agree, tree_of-agree}

trees_on-further : (trees : List Tree) (nodes more : List Node) → trees_on trees (nodes ++ more) ≡ trees_on (trees_on trees nodes) more
trees_on-further trees [] more = refl
trees_on-further trees (node ∷ nodes) more = trees_on-further (trees ++ tree_of trees node ∷ []) nodes more

pub tree_at-append : (nodes more : List Node) (id : NodeId) → IsRow nodes id → tree_at (nodes ++ more) id ≡ tree_at nodes id
tree_at-append nodes more id h =
    ap (λ (trees : List Tree). get_or trees id.index tree.Silence) (trees_on-further [] nodes more)
    ∙ trees_on-stay (trees_of nodes) more id.index (omega (arith, length-trees_on [] nodes))

pub IsRow-older : (old new more : List Node) → new ≡ old ++ more → (id : NodeId) → IsRow old id → IsRow new id
IsRow-older old new more is id h = omega (arith, ap length is, length-append old more)

pub KeepsRows-trans : (old middle new more : List Node) → middle ≡ old ++ more → KeepsRows old middle → KeepsRows middle new → KeepsRows old new
KeepsRows-trans old middle new more is earlier later = λ id h. later id (IsRow-older old middle more is id h) ∙ earlier id h

module _ (old new : List Node) (older : KeepsRows old new) where
  agree : AgreeBelow (length old) (trees_of new) (trees_of old)
  agree = λ k h. older (record { index = k }) h

  pub in_order-older : (ids : List NodeId) → All (IsRow old) ids → in_order (trees_of new) ids ≡ in_order (trees_of old) ids
  in_order-older ids rows = in_order-agree (length old) (trees_of new) (trees_of old) agree ids rows

  pub weighted-older : (steps : List Step) → All (IsRow old) (map (λ s. s.child) steps) → weighted (trees_of new) steps ≡ weighted (trees_of old) steps
  weighted-older steps rows = weighted-agree (length old) (trees_of new) (trees_of old) agree steps rows

  pub tree_of-older : (node : Node) → All (IsRow old) (children node) → tree_of (trees_of new) node ≡ tree_of (trees_of old) node
  tree_of-older node rows = tree_of-agree (length old) (trees_of new) (trees_of old) agree node rows
