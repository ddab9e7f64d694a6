-- Rows that join others.
--     joined, joined_steps       of no child silence, of one child that child, else a tree of the kind
--     joined_rows, shared_rows   the trees of a table's rows, joined by a kind, or one after another with weights
--     join_rows, join_links      how many rows and links such a tree adds for so many children
--     Joins                      a row stands for a tree, and the table gained no more than that tree needs
--     join_overflow              why a join is refused, if it is
--     JoinsTo                    what a join answers, and what it leaves in the table
use Rattle.std.specs.Prelude.{◌≡◌, ◌⊎◌, ℕ, zero, suc, ◌+◌, List, ◌++◌, length, Option, None, Some, IfSome, Result, Err, IfOk, IfErr, OnErr}
use Rattle.tdl_expr.specs.declared.ids.NodeId.{NodeId}
use Rattle.tdl_expr.specs.declared.nodes.Node.{Node}
use Rattle.tdl_expr.specs.declared.steps.Step.{Step}
use Rattle.tdl_expr.specs.declared.tables.PushFault.{PushFault}
use Rattle.tdl_expr.specs.declared.tables.PushFault.TheVariants.{NoMemory}
use Rattle.tdl_expr.specs.Tree.{Tree, Trees, Steps, Silence, TimeCat, empty, child, none, step}
use Rattle.tdl_expr.specs.Rows.{sum_links, IsRow, in_order, weighted, trees_of, tree_at}
use Rattle.tdl_expr.specs.Pushed.{overflow}

abbrev pub joined : (Trees → Tree) → Trees → Tree
joined kind empty = Silence
joined kind (child first empty) = first
joined kind (child first (child second others)) = kind (child first (child second others))

abbrev pub joined_steps : (Steps → Tree) → Steps → Tree
joined_steps kind none = Silence
joined_steps kind (step weight first none) = first
joined_steps kind (step weight first (step other second others)) = kind (step weight first (step other second others))

abbrev pub joined_rows : (Trees → Tree) → List Node → List NodeId → Tree
joined_rows kind nodes ids = joined kind (in_order (trees_of nodes) ids)

abbrev pub shared_rows : List Node → List Step → Tree
shared_rows nodes steps = joined_steps TimeCat (weighted (trees_of nodes) steps)

abbrev pub join_rows : ℕ → ℕ
join_rows zero = 1
join_rows (suc zero) = 0
join_rows (suc (suc others)) = 1

abbrev pub join_links : ℕ → ℕ
join_links zero = 0
join_links (suc zero) = 0
join_links (suc (suc others)) = suc (suc others)

-- a row joins so many children in a tree
pub record Joins (old new : List Node) (tree : Tree) (count : ℕ) (id : NodeId) : Type 0 where
  -- it is a row of the table, and stands for the tree
  pub row : IsRow new id
  pub is : tree_at new id ≡ tree
  -- the table gained these nodes, after its own
  pub added : List Node
  pub nodes : new ≡ old ++ added
  pub rows : length added ≡ join_rows count
  pub links : sum_links added ≡ join_links count
  -- older rows stand for what they stood for
  pub older : (other : NodeId) → IsRow old other → tree_at new other ≡ tree_at old other

-- why a join of so many children is refused, if it is: one child needs no row
abbrev pub join_overflow : List Node → ℕ → Option PushFault
join_overflow nodes zero = overflow (length nodes + 1) (sum_links nodes)
join_overflow nodes (suc zero) = None
join_overflow nodes (suc (suc others)) = overflow (length nodes + 1) (sum_links nodes + suc (suc others))

-- a join of so many children answers a row for the tree, or why there is none
pub record JoinsTo (old new : List Node) (tree : Tree) (count : ℕ) (result : Result NodeId PushFault) : Type 0 where
  pub ok : IfOk result (Joins old new tree count)
  -- what is too large is refused, or memory runs out before that
  pub refused : IfSome (join_overflow old count) (λ fault. (result ≡ Err fault) ⊎ (result ≡ Err NoMemory))
  pub only : IfErr result (λ fault. (join_overflow old count ≡ Some fault) ⊎ (fault ≡ NoMemory))
  -- a refusal leaves the table as it was
  pub err : OnErr result (new ≡ old)
