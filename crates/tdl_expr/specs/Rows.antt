-- The nodes of a table, row by row, and the trees that the rows stand for.
--     children       the rows that a node names, each as often as it is named, in order
--     links_of       how often it names a row
--     IsNode         what a node needs so that it can follow so many rows
--     IsTable        each node can follow the rows before it, and a table's limits hold
--     tree_of        the tree of a node, of the trees of the rows that it may name
--     trees_of       the trees of the rows, each over those before it
--     tree_at        the tree of a row
use Rattle.std.specs.Prelude.{ℕ, ◌^◌, ◌<◌, ◌≤◌, pos, List, [], ◌∷◌, ◌++◌, map, length, get_or, All, sum_by}
use Rattle.tdl_fraction.specs.Rational.{whole, ◌<ℚ◌}
use Rattle.tdl_expr.specs.declared.ids.NodeId.{NodeId}
use Rattle.tdl_expr.specs.declared.steps.Step.{Step}
use Rattle.tdl_expr.specs.declared.nodes.Node.{Node}
use Rattle.tdl_expr.specs.declared.nodes.Node.TheVariants.{Silence, Pure, Fast, TimeCat, Cat, Stack, Rev, Pick, When, Shift, Join, Ply, Gate}
use Rattle.tdl_expr.specs.Tree.{Tree, Trees, Steps}
use Rattle.tdl_expr.specs.Tree as tree

abbrev pub children : Node → List NodeId
children Silence = []
children (Pure leaf) = []
children (Fast rate id) = id ∷ []
children (TimeCat steps) = map (λ s. s.child) steps
children (Cat ids) = ids
children (Stack ids) = ids
children (Rev id) = id ∷ []
children (Pick selector ids) = selector ∷ ids
children (When modulus test met other) = met ∷ other ∷ []
children (Shift by id) = id ∷ []
children (Join side op left right) = left ∷ right ∷ []
children (Ply times id) = id ∷ []
children (Gate from to inside id) = id ∷ []

abbrev pub links_of : Node → ℕ
links_of node = length (children node)

abbrev pub sum_links : List Node → ℕ
sum_links nodes = sum_by links_of nodes

-- at least one, and at most 2^31
abbrev pub IsCount : ℕ → Type 0
IsCount count = (1 ≤ count) × (count ≤ 2 ^ 31)

-- lists are not empty, nor too long
abbrev pub HasCounts : Node → Type 0
HasCounts Silence = Unit {0}
HasCounts (Pure leaf) = Unit {0}
HasCounts (Fast rate id) = Unit {0}
HasCounts (TimeCat steps) = IsCount (length steps)
HasCounts (Cat ids) = IsCount (length ids)
HasCounts (Stack ids) = IsCount (length ids)
HasCounts (Rev id) = Unit {0}
HasCounts (Pick selector ids) = IsCount (length ids)
HasCounts (When modulus test met other) = Unit {0}
HasCounts (Shift by id) = Unit {0}
HasCounts (Join side op left right) = Unit {0}
HasCounts (Ply times id) = Unit {0}
HasCounts (Gate from to inside id) = Unit {0}

-- a rate is above 0, and so are rounds, times and weights, whose sum is not too great
abbrev pub HasShares : Node → Type 0
HasShares Silence = Unit {0}
HasShares (Pure leaf) = Unit {0}
HasShares (Fast rate id) = whole (pos 0) <ℚ rate
HasShares (TimeCat steps) = All (λ s. 0 < s.weight) steps × (sum_by (λ s. s.weight) steps ≤ 2 ^ 40)
HasShares (Cat ids) = Unit {0}
HasShares (Stack ids) = Unit {0}
HasShares (Rev id) = Unit {0}
HasShares (Pick selector ids) = Unit {0}
HasShares (When modulus test met other) = 0 < modulus
HasShares (Shift by id) = Unit {0}
HasShares (Join side op left right) = Unit {0}
HasShares (Ply times id) = 0 < times
HasShares (Gate from to inside id) = Unit {0}

pub record IsNode (rows : ℕ) (node : Node) : Type 0 where
  pub below : All (λ id. id.index < rows) (children node)
  pub counts : HasCounts node
  pub shares : HasShares node

abbrev pub IsRow : List Node → NodeId → Type 0
IsRow nodes id = id.index < length nodes

abbrev pub max_rows : ℕ
max_rows = 2048

abbrev pub max_links : ℕ
max_links = 8192

pub record IsTable (nodes : List Node) : Type 0 where
  pub each : (k : ℕ) → k < length nodes → IsNode k (get_or nodes k Silence)
  pub rows : length nodes ≤ max_rows
  pub links : sum_links nodes ≤ max_links

-- the tree of a row, of the trees of all; past the last row it is silence
abbrev pub row : List Tree → NodeId → Tree
row trees id = get_or trees id.index tree.Silence

abbrev pub in_order : List Tree → List NodeId → Trees
in_order trees [] = tree.empty
in_order trees (id ∷ ids) = tree.child (row trees id) (in_order trees ids)

abbrev pub weighted : List Tree → List Step → Steps
weighted trees [] = tree.none
weighted trees (s ∷ steps) = tree.step s.weight (row trees s.child) (weighted trees steps)

abbrev pub tree_of : List Tree → Node → Tree
tree_of trees Silence = tree.Silence
tree_of trees (Pure leaf) = tree.Pure leaf
tree_of trees (Fast rate id) = tree.Fast rate (row trees id)
tree_of trees (TimeCat steps) = tree.TimeCat (weighted trees steps)
tree_of trees (Cat ids) = tree.Cat (in_order trees ids)
tree_of trees (Stack ids) = tree.Stack (in_order trees ids)
tree_of trees (Rev id) = tree.Rev (row trees id)
tree_of trees (Pick selector ids) = tree.Pick (row trees selector) (in_order trees ids)
tree_of trees (When modulus test met other) = tree.When modulus test (row trees met) (row trees other)
tree_of trees (Shift by id) = tree.Shift by (row trees id)
tree_of trees (Join side op left right) = tree.Join side op (row trees left) (row trees right)
tree_of trees (Ply times id) = tree.Ply times (row trees id)
tree_of trees (Gate from to inside id) = tree.Gate from to inside (row trees id)

-- the trees of further rows, after those that are there
abbrev pub trees_on : List Tree → List Node → List Tree
trees_on trees [] = trees
trees_on trees (node ∷ nodes) = trees_on (trees ++ tree_of trees node ∷ []) nodes

abbrev pub trees_of : List Node → List Tree
trees_of nodes = trees_on [] nodes

abbrev pub tree_at : List Node → NodeId → Tree
tree_at nodes id = row (trees_of nodes) id
