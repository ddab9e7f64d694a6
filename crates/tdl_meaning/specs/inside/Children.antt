-- What the evaluator has to know of a node's children.
--     rows_needed     so many rows a table needs to have these
--     MayAskEach      an arc that may be asked of each of several trees
use Rattle.std.specs.Prelude.{ℕ, ◌+◌, max, List, [], ◌∷◌}
use Rattle.tdl_fraction.specs.Arc.{Arc}
use Rattle.tdl_expr.specs.declared.ids.NodeId.{NodeId}
use Rattle.tdl_expr.specs.Tree.{Tree, Trees}
use Rattle.tdl_meaning.specs.Asks.{IsChild}
use Rattle.tdl_meaning.specs.inside.Conditions.{MayAsk}

abbrev pub rows_needed : List NodeId → ℕ
rows_needed [] = 0
rows_needed (id ∷ ids) = max (id.index + 1) (rows_needed ids)

abbrev pub MayAskEach : Trees → Arc → Type 0
MayAskEach trees arc = (k : ℕ) (e : Tree) → IsChild k trees e → MayAsk e arc
