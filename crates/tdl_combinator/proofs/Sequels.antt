-- Rows that are made one after another, of a row that was just made and of an older one.
use Rattle.std.proofs.Common.{List, Result, Ok, refl, subst}
use Rattle.tdl_expr.specs.declared.ids.NodeId.{NodeId}
use Rattle.tdl_expr.specs.declared.nodes.Node.{Node}
use Rattle.tdl_expr.specs.declared.tables.PushFault.{PushFault}
use Rattle.tdl_expr.specs.Tree.{Tree}
use Rattle.tdl_expr.specs.Rows.{IsRow, tree_at}
use Rattle.tdl_rows.specs.Built.{Built, kept, ◌▸◌}
use Rattle.tdl_rows.specs.Lowers.{Refused, Lowers, LowersTo}
use Rattle.tdl_rows.proofs.Gained.{Gains-none, LowersTo-after, Refused-append}

module _ {old mid : List Node} {id : NodeId} (new : List Node) (built : Built Tree) (f : Tree → Tree → Built Tree) (other : NodeId)
    (row : IsRow old other) (first : Lowers old mid built id) where
  pub next_row : (result : Result NodeId PushFault) → LowersTo mid new (f (tree_at mid id) (tree_at mid other)) result
      → LowersTo old new (built ▸ λ t. f t (tree_at old other)) result
  next_row result second =
      let P : Tree → Type 0 = λ t. LowersTo mid new (f (tree_at mid id) t) result in
      LowersTo-after new built (λ t. f t (tree_at old other)) first result (subst P (first.gains.older other row) second)

  pub next_refused : (fault : PushFault) → Refused mid new (f (tree_at mid id) (tree_at mid other)).rows fault
      → Refused old new (built ▸ λ t. f t (tree_at old other)).rows fault
  next_refused fault second =
      let P : Tree → Type 0 = λ t. Refused mid new (f (tree_at mid id) t).rows fault in
      let Q : Tree → Type 0 = λ t. Refused mid new (f t (tree_at old other)).rows fault in
      Refused-append first.gains (subst Q first.is (subst P (first.gains.older other row) second))

-- a row that is there already
pub kept_row : (nodes : List Node) (id : NodeId) → IsRow nodes id → LowersTo nodes nodes (kept (tree_at nodes id)) (Ok id)
kept_row nodes id h = record { row = h; is = refl; gains = Gains-none nodes }
