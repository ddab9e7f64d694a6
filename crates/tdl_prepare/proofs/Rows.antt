-- Rows of expressions that are pushed one after another.
use Rattle.std.proofs.Common.{◌≡◌, ℕ, ◌+◌, ◌<◌, ◌≤◌, List, [], ◌∷◌, ◌++◌, length, take, get_or, Result, ap, ◌∙◌, subst, arith, length-append}
use Rattle.std.specs.List.{fold}
use Rattle.tdl_expr.specs.declared.ids.NodeId.{NodeId}
use Rattle.tdl_expr.specs.declared.nodes.Node.{Node}
use Rattle.tdl_expr.specs.declared.tables.PushFault.{PushFault}
use Rattle.tdl_expr.specs.Tree.{Tree}
use Rattle.tdl_rows.specs.Built.{Built, kept, ◌▸◌, and_next, each}
use Rattle.tdl_rows.specs.Lowers.{Refused, Lowers, LowersTo, trees_at}
use Rattle.tdl_rows.specs.inside.Views.{LowersIds}
use Rattle.tdl_rows.proofs.Gained.{Refused-append, Refused-first, LowersTo-then}
use Rattle.tdl_rows.proofs.Loops.{length-ids, run_refused, LowersIds-more}
use Rattle.tdl_mini_rows.proofs.RowCounts.{rows-few}

module _ {X : Type 0} (f : X → Built Tree) (xs : List X) (i : ℕ) (x : X) (lt : i < length xs) (is : x ≡ get_or xs i x) {old mid : List Node}
    {ids : List NodeId} (before : LowersIds old mid (each f (take i xs)) ids) where
  -- one row more
  pub rows_more : {new : List Node} {id : NodeId} (more : List NodeId) → more ≡ ids ++ id ∷ [] → Lowers mid new (f x) id
      → LowersIds old new (each f (take (i + 1) xs)) more
  rows_more {new = new} {id = id} more e made =
      let P : X → Type 0 = λ y. Lowers mid new (f y) id in
      LowersIds-more f xs i x more lt e before (subst P is made)

  -- what is refused of one is refused of all
  pub rows_refused : {new : List Node} {fault : PushFault} → Refused mid new (f x).rows fault → Refused old new (each f xs).rows fault
  rows_refused {new = new} {fault = fault} refused =
      let P : X → Type 0 = λ y. Refused mid new (f y).rows fault in
      let G : List Tree → X → Built (List Tree) = λ ys y. f y ▸ λ t. kept (ys ++ t ∷ []) in
      run_refused G (kept []) xs i x lt old new fault (Refused-append before.gains (Refused-first [] (subst P is refused)))

-- each of them has a row at least
module _ {X : Type 0} (f : X → Built Tree) (some : (x : X) → 1 ≤ length (f x).rows) where
  rows_from : (b : Built (List Tree)) (xs : List X) → length b.rows + length xs ≤ length (fold (and_next f) b xs).rows
  rows_from b [] = omega arith
  rows_from b (x ∷ xs) =
      let next = and_next f b x in
      let more = length-append b.rows ((f x).rows ++ []) in
      let rest = length-append (f x).rows [] in
      omega (arith, rows_from next xs, more, rest, some x)

  -- no more of them than a table has rows
  pub rows_few : {old new : List Node} (xs : List X) (ids : List NodeId) → LowersIds old new (each f xs) ids → length ids ≤ 2048
  rows_few xs ids made = omega (arith, length-ids f xs ids made, rows_from (kept []) xs, rows-few made.gains)

-- a row that joins them
pub joined_rows_are : {X : Type 0} {old mid : List Node} (f : X → Built Tree) (xs : List X) (k : List Tree
    → Built Tree) (ids named : List NodeId) (new : List Node)
    (result : Result NodeId PushFault) → LowersIds old mid (each f xs) ids → named ≡ ids → LowersTo mid new (k (trees_at mid named)) result
    → LowersTo old new (each f xs ▸ k) result
joined_rows_are {mid = mid} f xs k ids named new result made e joined =
    let P : List Tree → Type 0 = λ ts. LowersTo mid new (k ts) result in
    LowersTo-then new (each f xs) k made.gains result (subst P (ap (trees_at mid) e ∙ made.are) joined)
