-- Rows of functions that have another function in them, push by push.
use Rattle.std.proofs.Common.{pos, true, false, List, Result}
use Rattle.tdl_fraction.specs.Rational.{Rational}
use Rattle.tdl_expr.specs.declared.ids.NodeId.{NodeId}
use Rattle.tdl_expr.specs.declared.nodes.Node.{Node}
use Rattle.tdl_expr.specs.declared.tables.PushFault.{PushFault}
use Rattle.tdl_expr.specs.Tree.{Tree, Shift, Gate}
use Rattle.tdl_expr.specs.Rows.{IsRow, tree_at}
use Rattle.tdl_rows.specs.Built.{Built, one_row, ◌▸◌}
use Rattle.tdl_rows.specs.Lowers.{Refused, Lowers, LowersTo}
use Rattle.tdl_rows.specs.Stays.{row_after}
use Rattle.tdl_rows.proofs.Gained.{Refused-first}
use Rattle.tdl_combinator.specs.Makings.{Making, two, panned, jux_of, off_of, within_of}
use Rattle.tdl_combinator.proofs.Sequels.{next_row, next_refused}

-- the parts of `jux`, after each of its first two pushes
abbrev on_right : Making → Tree → Tree → Built Tree
on_right f r q = f r ▸ λ s. two q s

abbrev on_both : Making → Tree → Tree → Built Tree
on_both f q p = panned (pos 1) p ▸ λ r. on_right f r q

module _ (f : Making) (child left right : NodeId) {old one mid : List Node} (there : IsRow old child)
    (first : Lowers old one (panned (pos 0) (tree_at old child)) left) (second : Lowers one mid (panned (pos 1) (tree_at one child)) right) where
  pub jux_row : {last : List Node} {made : NodeId} (new : List Node) (result : Result NodeId PushFault) → Lowers mid last (f (tree_at mid right)) made
      → LowersTo last new (two (tree_at last left) (tree_at last made)) result → LowersTo old new (jux_of f (tree_at old child)) result
  jux_row new result third both =
      next_row new (panned (pos 0) (tree_at old child)) (on_both f) child there first result
      (next_row new (panned (pos 1) (tree_at one child)) (on_right f) left first.row second result
      (next_row new (f (tree_at mid right)) (λ s q. two q s) left (row_after second.gains left first.row) third result both))

  pub jux_refused : (new : List Node) (fault : PushFault) → Refused mid new (f (tree_at mid right)).rows fault
      → Refused old new (jux_of f (tree_at old child)).rows fault
  jux_refused new fault refused =
      next_refused new (panned (pos 0) (tree_at old child)) (on_both f) child there first fault
      (next_refused new (panned (pos 1) (tree_at one child)) (on_right f) left first.row second fault (Refused-first _ refused))

-- the part of `off` after its first push
abbrev after_shift : Making → Tree → Tree → Built Tree
after_shift f s p = f s ▸ λ q. two p q

module _ (f : Making) (by : Rational) (child later : NodeId) {old mid : List Node} (there : IsRow old child)
    (first : Lowers old mid (one_row 1 (Shift by (tree_at old child))) later) where
  pub off_row : {last : List Node} {made : NodeId} (new : List Node) (result : Result NodeId PushFault) → Lowers mid last (f (tree_at mid later)) made
      → LowersTo last new (two (tree_at last child) (tree_at last made)) result → LowersTo old new (off_of by f (tree_at old child)) result
  off_row new result second both =
      next_row new (one_row 1 (Shift by (tree_at old child))) (after_shift f) child there first result
      (next_row new (f (tree_at mid later)) (λ q p. two p q) child (row_after first.gains child there) second result both)

  pub off_refused : (new : List Node) (fault : PushFault) → Refused mid new (f (tree_at mid later)).rows fault
      → Refused old new (off_of by f (tree_at old child)).rows fault
  off_refused new fault refused = next_refused new (one_row 1 (Shift by (tree_at old child))) (after_shift f) child there first fault (Refused-first _ refused)

-- the parts of `within`, after the function and after the first gate
module _ (from to : Rational) (f : Making) (child made : NodeId) {old one : List Node} (there : IsRow old child)
    (first : Lowers old one (f (tree_at old child)) made) where
  abbrev outside : Tree → Tree → Built Tree
  outside i p = one_row 1 (Gate from to false p) ▸ λ o. two i o

  abbrev gates : Tree → Tree → Built Tree
  gates q p = one_row 1 (Gate from to true q) ▸ λ i. outside i p

  module _ {mid : List Node} {inner : NodeId} (second : Lowers one mid (one_row 1 (Gate from to true (tree_at one made))) inner) where
    pub within_row : {last : List Node} {outer : NodeId} (new : List Node) (result : Result NodeId PushFault)
        → Lowers mid last (one_row 1 (Gate from to false (tree_at mid child))) outer
        → LowersTo last new (two (tree_at last inner) (tree_at last outer)) result → LowersTo old new (within_of from to f (tree_at old child)) result
    within_row new result third both =
        next_row new (f (tree_at old child)) gates child there first result
        (next_row new (one_row 1 (Gate from to true (tree_at one made))) outside child (row_after first.gains child there) second result
        (next_row new (one_row 1 (Gate from to false (tree_at mid child))) (λ o i. two i o) inner second.row third result both))
