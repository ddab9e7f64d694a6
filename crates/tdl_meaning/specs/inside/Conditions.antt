-- The condition of an evaluator.
--     HasRoom      a tree that may be asked for arcs of some grid and size: what is met is in range
--     MayAsk       an arc that may be asked of a tree
use Rattle.std.specs.Prelude.{ℕ, ◌<◌, ◌≤◌}
use Rattle.tdl_fraction.specs.Arc.{Arc}
use Rattle.tdl_expr.specs.Tree.{Tree}
use Rattle.tdl_expr.specs.Valid.{IsValid, max_fine, max_reach}
use Rattle.tdl_expr.specs.Bounds.{fine, reach}
use Rattle.tdl_meaning.specs.Ranges.{IsAsked}

pub record HasRoom (q m : ℕ) (e : Tree) : Type 0 where
  pub valid : IsValid e
  pub on_grid : 0 < q
  pub not_too_fine : fine e q ≤ max_fine
  pub not_too_far : reach e m ≤ max_reach

-- on some grid and of some size for which the tree has room
pub record MayAsk (e : Tree) (a : Arc) : Type 0 where
  pub q : ℕ
  pub m : ℕ
  pub room : HasRoom q m e
  pub asked : IsAsked q m a
