-- Pattern trees.
--     Tree      a node of one kind, with trees as its children
--     Trees     trees in order
--     Steps     trees with their weights, in order
use Rattle.std.specs.Prelude.{ℕ, Bool}
use Rattle.tdl_control.specs.declared.leaves.Leaf.{Leaf}
use Rattle.tdl_fraction.specs.Rational.{Rational}
use Rattle.tdl_expr.specs.declared.joinings.Op.{Op}
use Rattle.tdl_expr.specs.declared.joinings.Side.{Side}
use Rattle.tdl_expr.specs.declared.rounds.Test.{Test}

mutual
  pub data Tree : Type 0 where
    Silence : Tree
    Pure : Leaf → Tree
    Fast : Rational → Tree → Tree
    TimeCat : Steps → Tree
    Cat : Trees → Tree
    Stack : Trees → Tree
    Rev : Tree → Tree
    -- a selector, and the trees among which it chooses
    Pick : Tree → Trees → Tree
    -- how many cycles a round has, the tree where the test is met, and the one elsewhere
    When : ℕ → Test → Tree → Tree → Tree
    Shift : Rational → Tree → Tree
    -- the left side, and the right one
    Join : Side → Op → Tree → Tree → Tree
    Ply : ℕ → Tree → Tree
    -- from where in a cycle up to where, and whether what starts there passes, or what starts elsewhere
    Gate : Rational → Rational → Bool → Tree → Tree

  pub data Trees : Type 0 where
    empty : Trees
    child : Tree → Trees → Trees

  pub data Steps : Type 0 where
    none : Steps
    step : ℕ → Tree → Steps → Steps
