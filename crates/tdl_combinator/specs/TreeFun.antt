-- Functions on patterns, whose operands are trees.
--     TreeFun      a function on patterns: its numbers are arguments, and its texts and operands are trees
use Rattle.tdl_control.specs.declared.ops.MapOp.{MapOp}
use Rattle.tdl_fraction.specs.Rational.{Rational}
use Rattle.tdl_expr.specs.declared.joinings.Side.{Side}
use Rattle.tdl_expr.specs.Tree.{Tree}
use Rattle.tdl_rows.specs.Joined.{Argument}

pub data TreeFun : Type 0 where
  Same : TreeFun
  Fast : Argument → TreeFun
  Slow : Argument → TreeFun
  Rev : TreeFun
  Every : Argument → TreeFun → TreeFun
  -- how many cycles a round has, and the one in which the function is applied
  EveryAt : Argument → Argument → TreeFun → TreeFun
  -- how many cycles a round has, and the one from which on the function is applied
  WhenMod : Argument → Argument → TreeFun → TreeFun
  Off : Argument → TreeFun → TreeFun
  Superimpose : TreeFun → TreeFun
  Jux : TreeFun → TreeFun
  Later : Argument → TreeFun
  Earlier : Argument → TreeFun
  Ply : Argument → TreeFun
  Segment : Argument → TreeFun
  Struct : Tree → TreeFun
  Mask : Tree → TreeFun
  Within : Rational → Rational → TreeFun → TreeFun
  Iter : Argument → TreeFun
  Palindrome : TreeFun
  Brak : TreeFun
  -- how many hits, in how many steps, from which step on
  Euclid : Argument → Argument → Argument → TreeFun
  Const : Tree → TreeFun
  Section : Side → MapOp → Tree → TreeFun
  -- one after another
  Chain : TreeFun → TreeFun → TreeFun
