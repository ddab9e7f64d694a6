-- What the parameters of trees mean.
--     meets        whether a number of passed cycles meets a test
--     value_of     how the values of a join's sides give one
--     join         the join whose wholes a side gives
use Rattle.std.specs.Prelude.{ℕ, suc, Bool, true, false, eqb, ltb, Option, Some, None}
use Rattle.tdl_control.specs.declared.leaves.Leaf.{Leaf}
use Rattle.tdl_control.specs.declared.leaves.Leaf.TheVariants.{Controls, Truth, Index}
use Rattle.tdl_control.specs.Combine.{combine}
use Rattle.tdl_expr.specs.declared.joinings.Op.{Op}
use Rattle.tdl_expr.specs.declared.joinings.Op.TheVariants.{Controls as ByKey, Struct, Mask}
use Rattle.tdl_expr.specs.declared.joinings.Side.{Side}
use Rattle.tdl_expr.specs.declared.joinings.Side.TheVariants.{Left, Right, Both}
use Rattle.tdl_expr.specs.declared.rounds.Test.{Test}
use Rattle.tdl_expr.specs.declared.rounds.Test.TheVariants.{Equal, AtLeast}
use Rattle.tdl_meaning.specs.Pattern.{Pattern}
use Rattle.tdl_meaning.specs.Kinds.{Joining, join_left, join_right, join_both}

abbrev pub meets : Test → ℕ → Bool
meets (Equal k) n = eqb n k
meets (AtLeast k) n = ltb k (suc n)

-- where the left value is true, the right one
abbrev pub held : Leaf → Leaf → Option Leaf
held (Truth true) right = Some right
held (Truth false) right = None
held (Controls left) right = None
held (Index left) right = None

-- maps are joined by the operation; by Struct there is the right value where the left one is true, and by Mask
-- the left value where the right one is; other pairs give none
abbrev pub value_of : Op → Joining
value_of (ByKey op) (Controls left) (Controls right) = Some (Controls (combine op left right))
value_of (ByKey op) (Controls left) (Truth right) = None
value_of (ByKey op) (Controls left) (Index right) = None
value_of (ByKey op) (Truth left) right = None
value_of (ByKey op) (Index left) right = None
value_of Struct left right = held left right
value_of Mask left right = held right left

abbrev pub join : Side → Joining → Pattern → Pattern → Pattern
join Left = join_left
join Right = join_right
join Both = join_both
