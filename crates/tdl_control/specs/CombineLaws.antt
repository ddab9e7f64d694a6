-- What a join of two maps is, said of what its keys have.
use Rattle.std.specs.Prelude.{◌≡◌, Option, Some, None}
use Rattle.tdl_control.specs.declared.keys.Key.{Key}
use Rattle.tdl_control.specs.declared.ops.MapOp.{MapOp}
use Rattle.tdl_control.specs.Setting.{Setting}
use Rattle.tdl_control.specs.Map.{KeyValues, lookup, IsTyped, IsMap}
use Rattle.tdl_control.specs.Combine.{combined, combine}

-- what a key has in the join, from what it has in the two
abbrev pub joined_setting : MapOp → Option Setting → Option Setting → Option Setting
joined_setting op None right = right
joined_setting op (Some left) None = Some left
joined_setting op (Some left) (Some right) = Some (combined op left right)

pub record CombineLaws : Type 0 where
  -- each key has what its two settings make
  pub each_key : (op : MapOp) (left right : KeyValues) (key : Key)
      → lookup (combine op left right) key ≡ joined_setting op (lookup left key) (lookup right key)
  -- a map stays a map, and of the right one only its settings matter
  pub keeps : (op : MapOp) (left right : KeyValues) → IsMap left → IsTyped right → IsMap (combine op left right)
