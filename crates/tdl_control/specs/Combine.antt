-- How two control maps are joined.
use Rattle.std.specs.Prelude.{ℤ, ◌+ℤ◌, ◌-ℤ◌, ◌*ℤ◌, [], ◌∷◌, Option, Some, None}
use Rattle.std.specs.Int.{w32, saturate_signed}
use Rattle.tdl_control.specs.declared.ops.MapOp.{MapOp}
use Rattle.tdl_control.specs.declared.ops.MapOp.TheVariants.{Union, Add, Sub, Mul}
use Rattle.tdl_control.specs.Setting.{Setting, Number}
use Rattle.tdl_control.specs.Map.{KeyValues, lookup, put}

-- left op right, and the nearest number of 32 bits where that is none
abbrev pub number_of : MapOp → ℤ → ℤ → ℤ
number_of Union x y = y
number_of Add x y = saturate_signed w32 (x +ℤ y)
number_of Sub x y = saturate_signed w32 (x -ℤ y)
number_of Mul x y = saturate_signed w32 (x *ℤ y)

-- under a common key: the right value by Union; else numbers by the operation, and the left word
abbrev pub combined : MapOp → Setting → Setting → Setting
combined Union left right = right
combined op (Number x) (Number y) = Number (number_of op x y)
combined op left right = left

-- the left value, if there is one, with the right one
abbrev pub onto : MapOp → Option Setting → Setting → Setting
onto op None right = right
onto op (Some left) right = combined op left right

-- the keys of both, and under a common key the two values joined
abbrev pub combine : MapOp → KeyValues → KeyValues → KeyValues
combine op left [] = left
combine op left (entry ∷ right) = put (combine op left right) entry.0 (onto op (lookup left entry.0) entry.1)
