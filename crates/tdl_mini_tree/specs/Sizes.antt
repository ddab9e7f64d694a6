-- How large sequences and groups are.
--     Size             of a group: its steps, the sum of their weights and the last weight, in ten-thousandths
--     size_of          the size of a group
--     steps_of         how many steps a sequence has in all its groups
--     groups_of        how many groups it has
--     is_within        a sequence with so many steps in the groups before may have a group of this size
use Rattle.std.specs.Prelude.{ℕ, suc, ◌+◌, ◌*◌, Bool, ◌&&◌, nat_le, nat_abs, ◌-ℤ◌, Option, Some, None}
use Rattle.tdl_mini_tree.specs.Limits.{max_steps, max_weights}
pub use Rattle.tdl_mini_tree.specs.Limits.{unit}
use Rattle.tdl_mini_tree.specs.declared.leaves.Number.{Number}
use Rattle.tdl_mini_tree.specs.Numbers.{signed, weight_parts}
use Rattle.tdl_mini_tree.specs.Tree.{Group, no_element, element, Element, played, range, hold, repeat, Sequence, no_group, group}

pub record Size : Type 0 where
  pub steps : ℕ
  pub sum : ℕ
  pub last : ℕ

-- further steps of this weight
abbrev pub and_steps : Size → ℕ → ℕ → Size
and_steps size times weight = record { steps = size.steps + times; sum = size.sum + times * weight; last = weight }

abbrev pub weight_of : Option Number → ℕ
weight_of None = unit
weight_of (Some n) = weight_parts n

abbrev pub times_of : Option Number → ℕ
times_of None = 1
times_of (Some n) = n.whole

-- how many whole numbers there are from one to another
abbrev pub range_length : Number → Number → ℕ
range_length a b = suc (nat_abs (signed b.is_negative b.whole -ℤ signed a.is_negative a.whole))

abbrev pub size_with : Size → Element → Size
size_with size (played s weight times) = and_steps size (times_of times) (weight_of weight)
size_with size (range a b) = and_steps size (range_length a b) unit
size_with size hold = record { steps = size.steps; sum = size.sum + unit; last = size.last + unit }
size_with size repeat = and_steps size 1 size.last

abbrev pub size_of : Group → Size
size_of no_element = record { steps = 0; sum = 0; last = 0 }
size_of (element g e) = size_with (size_of g) e

abbrev pub steps_of : Sequence → ℕ
steps_of no_group = 0
steps_of (group s g) = steps_of s + (size_of g).steps

abbrev pub groups_of : Sequence → ℕ
groups_of no_group = 0
groups_of (group s g) = suc (groups_of s)

-- at most 1,024 steps, and weights of at most 16,384
abbrev pub is_within : ℕ → Size → Bool
is_within before size = nat_le (before + size.steps) max_steps && nat_le size.sum (max_weights * unit)
