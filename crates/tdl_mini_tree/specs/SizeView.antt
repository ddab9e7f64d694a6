-- The sizes that the reader's stand for.
--     size_value       the size of a group
--     IsSizeWith       the size of the group of these elements and one more
--     held             with the last step longer by one
--     recounted        with so many steps of the last weight in place of so many
--     SizeFits         a size for which one of the reader's can stand
use Rattle.std.specs.Prelude.{◌≡◌, List, ℕ, ◌+◌, ◌-◌, ◌*◌, ◌^◌, ◌<◌}
use Rattle.tdl_mini_tree.specs.declared.sizes.Size.{Size}
use Rattle.tdl_mini_tree.specs.declared.tree.Element.{Element}
use Rattle.tdl_mini_tree.specs.Tree.{Layers, element}
use Rattle.tdl_mini_tree.specs.View.{group_of, element_of}
use Rattle.tdl_mini_tree.specs.Sizes as sizes
use Rattle.tdl_mini_tree.specs.Sizes.{unit, size_of}

abbrev pub size_value : Size → sizes.Size
size_value s = record { steps = s.steps; sum = s.sum; last = s.last }

abbrev pub held : sizes.Size → sizes.Size
held s = record { steps = s.steps; sum = s.sum + unit; last = s.last + unit }

abbrev pub recounted : sizes.Size → ℕ → ℕ → sizes.Size
recounted s before after = record { steps = (s.steps - before) + after; sum = (s.sum - before * s.last) + after * s.last; last = s.last }

abbrev pub IsSizeWith : Size → List Element → Element → Type 0
IsSizeWith size elements e = (trees : List Layers) → size_value size ≡ size_of (element (group_of trees elements) (element_of trees e))

pub record SizeFits (size : sizes.Size) : Type 0 where
  pub steps : size.steps < 2 ^ 64
  pub sum : size.sum < 2 ^ 64
  pub last : size.last < 2 ^ 64
