-- Parts of valid texts, and the numbers of a range.
use Rattle.std.specs.Prelude.{ℕ, Bool, ℤ, pos, ◌+ℤ◌, ◌-ℤ◌, if◌then◌else◌, List, IsTrue}
use Rattle.tdl_mini_tree.specs.declared.leaves.Kind.{Kind}
use Rattle.tdl_mini_tree.specs.declared.tree.Group.{Group}
use Rattle.tdl_mini_tree.specs.declared.tree.Sequence.{Sequence}
use Rattle.tdl_mini_tree.specs.Tree.{Layers}
use Rattle.tdl_mini_tree.specs.Valid.{is_valid, is_valid_sequence}
use Rattle.tdl_mini_tree.specs.View.{layers_of, sequence_of}

-- the number after so many others, rising or falling by one
abbrev pub number_at : Bool → ℤ → ℕ → ℤ
number_at rising from i = if rising then from +ℤ pos i else from -ℤ pos i

abbrev pub IsValid : Layers → Type 0
IsValid ls = (kind : Kind) × IsTrue (is_valid kind ls)

abbrev pub IsValidLayers : List Sequence → Type 0
IsValidLayers sequences = (kind : Kind) × ((trees : List Layers) × IsTrue (is_valid kind (layers_of trees sequences)))

abbrev pub IsValidSequence : List Group → Type 0
IsValidSequence groups = (kind : Kind) × ((trees : List Layers) × IsTrue (is_valid_sequence kind (sequence_of trees groups)))
