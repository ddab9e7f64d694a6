-- What is valid of a tree that the program has, over the trees of the layers that it names.
--     IsValidOperand   an operand in a text of a kind
--     IsValidNest      layers that are named, as a text of a kind
--     IsValidGroup     the elements of a group in a text of some kind, over some trees
use Rattle.std.specs.Prelude.{List, IsTrue}
use Rattle.tdl_mini_tree.specs.declared.leaves.Kind.{Kind}
use Rattle.tdl_mini_tree.specs.declared.tree.Element.{Element}
use Rattle.tdl_mini_tree.specs.declared.tree.NestId.{NestId}
use Rattle.tdl_mini_tree.specs.declared.tree.Operand.{Operand}
use Rattle.tdl_mini_tree.specs.Tree.{Layers}
use Rattle.tdl_mini_tree.specs.View.{named, operand_of, group_of}
use Rattle.tdl_mini_tree.specs.Valid.{is_valid, is_valid_operand, is_valid_group}

abbrev pub IsValidOperand : Kind → List Layers → Operand → Type 0
IsValidOperand kind trees operand = IsTrue (is_valid_operand kind (operand_of trees operand))

abbrev pub IsValidNest : Kind → List Layers → NestId → Type 0
IsValidNest kind trees id = IsTrue (is_valid kind (named trees id))

abbrev pub IsValidGroup : List Element → Type 0
IsValidGroup elements = (kind : Kind) × ((trees : List Layers) × IsTrue (is_valid_group kind (group_of trees elements)))
