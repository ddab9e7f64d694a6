-- The layers of a text, from the tree that the program has of it.
use Rattle.tdl_mini_tree.specs.declared.tree.Tree.{Tree}
use Rattle.tdl_mini_tree.specs.View.{trees_of, named}
use Rattle.tdl_mini_tree.specs.Tree.{Layers}

abbrev pub syntax_of : Tree → Layers
syntax_of t = named (trees_of t.nests.items) t.root
