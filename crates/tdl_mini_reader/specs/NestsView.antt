-- What finished layers apart stand for.
--     trees_in         their trees, each over those before it
use Rattle.std.specs.Prelude.{List}
use Rattle.tdl_mini_reader.specs.declared.nests.Nests.{Nests}
use Rattle.tdl_mini_tree.specs.Tree as tree
use Rattle.tdl_mini_tree.specs.View.{trees_of}

abbrev pub trees_in : Nests → List tree.Layers
trees_in nests = trees_of nests.layers.items
