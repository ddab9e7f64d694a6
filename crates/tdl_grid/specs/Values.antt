-- The values of items.
--     leaf_of     the leaf that is lent, or was made
use Rattle.tdl_control.specs.declared.leaves.Leaf.{Leaf}
use Rattle.tdl_grid.specs.declared.values.CowLeaf.{CowLeaf}
use Rattle.tdl_grid.specs.declared.values.CowLeaf.TheVariants.{Borrowed, Owned}

abbrev pub leaf_of : CowLeaf → Leaf
leaf_of (Borrowed leaf) = leaf.now
leaf_of (Owned leaf) = leaf
