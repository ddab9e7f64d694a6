-- The list of layers of a syntax tree, with one more at its end.
--     trees_of-append    what the longer list stands for; length-trees_of: its length
use Rattle.std.proofs.Common.{◌≡◌, ◌+◌, List, [], ◌∷◌, ◌++◌, length, refl, arith, length-append}
use Rattle.tdl_mini_tree.specs.declared.tree.Layers.{Layers}
use Rattle.tdl_mini_tree.specs.View.{layers_of, trees_on, trees_of}
use Rattle.tdl_mini_tree.specs.Tree as tree

-- ---- the list of layers
pub trees_on-append : (trees : List tree.Layers) (nests : List Layers) (ls : Layers)
    → trees_on trees (nests ++ ls ∷ []) ≡ trees_on trees nests ++ layers_of (trees_on trees nests) ls.sequences.items ∷ []
trees_on-append trees [] ls = refl
trees_on-append trees (first ∷ nests) ls = trees_on-append (trees ++ layers_of trees first.sequences.items ∷ []) nests ls

pub trees_of-append : (nests : List Layers) (ls : Layers) → trees_of (nests ++ ls ∷ []) ≡ trees_of nests ++ layers_of (trees_of nests) ls.sequences.items ∷ []
trees_of-append nests ls = trees_on-append [] nests ls

length-trees_on : (trees : List tree.Layers) (nests : List Layers) → length (trees_on trees nests) ≡ length trees + length nests
length-trees_on trees [] = omega arith
length-trees_on trees (ls ∷ nests) =
    let more = length-trees_on (trees ++ layers_of trees ls.sequences.items ∷ []) nests in
    omega (arith, more, length-append trees (layers_of trees ls.sequences.items ∷ []))

pub length-trees_of : (nests : List Layers) → length (trees_of nests) ≡ length nests
length-trees_of nests = omega (arith, length-trees_on [] nests)
