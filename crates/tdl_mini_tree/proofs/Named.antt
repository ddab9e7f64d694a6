-- The layers of a syntax tree by their names, each over those before it.
--     named-at       layers by their name are those that stand there
--     named_valid    and they are valid over those before them
--     named-past     past the last there are none
use Rattle.std.proofs.Common.{◌≡◌, ℕ, zero, suc, ◌+◌, ◌<◌, ◌≤◌, List, [], ◌∷◌, ◌++◌, length, take, get_or}
use Rattle.std.proofs.Common.{IsTrue, refl, sym, ap, ◌∙◌, subst, arith, length-append}
use Rattle.std.proofs.lemmas.List.{get_or_past}
use Rattle.std.proofs.Math.ListN.{get_or-append}
use Rattle.std.proofs.Math.Seq.{get_or-append_seam}
use Rattle.tdl_mini_tree.specs.declared.leaves.Kind.{Kind}
use Rattle.tdl_mini_tree.specs.declared.tree.NestId.{NestId}
use Rattle.tdl_mini_tree.specs.declared.tree.Layers.{Layers}
use Rattle.tdl_mini_tree.specs.View.{trees_on, trees_of, named, layers_of}
use Rattle.tdl_mini_tree.specs.Valid.{is_valid}
use Rattle.tdl_mini_tree.specs.Tree as tree

one_more : (trees : List tree.Layers) (t : tree.Layers) → length (trees ++ t ∷ []) ≡ length trees + 1
one_more trees t = length-append trees (t ∷ [])

stay : (trees : List tree.Layers) (nests : List Layers) (k : ℕ) → k < length trees
    → get_or (trees_on trees nests) k tree.no_layer ≡ get_or trees k tree.no_layer
stay trees [] k h = refl
stay trees (ls ∷ nests) k h =
    let t = layers_of trees ls.sequences.items in
    let further : k < length (trees ++ t ∷ []) = omega (arith, one_more trees t) in
    stay (trees ++ t ∷ []) nests k further ∙ get_or-append trees (t ∷ []) tree.no_layer k h

tree_on : (trees : List tree.Layers) (nests : List Layers) (i : ℕ) (d : Layers) → i < length nests
    → get_or (trees_on trees nests) (length trees + i) tree.no_layer ≡ layers_of (trees_on trees (take i nests)) (get_or nests i d).sequences.items
tree_on trees [] i d h = absurd (omega arith)
tree_on trees (ls ∷ nests) zero d h =
    let t = layers_of trees ls.sequences.items in
    let within : length trees < length (trees ++ t ∷ []) = omega (arith, one_more trees t) in
    let at : ℕ → Type 0 = λ k. get_or (trees_on (trees ++ t ∷ []) nests) k tree.no_layer ≡ t in
    let same : length trees ≡ length trees + 0 = omega arith in
    subst at same (stay (trees ++ t ∷ []) nests (length trees) within ∙ get_or-append_seam trees t [] tree.no_layer)
tree_on trees (ls ∷ nests) (suc i) d h =
    let t = layers_of trees ls.sequences.items in
    let at : ℕ → Type 0 = λ k. get_or (trees_on (trees ++ t ∷ []) nests) k tree.no_layer ≡ layers_of (trees_on (trees ++ t ∷ []) (take i nests))
    (get_or nests i d).sequences.items in
    let same : length (trees ++ t ∷ []) + i ≡ length trees + suc i = omega (arith, one_more trees t) in
    let lt : i < length nests = omega arith in
    subst at same (tree_on (trees ++ t ∷ []) nests i d lt)

module _ (nests : List Layers) (id : NestId) (item : Layers) (h : id.index < length nests) (is : item ≡ get_or nests id.index item) where
  -- the tree of layers is over those before them
  pub named-at : named (trees_of nests) id ≡ layers_of (trees_of (take id.index nests)) item.sequences.items
  named-at =
      let same : 0 + id.index ≡ id.index = omega arith in
      let at : ℕ → Type 0 = λ k. get_or (trees_of nests) k tree.no_layer ≡ layers_of (trees_of (take id.index nests))
      (get_or nests id.index item).sequences.items in
      subst at same (tree_on [] nests id.index item h) ∙ ap (λ (ls : Layers). layers_of (trees_of (take id.index nests)) ls.sequences.items) (sym is)

  -- and valid over them
  pub named_valid : (kind : Kind) → IsTrue (is_valid kind (named (trees_of nests) id))
      → IsTrue (is_valid kind (layers_of (trees_of (take id.index nests)) item.sequences.items))
  named_valid kind v = let P : tree.Layers → Type 0 = λ ls. IsTrue (is_valid kind ls) in subst P named-at v

trees_length : (trees : List tree.Layers) (nests : List Layers) → length (trees_on trees nests) ≡ length trees + length nests
trees_length trees [] = omega arith
trees_length trees (ls ∷ nests) =
    let t = layers_of trees ls.sequences.items in
    omega (arith, trees_length (trees ++ t ∷ []) nests, one_more trees t)

-- past the last layers there are none
pub named-past : (nests : List Layers) (id : NestId) → length nests ≤ id.index → named (trees_of nests) id ≡ tree.no_layer
named-past nests id h = get_or_past (trees_of nests) id.index tree.no_layer (omega (arith, trees_length [] nests))
