-- The first bracket of an operand.
--     first_values     its values are those of the operand
--     first_valid      it is valid in a valid operand
use Rattle.std.proofs.Common.{◌≡◌, Some, List, [], ◌∷◌, IsTrue, refl, ap, sym, ◌∙◌, subst, arith}
use Rattle.std.specs.Prelude.{slice_get}
use Rattle.std.specs.List.{fold}
use Rattle.tdl_mini_tree.specs.declared.leaves.Kind.{Kind}
use Rattle.tdl_mini_tree.specs.declared.tree.NestId.{NestId}
use Rattle.tdl_mini_tree.specs.declared.tree.Last.{Last}
use Rattle.tdl_mini_tree.specs.declared.tree.Last.TheVariants.{Number, Nest}
use Rattle.tdl_mini_tree.specs.Tree as tree
use Rattle.tdl_mini_tree.specs.View.{named, braces_of, operand_with}
use Rattle.tdl_mini_tree.specs.Values.{values_of, operand_values, braces_values}
use Rattle.tdl_mini_tree.specs.Valid.{is_valid, is_valid_operand}
use Rattle.tdl_mini_tree.proofs.ValidParts as parts

-- ---- values
braces_values_of : (trees : List tree.Layers) (bs : tree.Braces) (ls : tree.Layers) (ids : List NestId)
    → braces_values (fold (λ b id. tree.brace b (named trees id)) (tree.brace bs ls) ids) ≡ braces_values (tree.brace bs ls)
braces_values_of trees bs ls [] = refl
braces_values_of trees bs ls (id ∷ ids) = braces_values_of trees (tree.brace bs ls) (named trees id) ids

brace_some : (trees : List tree.Layers) (bs : tree.Braces) (ls : tree.Layers) (ids : List NestId) (last : Last)
    → operand_values (operand_with trees (fold (λ b id. tree.brace b (named trees id)) (tree.brace bs ls) ids) last) ≡ braces_values
    (fold (λ b id. tree.brace b (named trees id)) (tree.brace bs ls) ids)
brace_some trees bs ls [] (Number n) = refl
brace_some trees bs ls [] (Nest _ id) = refl
brace_some trees bs ls (first ∷ ids) last = brace_some trees (tree.brace bs ls) (named trees first) ids last

pub operand_values_of : (trees : List tree.Layers) (first : NestId) (ids : List NestId) (last : Last)
    → operand_values (operand_with trees (braces_of trees (first ∷ ids)) last) ≡ values_of (named trees first)
operand_values_of trees first ids last = brace_some trees tree.no_brace (named trees first) ids last
    ∙ braces_values_of trees tree.no_brace (named trees first) ids

pub first_values : (trees : List tree.Layers) (shown ids : List NestId) (first : NestId) (last : Last) → Some first ≡ slice_get shown 0 → shown ≡ ids
    → values_of (named trees first) ≡ operand_values (operand_with trees (braces_of trees ids) last)
first_values trees [] ids first last e is = cc
first_values trees (id ∷ shown) ids first last e is =
    let same : first ≡ id = cc in
    ap (λ i. values_of (named trees i)) same ∙ sym (operand_values_of trees id shown last)
    ∙ ap (λ is. operand_values (operand_with trees (braces_of trees is) last)) is

-- ---- rules
pub first_valid : (kind : Kind) (trees : List tree.Layers) (shown ids : List NestId) (first : NestId) (last : Last) → Some first ≡ slice_get shown 0
    → shown ≡ ids → IsTrue (is_valid_operand kind (operand_with trees (braces_of trees ids) last)) → IsTrue (is_valid kind (named trees first))
first_valid kind trees [] ids first last e is valid = cc
first_valid kind trees (id ∷ shown) ids first last e is valid =
    let same : first ≡ id = cc in
    let Q : NestId → Type 0 = λ i. IsTrue (is_valid kind (named trees i)) in
    subst Q (sym same) (parts.first_valid kind trees (id ∷ shown) ids last first (sym is) (omega arith) valid)
