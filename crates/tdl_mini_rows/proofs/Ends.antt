-- The first and the last of lists, and operands by their last part.
use Rattle.std.proofs.Common.{◌≡◌, ℕ, zero, suc, ◌-◌, ◌<◌, ◌≤◌, List, [], ◌∷◌, ◌++◌, length, take, take_all, drop, get_or, Result, refl, sym, ap, ◌∙◌}
use Rattle.std.proofs.Common.{subst, arith}
use Rattle.tdl_fraction.specs.Rational.{Rational}
use Rattle.tdl_expr.specs.declared.args.Arg.{Arg}
use Rattle.tdl_expr.specs.declared.args.Arg.TheVariants.{Plain}
use Rattle.tdl_expr.specs.declared.ids.NodeId.{NodeId}
use Rattle.tdl_expr.specs.declared.nodes.Node.{Node}
use Rattle.tdl_expr.specs.declared.tables.PushFault.{PushFault}
use Rattle.tdl_expr.specs.Tree.{Silence}
use Rattle.tdl_mini_tree.specs.declared.leaves.Number.{Number as Numeral}
use Rattle.tdl_mini_tree.specs.declared.tree.NestId.{NestId}
use Rattle.tdl_mini_tree.specs.declared.tree.Last.{Last}
use Rattle.tdl_mini_tree.specs.declared.tree.Last.TheVariants.{Number}
use Rattle.tdl_mini_tree.specs.Numbers.{number_value}
use Rattle.tdl_mini_tree.specs.View.{operand_with, braces_of}
use Rattle.tdl_mini_tree.specs.Tree as tree
use Rattle.tdl_mini_rows.specs.declared.joins.WeightedRow.{WeightedRow}
use Rattle.tdl_rows.specs.Built.{Built, one_row, ◌▸◌}
use Rattle.tdl_rows.specs.Joined.{Weighted, Argument, plain, choose}
use Rattle.tdl_mini_rows.specs.Leaves.{Play}
use Rattle.tdl_mini_rows.specs.Lowered.{at_factor, paced_stack, layers_built, operand_built, factor_built}
use Rattle.tdl_rows.specs.Lowers.{LowersTo}
use Rattle.tdl_rows.specs.Arguments.{argument_at, LowersArg}
use Rattle.tdl_mini_rows.specs.inside.Views.{steps_at, LowersSteps}
use Rattle.tdl_rows.proofs.Gained.{Gains-none, LowersTo-then}
use Rattle.tdl_mini_rows.specs.inside.Stays.{steps_at-after}
use Rattle.tdl_mini_rows.proofs.Parts.{LowersArg-same}

pub nil_of : {X : Type 0} (xs : List X) → length xs ≤ 0 → xs ≡ []
nil_of [] h = refl
nil_of (x ∷ xs) h = absurd (omega arith)

pub first_of : {X : Type 0} (xs : List X) (d : X) → 1 ≤ length xs → xs ≡ get_or xs 0 d ∷ take (length xs - 1) (drop 1 xs)
first_of [] d h = absurd (omega arith)
first_of (x ∷ xs) d h = ap (λ ys. x ∷ ys) (sym (take_all (length (x ∷ xs) - 1) xs (omega arith)))

pub last_of : {X : Type 0} (xs : List X) (d : X) → 1 ≤ length xs → xs ≡ take (length xs - 1) xs ++ get_or xs (length xs - 1) d ∷ []
last_of [] d h = absurd (omega arith)
last_of (x ∷ []) d h = refl
last_of (x ∷ y ∷ xs) d h =
    let n : length (x ∷ y ∷ xs) - 1 ≡ suc (length (y ∷ xs) - 1) = omega arith in
    let P : ℕ → Type 0 = λ k. x ∷ y ∷ xs ≡ take k (x ∷ y ∷ xs) ++ get_or (x ∷ y ∷ xs) k d ∷ [] in
    subst P (sym n) (ap (λ zs. x ∷ zs) (last_of (y ∷ xs) d (omega arith)))

pub same_default : {X : Type 0} (xs : List X) (i : ℕ) (d e : X) → i < length xs → get_or xs i d ≡ get_or xs i e
same_default [] i d e h = absurd (omega arith)
same_default (x ∷ xs) zero d e h = refl
same_default (x ∷ xs) (suc i) d e h = same_default xs i d e (omega arith)

module _ (trees : List tree.Layers) where
  pub operand_none : (play : Play) (ids : List NestId) (last : Last) (n : Numeral) → ids ≡ [] → last ≡ Number n
      → one_row 0 Silence ≡ operand_built play (operand_with trees (braces_of trees ids) last)
  unfolding layers_built
  operand_none play ids last n e f =
      sym (ap (λ (is : List NestId). operand_built play (operand_with trees (braces_of trees is) last)) e
      ∙ ap (λ (l : Last). operand_built play (operand_with trees tree.no_brace l)) f)

  pub factor_plain : (nodes : List Node) (ids : List NestId) (last : Last) (n : Numeral) (x : Rational) → ids ≡ [] → last ≡ Number n → x ≡ number_value n
      → LowersArg nodes nodes (factor_built (operand_with trees (braces_of trees ids) last)) (Plain x)
  unfolding layers_built
  factor_plain nodes ids last n x e f g =
      let same = ap (λ (is : List NestId). factor_built (operand_with trees (braces_of trees is) last)) e
      ∙ ap (λ (l : Last). factor_built (operand_with trees tree.no_brace l)) f in
      LowersArg-same nodes nodes _ _ (Plain x) (sym same) (record { row = tt; few = omega arith; is = ap plain g; gains = Gains-none nodes })

-- sequences, and then their factor
pub factor_row : {old one two : List Node} {items : List WeightedRow} {argument : Arg} (new : List Node) (sequences : Built (List Weighted))
    (factor : Built Argument) (result : Result NodeId PushFault) → LowersSteps old one sequences items → LowersArg one two factor argument
    → LowersTo two new (choose (argument_at two argument) (λ r. paced_stack (steps_at two items) r)) result
    → LowersTo old new (at_factor sequences factor) result
factor_row {one = one} {two = two} {items = items} {argument = argument} new sequences factor result first second h =
    let P : Argument → Type 0 = λ a. LowersTo two new (choose a (paced_stack (steps_at two items))) result in
    let Q : List Weighted → Type 0 = λ ss. LowersTo two new (choose factor.value (paced_stack ss)) result in
    LowersTo-then new sequences (λ ss. factor ▸ λ a. choose a (paced_stack ss)) first.gains result
    (LowersTo-then new factor (λ a. choose a (paced_stack sequences.value)) second.gains result
    (subst Q (steps_at-after second.gains items first.rows ∙ first.are) (subst P second.is h)))
