-- Ratios and counts as arguments: plain numbers, and texts.
use Rattle.std.proofs.Common.{Box, Global, ◌≡◌, List, [], Result, Ok, Err, IfOk, sym, subst}
use Rattle.std.specs.List.{All}
use Rattle.std.proofs.lemmas.List.Elements.{All-nil, All-cons}
use Rattle.tdl_expr.specs.declared.args.Arg.{Arg}
use Rattle.tdl_expr.specs.declared.args.Arg.TheVariants.{Plain, Chosen}
use Rattle.tdl_expr.specs.declared.nodes.Node.{Node}
use Rattle.tdl_expr.specs.declared.tables.PushFault.{PushFault}
use Rattle.tdl_mini_tree.specs.declared.leaves.Kind.{Kind}
use Rattle.tdl_mini_tree.specs.declared.tree.Tree.{Tree}
use Rattle.tdl_mini_tree.specs.Syntax.{syntax_of}
use Rattle.tdl_rows.specs.Arguments.{argument_at, numbers_of, HasBoundedParts, LowersToArg}
use Rattle.tdl_rows.specs.Built.{Built}
use Rattle.tdl_rows.specs.Joined.{Argument}
use Rattle.tdl_mini_rows.specs.Arguments.{IsArgumentOf}
use Rattle.tdl_mini_rows.specs.Lowered.{argument_of}
use Rattle.tdl_command.specs.declared.tree.Ratio.{Ratio}
use Rattle.tdl_command.specs.declared.tree.Ratio.TheVariants as ratio
use Rattle.tdl_command.specs.declared.tree.Count.{Count}
use Rattle.tdl_command.specs.declared.tree.Count.TheVariants as count
use Rattle.tdl_prepare.specs.Numbers.{ratio_built, count_built}
use Rattle.tdl_command.specs.View.{ratio_of, count_of}
use Rattle.tdl_prepare.specs.inside.Views.{LowersToNumber}

numbers_bounded : (kind : Kind) (nodes : List Node) (a : Arg) → IsArgumentOf kind (argument_at nodes a) → All HasBoundedParts (numbers_of a)
numbers_bounded kind nodes (Plain x) h = All-cons HasBoundedParts x [] h.bounded (All-nil HasBoundedParts)
numbers_bounded kind nodes (Chosen selector values) h = λ k d lt. (h.each k d lt).bounded

-- an argument of a kind has numbers of bounded parts
number_lowered : (old new : List Node) (kind : Kind) (b : Built Argument) (result : Result Arg PushFault) → LowersToArg old new b result
    → IfOk result (λ a. IsArgumentOf kind (argument_at new a)) → LowersToNumber old new b result
number_lowered old new kind b (Ok a) made bounded = record {
  number = record { is = made.row; bounded = numbers_bounded kind new a bounded };
  is = made.is;
  gains = made.gains;
}
number_lowered old new kind b (Err fault) made bounded = made

module _ (old new : List Node) (text : Box Tree Global) (result : Result Arg PushFault) (made : LowersToArg old new (argument_of (syntax_of text.value)) result)
    (bounded : IfOk result (λ a. IsArgumentOf text.value.kind (argument_at new a))) where
  pub ratio_lowered : (r : Ratio) → r ≡ ratio.Text text → LowersToNumber old new (ratio_built (ratio_of r)) result
  ratio_lowered r e =
      let P : Ratio → Type 0 = λ x. LowersToNumber old new (ratio_built (ratio_of x)) result in
      subst P (sym e) (number_lowered old new text.value.kind (argument_of (syntax_of text.value)) result made bounded)

  pub count_lowered : (n : Count) → n ≡ count.Text text → LowersToNumber old new (count_built (count_of n)) result
  count_lowered n e =
      let P : Count → Type 0 = λ x. LowersToNumber old new (count_built (count_of x)) result in
      subst P (sym e) (number_lowered old new text.value.kind (argument_of (syntax_of text.value)) result made bounded)
