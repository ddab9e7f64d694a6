-- What is known of the argument that a valid text is.
use Rattle.std.proofs.Common.{◌≡◌, ◌≤◌, true, Option, Some, None, Result, Ok, Err, List, ◌++◌, length, IsTrue, refl, sym, ap, subst, arith}
use Rattle.std.specs.List.{All, list_all}
use Rattle.std.specs.Result.{IfOk}
use Rattle.std.proofs.lemmas.Bool.{and_parts, eqb-true}
use Rattle.std.proofs.lemmas.List.{length-append}
use Rattle.std.proofs.lemmas.List.Sums.{AllPass-from_list_all}
use Rattle.tdl_fraction.specs.Rational.{Rational}
use Rattle.tdl_expr.specs.declared.args.Arg.{Arg}
use Rattle.tdl_expr.specs.declared.args.Arg.TheVariants.{Plain, Chosen}
use Rattle.tdl_expr.specs.declared.nodes.Node.{Node}
use Rattle.tdl_expr.specs.declared.tables.PushFault.{PushFault}
use Rattle.tdl_expr.specs.Tree.{Tree}
use Rattle.tdl_expr.specs.Older.{KeepsRows}
use Rattle.tdl_mini_tree.specs.declared.leaves.Kind.{Kind}
use Rattle.tdl_mini_tree.specs.declared.leaves.Kind.TheVariants.{Count, Ratio}
use Rattle.tdl_mini_tree.specs.declared.leaves.Number.{Number}
use Rattle.tdl_mini_tree.specs.Numbers.{number_value}
use Rattle.tdl_mini_tree.specs.Tree as tree
use Rattle.tdl_mini_tree.specs.Valid.{is_valid}
use Rattle.tdl_mini_tree.specs.Values.{values_of}
use Rattle.tdl_rows.specs.Joined.{Argument, picked}
use Rattle.tdl_mini_rows.specs.Leaves.{distinct}
use Rattle.tdl_mini_rows.specs.Lowered.{in_turn, plain_number, unless_plain, selected, indices_of, argument_of, layers_built}
use Rattle.tdl_rows.specs.Arguments.{argument_at, numbers_of, IsArgument, LowersArg, LowersToArg}
use Rattle.tdl_rows.specs.Arguments.{StaysArgument}
use Rattle.tdl_mini_rows.specs.Arguments.{IsChoice, IsArgumentOf}
use Rattle.tdl_mini_rows.specs.inside.Bounds.{is_rate, argument_values}
use Rattle.tdl_mini_rows.proofs.Bounded.{IsRate-from}
use Rattle.tdl_mini_rows.proofs.BuiltArguments.{argument_all}
use Rattle.tdl_mini_rows.proofs.DistinctValues.{distinct_differ}
use Rattle.tdl_mini_rows.proofs.SelectorLeaves.{selector-indices}
use Rattle.tdl_mini_rows.proofs.ValueRates.{values_rates, values_integral, is_integral}

choice_from : (kind : Kind) (x : Rational) → IsTrue (is_rate x) → (kind ≡ Count → IsTrue (is_integral x)) → IsChoice kind x
choice_from kind x h f = let rate = IsRate-from x h in record { bounded = record { near = rate.small; fine = rate.fine }; whole = λ e. eqb-true x.den 1 (f e) }

choices_from : (kind : Kind) (xs : List Rational) → IsTrue (list_all is_rate xs) → (kind ≡ Count → IsTrue (list_all is_integral xs)) → All (IsChoice kind) xs
choices_from kind xs h f = λ k d lt. choice_from kind _ (AllPass-from_list_all is_rate xs h k d lt) (λ e. AllPass-from_list_all is_integral xs (f e) k d lt)

module _ (kind : Kind) (ls : tree.Layers) (valid : IsTrue (is_valid kind ls)) (ratio : IsTrue (is_valid Ratio ls)) where
  integral : kind ≡ Count → IsTrue (list_all is_integral (values_of ls))
  integral e = values_integral ls (subst (λ (k : Kind). IsTrue (is_valid k ls)) e valid)

  bounded_by : (o : Option Number)
      → IsTrue (list_all is_rate (argument_values (unless_plain o (selected ls (layers_built (indices_of ls) in_turn ls))).value)) →
      (kind ≡ Count → IsTrue (list_all is_integral (argument_values (unless_plain o (selected ls (layers_built (indices_of ls) in_turn ls))).value))) →
      length (argument_values (unless_plain o (selected ls (layers_built (indices_of ls) in_turn ls))).value) ≤ 2048 →
      IsArgumentOf kind (unless_plain o (selected ls (layers_built (indices_of ls) in_turn ls))).value
  bounded_by (Some n) rates whole few =
      let x = number_value n in
      choice_from kind x (and_parts (is_rate x) true rates).0 (λ e. (and_parts (is_integral x) true (whole e)).0)
  bounded_by None rates whole few =
      record {
        each = choices_from kind (distinct (values_of ls)) rates whole;
        distinct = distinct_differ
            (values_of ls);
        few = few;
        indices = selector-indices ls ratio;
      }

  bounded_value : length (argument_values (argument_of ls).value) ≤ 2048 → IsArgumentOf kind (argument_of ls).value
  bounded_value few = bounded_by (plain_number ls) (argument_all is_rate ls (values_rates ls ratio)) (λ e. argument_all is_integral ls (integral e)) few

  few_values : (nodes : List Node) (argument : Arg) → length (numbers_of argument) ≤ 2048 → length (argument_values (argument_at nodes argument)) ≤ 2048
  few_values nodes (Plain number) few = few
  few_values nodes (Chosen selector values) few = few

  -- the argument that was lowered
  bounded_argument : (old new : List Node) (argument : Arg) → LowersArg old new (argument_of ls) argument → IsArgumentOf kind (argument_at new argument)
  bounded_argument old new argument made =
      let P : Argument → Type 0 = λ a. length (argument_values a) ≤ 2048 → IsArgumentOf kind a in
      subst P (sym made.is) bounded_value (few_values new argument made.few)

  pub bounded_result : (old new : List Node) (result : Result Arg PushFault) → LowersToArg old new (argument_of ls) result
      → IfOk result (λ argument. IsArgumentOf kind (argument_at new argument))
  bounded_result old new (Ok argument) made = bounded_argument old new argument made
  bounded_result old new (Err fault) made = tt

-- arguments stay while a table grows
pub argument_stays : (nodes more : List Node) → KeepsRows nodes (nodes ++ more) → (argument : Arg) → IsArgument nodes argument
    → StaysArgument nodes (nodes ++ more) argument
argument_stays nodes more keeps (Plain number) h = record { row = tt; same = refl }
argument_stays nodes more keeps (Chosen selector values) h = record {
  row = (omega (arith, h.0, length-append nodes more), h.1);
  same = ap (λ (t : Tree). picked t values) (keeps selector h.0);
}
