-- Steps, terms, selectors and arguments, part by part.
use Rattle.std.proofs.Common.{◌≡◌, ℕ, ◌+◌, ◌<◌, ◌≤◌, List, [], map, length, take, get_or, Some, None, Result, refl, sym, ap, ◌∙◌, subst, arith, append-nil}
use Rattle.tdl_fraction.specs.Rational.{Rational}
use Rattle.tdl_expr.specs.declared.args.Arg.{Arg}
use Rattle.tdl_expr.specs.declared.args.Arg.TheVariants.{Plain, Chosen}
use Rattle.tdl_expr.specs.declared.ids.NodeId.{NodeId}
use Rattle.tdl_expr.specs.declared.nodes.Node.{Node}
use Rattle.tdl_expr.specs.declared.tables.PushFault.{PushFault}
use Rattle.tdl_expr.specs.Tree.{Tree, Pure, Silence}
use Rattle.tdl_expr.specs.Rows.{tree_at}
use Rattle.tdl_mini_tree.specs.declared.tree.Term.{Term}
use Rattle.tdl_mini_tree.specs.declared.tree.Term.TheVariants as term
use Rattle.tdl_mini_tree.specs.declared.tree.Operand.{Operand}
use Rattle.tdl_mini_tree.specs.declared.leaves.Number.{Number}
use Rattle.tdl_mini_tree.specs.declared.leaves.Value.{Value}
use Rattle.tdl_mini_tree.specs.Numbers.{number_value}
use Rattle.tdl_mini_tree.specs.Tree as tree
use Rattle.tdl_mini_tree.specs.Values.{values_of}
use Rattle.tdl_mini_tree.specs.View.{value_of, term_of, operand_of}
use Rattle.tdl_mini_rows.specs.declared.joins.WeightedRow.{WeightedRow}
use Rattle.tdl_rows.specs.Built.{Built, kept, one_row, ◌▸◌}
use Rattle.tdl_rows.specs.Joined.{Weighted, tree_of, stack_of, Argument, plain, picked, choose}
use Rattle.tdl_mini_rows.specs.Leaves.{Play, distinct, index_leaf}
use Rattle.tdl_mini_rows.specs.Lowered.{Finish, in_turn, plain_number, selected, argument_of, indices_of, layers_built, step_built, term_built, operand_built}
use Rattle.tdl_rows.specs.Lowers.{Gains, Refused, Lowers, LowersTo}
use Rattle.tdl_rows.specs.Arguments.{argument_at, LowersArg, LowersToArg}
use Rattle.tdl_mini_rows.specs.inside.Views.{steps_at, LowersSteps}
use Rattle.tdl_rows.proofs.Gained.{Gains-none, Refused-append, Refused-first, Lowers-after, LowersTo-then}
use Rattle.tdl_rows.proofs.Loops.{run, run_more, run_rows, run_refused, refused_along}

-- one item more of a run that makes a tree of a tree
module _ {X : Type 0} {old mid : List Node} {id : NodeId} (g : Tree → X → Built Tree) (b : Built Tree) (xs : List X) (i : ℕ) (x : X) (h : i < length xs)
    (is : x ≡ get_or xs i x) (before : Lowers old mid (run g b (take i xs)) id) where
  pub tree_more : (new : List Node) (other : NodeId) → Lowers mid new (g (tree_at mid id) x) other → Lowers old new (run g b (take (i + 1) xs)) other
  tree_more new other made =
      let R : X → Type 0 = λ y. Lowers mid new (g (tree_at mid id) y) other in
      let Q : Built Tree → Type 0 = λ built. Lowers old new built other in
      subst Q (sym (run_more g b xs i x h)) (Lowers-after (run g b (take i xs)) (λ t. g t (get_or xs i x)) before (subst R is made))

  pub tree_refused : (new : List Node) (fault : PushFault) → Refused mid new (g (tree_at mid id) x).rows fault → Refused old new (run g b xs).rows fault
  tree_refused new fault refused =
      let R : X → Type 0 = λ y. Refused mid new (g (tree_at mid id) y).rows fault in
      let P : Tree → Type 0 = λ t. Refused mid new (g t (get_or xs i x)).rows fault in
      run_refused g b xs i x h old new fault (Refused-append before.gains (subst P before.is (subst R is refused)))

pub first_refused : {V X : Type 0} (g : V → X → Built V) (b : Built V) (xs : List X) (old new : List Node) (fault : PushFault)
    → Refused old new b.rows fault → Refused old new (run g b xs).rows fault
first_refused g b xs old new fault refused =
    let rest = run_rows g b xs in
    refused_along old new _ _ fault (sym rest.1) (Refused-first rest.0 refused)

module _ (trees : List tree.Layers) (play : Play) where
  pub begins_is : (t : tree.Term) → term_built play t ≡ step_built play (tree.begins t)
  unfolding layers_built
  begins_is t = refl

  pub value_is : (t : Term) (v : Value) → t ≡ term.Value v → one_row 0 (Pure (play (value_of v))) ≡ term_built play (term_of trees t)
  unfolding layers_built
  value_is t v e = ap (λ (x : Term). term_built play (term_of trees x)) (sym e)

  pub rest_is : (t : Term) → t ≡ term.Rest → one_row 0 Silence ≡ term_built play (term_of trees t)
  unfolding layers_built
  rest_is t e = ap (λ (x : Term). term_built play (term_of trees x)) (sym e)

  pub bracketed_is : (t : Term) (o : Operand) → t ≡ term.Bracketed o → operand_built play (operand_of trees o) ≡ term_built play (term_of trees t)
  unfolding layers_built
  bracketed_is t o e = ap (λ (x : Term). term_built play (term_of trees x)) (sym e)

pub LowersArg-same : (old new : List Node) (built other : Built Argument) (argument : Arg) → built ≡ other → LowersArg old new built argument
    → LowersArg old new other argument
LowersArg-same old new built other argument e h = let P : Built Argument → Type 0 = λ b. LowersArg old new b argument in subst P e h

pub RefusedArg-same : (old new : List Node) (built other : Built Argument) (fault : PushFault) → built ≡ other → Refused old new built.rows fault
    → Refused old new other.rows fault
RefusedArg-same old new built other fault e h = let P : Built Argument → Type 0 = λ b. Refused old new b.rows fault in subst P e h

pub LowersToArg-same : (old new : List Node) (built other : Built Argument) (result : Result Arg PushFault) → built ≡ other
    → LowersToArg old new built result → LowersToArg old new other result
LowersToArg-same old new built other result e h = let P : Built Argument → Type 0 = λ b. LowersToArg old new b result in subst P e h

-- the stack of sequences
pub stacked_row : {old mid : List Node} (new : List Node) (built : Built (List Weighted)) (items others : List WeightedRow) (result : Result NodeId PushFault)
    → LowersSteps old mid built items → others ≡ items → LowersTo mid new (stack_of (map tree_of (steps_at mid others))) result
    → LowersTo old new (built ▸ λ ss. stack_of (map tree_of ss)) result
stacked_row {mid = mid} new built items others result made e h =
    let P : List Weighted → Type 0 = λ ws. LowersTo mid new (stack_of (map tree_of ws)) result in
    LowersTo-then new built (λ ss. stack_of (map tree_of ss)) made.gains result (subst P (ap (steps_at mid) e ∙ made.are) h)

module _ (ls : tree.Layers) (numbers : List Rational) (finish : Finish) (same : numbers ≡ distinct (values_of ls)) where
  sequences_is : layers_built (index_leaf numbers) finish ls ≡ layers_built (indices_of ls) finish ls
  sequences_is = ap (λ (ns : List Rational). layers_built (index_leaf ns) finish ls) same

  pub selected_is : selected ls (layers_built (index_leaf numbers) finish ls) ≡ selected ls (layers_built (indices_of ls) finish ls)
  selected_is = ap (selected ls) sequences_is

  pub selected_done : (old new : List Node) (id : NodeId) (values : List Rational)
      → Lowers old new (layers_built (index_leaf numbers) finish ls ▸ λ ss. stack_of (map tree_of ss)) id → values ≡ numbers → length values ≤ 2048
      → LowersArg old new (selected ls (layers_built (indices_of ls) finish ls)) (Chosen id values)
  selected_done old new id values made e few =
      LowersArg-same old new (selected ls (layers_built (index_leaf numbers) finish ls)) _ (Chosen id values) selected_is (record {
        row = (made.row, omega (arith, few));
        few = few;
        is = ap (λ (t : Tree). picked t values) made.is ∙ ap (picked (layers_built (index_leaf numbers) finish ls ▸ λ ss. stack_of (map tree_of ss)).value)
            (e ∙ same);
        gains = subst (Gains old new) (sym (append-nil _)) made.gains;
      })

  pub selected_refused : (old new : List Node) (fault : PushFault)
      → Refused old new (layers_built (index_leaf numbers) finish ls ▸ λ ss. stack_of (map tree_of ss)).rows fault
      → Refused old new (selected ls (layers_built (indices_of ls) finish ls)).rows fault
  selected_refused old new fault refused =
      RefusedArg-same old new (selected ls (layers_built (index_leaf numbers) finish ls)) _ fault selected_is (Refused-first [] refused)

pub argument_plain : (nodes : List Node) (ls : tree.Layers) (n : Number) (number : Rational) → Some n ≡ plain_number ls → number ≡ number_value n
    → LowersArg nodes nodes (argument_of ls) (Plain number)
argument_plain nodes ls n number e f =
    let w = plain (number_value n) in
    let same : kept w ≡ argument_of ls = rw (sym e) refl in
    LowersArg-same nodes nodes (kept w) (argument_of ls) (Plain number) same (record { row = tt; few = omega arith; is = ap plain f; gains = Gains-none nodes })

pub argument_chosen : (ls : tree.Layers) → None ≡ plain_number ls → selected ls (layers_built (indices_of ls) in_turn ls) ≡ argument_of ls
argument_chosen ls e = rw (sym e) refl

-- a tree that is chosen by an argument
pub chosen_row : {old mid : List Node} (new : List Node) (built : Built Argument) (f g : Rational → Built Tree) (argument : Arg)
    (result : Result NodeId PushFault) → LowersArg old mid built argument → f ≡ g → LowersTo mid new (choose (argument_at mid argument) f) result
    → LowersTo old new (built ▸ λ a. choose a g) result
chosen_row {mid = mid} new built f g argument result made e h =
    let P : Argument → Type 0 = λ a. LowersTo mid new (choose a f) result in
    let Q : (Rational → Built Tree) → Type 0 = λ k. LowersTo mid new (choose built.value k) result in
    LowersTo-then new built (λ a. choose a g) made.gains result (subst Q e (subst P made.is h))
