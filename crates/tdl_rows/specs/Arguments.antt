-- The arguments of functions on patterns, in a table, and what is known of them.
--     argument_at       what an argument stands for, over the rows of a table
--     numbers_of        the numbers that it may be
--     choose_among_at   what is chosen by three of them
--     IsArgument        a number, or a row as the selector, with as many numbers as a row may have choices
--     LowersToArg       an argument stands for another, of no more numbers than a table has rows, and the table
--                       gained its rows
--     StaysArgument     what an argument stands for stays while a table grows
--     HasBoundedParts   a number of bounded parts
--     Plays             each leaf that a tree may play passes; what only chooses in it plays nothing
--     IsIndexBelow      an index below a number
--     IsSelection       a selector, and the numbers among which it chooses: they pass, and are distinct
use Rattle.std.specs.Prelude.{◌≡◌, ℕ, ◌^◌, ◌<◌, ◌≤◌, nat_abs, List, [], ◌∷◌, All, length, Result, MatchResult}
use Rattle.std.specs.List.{AllPairs}
use Rattle.tdl_control.specs.Limits.{max_denominator}
use Rattle.tdl_control.specs.declared.leaves.Leaf.{Leaf}
use Rattle.tdl_control.specs.declared.leaves.Leaf.TheVariants.{Controls, Truth, Index}
use Rattle.tdl_fraction.specs.Rational.{Rational}
use Rattle.tdl_expr.specs.declared.args.Arg.{Arg}
use Rattle.tdl_expr.specs.declared.args.Arg.TheVariants.{Plain, Chosen}
use Rattle.tdl_expr.specs.declared.nodes.Node.{Node}
use Rattle.tdl_expr.specs.declared.tables.PushFault.{PushFault}
use Rattle.tdl_expr.specs.Tree.{Tree, Silence, Pure, Fast, TimeCat, Cat, Stack, Rev, Pick, When, Shift, Join, Ply, Gate, Trees, empty, child, Steps, none}
use Rattle.tdl_expr.specs.Tree.{step}
use Rattle.tdl_expr.specs.Rows.{max_rows, IsRow, tree_at}
use Rattle.tdl_rows.specs.Built.{Built}
use Rattle.tdl_rows.specs.Lowers.{Gains, Refused}
use Rattle.tdl_rows.specs.Joined.{Argument, plain, picked, choose_among}

abbrev pub argument_at : List Node → Arg → Argument
argument_at nodes (Plain number) = plain number
argument_at nodes (Chosen selector values) = picked (tree_at nodes selector) values

abbrev pub numbers_of : Arg → List Rational
numbers_of (Plain number) = number ∷ []
numbers_of (Chosen selector values) = values

abbrev pub choose_among_at : List Node → Arg → Arg → Arg → (Rational → Rational → Rational → Built Tree) → Built Tree
choose_among_at nodes first second third f = choose_among (argument_at nodes first) (argument_at nodes second) (argument_at nodes third) f

-- a selector is a row, and there are no more choices than a row may have
abbrev pub IsArgument : List Node → Arg → Type 0
IsArgument nodes (Plain number) = Unit {0}
IsArgument nodes (Chosen selector values) = IsRow nodes selector × (length values ≤ 2 ^ 31)

pub record LowersArg (old new : List Node) (built : Built Argument) (argument : Arg) : Type 0 where
  pub row : IsArgument new argument
  -- no more than a table has rows
  pub few : length (numbers_of argument) ≤ max_rows
  pub is : argument_at new argument ≡ built.value
  pub gains : Gains old new built.rows

abbrev pub LowersToArg : List Node → List Node → Built Argument → Result Arg PushFault → Type 0
LowersToArg old new built result = MatchResult result (LowersArg old new built) (Refused old new built.rows)

-- an argument is one in a table that has grown, and the same
pub record StaysArgument (old new : List Node) (argument : Arg) : Type 0 where
  pub row : IsArgument new argument
  pub same : argument_at new argument ≡ argument_at old argument

pub record HasBoundedParts (number : Rational) : Type 0 where
  pub near : nat_abs number.num ≤ 2 ^ 30
  pub fine : number.den ≤ max_denominator

abbrev mutual
  pub Plays : (Leaf → Type 0) → Tree → Type 0
  Plays P Silence = Unit {0}
  Plays P (Pure leaf) = P leaf
  Plays P (Fast rate t) = Plays P t
  Plays P (TimeCat steps) = StepsPlay P steps
  Plays P (Cat ts) = TreesPlay P ts
  Plays P (Stack ts) = TreesPlay P ts
  Plays P (Rev t) = Plays P t
  Plays P (Pick selector ts) = TreesPlay P ts
  Plays P (When modulus test met other) = Plays P met × Plays P other
  Plays P (Shift by t) = Plays P t
  -- what values make of one another may be any leaf
  Plays P (Join side op left right) = (leaf : Leaf) → P leaf
  Plays P (Ply times t) = Plays P t
  Plays P (Gate from to inside t) = Plays P t

  pub TreesPlay : (Leaf → Type 0) → Trees → Type 0
  TreesPlay P empty = Unit {0}
  TreesPlay P (child t ts) = Plays P t × TreesPlay P ts

  pub StepsPlay : (Leaf → Type 0) → Steps → Type 0
  StepsPlay P none = Unit {0}
  StepsPlay P (step weight t steps) = Plays P t × StepsPlay P steps

abbrev pub IsIndexBelow : ℕ → Leaf → Type 0
IsIndexBelow count (Controls controls) = ⊥
IsIndexBelow count (Truth truth) = ⊥
IsIndexBelow count (Index i) = i < count

abbrev pub Differ : Rational → Rational → Type 0
Differ x y = x ≡ y → ⊥

pub record IsSelection (P : Rational → Type 0) (selector : Tree) (values : List Rational) : Type 0 where
  pub each : All P values
  pub distinct : AllPairs Differ values
  -- no more than a table has rows
  pub few : length values ≤ max_rows
  pub indices : Plays (IsIndexBelow (length values)) selector
