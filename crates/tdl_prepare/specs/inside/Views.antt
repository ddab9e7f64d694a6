-- What calls that prepare parts of an expression answer, and what they leave in the table.
--     LowersToNumber     an argument of numbers of bounded parts, and the table gained its rows
--     LowersToFun        a function over rows of the table
--     FunStandsFor       a function over rows of the table, by what it makes of trees
--     Wraps              the same over all rows that its parts speak of
--     cycle_at           a function of two numbers, of another
--     LowersToRows       rows for expressions
use Rattle.std.specs.Prelude.{◌≡◌, List, Result, MatchResult}
use Rattle.tdl_expr.specs.declared.args.Arg.{Arg}
use Rattle.tdl_expr.specs.declared.ids.NodeId.{NodeId}
use Rattle.tdl_expr.specs.declared.nodes.Node.{Node}
use Rattle.tdl_expr.specs.declared.tables.PushFault.{PushFault}
use Rattle.tdl_expr.specs.Tree.{Tree}
use Rattle.tdl_rows.specs.Arguments.{argument_at}
use Rattle.tdl_rows.specs.Built.{Built}
use Rattle.tdl_rows.specs.Joined.{Argument}
use Rattle.tdl_command.specs.declared.names.CycleFun.{CycleFun}
use Rattle.tdl_prepare.specs.Built.{cycle_fun}
use Rattle.tdl_rows.specs.Lowers.{Gains, Refused}
use Rattle.tdl_rows.specs.inside.Views.{LowersIds}
use Rattle.tdl_combinator.specs.declared.funs.Fun.{Fun}
use Rattle.tdl_combinator.specs.Funs.{fun_at, IsFun, IsNumber}
use Rattle.tdl_combinator.specs.TreeFun.{TreeFun}

pub record LowersNumber (old new : List Node) (built : Built Argument) (argument : Arg) : Type 0 where
  pub number : IsNumber new argument
  pub is : argument_at new argument ≡ built.value
  pub gains : Gains old new built.rows

abbrev pub LowersToNumber : List Node → List Node → Built Argument → Result Arg PushFault → Type 0
LowersToNumber old new built result = MatchResult result (LowersNumber old new built) (Refused old new built.rows)

pub record FunStandsFor (nodes : List Node) (fun : Fun) (tree : TreeFun) : Type 0 where
  pub of_rows : IsFun nodes fun
  pub is : fun_at nodes fun ≡ tree

-- a function that stands for a tree over all rows of which its parts speak
abbrev pub Wraps : (List Node → Type 0) → (List Node → TreeFun) → Fun → Type 0
Wraps Speak tree fun = (nodes : List Node) → Speak nodes → FunStandsFor nodes fun (tree nodes)

abbrev pub cycle_at : CycleFun → Arg → Arg → Fun → List Node → TreeFun
cycle_at name first second part nodes = cycle_fun name (argument_at nodes first) (argument_at nodes second) (fun_at nodes part)

pub record LowersFun (old new : List Node) (built : Built TreeFun) (fun : Fun) : Type 0 where
  pub of_rows : IsFun new fun
  pub is : fun_at new fun ≡ built.value
  pub gains : Gains old new built.rows

abbrev pub LowersToFun : List Node → List Node → Built TreeFun → Result Fun PushFault → Type 0
LowersToFun old new built result = MatchResult result (LowersFun old new built) (Refused old new built.rows)

-- what a call that answers these rows put into the table
abbrev pub LowersToRows : {A : Type 0} → (A → List NodeId) → List Node → List Node → Built (List Tree) → Result A PushFault → Type 0
LowersToRows rows old new built result = MatchResult result (λ a. LowersIds old new built (rows a)) (Refused old new built.rows)
