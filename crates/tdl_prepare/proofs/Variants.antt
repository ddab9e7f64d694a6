-- Expressions and functions by their variants, and functions on the heap.
use Rattle.std.proofs.Common.{Box, Global, ◌≡◌, ◌⊎◌, inl, inr, List, sym, ap, subst}
use Rattle.tdl_expr.specs.declared.nodes.Node.{Node}
use Rattle.tdl_rows.proofs.Gained.{Gains-none}
use Rattle.tdl_rows.specs.Built.{kept}
use Rattle.tdl_combinator.specs.declared.funs.Fun.{Fun as Made}
use Rattle.tdl_combinator.specs.Funs.{fun_at, IsFun}
use Rattle.tdl_combinator.specs.TreeFun.{TreeFun}
use Rattle.tdl_command.specs.declared.tree.Expr.{Expr}
use Rattle.tdl_command.specs.declared.tree.Expr.TheVariants.{Applied, Called}
use Rattle.tdl_command.specs.declared.tree.Fun.{Fun}
use Rattle.tdl_prepare.specs.Built.{applied_built, built, fun_built}
use Rattle.tdl_command.specs.View.{expr_of, fun_of}
use Rattle.tdl_prepare.specs.inside.Views.{FunStandsFor, LowersFun}

pub expr_is : (expr other : Expr) → expr ≡ other → built (expr_of other) ≡ built (expr_of expr)
expr_is expr other e = ap (λ (x : Expr). built (expr_of x)) (sym e)

-- an expression after a function, with or without `$`
pub called_is : (expr : Expr) (fun : Box Fun Global) (operand : Box Expr Global) → (expr ≡ Called fun operand) ⊎ (expr ≡ Applied fun operand)
    → applied_built (fun_built (fun_of fun.value)) (built (expr_of operand.value)) ≡ built (expr_of expr)
called_is expr fun operand (inl e) = expr_is expr _ e
called_is expr fun operand (inr e) = expr_is expr _ e

pub fun_is : (fun other : Fun) → fun ≡ other → fun_built (fun_of other) ≡ fun_built (fun_of fun)
fun_is fun other e = ap (λ (f : Fun). fun_built (fun_of f)) (sym e)

-- the function on the heap is the one that was put there
pub boxed : (nodes : List Node) (box part : Made) → box ≡ part → IsFun nodes part → FunStandsFor nodes box (fun_at nodes part)
boxed nodes box part e h = record { of_rows = subst (IsFun nodes) (sym e) h; is = ap (fun_at nodes) e }

-- a function without rows of its own
pub bare_made : (nodes : List Node) (fun : Made) (t : TreeFun) → FunStandsFor nodes fun t → LowersFun nodes nodes (kept t) fun
bare_made nodes fun t stands = record { of_rows = stands.of_rows; is = stands.is; gains = Gains-none nodes }
