-- How deep expressions are, beside those in their lists.
use Rattle.std.proofs.Common.{◌≡◌, ℕ, ◌<◌, ◌≤◌, List, Vec, Global, length, get_or, sym, subst, arith, rules}
use denote.Param.Weighed.{most, at_most}
use Rattle.tdl_command.specs.declared.names.Shape.{Shape}
use Rattle.tdl_command.specs.declared.tree.Expr.{Expr}
use Rattle.tdl_command.specs.declared.tree.Expr as variant
use Rattle.tdl_command.specs.declared.tree.Expr.TheBlock.{the_depth, member-Expr}
use Rattle.tdl_command.specs.declared.tree.Expr.TheViews.{the_lemmas}
use Rattle.tdl_command.specs.declared.tree.Part.{Part}
use Rattle.tdl_command.proofs.tree.Expr.TheLaws.{the_size}
use Rattle.tdl_command.proofs.tree.Part.TheLaws.{the_size as part_size}

abbrev depth : Expr → ℕ
depth expr = the_depth member-Expr expr

-- each of some expressions
pub item_depth : (exprs : List Expr) (i : ℕ) (e : Expr) → i < length exprs → e ≡ get_or exprs i e → depth e ≤ most the_size exprs
item_depth exprs i e lt is =
    let P : Expr → Type 0 = λ x. depth x ≤ most the_size exprs in
    subst P (sym is) (at_most the_size exprs i e lt)

part_deeper : (p : Part) → depth p.expr ≤ part_size p
unfolding the_depth
part_deeper p = first_of (omega arith, first_of (search (rules, the_lemmas), grind (arith, the_lemmas)))

-- that of each of some parts
pub part_depth : (parts : List Part) (i : ℕ) (p : Part) → i < length parts → p ≡ get_or parts i p → depth p.expr ≤ most part_size parts
part_depth parts i p lt is =
    let P : Part → Type 0 = λ x. part_size x ≤ most part_size parts in
    let all : part_size p ≤ most part_size parts = subst P (sym is) (at_most part_size parts i p lt) in
    omega (arith, part_deeper p)

list_deeper : (shape : Shape) (exprs : Vec Expr Global) → most the_size exprs.items < depth (variant.List shape exprs)
unfolding the_depth
list_deeper shape exprs = first_of (search (rules, the_lemmas), grind (arith, the_lemmas))

timecat_deeper : (parts : Vec Part Global) → most part_size parts.items < depth (variant.Timecat parts)
unfolding the_depth
timecat_deeper parts = first_of (search (rules, the_lemmas), grind (arith, the_lemmas))

pub list_depth : (expr : Expr) (shape : Shape) (exprs : Vec Expr Global) (items : List Expr) → expr ≡ variant.List shape exprs → items ≡ exprs.items
    → most the_size items < depth expr
list_depth expr shape exprs items e f =
    let P : Expr → Type 0 = λ x. most the_size exprs.items < depth x in
    let Q : List Expr → Type 0 = λ xs. most the_size xs < depth expr in
    subst Q (sym f) (subst P (sym e) (list_deeper shape exprs))

pub timecat_depth : (expr : Expr) (parts : Vec Part Global) (items : List Part) → expr ≡ variant.Timecat parts → items ≡ parts.items
    → most part_size items < depth expr
timecat_depth expr parts items e f =
    let P : Expr → Type 0 = λ x. most part_size parts.items < depth x in
    let Q : List Part → Type 0 = λ xs. most part_size xs < depth expr in
    subst Q (sym f) (subst P (sym e) (timecat_deeper parts))
