-- Lists of expressions and of parts, by their items.
use Rattle.std.proofs.Common.{◌≡◌, List, [], ◌∷◌, ◌++◌, Vec, Global, refl, ap, ◌∙◌}
use Rattle.std.specs.List.{fold}
use Rattle.std.proofs.lemmas.List.Sums.{fold_push}
use mathlib.Core.Former.{Count}
use Rattle.tdl_command.specs.declared.names.Shape.{Shape}
use Rattle.tdl_command.specs.declared.tree.Expr.{Expr, List', Timecat', Row_of-Expr, end_of-Expr, more_of-Expr, Row_of-Part, end_of-Part, more_of-Part}
use Rattle.tdl_command.specs.declared.tree.Expr.{items-the_row-Expr, items-the_row-Part, items_hidden-the_row-Expr-0, items_hidden-the_row-Part-1}
use Rattle.tdl_command.specs.declared.tree.Expr as variant
use Rattle.tdl_command.specs.declared.tree.Part.{Part}
use Rattle.tdl_command.specs.Tree as tree
use Rattle.tdl_command.specs.View.{expr_of, exprs_of, parts_of, exprs_on, parts_on}

abbrev exprs_in : Expr → (n : Count) × Row_of-Expr n
exprs_in (List' shape list row) = (_, row)
exprs_in _ = (_, end_of-Expr)

exprs_from : (n : _) (row : Row_of-Expr n) (es : tree.Exprs) → exprs_on es row ≡ fold (λ all e. tree.further all (expr_of e)) es (items-the_row-Expr n row)
exprs_from n end_of-Expr es = refl
exprs_from n (more_of-Expr x rest) es = exprs_from _ rest (tree.further es (expr_of x))

pub list_is : (shape : Shape) (exprs : Vec Expr Global) → expr_of (variant.List shape exprs) ≡ tree.list shape (exprs_of exprs.items)
list_is shape exprs =
    let row = exprs_in (variant.List shape exprs) in
    ap (tree.list shape) (exprs_from row.0 row.1 tree.no_expr ∙ ap exprs_of (items_hidden-the_row-Expr-0 exprs))

pub one_more : (es : List Expr) (e : Expr) → exprs_of (es ++ e ∷ []) ≡ tree.further (exprs_of es) (expr_of e)
one_more es e = fold_push (λ all e. tree.further all (expr_of e)) tree.no_expr es e

-- ---- parts
abbrev parts_in : Expr → (n : Count) × Row_of-Part n
parts_in (Timecat' list row) = (_, row)
parts_in _ = (_, end_of-Part)

abbrev and_part : tree.Parts → Part → tree.Parts
and_part ps p = tree.part ps p.weight (expr_of p.expr)

parts_from : (n : _) (row : Row_of-Part n) (ps : tree.Parts) → parts_on ps row ≡ fold and_part ps (items-the_row-Part n row)
parts_from n end_of-Part ps = refl
parts_from n (more_of-Part weight x rest) ps = parts_from _ rest (tree.part ps weight (expr_of x))

pub timecat_is : (parts : Vec Part Global) → expr_of (variant.Timecat parts) ≡ tree.timecat (parts_of parts.items)
timecat_is parts =
    let row = parts_in (variant.Timecat parts) in
    ap tree.timecat (parts_from row.0 row.1 tree.no_part ∙ ap parts_of (items_hidden-the_row-Part-1 parts))

pub one_part_more : (ps : List Part) (p : Part) → parts_of (ps ++ p ∷ []) ≡ tree.part (parts_of ps) p.weight (expr_of p.expr)
one_part_more ps p = fold_push and_part tree.no_part ps p
