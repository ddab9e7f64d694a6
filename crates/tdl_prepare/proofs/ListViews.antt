-- Lists of expressions as the program has them, and as the syntax tree has them.
use Rattle.std.proofs.Common.{◌≡◌, ℕ, List, [], ◌∷◌, ◌++◌, Vec, Global, refl, sym, ap, ◌∙◌, subst, arith, length, length-append, append_assoc, append-nil}
use Rattle.std.specs.List.{All, fold}
use Rattle.std.proofs.lemmas.List.Elements.{All-nil, All-cons}
use mathlib.Core.Former.{Count}
use Rattle.tdl_expr.specs.Tree.{Tree}
use Rattle.tdl_mini_tree.specs.Numbers.{weight_parts}
use Rattle.tdl_rows.specs.Built.{Built, kept, ◌▸◌, and_next}
use Rattle.tdl_rows.specs.Joined.{Weighted, timecat_of}
use Rattle.tdl_mini_rows.specs.Lowered.{laid}
use Rattle.tdl_command.specs.declared.names.Shape.{Shape}
use Rattle.tdl_command.specs.declared.tree.Expr.{Expr, List', Timecat', Row_of-Expr, end_of-Expr, more_of-Expr, Row_of-Part, end_of-Part, more_of-Part}
use Rattle.tdl_command.specs.declared.tree.Expr.{items-the_row-Expr, items-the_row-Part, items_hidden-the_row-Expr-0, items_hidden-the_row-Part-1}
use Rattle.tdl_command.specs.declared.tree.Expr as variant
use Rattle.tdl_command.specs.declared.tree.Part.{Part}
use Rattle.tdl_command.specs.Tree as tree
use Rattle.tdl_prepare.specs.Built.{built, exprs_built, parts_built, list_of}
use Rattle.tdl_command.specs.Valid.{IsValidExpr, AreValidExprs, AreValidParts, IsValidPart}
use Rattle.tdl_command.specs.View.{expr_of, exprs_on, parts_on}
use Rattle.tdl_prepare.specs.inside.Parts.{rows_built, part_rows_built, steps_at, weights_of}

-- ---- lists of expressions
abbrev exprs_in : Expr → (n : Count) × Row_of-Expr n
exprs_in (List' shape list row) = (_, row)
exprs_in _ = (_, end_of-Expr)

exprs_from : (n : _) (row : Row_of-Expr n) (es : tree.Exprs) (b : Built (List Tree)) → exprs_built es ≡ b
    → exprs_built (exprs_on es row) ≡ fold (and_next (λ e. built (expr_of e))) b (items-the_row-Expr n row)
exprs_from n end_of-Expr es b e = e
exprs_from n (more_of-Expr x rest) es b e =
    exprs_from _ rest (tree.further es (expr_of x)) (and_next (λ e. built (expr_of e)) b x)
    (ap (λ (before : Built (List Tree)). before ▸ λ ts. built (expr_of x) ▸ λ t. kept (ts ++ t ∷ [])) e)

exprs_valid : (n : _) (row : Row_of-Expr n) → AreValidExprs row → All IsValidExpr (items-the_row-Expr n row)
exprs_valid n end_of-Expr h = All-nil IsValidExpr
exprs_valid n (more_of-Expr x rest) h = All-cons IsValidExpr x _ h.0 (exprs_valid _ rest h.1)

-- a list, by its items
pub list_is : (shape : Shape) (exprs : Vec Expr Global) → (rows_built exprs.items ▸ λ ts. list_of shape ts) ≡ built (expr_of (variant.List shape exprs))
list_is shape exprs =
    let row = exprs_in (variant.List shape exprs) in
    ap (λ (b : Built (List Tree)). b ▸ λ ts. list_of shape ts) (sym (ap rows_built (items_hidden-the_row-Expr-0 exprs))
    ∙ sym (exprs_from row.0 row.1 tree.no_expr (kept []) refl))

pub list_valid : (shape : Shape) (exprs : Vec Expr Global) → IsValidExpr (variant.List shape exprs) → All IsValidExpr exprs.items
list_valid shape exprs h =
    let row = exprs_in (variant.List shape exprs) in
    subst (All IsValidExpr) (items_hidden-the_row-Expr-0 exprs) (exprs_valid row.0 row.1 h)

-- ---- parts with weights
abbrev parts_in : Expr → (n : Count) × Row_of-Part n
parts_in (Timecat' list row) = (_, row)
parts_in _ = (_, end_of-Part)

-- a part more
abbrev and_part : Built (List Weighted) → Part → Built (List Weighted)
and_part b p = b ▸ λ steps. built (expr_of p.expr) ▸ λ t. kept (steps ++ laid (weight_parts p.weight) t ∷ [])

parts_from : (n : _) (row : Row_of-Part n) (ps : tree.Parts) (b : Built (List Weighted)) → parts_built ps ≡ b
    → parts_built (parts_on ps row) ≡ fold and_part b (items-the_row-Part n row)
parts_from n end_of-Part ps b e = e
parts_from n (more_of-Part weight x rest) ps b e =
    parts_from _ rest (tree.part ps weight (expr_of x)) (and_part b (record { weight = weight; expr = x }))
    (ap (λ (before : Built (List Weighted)). before ▸ λ steps. built (expr_of x) ▸ λ t. kept (steps ++ laid (weight_parts weight) t ∷ [])) e)

parts_valid : (n : _) (row : Row_of-Part n) → AreValidParts row → All IsValidPart (items-the_row-Part n row)
parts_valid n end_of-Part h = All-nil IsValidPart
parts_valid n (more_of-Part weight x rest) h = All-cons IsValidPart (record { weight = weight; expr = x }) _ (h.0, h.1.0) (parts_valid _ rest h.1.1)

-- trees with their weights, one after another
steps_more : (ws more : List ℕ) (ts us : List Tree) → length ws ≡ length ts → steps_at (ws ++ more) (ts ++ us) ≡ steps_at ws ts ++ steps_at more us
steps_more [] more [] us e = refl
steps_more [] more (t ∷ ts) us e = (cc)
steps_more (w ∷ ws) more [] us e = (cc)
steps_more (w ∷ ws) more (t ∷ ts) us e = ap (λ (ss : List Weighted). laid w t ∷ ss) (steps_more ws more ts us (omega arith))

-- the steps so far are the trees so far, with the weights so far
abbrev with_weights : List ℕ → Built (List Tree) → Built (List Weighted)
with_weights ws b = record { value = steps_at ws b.value; rows = b.rows }

abbrev part_row : Part → Built Tree
part_row p = built (expr_of p.expr)

abbrev steps_with : List ℕ → List Weighted → Built (List Weighted)
steps_with rows steps = record { value = steps; rows = rows }

steps_fold : (ps : List Part) (ws : List ℕ) (b : Built (List Tree)) → length ws ≡ length b.value
    → fold and_part (with_weights ws b) ps ≡ with_weights (ws ++ weights_of ps) (fold (and_next part_row) b ps)
steps_fold [] ws b e = ap (λ (vs : List ℕ). with_weights vs b) (sym (append-nil ws))
steps_fold (p ∷ ps) ws b e =
    let w = weight_parts p.weight in
    let t = part_row p in
    let next = and_next part_row b p in
    let one : and_part (with_weights ws b) p ≡ with_weights (ws ++ w ∷ []) next =
    ap (steps_with next.rows) (sym (steps_more ws (w ∷ []) b.value (t.value ∷ []) e)) in
    let rest = steps_fold ps (ws ++ w ∷ []) next (omega (arith, e, length-append ws (w ∷ []), length-append b.value (t.value ∷ []))) in
    ap (λ (x : Built (List Weighted)). fold and_part x ps) one
    ∙ (rest ∙ ap (λ (vs : List ℕ). with_weights vs (fold (and_next part_row) next ps)) (append_assoc ws (w ∷ []) (weights_of ps)))

-- parts, by their items
pub timecat_is : (parts : Vec Part Global)
    → (part_rows_built parts.items ▸ λ ts. timecat_of (steps_at (weights_of parts.items) ts)) ≡ built (expr_of (variant.Timecat parts))
timecat_is parts =
    let row = parts_in (variant.Timecat parts) in
    ap (λ (b : Built (List Weighted)). b ▸ λ steps. timecat_of steps)
    (sym (steps_fold parts.items [] (kept []) refl)
    ∙ (sym (ap (fold and_part (kept [])) (items_hidden-the_row-Part-1 parts)) ∙ sym (parts_from row.0 row.1 tree.no_part (kept []) refl)))

pub timecat_valid : (parts : Vec Part Global) → IsValidExpr (variant.Timecat parts) → All IsValidPart parts.items
timecat_valid parts h =
    let row = parts_in (variant.Timecat parts) in
    subst (All IsValidPart) (items_hidden-the_row-Part-1 parts) (parts_valid row.0 row.1 h)
