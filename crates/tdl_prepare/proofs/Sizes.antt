-- Each expression has a row at least.
use Rattle.std.proofs.Common.{◌≡◌, ℕ, ◌≤◌, List, [], ◌∷◌, ◌++◌, length, map, refl, ap, arith, length-append}
use Rattle.tdl_fraction.specs.Rational.{Rational}
use Rattle.tdl_expr.specs.Tree.{Tree}
use Rattle.tdl_mini_tree.specs.declared.leaves.Kind.{Kind}
use Rattle.tdl_mini_tree.specs.Tree.{Layers}
use Rattle.tdl_rows.specs.Built.{Built, ◌▸◌}
use Rattle.tdl_rows.specs.Joined.{Weighted, tree_of, stack_of}
use Rattle.tdl_mini_rows.specs.Leaves.{leaf_of}
use Rattle.tdl_mini_rows.specs.Lowered.{stacked, lowered, in_turn, layers_built}
use Rattle.tdl_mini_rows.proofs.BuiltCounts.{Covers, layers-cover, fills-in_turn}
use Rattle.tdl_combinator.specs.TreeFun.{TreeFun}
use Rattle.tdl_combinator.specs.Applied as function
use Rattle.tdl_command.specs.declared.names.Shape.{Shape}
use Rattle.tdl_command.specs.declared.names.Shape.TheVariants.{Stack, Cat, Fastcat}
use Rattle.tdl_command.specs.declared.marks.Operator.{Operator}
use Rattle.tdl_command.specs.Tree.{Expr, silence, control, inside, shifted, list, timecat, called, joined, applied, quoted, numeral, negative}
use Rattle.tdl_command.specs.Tree.{no_expr, further, no_part, part}
use Rattle.tdl_command.specs.Rules.{kind_of}
use Rattle.tdl_prepare.specs.Numbers.{layers_in}
use Rattle.tdl_prepare.specs.Built.{built, exprs_built, parts_built, fun_built, shift_built, applied_built, joined_trees, list_of}

stack_some : (ts : List Tree) → length ts ≤ 0 → 1 ≤ length (stack_of ts).rows
stack_some [] h = omega arith
stack_some (t ∷ ts) h = absurd (omega arith)

stacked_some : {values : List Rational} (b : Built (List Weighted)) → Covers values b → 1 ≤ length (stacked b).rows
stacked_some b h = by b.value refl
  where
    rest : List ℕ
    rest = (stack_of (map tree_of b.value)).rows

    by : (ss : List Weighted) → b.value ≡ ss → 1 ≤ length (b.rows ++ rest)
    by [] e =
        let none : length (map tree_of b.value) ≤ 0 = omega (arith, ap (λ (ws : List Weighted). length (map tree_of ws)) e) in
        omega (arith, length-append b.rows rest, stack_some (map tree_of b.value) none)
    by (s ∷ ss) e = omega (arith, length-append b.rows rest, h.sequences, ap (λ (ws : List Weighted). length ws) e)

lowered_some : (kind : Kind) (ls : Layers) → 1 ≤ length (lowered kind ls).rows
lowered_some kind ls = stacked_some (layers_built (leaf_of kind) in_turn ls) (layers-cover (leaf_of kind) in_turn fills-in_turn ls)

applied_some : (f : Built TreeFun) (e : Built Tree) → 1 ≤ length e.rows → 1 ≤ length (applied_built f e).rows
applied_some f e h =
    omega (arith, length-append f.rows (e ▸ λ p. function.applied f.value p).rows, length-append e.rows (function.applied f.value e.value).rows)

joined_some : (o : Operator) (d e : Built Tree) → 1 ≤ length d.rows → 1 ≤ length (d ▸ λ p. e ▸ λ q. joined_trees o p q).rows
joined_some o d e h = omega (arith, length-append d.rows (e.rows ++ 2 ∷ []))

list_some : (shape : Shape) → 1 ≤ length (list_of shape []).rows
list_some Stack = omega arith
list_some Cat = omega arith
list_some Fastcat = omega arith

-- an item, and what follows it
item_some : (before item last : List ℕ) → 1 ≤ length item → 1 ≤ length ((before ++ (item ++ [])) ++ last)
item_some before item last h = omega (arith, length-append (before ++ (item ++ [])) last, length-append before (item ++ []), length-append item [])

pub built_some : (e : Expr) → 1 ≤ length (built e).rows
built_some silence = omega arith
built_some (control key (quoted text)) = lowered_some (kind_of key) (layers_in text)
built_some (control key (numeral n)) = omega arith
built_some (control key (negative n)) = omega arith
built_some (inside e) = built_some e
built_some (shifted by way e) = applied_some (shift_built by way) (built e) (built_some e)
built_some (list shape no_expr) = list_some shape
built_some (list shape (further es e)) = item_some (exprs_built es).rows (built e).rows _ (built_some e)
built_some (timecat no_part) = omega arith
built_some (timecat (part ps n e)) = item_some (parts_built ps).rows (built e).rows _ (built_some e)
built_some (called f e) = applied_some (fun_built f) (built e) (built_some e)
built_some (joined d o e) = joined_some o (built d) (built e) (built_some d)
built_some (applied f e) = applied_some (fun_built f) (built e) (built_some e)
