-- Lists of expressions, as the program has them.
--     rows_built          the trees of expressions, with their rows
--     weights_of          the weights of parts, in ten-thousandths
--     part_rows_built     the trees of the expressions of parts
--     steps_at            trees with weights
use Rattle.std.specs.Prelude.{ℕ, List, [], ◌∷◌, map}
use Rattle.tdl_expr.specs.Tree.{Tree}
use Rattle.tdl_mini_tree.specs.Numbers.{weight_parts}
use Rattle.tdl_rows.specs.Built.{Built, each}
use Rattle.tdl_rows.specs.Joined.{Weighted}
use Rattle.tdl_mini_rows.specs.Lowered.{laid}
use Rattle.tdl_command.specs.declared.tree.Expr.{Expr}
use Rattle.tdl_command.specs.declared.tree.Part.{Part}
use Rattle.tdl_prepare.specs.Built.{built}
use Rattle.tdl_command.specs.View.{expr_of}

abbrev pub rows_built : List Expr → Built (List Tree)
rows_built es = each (λ e. built (expr_of e)) es

abbrev pub weights_of : List Part → List ℕ
weights_of parts = map (λ p. weight_parts p.weight) parts

abbrev pub part_rows_built : List Part → Built (List Tree)
part_rows_built parts = each (λ p. built (expr_of p.expr)) parts

-- as many as there are of both
abbrev pub steps_at : List ℕ → List Tree → List Weighted
steps_at [] ts = []
steps_at (w ∷ ws) [] = []
steps_at (w ∷ ws) (t ∷ ts) = laid w t ∷ steps_at ws ts
