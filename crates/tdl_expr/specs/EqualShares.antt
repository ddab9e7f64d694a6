-- Trees one after another, in equal shares of the cycle.
--     equal_steps         each tree with weight 1
--     in_equal_shares     of no tree silence, of one that tree, else each with weight 1
use Rattle.std.specs.Prelude.{List, [], ◌∷◌}
use Rattle.tdl_expr.specs.Tree.{Tree, Silence, TimeCat, Steps, none, step}

abbrev pub equal_steps : List Tree → Steps
equal_steps [] = none
equal_steps (t ∷ ts) = step 1 t (equal_steps ts)

abbrev pub in_equal_shares : List Tree → Tree
in_equal_shares [] = Silence
in_equal_shares (t ∷ []) = t
in_equal_shares (t ∷ u ∷ ts) = TimeCat (equal_steps (t ∷ u ∷ ts))
