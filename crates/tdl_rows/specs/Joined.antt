-- Trees made of others, each with the rows that it needs beside theirs.
--     stack_of, cat_of,          at the same time, a cycle of each in turn, one after another in equal shares
--     fastcat_of
--     Weighted                   a tree with a weight in ten-thousandths
--     timecat_of                 one after another with such weights
--     fast_of, slow_of           at a rate, and at one over it: rate 1 leaves the tree, rate 0 is silence, and
--                                below 0 it is turned round
--     Argument, choose           a number, or a selector with the values among which it chooses; the tree for
--                                each choice
--     choose_both, choose_among  the same by two and by three arguments, the first outermost
--     euclid_of                  the tree at each hit of a rhythm
-- What joins no tree is silence, and what joins one is that tree.
use Rattle.std.specs.Prelude.{ℕ, zero, suc, Bool, if◌then◌else◌, cond, pos, nat_abs, List, [], ◌∷◌, map, length}
use Rattle.std.specs.List.{list_all}
use Rattle.tdl_fraction.specs.Rational.{Rational, frac, whole, neg_ℚ, lt_ℚ, inverse}
use Rattle.tdl_fraction.specs.Same.{same_ℚ}
use Rattle.tdl_euclid.specs.Euclid.{euclid}
use Rattle.tdl_expr.specs.Tree.{Tree, Silence, Fast, TimeCat, Cat, Stack, Rev, Pick, Trees, empty, child, Steps, none, step}
use Rattle.tdl_expr.specs.Joins.{joined, joined_steps}
use Rattle.tdl_expr.specs.EqualShares.{in_equal_shares}
use Rattle.tdl_expr.specs.Weights.{whole_weights}
use Rattle.tdl_rows.specs.Built.{Built, kept, one_row, ◌▸◌, each}

abbrev pub trees_from : List Tree → Trees
trees_from [] = empty
trees_from (t ∷ ts) = child t (trees_from ts)

-- a tree that joins so many others needs a row, but for one
abbrev pub joins : ℕ → Tree → Built Tree
joins zero t = one_row 0 t
joins (suc zero) t = kept t
joins (suc (suc more)) t = one_row (suc (suc more)) t

abbrev pub stack_of : List Tree → Built Tree
stack_of ts = joins (length ts) (joined Stack (trees_from ts))

abbrev pub cat_of : List Tree → Built Tree
cat_of ts = joins (length ts) (joined Cat (trees_from ts))

abbrev pub fastcat_of : List Tree → Built Tree
fastcat_of ts = joins (length ts) (in_equal_shares ts)

pub record Weighted : Type 0 where
  pub parts : ℕ
  pub tree : Tree

abbrev pub tree_of : Weighted → Tree
tree_of s = s.tree

abbrev pub weight_of_parts : ℕ → Rational
weight_of_parts parts = frac (pos parts) 10000

-- weights are brought to whole numbers that share no factor
abbrev pub whole_parts : List Weighted → List ℕ
whole_parts steps = whole_weights (map (λ s. weight_of_parts s.parts) steps)

abbrev pub steps_from : List ℕ → List Tree → Steps
steps_from [] ts = none
steps_from (w ∷ ws) [] = none
steps_from (w ∷ ws) (t ∷ ts) = step w t (steps_from ws ts)

abbrev pub timecat_of : List Weighted → Built Tree
timecat_of steps = joins (length steps) (joined_steps TimeCat (steps_from (whole_parts steps) (map tree_of steps)))

-- a rate above 0
abbrev pub faster : Rational → Tree → Built Tree
faster rate t = if same_ℚ rate (whole (pos 1)) then kept t else one_row 1 (Fast rate t)

abbrev pub fast_of : Rational → Tree → Built Tree
fast_of rate t =
    if lt_ℚ (whole (pos 0)) rate then faster rate t
    else (if lt_ℚ (whole (pos 0)) (neg_ℚ rate) then faster (neg_ℚ rate) t ▸ (λ f. one_row 1 (Rev f))
    else one_row 0 Silence)

abbrev pub slow_of : Rational → Tree → Built Tree
slow_of rate t = if same_ℚ rate (whole (pos 0)) then one_row 0 Silence else fast_of (inverse rate) t

pub data Argument : Type 0 where
  plain : Rational → Argument
  picked : Tree → List Rational → Argument

-- without a value nothing is chosen
abbrev pub pick_of : Tree → List Tree → Built Tree
pick_of selector [] = one_row 0 Silence
pick_of selector (t ∷ ts) = one_row (suc (suc (length ts))) (Pick selector (child t (trees_from ts)))

abbrev pub choose : Argument → (Rational → Built Tree) → Built Tree
choose (plain value) f = f value
choose (picked selector values) f = each f values ▸ λ ts. pick_of selector ts

abbrev pub choose_both : Argument → Argument → (Rational → Rational → Built Tree) → Built Tree
choose_both first second f = choose first (λ a. choose second (f a))

abbrev pub choose_among : Argument → Argument → Argument → (Rational → Rational → Rational → Built Tree) → Built Tree
choose_among first second third f = choose first (λ a. choose_both second third (f a))

-- what is played where there is no hit; where each step is one, nothing is pushed for it
abbrev pub rest_of : Tree → List Bool → Built Tree
rest_of t hits = if list_all (λ hit. hit) hits then kept t else one_row 0 Silence

abbrev pub rhythm_of : Tree → List Bool → Built Tree
rhythm_of t hits = rest_of t hits ▸ λ rest. fastcat_of (map (λ hit. cond hit t rest) hits)

abbrev pub euclid_of : Tree → Rational → Rational → Rational → Built Tree
euclid_of t k n r = rhythm_of t (euclid k.num (nat_abs n.num) r.num)
