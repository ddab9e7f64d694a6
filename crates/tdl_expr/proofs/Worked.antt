-- The trees of worked tables, each by computing alone.
use Rattle.std.proofs.Common.{◌≡◌, ℕ, List, [], ◌∷◌, pos, false, refl}
use Rattle.tdl_control.specs.declared.leaves.Leaf.TheVariants.{Index}
use Rattle.tdl_fraction.specs.Divisor.{gcd, lcm}
use Rattle.tdl_fraction.specs.Rational.{frac, whole}
use Rattle.tdl_expr.specs.declared.ids.NodeId.{NodeId}
use Rattle.tdl_expr.specs.declared.steps.Step.{Step}
use Rattle.tdl_expr.specs.declared.nodes.Node.{Node}
use Rattle.tdl_expr.specs.declared.nodes.Node.TheVariants as node
use Rattle.tdl_expr.specs.declared.joinings.Op.TheVariants.{Struct}
use Rattle.tdl_expr.specs.declared.joinings.Side.TheVariants.{Right}
use Rattle.tdl_expr.specs.declared.rounds.Test.TheVariants.{Equal}
use Rattle.tdl_expr.specs.Tree.{Tree, Silence, Pure, Fast, TimeCat, Cat, Stack, Rev, Pick, When, Shift, Join, Ply, Gate, empty, child, none, step}
use Rattle.tdl_expr.specs.Rows.{trees_of, sum_links, in_order, weighted}
use Rattle.tdl_expr.specs.Joins.{joined, joined_steps}
use Rattle.tdl_expr.specs.Weights.{whole_weights, steps_of}

abbrev id : ℕ → NodeId
id k = record { index = k }

abbrev of_weight : ℕ → ℕ → Step
of_weight w k = record { weight = w; child = id k }

-- two rows and one link, as `bd*2`
fast : trees_of (node.Pure (Index 1) ∷ node.Fast (whole (pos 2)) (id 0) ∷ []) ≡ Pure (Index 1) ∷ Fast (whole (pos 2)) (Pure (Index 1)) ∷ []
fast = refl

fast_links : sum_links (node.Pure (Index 1) ∷ node.Fast (whole (pos 2)) (id 0) ∷ []) ≡ 1
fast_links = refl

-- a row that is named twice is two copies, and each copy is the whole tree
shared : trees_of (node.Pure (Index 1) ∷ node.Rev (id 0) ∷ node.Stack (id 1 ∷ id 0 ∷ id 1 ∷ []) ∷ [])
    ≡ Pure (Index 1) ∷ Rev (Pure (Index 1)) ∷ Stack (child (Rev (Pure (Index 1))) (child (Pure (Index 1)) (child (Rev (Pure (Index 1))) empty))) ∷ []
shared = refl

-- weights stand beside their trees, as in `bd@3 ~`
weights : trees_of (node.Pure (Index 1) ∷ node.Silence ∷ node.TimeCat (of_weight 3 0 ∷ of_weight 1 1 ∷ []) ∷ [])
    ≡ Pure (Index 1) ∷ Silence ∷ TimeCat (step 3 (Pure (Index 1)) (step 1 Silence none)) ∷ []
weights = refl

-- the selector comes before the choices
choices : trees_of (node.Pure (Index 0) ∷ node.Pure (Index 7) ∷ node.Cat (id 1 ∷ id 0 ∷ []) ∷ node.Pick (id 0) (id 2 ∷ id 1 ∷ []) ∷ [])
    ≡ Pure (Index 0) ∷ Pure (Index 7) ∷ Cat (child (Pure (Index 7)) (child (Pure (Index 0)) empty))
    ∷ Pick (Pure (Index 0)) (child (Cat (child (Pure (Index 7)) (child (Pure (Index 0)) empty))) (child (Pure (Index 7)) empty))
    ∷ []
choices = refl

choices_links : sum_links (node.Pure (Index 0) ∷ node.Pure (Index 7) ∷ node.Cat (id 1 ∷ id 0 ∷ []) ∷ node.Pick (id 0) (id 2 ∷ id 1 ∷ []) ∷ []) ≡ 5
choices_links = refl

abbrev tested_and_joined : List Node
tested_and_joined = node.Pure (Index 0) ∷ node.Pure (Index 7) ∷ node.When 3 (Equal 1) (id 1) (id 0) ∷ node.Join Right Struct (id 0) (id 2) ∷ []

-- the child that plays where the test is met comes first, and so does the left side of a join
tests_and_joins : trees_of tested_and_joined ≡ Pure (Index 0) ∷ Pure (Index 7) ∷ When 3 (Equal 1) (Pure (Index 7)) (Pure (Index 0))
    ∷ Join Right Struct (Pure (Index 0)) (When 3 (Equal 1) (Pure (Index 7)) (Pure (Index 0)))
    ∷ []
tests_and_joins = refl

tests_and_joins_links : sum_links tested_and_joined ≡ 4
tests_and_joins_links = refl

abbrev late_half : List Node
late_half = node.Pure (Index 1) ∷ node.Shift (whole (pos 2)) (id 0) ∷ node.Ply 3 (id 1) ∷ node.Gate (whole (pos 0)) (frac (pos 1) 2) false (id 2) ∷ []

-- the other kinds of one child
shifts_cuts_and_gates : trees_of late_half ≡ Pure (Index 1) ∷ Shift (whole (pos 2)) (Pure (Index 1)) ∷ Ply 3 (Shift (whole (pos 2)) (Pure (Index 1)))
    ∷ Gate (whole (pos 0)) (frac (pos 1) 2) false (Ply 3 (Shift (whole (pos 2)) (Pure (Index 1))))
    ∷ []
shifts_cuts_and_gates = refl

shifts_cuts_and_gates_links : sum_links late_half ≡ 3
shifts_cuts_and_gates_links = refl

-- weights 1.5 and 1, as in `bd@1.5 sn`
one_and_a_half : whole_weights (frac (pos 3) 2 ∷ frac (pos 1) 1 ∷ []) ≡ 3 ∷ 2 ∷ []
unfolding frac gcd lcm
one_and_a_half = refl

-- weights 2 and 4 are 1 and 2
divided : whole_weights (frac (pos 2) 1 ∷ frac (pos 4) 1 ∷ []) ≡ 1 ∷ 2 ∷ []
unfolding frac gcd lcm
divided = refl

-- weights 0.25, 0.5 and 1.2 are over 20
quarters : whole_weights (frac (pos 1) 4 ∷ frac (pos 1) 2 ∷ frac (pos 12) 10 ∷ []) ≡ 5 ∷ 10 ∷ 24 ∷ []
unfolding frac gcd lcm
quarters = refl

abbrev two : List Tree
two = Pure (Index 1) ∷ Pure (Index 2) ∷ []

-- of no child silence, of one child that child, of more a tree of the kind
joins_none : joined Cat (in_order two []) ≡ Silence
joins_none = refl

joins_one : joined Stack (in_order two (id 1 ∷ [])) ≡ Pure (Index 2)
joins_one = refl

joins_two : joined Cat (in_order two (id 1 ∷ id 0 ∷ [])) ≡ Cat (child (Pure (Index 2)) (child (Pure (Index 1)) empty))
joins_two = refl

steps_joined : joined_steps TimeCat (weighted two (steps_of (3 ∷ 2 ∷ []) (id 0 ∷ id 1 ∷ []))) ≡ TimeCat (step 3 (Pure (Index 1)) (step 2 (Pure (Index 2)) none))
steps_joined = refl
