-- Visits at worked rows: how many nodes are visited, counted by hand.
use Rattle.std.proofs.Common.{◌≡◌, ℕ, true, ℤ, pos, refl}
use Rattle.tdl_control.specs.declared.leaves.Leaf.TheVariants.{Index}
use Rattle.tdl_fraction.specs.Divisor.{gcd}
use Rattle.tdl_fraction.specs.Rational.{frac, whole, ◌+ℚ◌, ◌-ℚ◌, ◌*ℚ◌, ◌/ℚ◌, inverse, flip, floor, ceil, min_ℚ, max_ℚ, neg_ℚ, lt_ℚ, le_ℚ}
use Rattle.tdl_fraction.specs.Arc.{Arc, meet, arc_between}
use Rattle.tdl_expr.specs.declared.joinings.Op.TheVariants.{Struct}
use Rattle.tdl_expr.specs.declared.joinings.Side.TheVariants.{Left, Right, Both}
use Rattle.tdl_expr.specs.declared.rounds.Test.TheVariants.{Equal}
use Rattle.tdl_expr.specs.Tree.{Tree, Pure, Fast, TimeCat, Cat, Stack, Rev, Pick, When, Shift, Join, Ply, Gate, empty, child, none, step}
use Rattle.tdl_meaning.specs.Pattern.{over, silence, pure, fast, time_cat, cat, stack, rev, pick}
use Rattle.tdl_meaning.specs.Kinds.{when, shift, gate, ply, join_left, join_right, join_both}
use Rattle.tdl_visits.specs.inside.Visits.{visits_in}

-- from a / b up to c / d
abbrev pub arc : ℤ → ℕ → ℤ → ℕ → Arc
arc a b c d = record { start = frac a b; stop = frac c d }

-- the visits of a tree in an arc
unfoldable pub counted : Tree → Arc → ℕ
unfolding over silence pure fast time_cat cat stack rev pick when shift gate ply join_left join_right join_both meet arc_between
    frac whole ◌+ℚ◌ ◌-ℚ◌ ◌*ℚ◌ ◌/ℚ◌ inverse flip floor ceil min_ℚ max_ℚ neg_ℚ lt_ℚ le_ℚ gcd
counted t a = visits_in t a

abbrev pub bd : Tree
bd = Pure (Index 1)

abbrev pub sn : Tree
sn = Pure (Index 2)

abbrev pub twice : Tree → Tree
twice e = Fast (whole (pos 2)) e

abbrev pub after : Tree → Tree → Tree
after a b = TimeCat (step 1 a (step 1 b none))

abbrev turns : Tree → Tree → Tree
turns a b = Cat (child a (child b empty))

abbrev both : Tree → Tree → Tree
both a b = Stack (child a (child b empty))

abbrev choice : Tree → Tree → Tree → Tree
choice selector a b = Pick selector (child a (child b empty))

-- `[bd sn]*2` over the first quarter: the rate, the sequence and its first step
pub quarter : counted (twice (after bd sn)) (arc (pos 0) 1 (pos 1) 4) ≡ 3
unfolding counted
quarter = refl

-- over a whole cycle the rate, and the sequence with both steps in each of two cycles
entire : counted (twice (after bd sn)) (arc (pos 0) 1 (pos 1) 1) ≡ 7
unfolding counted
entire = refl

-- `<bd sn>` over half a cycle: the turns, and the one whose turn it is
one_turn : counted (turns bd sn) (arc (pos 1) 1 (pos 3) 2) ≡ 2
unfolding counted
one_turn = refl

-- two at once: both
together : counted (both bd sn) (arc (pos 1) 4 (pos 1) 2) ≡ 3
unfolding counted
together = refl

-- a sequence from its end, over the last quarter: the turned one, the sequence and its first step
turned_round : counted (Rev (after bd sn)) (arc (pos 3) 4 (pos 1) 1) ≡ 3
unfolding counted
turned_round = refl

-- a choice by one event: the choice, its selector and the one chosen
chosen : counted (choice (Pure (Index 1)) bd sn) (arc (pos 0) 1 (pos 1) 1) ≡ 3
unfolding counted
chosen = refl

-- the one that the selector's event names is not there
missing : counted (choice (Pure (Index 2)) bd sn) (arc (pos 0) 1 (pos 1) 1) ≡ 2
unfolding counted
missing = refl

-- an arc of three cycles, each met: one visit for each
three_cycles : counted bd (arc (pos 1) 2 (pos 5) 2) ≡ 3
unfolding counted
three_cycles = refl

-- the one whose turn it is, and not the other
one_of_two : counted (When 2 (Equal 1) bd (after bd sn)) (arc (pos 0) 1 (pos 2) 1) ≡ 6
unfolding counted
one_of_two = refl

-- a quarter later: the first half begins in the cycle before
shifted : counted (Shift (frac (pos 1) 4) bd) (arc (pos 0) 1 (pos 1) 2) ≡ 3
unfolding counted
shifted = refl

-- pieces are no visits
pieces : counted (Ply 4 (after bd sn)) (arc (pos 0) 1 (pos 1) 4) ≡ 3
unfolding counted
pieces = refl

gated : counted (Gate (frac (pos 0) 1) (frac (pos 1) 2) true (after bd sn)) (arc (pos 1) 2 (pos 1) 1) ≡ 3
unfolding counted
gated = refl

-- the left side's first step, and the right side for its whole, which has both steps of the right
wholes_of_the_left : counted (Join Left Struct (after bd sn) (twice (after bd sn))) (arc (pos 0) 1 (pos 1) 4) ≡ 7
unfolding counted
wholes_of_the_left = refl

wholes_of_the_right : counted (Join Right Struct (twice (after bd sn)) (after bd sn)) (arc (pos 0) 1 (pos 1) 4) ≡ 7
unfolding counted
wholes_of_the_right = refl

-- both sides for the arc
wholes_of_both : counted (Join Both Struct (after bd sn) (twice (after bd sn))) (arc (pos 0) 1 (pos 1) 4) ≡ 6
unfolding counted
wholes_of_both = refl
