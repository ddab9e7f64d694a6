-- The load of worked joins, their fineness where they are asked for ticks, and their reach up to the last cycle.
-- The side that gives the wholes is asked for the arc, and the other one for these wholes alone. So a slow side asks
-- for little where the other gives the wholes, and a row is red where it is asked for more.
-- The values are those of another program, which reads the same texts and was written apart from this one.
use Rattle.std.proofs.Common.{◌≡◌, ℕ, List, [], ◌∷◌, pos, true, refl}
use Rattle.tdl_control.specs.declared.leaves.Leaf.TheVariants.{Index, Truth}
use Rattle.tdl_control.specs.declared.ops.MapOp.TheVariants.{Union, Add}
use Rattle.tdl_fraction.specs.Divisor.{gcd, lcm}
use Rattle.tdl_fraction.specs.Rational.{Rational, frac}
use Rattle.tdl_fraction.specs.Units.{tick_units, last_cycle}
use Rattle.tdl_expr.specs.declared.joinings.Op.TheVariants.{Controls, Struct, Mask}
use Rattle.tdl_expr.specs.declared.joinings.Side.TheVariants.{Left, Right, Both}
use Rattle.tdl_expr.specs.Tree.{Tree, Pure, Fast, Join}
use Rattle.tdl_expr.specs.Bounds.{bounds, fine, reach}

abbrev numbers : Tree → List ℕ
numbers e = (bounds e).load ∷ fine e tick_units ∷ reach e last_cycle ∷ []

abbrev rate : ℕ → ℕ → Rational
rate p s = frac (pos p) s

-- a sound or a number, whichever it is
abbrev bd : Tree
bd = Pure (Index 0)

abbrev held : Tree
held = Pure (Truth true)

-- `struct "t*7" $ s "bd/65535"`
right_asked_for_wholes : numbers (Join Left Struct (Fast (rate 7 1) held) (Fast (rate 1 65535) bd)) ≡ 23 ∷ 458745 ∷ 7340032 ∷ []
unfolding frac gcd lcm
right_asked_for_wholes = refl

-- `s "bd*7" # n "1/65535"`
right_asked_for_events : numbers (Join Left (Controls Union) (Fast (rate 7 1) bd) (Fast (rate 1 65535) bd)) ≡ 23 ∷ 458745 ∷ 7340032 ∷ []
unfolding frac gcd lcm
right_asked_for_events = refl

-- `mask "t/65535" $ s "bd*7"`
mask_asked_for_events : numbers (Join Left Mask (Fast (rate 7 1) bd) (Fast (rate 1 65535) held)) ≡ 23 ∷ 458745 ∷ 7340032 ∷ []
unfolding frac gcd lcm
mask_asked_for_events = refl

-- `s "bd/65535" +| n "1*7"`
left_asked_for_wholes : numbers (Join Right (Controls Add) (Fast (rate 1 65535) bd) (Fast (rate 7 1) bd)) ≡ 23 ∷ 458745 ∷ 7340032 ∷ []
unfolding frac gcd lcm
left_asked_for_wholes = refl

-- `s "bd/3" # n "1*2"`: a whole of the left hangs over by three cycles, and twice as far for a rate of two
right_asked_further : numbers (Join Left (Controls Union) (Fast (rate 1 3) bd) (Fast (rate 2 1) bd)) ≡ 24 ∷ 138240 ∷ 2097158 ∷ []
unfolding frac gcd lcm
right_asked_further = refl

-- `n "1*2" +| s "bd/3"`
left_asked_further : numbers (Join Right (Controls Add) (Fast (rate 2 1) bd) (Fast (rate 1 3) bd)) ≡ 24 ∷ 138240 ∷ 2097158 ∷ []
unfolding frac gcd lcm
left_asked_further = refl

-- `s "bd/3" +| n "1*2"`: the right has the wholes, and no whole of it hangs over
left_asked_no_further : numbers (Join Right (Controls Add) (Fast (rate 1 3) bd) (Fast (rate 2 1) bd)) ≡ 8 ∷ 46080 ∷ 2097152 ∷ []
unfolding frac gcd lcm
left_asked_no_further = refl

-- `n "1*2" |+| n "1/3"`: each side is asked for the arc
both_asked_for_the_arc : numbers (Join Both (Controls Add) (Fast (rate 2 1) bd) (Fast (rate 1 3) bd)) ≡ 8 ∷ 138240 ∷ 2097152 ∷ []
unfolding frac gcd lcm
both_asked_for_the_arc = refl

-- ---- a side that gives the wholes is asked for the arc and no finer or further
-- `s "bd/7" # n "1*11"`
left_asked_for_the_arc : numbers (Join Left (Controls Union) (Fast (rate 1 7) bd) (Fast (rate 11 1) bd)) ≡ 183 ∷ 506880 ∷ 11534413 ∷ []
unfolding frac gcd lcm
left_asked_for_the_arc = refl

-- `n "1*11" +| s "bd/7"`
right_asked_for_the_arc : numbers (Join Right (Controls Add) (Fast (rate 11 1) bd) (Fast (rate 1 7) bd)) ≡ 183 ∷ 506880 ∷ 11534413 ∷ []
unfolding frac gcd lcm
right_asked_for_the_arc = refl

-- `s "bd/7" |+| n "1*11"` and `n "1*11" |+| s "bd/7"`
both_asked_for_the_arc_on_the_left : numbers (Join Both (Controls Add) (Fast (rate 1 7) bd) (Fast (rate 11 1) bd)) ≡ 26 ∷ 506880 ∷ 11534336 ∷ []
unfolding frac gcd lcm
both_asked_for_the_arc_on_the_left = refl

both_asked_for_the_arc_on_the_right : numbers (Join Both (Controls Add) (Fast (rate 11 1) bd) (Fast (rate 1 7) bd)) ≡ 26 ∷ 506880 ∷ 11534336 ∷ []
unfolding frac gcd lcm
both_asked_for_the_arc_on_the_right = refl

-- `s "bd/3" # n "1"`
left_asked_no_further_than_the_arc : numbers (Join Left (Controls Union) (Fast (rate 1 3) bd) bd) ≡ 10 ∷ 138240 ∷ 1048579 ∷ []
unfolding frac gcd lcm
left_asked_no_further_than_the_arc = refl

-- `n "1" +| s "bd/3"`
right_asked_no_further_than_the_arc : numbers (Join Right (Controls Add) bd (Fast (rate 1 3) bd)) ≡ 10 ∷ 138240 ∷ 1048579 ∷ []
unfolding frac gcd lcm
right_asked_no_further_than_the_arc = refl

-- `s "bd/3" |+| n "1/5"`
both_asked_no_further_than_the_arc : numbers (Join Both (Controls Add) (Fast (rate 1 3) bd) (Fast (rate 1 5) bd)) ≡ 6 ∷ 230400 ∷ 1048581 ∷ []
unfolding frac gcd lcm
both_asked_no_further_than_the_arc = refl

-- `s "bd/3" # n "1/5"`
slow_asked_for_slow_wholes : numbers (Join Left (Controls Union) (Fast (rate 1 3) bd) (Fast (rate 1 5) bd)) ≡ 17 ∷ 138240 ∷ 1048584 ∷ []
unfolding frac gcd lcm
slow_asked_for_slow_wholes = refl
