-- What patterns that are turned round have at a time, and what joins with one value play.
-- The values are the events that another program, which was written apart from this one, has for the texts beside the rows.
use Rattle.std.proofs.Common.{◌≡◌, ℕ, List, [], ◌∷◌, ℤ, pos, negsuc, refl}
use Rattle.tdl_control.specs.declared.leaves.Leaf.{Leaf}
use Rattle.tdl_control.specs.declared.leaves.Leaf.TheVariants as leaf
use Rattle.tdl_control.specs.declared.keys.Key.TheVariants.{N}
use Rattle.tdl_control.specs.declared.ops.MapOp.TheVariants.{Add, Sub, Mul}
use Rattle.tdl_control.specs.Setting.{Number}
use Rattle.tdl_fraction.specs.Divisor.{gcd}
use Rattle.tdl_fraction.specs.Rational.{Rational, frac, whole, ◌+ℚ◌, ◌-ℚ◌, ◌*ℚ◌, ◌/ℚ◌, inverse, flip, floor, ceil, min_ℚ, max_ℚ, neg_ℚ, lt_ℚ, le_ℚ}
use Rattle.tdl_fraction.specs.Arc.{Arc, meet, arc_between}
use Rattle.tdl_event.specs.Event.{Event}
use Rattle.tdl_expr.specs.Tree.{Tree, Pure, Fast, TimeCat, Cat, Rev, Join, empty, child, none, step}
use Rattle.tdl_expr.specs.declared.joinings.Op.TheVariants.{Controls}
use Rattle.tdl_expr.specs.declared.joinings.Side.TheVariants.{Left, Right, Both}
use Rattle.tdl_meaning.specs.Pattern.{over, pure, fast, time_cat, cat, rev}
use Rattle.tdl_meaning.specs.Meaning.{cyc}
use Rattle.tdl_meaning.specs.Kinds.{join_left, join_right, join_both}
use Rattle.tdl_meaning.specs.Heard.{heard}

-- from a / b up to c / d
abbrev arc : ℤ → ℕ → ℤ → ℕ → Arc
arc a b c d = record { start = frac a b; stop = frac c d }

-- a control map of this `n`
abbrev number : ℤ → Leaf
number k = leaf.Controls ((N, Number k) ∷ [])

abbrev event : Arc → Arc → ℤ → Event
event whole part k = record { whole = whole; part = part; value = number k }

abbrev entire : Arc → ℤ → Event
entire arc k = event arc arc k

unfoldable plays : Tree → Arc → List Event
unfolding over pure fast time_cat cat rev join_left join_right join_both meet arc_between
    frac whole ◌+ℚ◌ ◌-ℚ◌ ◌*ℚ◌ ◌/ℚ◌ inverse flip floor ceil min_ℚ max_ℚ neg_ℚ lt_ℚ le_ℚ gcd
plays t arc = over (cyc t) arc

unfoldable hears : Tree → Rational → List (Arc × Leaf)
unfolding plays
hears t u = heard (cyc t) u

abbrev n : ℕ → Tree
n k = Pure (number (pos k))

-- one tree after another, with weights
abbrev shares : ℕ → Tree → ℕ → Tree → Tree
shares v a w b = TimeCat (step v a (step w b none))

-- `n "1 2@2"`
abbrev short_and_long : Tree
short_and_long = shares 1 (n 1) 2 (n 2)

-- ---- turned round in its cycle
-- `rev $ n "1 2@2"`: what is first without it, last with it
turned_early : hears (Rev short_and_long) (frac (pos 1) 2) ≡ (arc (pos 0) 1 (pos 2) 3, number (pos 2)) ∷ []
unfolding hears
turned_early = refl

turned_late : hears (Rev short_and_long) (frac (pos 5) 6) ≡ (arc (pos 2) 3 (pos 1) 1, number (pos 1)) ∷ []
unfolding hears
turned_late = refl

not_turned : hears short_and_long (frac (pos 1) 6) ≡ (arc (pos 0) 1 (pos 1) 3, number (pos 1)) ∷ []
unfolding hears
not_turned = refl

-- in cycle 2 likewise
turned_in_a_later_cycle : hears (Rev short_and_long) (frac (pos 17) 6) ≡ (arc (pos 8) 3 (pos 3) 1, number (pos 1)) ∷ []
unfolding hears
turned_in_a_later_cycle = refl

-- `rev $ n "1 [2 3]"`
turned_within : hears (Rev (shares 1 (n 1) 1 (shares 1 (n 2) 1 (n 3)))) (frac (pos 1) 8) ≡ (arc (pos 0) 1 (pos 1) 4, number (pos 3)) ∷ []
unfolding hears
turned_within = refl

turned_in_the_middle : hears (Rev (shares 1 (n 1) 1 (shares 1 (n 2) 1 (n 3)))) (frac (pos 3) 8) ≡ (arc (pos 1) 4 (pos 1) 2, number (pos 2)) ∷ []
unfolding hears
turned_in_the_middle = refl

-- `rev $ n "<1 2>*1.5"`: a whole that hangs over the end of its cycle hangs over the beginning, and each cycle is turned by itself
abbrev fast_turns : Tree
fast_turns = Fast (frac (pos 3) 2) (Cat (child (n 1) (child (n 2) empty)))

turned_over_the_beginning : hears (Rev fast_turns) (frac (pos 1) 6) ≡ (arc (negsuc 0) 3 (pos 1) 3, number (pos 2)) ∷ []
unfolding hears
turned_over_the_beginning = refl

turned_over_the_end : hears (Rev fast_turns) (frac (pos 11) 6) ≡ (arc (pos 5) 3 (pos 7) 3, number (pos 2)) ∷ []
unfolding hears
turned_over_the_end = refl

-- `rev $ fast (3/2) $ n "1 2@2"`
turned_at_a_rate : hears (Rev (Fast (frac (pos 3) 2) short_and_long)) (frac (pos 2) 9) ≡ (arc (pos 1) 9 (pos 1) 3, number (pos 1)) ∷ []
unfolding hears
turned_at_a_rate = refl

-- the whole list, whose order stays
turned_list : plays (Rev (Fast (frac (pos 3) 2) short_and_long)) (arc (pos 0) 1 (pos 1) 1)
    ≡ entire (arc (pos 7) 9 (pos 1) 1) (pos 1)
    ∷ entire (arc (pos 1) 3 (pos 7) 9) (pos 2)
    ∷ entire (arc (pos 1) 9 (pos 1) 3) (pos 1)
    ∷ event (arc (negsuc 0) 3 (pos 1) 9) (arc (pos 0) 1 (pos 1) 9) (pos 2)
    ∷ []
unfolding plays
turned_list = refl

-- ---- joined with one value: with the left's wholes, with the right's, and with what both share
-- `n "1 2@2" |* n "10"`
left_product : plays (Join Left (Controls Mul) short_and_long (n 10)) (arc (pos 0) 1 (pos 1) 1)
    ≡ entire (arc (pos 0) 1 (pos 1) 3) (pos 10) ∷ entire (arc (pos 1) 3 (pos 1) 1) (pos 20) ∷ []
unfolding plays
left_product = refl

-- `n "1 2@2" *| n "10"`: the one value has the wholes
right_product : plays (Join Right (Controls Mul) short_and_long (n 10)) (arc (pos 0) 1 (pos 1) 1)
    ≡ event (arc (pos 0) 1 (pos 1) 1) (arc (pos 0) 1 (pos 1) 3) (pos 10)
    ∷ event (arc (pos 0) 1 (pos 1) 1) (arc (pos 1) 3 (pos 1) 1) (pos 20)
    ∷ []
unfolding plays
right_product = refl

-- `n "1 2@2" |*| n "10"`
both_product : plays (Join Both (Controls Mul) short_and_long (n 10)) (arc (pos 0) 1 (pos 1) 1)
    ≡ entire (arc (pos 0) 1 (pos 1) 3) (pos 10) ∷ entire (arc (pos 1) 3 (pos 1) 1) (pos 20) ∷ []
unfolding plays
both_product = refl

-- `n "1 2@2" +| n "10"`
right_sum : plays (Join Right (Controls Add) short_and_long (n 10)) (arc (pos 0) 1 (pos 1) 1)
    ≡ event (arc (pos 0) 1 (pos 1) 1) (arc (pos 0) 1 (pos 1) 3) (pos 11)
    ∷ event (arc (pos 0) 1 (pos 1) 1) (arc (pos 1) 3 (pos 1) 1) (pos 12)
    ∷ []
unfolding plays
right_sum = refl

-- `n "10" +| n "1 2@2"`
right_sum_with_one_on_the_left : plays (Join Right (Controls Add) (n 10) short_and_long) (arc (pos 0) 1 (pos 1) 1)
    ≡ entire (arc (pos 0) 1 (pos 1) 3) (pos 11) ∷ entire (arc (pos 1) 3 (pos 1) 1) (pos 12) ∷ []
unfolding plays
right_sum_with_one_on_the_left = refl

-- `n "1/2" |+| n "10"`: a cycle of the one value cuts the whole of two cycles
both_sum_of_a_long_event : plays (Join Both (Controls Add) (Fast (frac (pos 1) 2) (n 1)) (n 10)) (arc (pos 0) 1 (pos 2) 1)
    ≡ entire (arc (pos 0) 1 (pos 1) 1) (pos 11) ∷ entire (arc (pos 1) 1 (pos 2) 1) (pos 11) ∷ []
unfolding plays
both_sum_of_a_long_event = refl

-- `n "1*1.5" +| n "10"`
right_sum_at_a_rate : plays (Join Right (Controls Add) (Fast (frac (pos 3) 2) (n 1)) (n 10)) (arc (pos 0) 1 (pos 2) 1)
    ≡ event (arc (pos 0) 1 (pos 1) 1) (arc (pos 0) 1 (pos 2) 3) (pos 11)
    ∷ event (arc (pos 0) 1 (pos 1) 1) (arc (pos 2) 3 (pos 1) 1) (pos 11)
    ∷ event (arc (pos 1) 1 (pos 2) 1) (arc (pos 1) 1 (pos 4) 3) (pos 11)
    ∷ event (arc (pos 1) 1 (pos 2) 1) (arc (pos 4) 3 (pos 2) 1) (pos 11)
    ∷ []
unfolding plays
right_sum_at_a_rate = refl

-- `n "1*1.5" |-| n "10"`
both_difference_at_a_rate : plays (Join Both (Controls Sub) (Fast (frac (pos 3) 2) (n 1)) (n 10)) (arc (pos 0) 1 (pos 2) 1)
    ≡ entire (arc (pos 0) 1 (pos 2) 3) (negsuc 8)
    ∷ entire (arc (pos 2) 3 (pos 1) 1) (negsuc 8)
    ∷ entire (arc (pos 1) 1 (pos 4) 3) (negsuc 8)
    ∷ entire (arc (pos 4) 3 (pos 2) 1) (negsuc 8)
    ∷ []
unfolding plays
both_difference_at_a_rate = refl

-- ---- joined with more values
abbrev two : Tree
two = shares 1 (n 1) 1 (n 2)

abbrev three : Tree
three = TimeCat (step 1 (n 3) (step 1 (n 4) (step 1 (n 5) none)))

-- `n "1 2" |* n "3 4 5"`
left_product_of_two_and_three : plays (Join Left (Controls Mul) two three) (arc (pos 0) 1 (pos 1) 1)
    ≡ event (arc (pos 0) 1 (pos 1) 2) (arc (pos 0) 1 (pos 1) 3) (pos 3)
    ∷ event (arc (pos 0) 1 (pos 1) 2) (arc (pos 1) 3 (pos 1) 2) (pos 4)
    ∷ event (arc (pos 1) 2 (pos 1) 1) (arc (pos 1) 2 (pos 2) 3) (pos 8)
    ∷ event (arc (pos 1) 2 (pos 1) 1) (arc (pos 2) 3 (pos 1) 1) (pos 10)
    ∷ []
unfolding plays
left_product_of_two_and_three = refl

-- `n "1 2" *| n "3 4 5"`
right_product_of_two_and_three : plays (Join Right (Controls Mul) two three) (arc (pos 0) 1 (pos 1) 1)
    ≡ entire (arc (pos 0) 1 (pos 1) 3) (pos 3)
    ∷ event (arc (pos 1) 3 (pos 2) 3) (arc (pos 1) 3 (pos 1) 2) (pos 4)
    ∷ event (arc (pos 1) 3 (pos 2) 3) (arc (pos 1) 2 (pos 2) 3) (pos 8)
    ∷ entire (arc (pos 2) 3 (pos 1) 1) (pos 10)
    ∷ []
unfolding plays
right_product_of_two_and_three = refl

-- `n "1 2" |*| n "3 4 5"`
both_product_of_two_and_three : plays (Join Both (Controls Mul) two three) (arc (pos 0) 1 (pos 1) 1)
    ≡ entire (arc (pos 0) 1 (pos 1) 3) (pos 3)
    ∷ entire (arc (pos 1) 3 (pos 1) 2) (pos 4)
    ∷ entire (arc (pos 1) 2 (pos 2) 3) (pos 8)
    ∷ entire (arc (pos 2) 3 (pos 1) 1) (pos 10)
    ∷ []
unfolding plays
both_product_of_two_and_three = refl
