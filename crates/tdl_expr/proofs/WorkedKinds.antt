-- The load, the fineness and the reach of worked trees of tests, shifts, joins, cuts and gates, each by computing alone.
-- Each row has the line that stands for the tree.
use Rattle.std.proofs.Common.{◌≡◌, ℕ, [], ◌∷◌, pos, true, false, refl}
use Rattle.std.specs.Prelude.{neg_ℤ}
use Rattle.tdl_control.specs.declared.leaves.Leaf.TheVariants.{Truth}
use Rattle.tdl_control.specs.declared.ops.MapOp.TheVariants.{Union, Add, Sub, Mul}
use Rattle.tdl_fraction.specs.Divisor.{gcd, lcm}
use Rattle.tdl_fraction.specs.Rational.{Rational, frac}
use Rattle.tdl_expr.specs.declared.joinings.Op.TheVariants.{Controls, Struct, Mask}
use Rattle.tdl_expr.specs.declared.joinings.Side.TheVariants.{Left, Right, Both}
use Rattle.tdl_expr.specs.declared.rounds.Test.TheVariants.{Equal, AtLeast}
use Rattle.tdl_expr.specs.Tree.{Tree, Silence, Pure, Fast, TimeCat, Cat, Stack, Rev, When, Shift, Join, Ply, Gate, empty, child, none, step}
use Rattle.tdl_expr.specs.Bounds.{bounds}
use Rattle.tdl_expr.proofs.WorkedBounds.{numbers, bd, rate, three}

-- so far back
abbrev back : ℕ → ℕ → Rational
back p s = frac (neg_ℤ (pos p)) s

abbrev two : Tree
two = TimeCat (step 1 bd (step 1 bd none))

abbrev held : Tree
held = Pure (Truth true)

-- ---- tests of the cycle
-- `every 3 (fast 2) $ s "bd sn"`
every : numbers (When 3 (Equal 0) (Fast (rate 2 1) two) two) ≡ 11 ∷ 46080 ∷ 2097152 ∷ []
unfolding frac gcd lcm
every = refl

-- `every' 4 1 (slow 3) $ s "bd*2"`
every_from_one : numbers (When 4 (Equal 1) (Fast (rate 1 3) (Fast (rate 2 1) bd)) (Fast (rate 2 1) bd)) ≡ 8 ∷ 138240 ∷ 2097152 ∷ []
unfolding frac gcd lcm
every_from_one = refl

-- `whenmod 5 3 (fast (7/3)) $ s "bd"`
when_mod : numbers (When 5 (AtLeast 3) (Fast (rate 7 3) bd) bd) ≡ 7 ∷ 322560 ∷ 2446678 ∷ []
unfolding frac gcd lcm
when_mod = refl

-- ---- shifts
-- `((1/4) <~) $ s "bd*3"`
earlier : numbers (Shift (back 1 4) (Fast (rate 3 1) bd)) ≡ 9 ∷ 46080 ∷ 3145731 ∷ []
unfolding frac gcd lcm
earlier = refl

-- `rotR 1 $ s "bd"`
later_by_a_cycle : numbers (Shift (rate 1 1) bd) ≡ 2 ∷ 46080 ∷ 1048577 ∷ []
unfolding frac gcd lcm
later_by_a_cycle = refl

-- `slow 4 $ 0.25 ~> s "bd"`
later_and_slower : numbers (Fast (rate 1 4) (Shift (rate 1 4) bd)) ≡ 4 ∷ 184320 ∷ 1048584 ∷ []
unfolding frac gcd lcm
later_and_slower = refl

-- `rotL (7/3) $ s "bd sn/5"`
earlier_by_cycles : numbers (Shift (back 7 3) (TimeCat (step 1 bd (step 1 (Fast (rate 1 5) bd) none)))) ≡ 9 ∷ 230400 ∷ 1048584 ∷ []
unfolding frac gcd lcm
earlier_by_cycles = refl

-- `iter 3 $ s "bd sn"`
iter : numbers (Cat (child two (child (Shift (back 1 3) two) (child (Shift (back 2 3) two) empty)))) ≡ 18 ∷ 46080 ∷ 1048577 ∷ []
unfolding frac gcd lcm
iter = refl

-- `brak $ s "bd sn"`
brak : numbers (When 2 (Equal 1) (Shift (rate 1 4) (TimeCat (step 1 two (step 1 Silence none)))) two) ≡ 15 ∷ 46080 ∷ 1048577 ∷ []
unfolding frac gcd lcm
brak = refl

-- ---- joins
-- `s "bd*2 sn" # n "1 2"`
left : numbers (Join Left (Controls Union) (TimeCat (step 1 (Fast (rate 2 1) bd) (step 1 bd none))) two) ≡ 15 ∷ 46080 ∷ 2097152 ∷ []
unfolding frac gcd lcm
left = refl

-- `n "1 2 3" +| n "<1 2>/3"`
right : numbers (Join Right (Controls Add) (TimeCat (step 1 bd (step 1 bd (step 1 bd none)))) (Fast (rate 1 3) (Cat (child bd (child bd empty)))))
    ≡ 33 ∷ 138240 ∷ 1048579 ∷ []
unfolding frac gcd lcm
right = refl

-- `n "1/2" |+| n "3"`
both : numbers (Join Both (Controls Add) (Fast (rate 1 2) bd) bd) ≡ 5 ∷ 92160 ∷ 1048578 ∷ []
unfolding frac gcd lcm
both = refl

abbrev fast_and_slow : Tree
fast_and_slow = TimeCat (step 1 (Fast (rate 2 1) bd) (step 1 (Fast (rate 1 3) bd) none))

abbrev slow_turns : Tree
slow_turns = Fast (rate 1 5) (Cat (child bd (child bd empty)))

-- `n "1*2 2/3" |* n "<3 4>/5"`
left_of_slow : numbers (Join Left (Controls Mul) fast_and_slow slow_turns) ≡ 91 ∷ 138240 ∷ 2097152 ∷ []
unfolding frac gcd lcm
left_of_slow = refl

-- `n "1*2 2/3" *| n "<3 4>/5"`
right_of_slow : numbers (Join Right (Controls Mul) fast_and_slow slow_turns) ≡ 71 ∷ 230400 ∷ 2097162 ∷ []
unfolding frac gcd lcm
right_of_slow = refl

-- `n "1*2 2/3" |-| n "<3 4>/5"`
both_of_slow : numbers (Join Both (Controls Sub) fast_and_slow slow_turns) ≡ 14 ∷ 230400 ∷ 2097152 ∷ []
unfolding frac gcd lcm
both_of_slow = refl

-- `slow 3 $ n "1 2 3/2" |+| n "4/5 5/7"`
slower_both : numbers (Fast (rate 1 3) (Join Both (Controls Add) (TimeCat (step 1 bd (step 1 bd (step 1 (Fast (rate 1 2) bd) none))))
    (TimeCat (step 1 (Fast (rate 1 5) bd) (step 1 (Fast (rate 1 7) bd) none))))) ≡ 18 ∷ 967680 ∷ 1048585 ∷ []
unfolding frac gcd lcm
slower_both = refl

-- `n "1*3" +| n "~"`: a side without events still asks once
right_of_nothing : numbers (Join Right (Controls Add) (Fast (rate 3 1) bd) Silence) ≡ 6 ∷ 46080 ∷ 3145728 ∷ []
unfolding frac gcd lcm
right_of_nothing = refl

-- `struct "t*2" $ s "bd/3"`
structured : numbers (Join Left Struct (Fast (rate 2 1) held) (Fast (rate 1 3) bd)) ≡ 8 ∷ 46080 ∷ 2097152 ∷ []
unfolding frac gcd lcm
structured = refl

-- `mask "t/3 f" $ s "bd*2"`
masked : numbers (Join Left Mask (Fast (rate 2 1) bd) (TimeCat (step 1 (Fast (rate 1 3) held) (step 1 held none)))) ≡ 12 ∷ 46080 ∷ 2097152 ∷ []
unfolding frac gcd lcm
masked = refl

-- ---- cuts and gates
-- `ply 3 $ s "bd sn"`
cut_in_three : numbers (Ply 3 two) ≡ 10 ∷ 46080 ∷ 1048576 ∷ []
unfolding frac gcd lcm
cut_in_three = refl

-- `ply 7 $ s "bd sn"`
cut_in_seven : numbers (Ply 7 two) ≡ 18 ∷ 322560 ∷ 1048576 ∷ []
unfolding frac gcd lcm
cut_in_seven = refl

-- `ply 2 $ ply 3 $ s "bd/5"`
cut_twice : numbers (Ply 2 (Ply 3 (Fast (rate 1 5) bd))) ≡ 13 ∷ 230400 ∷ 1048581 ∷ []
unfolding frac gcd lcm
cut_twice = refl

-- `within (0, 0.5) (fast 2) $ s "bd sn"`
within : numbers (Stack (child (Gate (rate 0 1) (rate 1 2) true (Fast (rate 2 1) two)) (child (Gate (rate 0 1) (rate 1 2) false two) empty)))
    ≡ 13 ∷ 46080 ∷ 2097152 ∷ []
unfolding frac gcd lcm
within = refl

abbrev three_halves : Tree
three_halves = Fast (rate 1 2) (Fast (rate 3 1) bd)

-- `fast 3 $ ply 7 $ within (0.25, 0.5) rev $ s "bd*3/2"`
cut_within : numbers (Fast (rate 3 1) (Ply 7 (Stack (child (Gate (rate 1 4) (rate 1 2) true (Rev three_halves))
    (child (Gate (rate 1 4) (rate 1 2) false three_halves) empty))))) ≡ 172 ∷ 322560 ∷ 4718592 ∷ []
unfolding frac gcd lcm
cut_within = refl

-- ---- how many events a cycle has at most, and how far wholes hang over it, worked by hand
abbrev slow : Tree
slow = Fast (rate 1 2) bd

counts_of_tests_and_shifts : (bounds (When 2 (Equal 0) three bd)).count ∷ (bounds (Shift (rate 1 4) three)).count
    ∷ (bounds (Shift (rate 2 1) three)).count ∷ [] ≡ 3 ∷ 6 ∷ 3 ∷ []
unfolding frac gcd lcm
counts_of_tests_and_shifts = refl

-- a whole of the slow side touches five cycles of the other at most
counts_of_joins : (bounds (Join Left Struct slow three)).count ∷ (bounds (Join Right Struct slow three)).count
    ∷ (bounds (Join Both Struct slow three)).count ∷ [] ≡ 15 ∷ 3 ∷ 3 ∷ []
unfolding frac gcd lcm
counts_of_joins = refl

counts_of_cuts_and_gates : (bounds (Ply 4 three)).count ∷ (bounds (Gate (rate 0 1) (rate 1 2) true three)).count ∷ [] ≡ 12 ∷ 3 ∷ []
unfolding frac gcd lcm
counts_of_cuts_and_gates = refl

hangs_of_tests_and_shifts : (bounds (When 2 (Equal 0) slow bd)).hang ∷ (bounds (Shift (back 1 4) slow)).hang
    ∷ (bounds (Shift (rate 2 1) slow)).hang ∷ [] ≡ 2 ∷ 3 ∷ 2 ∷ []
unfolding frac gcd lcm
hangs_of_tests_and_shifts = refl

hangs_of_joins : (bounds (Join Left Struct slow bd)).hang ∷ (bounds (Join Right Struct slow bd)).hang
    ∷ (bounds (Join Both Struct slow bd)).hang ∷ [] ≡ 2 ∷ 0 ∷ 0 ∷ []
unfolding frac gcd lcm
hangs_of_joins = refl
