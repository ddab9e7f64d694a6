-- Further kinds of pattern at worked rows: events that were worked out apart from the definitions.
use Rattle.std.proofs.Common.{◌≡◌, ℕ, ◌+◌, Bool, true, false, eqb, leb, List, [], ◌∷◌, Some, None, ℤ, pos, negsuc, refl}
use Rattle.tdl_control.specs.declared.leaves.Leaf.TheVariants.{Truth, Index}
use Rattle.tdl_fraction.specs.Divisor.{gcd}
use Rattle.tdl_fraction.specs.Rational.{Rational, frac, whole, ◌+ℚ◌, ◌-ℚ◌, ◌*ℚ◌, ◌/ℚ◌, inverse, flip, floor, ceil, min_ℚ, max_ℚ, neg_ℚ, lt_ℚ, le_ℚ}
use Rattle.tdl_fraction.specs.Arc.{Arc, meet, arc_between}
use Rattle.tdl_event.specs.Event.{Event}
use Rattle.tdl_meaning.specs.Pattern.{Pattern, over, silence, pure, fast, time_cat, cat, stack}
use Rattle.tdl_meaning.specs.Kinds.{Joining, when, shift, gate, ply, join_left, join_right, join_both}

-- from a / b up to c / d
abbrev arc : ℤ → ℕ → ℤ → ℕ → Arc
arc a b c d = record { start = frac a b; stop = frac c d }

abbrev event : Arc → Arc → ℕ → Event
event whole part k = record { whole = whole; part = part; value = Index k }

abbrev entire : Arc → ℕ → Event
entire arc k = event arc arc k

-- the events of a pattern in an arc
unfoldable plays : Pattern → Arc → List Event
unfolding over silence pure fast time_cat cat stack when shift gate ply join_left join_right join_both meet arc_between
    frac whole ◌+ℚ◌ ◌-ℚ◌ ◌*ℚ◌ ◌/ℚ◌ inverse flip floor ceil min_ℚ max_ℚ neg_ℚ lt_ℚ le_ℚ gcd
plays p arc = over p arc

abbrev at : ℕ → Pattern
at k = pure (Index k)

abbrev at_rate : ℤ → ℕ → Pattern → Pattern
at_rate n d p = fast (frac n d) p

-- in every so many cycles, and between two places of each cycle, twice as fast
abbrev twice_every : ℕ → (ℕ → Bool) → Pattern → Pattern
twice_every modulus meets p = when modulus meets (at_rate (pos 2) 1 p) p

abbrev twice_between : Rational → Rational → Pattern → Pattern
twice_between from to p = stack (gate from to true (at_rate (pos 2) 1 p) ∷ gate from to false p ∷ [])

-- two steps, and three, that share each cycle evenly
abbrev two : Pattern → Pattern → Pattern
two p q = time_cat (record { weight = 1; pattern = p } ∷ record { weight = 1; pattern = q } ∷ [])

abbrev three : Pattern → Pattern → Pattern → Pattern
three p q r = time_cat (record { weight = 1; pattern = p } ∷ record { weight = 1; pattern = q } ∷ record { weight = 1; pattern = r } ∷ [])

-- two numbers together, and of any two values the second
abbrev sums : Joining
sums (Index a) (Index b) = Some (Index (a + b))
sums a b = None

abbrev second : Joining
second a b = Some b

-- ---- when
-- twice as fast in every third cycle
every_third : plays (twice_every 3 (λ k. eqb k 0) (at 1)) (arc (pos 0) 1 (pos 4) 1)
    ≡ entire (arc (pos 0) 1 (pos 1) 2) 1
    ∷ entire (arc (pos 1) 2 (pos 1) 1) 1
    ∷ entire (arc (pos 1) 1 (pos 2) 1) 1
    ∷ entire (arc (pos 2) 1 (pos 3) 1) 1
    ∷ entire (arc (pos 3) 1 (pos 7) 2) 1
    ∷ entire (arc (pos 7) 2 (pos 4) 1) 1
    ∷ []
unfolding plays
every_third = refl

-- and before cycle 0
every_third_before_zero : plays (twice_every 3 (λ k. eqb k 0) (at 1)) (arc (negsuc 3) 1 (negsuc 1) 1)
    ≡ entire (arc (negsuc 3) 1 (negsuc 2) 1) 1
    ∷ entire (arc (negsuc 2) 1 (negsuc 4) 2) 1
    ∷ entire (arc (negsuc 4) 2 (negsuc 1) 1) 1
    ∷ []
unfolding plays
every_third_before_zero = refl

-- in the last two of four cycles, over an arc that begins and ends within cycles
last_two_of_four : plays (twice_every 4 (λ k. leb 2 k) (at 1)) (arc (pos 1) 2 (pos 11) 4)
    ≡ event (arc (pos 0) 1 (pos 1) 1) (arc (pos 1) 2 (pos 1) 1) 1
    ∷ entire (arc (pos 1) 1 (pos 2) 1) 1
    ∷ entire (arc (pos 2) 1 (pos 5) 2) 1
    ∷ event (arc (pos 5) 2 (pos 3) 1) (arc (pos 5) 2 (pos 11) 4) 1
    ∷ []
unfolding plays
last_two_of_four = refl

-- ---- shift
-- a quarter later: what was cut at the end of a cycle is cut at the next one's start
a_quarter_later : plays (shift (frac (pos 1) 4) (two (at 1) (at 2))) (arc (pos 0) 1 (pos 1) 1)
    ≡ event (arc (negsuc 0) 4 (pos 1) 4) (arc (pos 0) 1 (pos 1) 4) 2
    ∷ entire (arc (pos 1) 4 (pos 3) 4) 1
    ∷ event (arc (pos 3) 4 (pos 5) 4) (arc (pos 3) 4 (pos 1) 1) 2
    ∷ []
unfolding plays
a_quarter_later = refl

-- a third earlier, with an event longer than its step
a_third_earlier : plays (shift (frac (negsuc 0) 3) (two (at 1) (at_rate (pos 1) 3 (at 2)))) (arc (pos 0) 1 (pos 2) 1)
    ≡ event (arc (negsuc 0) 3 (pos 1) 6) (arc (pos 0) 1 (pos 1) 6) 1
    ∷ event (arc (pos 1) 6 (pos 5) 3) (arc (pos 1) 6 (pos 2) 3) 2
    ∷ event (arc (pos 2) 3 (pos 7) 6) (arc (pos 2) 3 (pos 1) 1) 1
    ∷ event (arc (pos 2) 3 (pos 7) 6) (arc (pos 1) 1 (pos 7) 6) 1
    ∷ event (arc (pos 2) 3 (pos 13) 6) (arc (pos 7) 6 (pos 5) 3) 2
    ∷ event (arc (pos 5) 3 (pos 13) 6) (arc (pos 5) 3 (pos 2) 1) 1
    ∷ []
unfolding plays
a_third_earlier = refl

-- by more than a cycle, before cycle 0
more_than_a_cycle : plays (shift (frac (pos 5) 4) (two (at 1) (at 2))) (arc (negsuc 0) 1 (pos 0) 1)
    ≡ event (arc (negsuc 4) 4 (negsuc 2) 4) (arc (negsuc 0) 1 (negsuc 2) 4) 2
    ∷ entire (arc (negsuc 2) 4 (negsuc 0) 4) 1
    ∷ event (arc (negsuc 0) 4 (pos 1) 4) (arc (negsuc 0) 4 (pos 0) 1) 2
    ∷ []
unfolding plays
more_than_a_cycle = refl

-- ---- gate
-- twice as fast in the first half of each cycle
first_half : plays (twice_between (frac (pos 0) 1) (frac (pos 1) 2) (two (at 1) (at 2))) (arc (pos 0) 1 (pos 1) 1)
    ≡ entire (arc (pos 0) 1 (pos 1) 4) 1
    ∷ entire (arc (pos 1) 4 (pos 1) 2) 2
    ∷ entire (arc (pos 1) 2 (pos 1) 1) 2
    ∷ []
unfolding plays
first_half = refl

-- an event counts where its whole starts, also in an earlier cycle
middle : plays (twice_between (frac (pos 1) 4) (frac (pos 3) 4) (two (at 1) (at_rate (pos 2) 3 (at 2)))) (arc (pos 0) 1 (pos 2) 1)
    ≡ event (arc (pos 1) 4 (pos 5) 8) (arc (pos 1) 4 (pos 1) 2) 2
    ∷ entire (arc (pos 1) 2 (pos 3) 4) 1
    ∷ event (arc (pos 1) 2 (pos 7) 8) (arc (pos 3) 4 (pos 7) 8) 2
    ∷ entire (arc (pos 0) 1 (pos 1) 2) 1
    ∷ entire (arc (pos 3) 2 (pos 7) 4) 1
    ∷ entire (arc (pos 1) 1 (pos 3) 2) 1
    ∷ event (arc (pos 1) 1 (pos 7) 4) (arc (pos 3) 2 (pos 7) 4) 2
    ∷ event (arc (pos 7) 4 (pos 5) 2) (arc (pos 7) 4 (pos 2) 1) 2
    ∷ []
unfolding plays
middle = refl

-- and before cycle 0
middle_before_zero : plays (twice_between (frac (pos 1) 4) (frac (pos 3) 4) (two (at 1) (at_rate (pos 2) 3 (at 2)))) (arc (negsuc 1) 1 (negsuc 0) 1)
    ≡ entire (arc (negsuc 2) 2 (negsuc 4) 4) 1
    ∷ entire (arc (negsuc 1) 1 (negsuc 2) 2) 1
    ∷ event (arc (negsuc 1) 1 (negsuc 4) 4) (arc (negsuc 2) 2 (negsuc 4) 4) 2
    ∷ event (arc (negsuc 4) 4 (negsuc 0) 2) (arc (negsuc 4) 4 (negsuc 0) 1) 2
    ∷ []
unfolding plays
middle_before_zero = refl

-- ---- ply
-- each event twice: one that goes on in the next cycle has its second half there
each_twice : plays (ply 2 (two (at 1) (at_rate (pos 1) 3 (at 2)))) (arc (pos 0) 1 (pos 2) 1)
    ≡ entire (arc (pos 0) 1 (pos 1) 4) 1
    ∷ entire (arc (pos 1) 4 (pos 1) 2) 1
    ∷ event (arc (pos 1) 2 (pos 5) 4) (arc (pos 1) 2 (pos 1) 1) 2
    ∷ entire (arc (pos 1) 1 (pos 5) 4) 1
    ∷ entire (arc (pos 5) 4 (pos 3) 2) 1
    ∷ event (arc (pos 1) 1 (pos 7) 4) (arc (pos 3) 2 (pos 7) 4) 2
    ∷ event (arc (pos 7) 4 (pos 5) 2) (arc (pos 7) 4 (pos 2) 1) 2
    ∷ []
unfolding plays
each_twice = refl

-- three times, before cycle 0
each_thrice_before_zero : plays (ply 3 (two (at 1) (at_rate (pos 1) 3 (at 2)))) (arc (negsuc 4) 2 (negsuc 0) 1)
    ≡ entire (arc (negsuc 4) 2 (negsuc 1) 1) 2
    ∷ entire (arc (negsuc 1) 1 (negsuc 10) 6) 1
    ∷ entire (arc (negsuc 10) 6 (negsuc 4) 3) 1
    ∷ entire (arc (negsuc 4) 3 (negsuc 2) 2) 1
    ∷ entire (arc (negsuc 2) 2 (negsuc 0) 1) 2
    ∷ []
unfolding plays
each_thrice_before_zero = refl

-- ---- join
-- the left's wholes, with the right's values
lefts_wholes : plays (join_left second (at_rate (pos 2) 1 (at 0)) (three (at 1) (at 2) (at 3))) (arc (pos 0) 1 (pos 1) 1)
    ≡ event (arc (pos 0) 1 (pos 1) 2) (arc (pos 0) 1 (pos 1) 3) 1
    ∷ event (arc (pos 0) 1 (pos 1) 2) (arc (pos 1) 3 (pos 1) 2) 2
    ∷ event (arc (pos 1) 2 (pos 1) 1) (arc (pos 1) 2 (pos 2) 3) 2
    ∷ event (arc (pos 1) 2 (pos 1) 1) (arc (pos 2) 3 (pos 1) 1) 3
    ∷ []
unfolding plays
lefts_wholes = refl

-- wholes that go on from one cycle into the next, before cycle 0
lefts_across_cycles : plays (join_left sums (at_rate (pos 2) 3 (cat (at 1 ∷ at 2 ∷ []))) (two (at 3) (at 4))) (arc (negsuc 2) 1 (pos 0) 1)
    ≡ event (arc (negsuc 2) 1 (negsuc 2) 2) (arc (negsuc 2) 1 (negsuc 4) 2) 4
    ∷ event (arc (negsuc 2) 1 (negsuc 2) 2) (arc (negsuc 4) 2 (negsuc 1) 1) 5
    ∷ event (arc (negsuc 2) 1 (negsuc 2) 2) (arc (negsuc 1) 1 (negsuc 2) 2) 4
    ∷ event (arc (negsuc 2) 2 (pos 0) 1) (arc (negsuc 2) 2 (negsuc 0) 1) 6
    ∷ event (arc (negsuc 2) 2 (pos 0) 1) (arc (negsuc 0) 1 (negsuc 0) 2) 5
    ∷ event (arc (negsuc 2) 2 (pos 0) 1) (arc (negsuc 0) 2 (pos 0) 1) 6
    ∷ []
unfolding plays
lefts_across_cycles = refl

-- the right's wholes
rights_wholes : plays (join_right sums (two (at 1) (at 2)) (three (at 3) (at 4) (at 5))) (arc (pos 0) 1 (pos 1) 1)
    ≡ entire (arc (pos 0) 1 (pos 1) 3) 4
    ∷ event (arc (pos 1) 3 (pos 2) 3) (arc (pos 1) 3 (pos 1) 2) 5
    ∷ event (arc (pos 1) 3 (pos 2) 3) (arc (pos 1) 2 (pos 2) 3) 6
    ∷ entire (arc (pos 2) 3 (pos 1) 1) 7
    ∷ []
unfolding plays
rights_wholes = refl

-- the right's wholes, with the values of longer events, cut at both ends
rights_of_long : plays (join_right sums (two (at 1) (at_rate (pos 2) 3 (at 2))) (two (at 3) (at 4))) (arc (pos 3) 4 (pos 2) 1)
    ≡ event (arc (pos 1) 2 (pos 1) 1) (arc (pos 3) 4 (pos 1) 1) 6
    ∷ entire (arc (pos 1) 1 (pos 3) 2) 4
    ∷ event (arc (pos 3) 2 (pos 2) 1) (arc (pos 3) 2 (pos 7) 4) 6
    ∷ event (arc (pos 3) 2 (pos 2) 1) (arc (pos 7) 4 (pos 2) 1) 6
    ∷ []
unfolding plays
rights_of_long = refl

-- what the wholes share
shared_wholes : plays (join_both sums (two (at 1) (at 2)) (three (at 3) (at 4) (at 5))) (arc (pos 0) 1 (pos 1) 1)
    ≡ entire (arc (pos 0) 1 (pos 1) 3) 4
    ∷ entire (arc (pos 1) 3 (pos 1) 2) 5
    ∷ entire (arc (pos 1) 2 (pos 2) 3) 6
    ∷ entire (arc (pos 2) 3 (pos 1) 1) 7
    ∷ []
unfolding plays
shared_wholes = refl

-- of longer events, before cycle 0, cut at the start
shared_of_long_before_zero : plays
    (join_both sums (two (at 1) (at_rate (pos 2) 3 (at 2))) (three (at 3) (at_rate (pos 2) 3 (at 4)) (at 5))) (arc (negsuc 10) 4 (negsuc 0) 1)
    ≡ event (arc (negsuc 2) 1 (negsuc 7) 3) (arc (negsuc 10) 4 (negsuc 7) 3) 4
    ∷ entire (arc (negsuc 7) 3 (negsuc 4) 2) 5
    ∷ event (arc (negsuc 4) 2 (negsuc 12) 6) (arc (negsuc 4) 2 (negsuc 6) 3) 6
    ∷ entire (arc (negsuc 6) 3 (negsuc 1) 1) 7
    ∷ entire (arc (negsuc 1) 1 (negsuc 4) 3) 4
    ∷ event (arc (negsuc 1) 1 (negsuc 2) 2) (arc (negsuc 4) 3 (negsuc 2) 2) 5
    ∷ event (arc (negsuc 2) 2 (negsuc 4) 4) (arc (negsuc 2) 2 (negsuc 3) 3) 6
    ∷ entire (arc (negsuc 3) 3 (negsuc 4) 4) 7
    ∷ entire (arc (negsuc 4) 4 (negsuc 0) 1) 7
    ∷ []
unfolding plays
shared_of_long_before_zero = refl

-- of several at once, each of the left's in turn with each of the right's
lefts_in_turn : plays (join_left sums (stack (at 1 ∷ at 2 ∷ [])) (two (at 10) (at 20))) (arc (pos 0) 1 (pos 1) 1)
    ≡ event (arc (pos 0) 1 (pos 1) 1) (arc (pos 0) 1 (pos 1) 2) 11
    ∷ event (arc (pos 0) 1 (pos 1) 1) (arc (pos 1) 2 (pos 1) 1) 21
    ∷ event (arc (pos 0) 1 (pos 1) 1) (arc (pos 0) 1 (pos 1) 2) 12
    ∷ event (arc (pos 0) 1 (pos 1) 1) (arc (pos 1) 2 (pos 1) 1) 22
    ∷ []
unfolding plays
lefts_in_turn = refl

-- each of the right's in turn with each of the left's
rights_in_turn : plays (join_right sums (stack (at 1 ∷ at 2 ∷ [])) (two (at 10) (at 20))) (arc (pos 0) 1 (pos 1) 1)
    ≡ entire (arc (pos 0) 1 (pos 1) 2) 11
    ∷ entire (arc (pos 0) 1 (pos 1) 2) 12
    ∷ entire (arc (pos 1) 2 (pos 1) 1) 21
    ∷ entire (arc (pos 1) 2 (pos 1) 1) 22
    ∷ []
unfolding plays
rights_in_turn = refl

-- and each of the left's in turn, with what the wholes share
both_in_turn : plays (join_both sums (stack (at 1 ∷ at 2 ∷ [])) (two (at 10) (at 20))) (arc (pos 0) 1 (pos 1) 1)
    ≡ entire (arc (pos 0) 1 (pos 1) 2) 11
    ∷ entire (arc (pos 1) 2 (pos 1) 1) 21
    ∷ entire (arc (pos 0) 1 (pos 1) 2) 12
    ∷ entire (arc (pos 1) 2 (pos 1) 1) 22
    ∷ []
unfolding plays
both_in_turn = refl

-- values that give none leave no event
no_values : plays (join_left sums (at 1) (two (pure (Truth true)) (at 2))) (arc (pos 0) 1 (pos 1) 1)
    ≡ event (arc (pos 0) 1 (pos 1) 1) (arc (pos 1) 2 (pos 1) 1) 3 ∷ []
unfolding plays
no_values = refl
