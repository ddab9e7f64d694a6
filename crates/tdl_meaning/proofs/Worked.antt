-- The meaning at worked rows: events that were worked out apart from the definitions.
use Rattle.std.proofs.Common.{◌≡◌, ℕ, true, false, List, [], ◌∷◌, ℤ, pos, negsuc, refl}
use Rattle.tdl_control.specs.declared.leaves.Leaf.{Leaf}
use Rattle.tdl_control.specs.declared.leaves.Leaf.TheVariants.{Controls, Truth, Index}
use Rattle.tdl_control.specs.declared.keys.Key.TheVariants.{N, Pan}
use Rattle.tdl_control.specs.declared.ops.MapOp.TheVariants.{Union, Sub}
use Rattle.tdl_control.specs.Setting.{Number}
use Rattle.tdl_control.specs.Map.{KeyValues}
use Rattle.tdl_fraction.specs.Divisor.{gcd}
use Rattle.tdl_fraction.specs.Rational.{frac, whole, ◌+ℚ◌, ◌-ℚ◌, ◌*ℚ◌, ◌/ℚ◌, inverse, flip, floor, ceil, min_ℚ, max_ℚ, neg_ℚ, lt_ℚ, le_ℚ}
use Rattle.tdl_fraction.specs.Arc.{Arc, meet, arc_between}
use Rattle.tdl_event.specs.Event.{Event}
use Rattle.tdl_expr.specs.Tree.{Tree, Silence, Pure, Fast, TimeCat, Cat, Stack, Rev, Pick, When, Shift, Join, Ply, Gate, empty, child, none, step}
use Rattle.tdl_expr.specs.declared.joinings.Op.TheVariants.{Controls as ByKey, Struct, Mask}
use Rattle.tdl_expr.specs.declared.joinings.Side.TheVariants.{Left, Right, Both}
use Rattle.tdl_expr.specs.declared.rounds.Test.TheVariants.{Equal, AtLeast}
use Rattle.tdl_meaning.specs.Pattern.{over, silence, pure, fast, time_cat, cat, stack, rev, pick}
use Rattle.tdl_meaning.specs.Meaning.{cyc}
use Rattle.tdl_meaning.specs.Onsets.{onsets}
use Rattle.tdl_meaning.specs.Kinds.{when, shift, gate, ply, join_left, join_right, join_both}

-- from a / b up to c / d
abbrev arc : ℤ → ℕ → ℤ → ℕ → Arc
arc a b c d = record { start = frac a b; stop = frac c d }

abbrev event : Arc → Arc → ℕ → Event
event whole part k = record { whole = whole; part = part; value = Index k }

abbrev entire : Arc → ℕ → Event
entire arc k = event arc arc k

-- the events of a tree in an arc
unfoldable plays : Tree → Arc → List Event
unfolding over silence pure fast time_cat cat stack rev pick when shift gate ply join_left join_right join_both meet arc_between
    frac whole ◌+ℚ◌ ◌-ℚ◌ ◌*ℚ◌ ◌/ℚ◌ inverse flip floor ceil min_ℚ max_ℚ neg_ℚ lt_ℚ le_ℚ gcd
plays t arc = over (cyc t) arc

-- the wholes and values of those that have their onset
unfoldable starts : Tree → Arc → List (Arc × Leaf)
unfolding plays le_ℚ
starts t arc = onsets (plays t arc)

abbrev at : ℕ → Tree
at k = Pure (Index k)

abbrev bd : Tree
bd = at 1

abbrev sn : Tree
sn = at 2

abbrev cp : Tree
cp = at 3

abbrev hh : Tree
hh = at 4

-- one tree after another, with weights
abbrev shares : ℕ → Tree → ℕ → Tree → Tree
shares v a w b = TimeCat (step v a (step w b none))

abbrev turns : Tree → Tree → Tree
turns a b = Cat (child a (child b empty))

abbrev choice : Tree → Tree → Tree → Tree
choice selector a b = Pick selector (child a (child b empty))

-- two steps of one weight over the first cycle, as `bd sn` from 0 to 1
two_steps : plays (shares 1 bd 1 sn) (arc (pos 0) 1 (pos 1) 1)
    ≡ entire (arc (pos 0) 1 (pos 1) 2) 1 ∷ entire (arc (pos 1) 2 (pos 1) 1) 2 ∷ []
unfolding plays
two_steps = refl

-- weights 3 and 2, as `bd@1.5 sn` from 0 to 1
weights : plays (shares 3 bd 2 sn) (arc (pos 0) 1 (pos 1) 1)
    ≡ entire (arc (pos 0) 1 (pos 3) 5) 1 ∷ entire (arc (pos 3) 5 (pos 1) 1) 2 ∷ []
unfolding plays
weights = refl

-- a sequence within a step, as `bd [sn cp]` over the second half of cycle -1
nested : plays (shares 1 bd 1 (shares 1 sn 1 cp)) (arc (negsuc 0) 2 (pos 0) 1)
    ≡ entire (arc (negsuc 0) 2 (negsuc 0) 4) 2 ∷ entire (arc (negsuc 0) 4 (pos 0) 1) 3 ∷ []
unfolding plays
nested = refl

-- parts are cut at both ends of the arc, and wholes stay
cut : plays bd (arc (pos 1) 2 (pos 9) 4)
    ≡ event (arc (pos 0) 1 (pos 1) 1) (arc (pos 1) 2 (pos 1) 1) 1
    ∷ entire (arc (pos 1) 1 (pos 2) 1) 1
    ∷ event (arc (pos 2) 1 (pos 3) 1) (arc (pos 2) 1 (pos 9) 4) 1
    ∷ []
unfolding plays
cut = refl

-- a rest has no event
rest : plays (shares 1 Silence 1 Silence) (arc (pos 0) 1 (pos 1) 1) ≡ []
unfolding plays
rest = refl

-- a doubled step, as `bd*2 sn`
doubled : plays (shares 1 (Fast (frac (pos 2) 1) bd) 1 sn) (arc (pos 1) 1 (pos 2) 1)
    ≡ entire (arc (pos 1) 1 (pos 5) 4) 1 ∷ entire (arc (pos 5) 4 (pos 3) 2) 1 ∷ entire (arc (pos 3) 2 (pos 2) 1) 2 ∷ []
unfolding plays
doubled = refl

-- by turns, as `<bd sn bd>` in cycles -1 and 1
by_turns : plays (Cat (child bd (child sn (child bd empty)))) (arc (negsuc 0) 1 (pos 2) 1)
    ≡ entire (arc (negsuc 0) 1 (pos 0) 1) 1 ∷ entire (arc (pos 0) 1 (pos 1) 1) 1 ∷ entire (arc (pos 1) 1 (pos 2) 1) 2 ∷ []
unfolding plays
by_turns = refl

-- together, as `bd, sn sn`
together : plays (Stack (child bd (child (shares 1 sn 1 sn) empty))) (arc (pos 0) 1 (pos 1) 1)
    ≡ entire (arc (pos 0) 1 (pos 1) 1) 1 ∷ entire (arc (pos 0) 1 (pos 1) 2) 2 ∷ entire (arc (pos 1) 2 (pos 1) 1) 2 ∷ []
unfolding plays
together = refl

-- backwards, as `[bd sn@2]*-1`: the events keep their order
backwards : plays (Rev (shares 1 bd 2 sn)) (arc (pos 0) 1 (pos 1) 1)
    ≡ entire (arc (pos 2) 3 (pos 1) 1) 1 ∷ entire (arc (pos 0) 1 (pos 2) 3) 2 ∷ []
unfolding plays
backwards = refl

-- a chosen rate, as `bd*<2 3>` in cycle 1
chosen : plays (choice (turns (at 0) (at 1)) (Fast (frac (pos 2) 1) bd) (Fast (frac (pos 3) 1) bd)) (arc (pos 1) 1 (pos 2) 1)
    ≡ entire (arc (pos 1) 1 (pos 4) 3) 1 ∷ entire (arc (pos 4) 3 (pos 5) 3) 1 ∷ entire (arc (pos 5) 3 (pos 2) 1) 1 ∷ []
unfolding plays
chosen = refl

-- an index that names no child has no event
beyond : plays (Pick (at 1) (child bd empty)) (arc (pos 0) 1 (pos 1) 1) ≡ []
unfolding plays
beyond = refl

-- by turns within turns, as `<<bd sn cp> hh>` from cycle -8 on
turns_in_turns : plays (turns (Cat (child bd (child sn (child cp empty)))) hh) (arc (negsuc 7) 1 (pos 2) 1)
    ≡ entire (arc (negsuc 7) 1 (negsuc 6) 1) 3
    ∷ entire (arc (negsuc 6) 1 (negsuc 5) 1) 4
    ∷ entire (arc (negsuc 5) 1 (negsuc 4) 1) 1
    ∷ entire (arc (negsuc 4) 1 (negsuc 3) 1) 4
    ∷ entire (arc (negsuc 3) 1 (negsuc 2) 1) 2
    ∷ entire (arc (negsuc 2) 1 (negsuc 1) 1) 4
    ∷ entire (arc (negsuc 1) 1 (negsuc 0) 1) 3
    ∷ entire (arc (negsuc 0) 1 (pos 0) 1) 4
    ∷ entire (arc (pos 0) 1 (pos 1) 1) 1
    ∷ entire (arc (pos 1) 1 (pos 2) 1) 4
    ∷ []
unfolding plays
turns_in_turns = refl

-- unequal shares at a rate of their own, turned round, as `[bd sn@2]*-0.75`
turned_at_a_rate : plays (Rev (Fast (frac (pos 3) 4) (shares 1 bd 2 sn))) (arc (negsuc 0) 1 (pos 3) 1)
    ≡ event (arc (negsuc 0) 9 (pos 1) 3) (arc (negsuc 0) 9 (pos 0) 1) 1
    ∷ entire (arc (negsuc 0) 1 (negsuc 0) 9) 2
    ∷ entire (arc (pos 5) 9 (pos 1) 1) 1
    ∷ event (arc (negsuc 0) 3 (pos 5) 9) (arc (pos 0) 1 (pos 5) 9) 2
    ∷ event (arc (pos 5) 3 (pos 23) 9) (arc (pos 5) 3 (pos 2) 1) 2
    ∷ entire (arc (pos 11) 9 (pos 5) 3) 1
    ∷ event (arc (pos 1) 3 (pos 11) 9) (arc (pos 1) 1 (pos 11) 9) 2
    ∷ event (arc (pos 7) 3 (pos 29) 9) (arc (pos 7) 3 (pos 3) 1) 2
    ∷ event (arc (pos 17) 9 (pos 7) 3) (arc (pos 2) 1 (pos 7) 3) 1
    ∷ []
unfolding plays
turned_at_a_rate = refl

-- an index, a truth value, a map, and two more indices
abbrev any_values : Tree
any_values = TimeCat (step 1 (at 0) (step 1 (Pure (Truth true)) (step 1 (Pure (Controls [])) (step 1 (at 1) (step 1 (at 2) none)))))

-- what chooses is cut by a rate; truth values, maps and an index past the last choose nothing
any_selector : plays (choice (Fast (frac (pos 2) 3) any_values) bd (Fast (frac (pos 3) 1) sn)) (arc (pos 0) 1 (pos 2) 1)
    ≡ event (arc (pos 0) 1 (pos 1) 1) (arc (pos 0) 1 (pos 3) 10) 1
    ∷ event (arc (pos 2) 3 (pos 1) 1) (arc (pos 9) 10 (pos 1) 1) 2
    ∷ event (arc (pos 1) 1 (pos 4) 3) (arc (pos 1) 1 (pos 6) 5) 2
    ∷ event (arc (pos 1) 1 (pos 2) 1) (arc (pos 3) 2 (pos 9) 5) 1
    ∷ []
unfolding plays
any_selector = refl

-- a chosen rate whose choice has a rate, as `bd*[<3 1%4>*2%3]`
rates_of_both : plays (choice (Fast (frac (pos 2) 3) (turns (at 0) (at 1))) (Fast (frac (pos 3) 1) bd) (Fast (frac (pos 1) 4) bd)) (arc (pos 0) 1 (pos 4) 1)
    ≡ entire (arc (pos 0) 1 (pos 1) 3) 1
    ∷ entire (arc (pos 1) 3 (pos 2) 3) 1
    ∷ entire (arc (pos 2) 3 (pos 1) 1) 1
    ∷ entire (arc (pos 1) 1 (pos 4) 3) 1
    ∷ event (arc (pos 4) 3 (pos 5) 3) (arc (pos 4) 3 (pos 3) 2) 1
    ∷ event (arc (pos 0) 1 (pos 4) 1) (arc (pos 3) 2 (pos 2) 1) 1
    ∷ event (arc (pos 0) 1 (pos 4) 1) (arc (pos 2) 1 (pos 3) 1) 1
    ∷ entire (arc (pos 3) 1 (pos 10) 3) 1
    ∷ entire (arc (pos 10) 3 (pos 11) 3) 1
    ∷ entire (arc (pos 11) 3 (pos 4) 1) 1
    ∷ []
unfolding plays
rates_of_both = refl

-- unequal shares, each at a rate, as `bd*0.75@1.5 sn*2`
shares_at_rates : plays (shares 3 (Fast (frac (pos 3) 4) bd) 2 (Fast (frac (pos 2) 1) sn)) (arc (negsuc 0) 1 (pos 2) 1)
    ≡ event (arc (negsuc 5) 5 (negsuc 1) 5) (arc (negsuc 0) 1 (negsuc 1) 5) 1
    ∷ entire (arc (negsuc 1) 5 (negsuc 0) 5) 2
    ∷ entire (arc (negsuc 0) 5 (pos 0) 1) 2
    ∷ event (arc (pos 0) 1 (pos 4) 5) (arc (pos 0) 1 (pos 3) 5) 1
    ∷ entire (arc (pos 3) 5 (pos 4) 5) 2
    ∷ entire (arc (pos 4) 5 (pos 1) 1) 2
    ∷ event (arc (pos 2) 5 (pos 6) 5) (arc (pos 1) 1 (pos 6) 5) 1
    ∷ event (arc (pos 6) 5 (pos 2) 1) (arc (pos 6) 5 (pos 8) 5) 1
    ∷ entire (arc (pos 8) 5 (pos 9) 5) 2
    ∷ entire (arc (pos 9) 5 (pos 2) 1) 2
    ∷ []
unfolding plays
shares_at_rates = refl

-- the onsets of turns at a rate, as `<bd sn>*1.5`, where an event goes on from one cycle into the next
onsets_up_to_one : starts (Fast (frac (pos 3) 2) (turns bd sn)) (arc (pos 0) 1 (pos 1) 1)
    ≡ (arc (pos 0) 1 (pos 2) 3, Index 1) ∷ (arc (pos 2) 3 (pos 4) 3, Index 2) ∷ []
unfolding starts
onsets_up_to_one = refl

onsets_from_one : starts (Fast (frac (pos 3) 2) (turns bd sn)) (arc (pos 1) 1 (pos 2) 1) ≡ (arc (pos 4) 3 (pos 2) 1, Index 1) ∷ []
unfolding starts
onsets_from_one = refl

-- ---- further kinds
abbrev yes : Tree
yes = Pure (Truth true)

abbrev no : Tree
no = Pure (Truth false)

-- one event for a whole cycle, with these controls
abbrev with_controls : KeyValues → Event
with_controls controls = record { whole = arc (pos 0) 1 (pos 1) 1; part = arc (pos 0) 1 (pos 1) 1; value = Controls controls }

-- twice as fast in cycles 0 and 3, as `every 3 (fast 2)`
every_third : plays (When 3 (Equal 0) (Fast (frac (pos 2) 1) bd) bd) (arc (pos 0) 1 (pos 4) 1)
    ≡ entire (arc (pos 0) 1 (pos 1) 2) 1
    ∷ entire (arc (pos 1) 2 (pos 1) 1) 1
    ∷ entire (arc (pos 1) 1 (pos 2) 1) 1
    ∷ entire (arc (pos 2) 1 (pos 3) 1) 1
    ∷ entire (arc (pos 3) 1 (pos 7) 2) 1
    ∷ entire (arc (pos 7) 2 (pos 4) 1) 1
    ∷ []
unfolding plays
every_third = refl

-- in the last two of every four cycles, before cycle 0, as `whenmod 4 2 (const $ s "sn")`
last_two_of_four : plays (When 4 (AtLeast 2) sn bd) (arc (negsuc 2) 1 (pos 0) 1)
    ≡ entire (arc (negsuc 2) 1 (negsuc 1) 1) 1 ∷ entire (arc (negsuc 1) 1 (negsuc 0) 1) 2 ∷ entire (arc (negsuc 0) 1 (pos 0) 1) 2 ∷ []
unfolding plays
last_two_of_four = refl

-- a quarter earlier, as `0.25 <~`
a_quarter_earlier : plays (Shift (frac (negsuc 0) 4) (shares 1 bd 1 sn)) (arc (pos 0) 1 (pos 1) 1)
    ≡ event (arc (negsuc 0) 4 (pos 1) 4) (arc (pos 0) 1 (pos 1) 4) 1
    ∷ entire (arc (pos 1) 4 (pos 3) 4) 2
    ∷ event (arc (pos 3) 4 (pos 5) 4) (arc (pos 3) 4 (pos 1) 1) 1
    ∷ []
unfolding plays
a_quarter_earlier = refl

-- three times in each step, in the second half of a cycle
each_thrice : plays (Ply 3 (shares 1 bd 1 sn)) (arc (pos 1) 2 (pos 1) 1)
    ≡ entire (arc (pos 1) 2 (pos 2) 3) 2 ∷ entire (arc (pos 2) 3 (pos 5) 6) 2 ∷ entire (arc (pos 5) 6 (pos 1) 1) 2 ∷ []
unfolding plays
each_thrice = refl

-- what starts in the first half of a cycle, and what does not
first_half : plays (Gate (frac (pos 0) 1) (frac (pos 1) 2) true (shares 1 bd 1 sn)) (arc (pos 0) 1 (pos 1) 1) ≡ entire (arc (pos 0) 1 (pos 1) 2) 1 ∷ []
unfolding plays
first_half = refl

other_half : plays (Gate (frac (pos 0) 1) (frac (pos 1) 2) false (shares 1 bd 1 sn)) (arc (pos 0) 1 (pos 1) 1) ≡ entire (arc (pos 1) 2 (pos 1) 1) 2 ∷ []
unfolding plays
other_half = refl

-- the right's values where the left is true, with the left's wholes, as `struct "t f t"`
where_true : plays (Join Left Struct (TimeCat (step 1 yes (step 1 no (step 1 yes none)))) (shares 1 bd 1 sn)) (arc (pos 0) 1 (pos 1) 1)
    ≡ entire (arc (pos 0) 1 (pos 1) 3) 1 ∷ entire (arc (pos 2) 3 (pos 1) 1) 2 ∷ []
unfolding plays
where_true = refl

-- the left's values where the right is true, as `mask "t f"`: wholes stay
masked : plays (Join Left Mask bd (shares 1 yes 1 no)) (arc (pos 0) 1 (pos 1) 1) ≡ event (arc (pos 0) 1 (pos 1) 1) (arc (pos 0) 1 (pos 1) 2) 1 ∷ []
unfolding plays
masked = refl

-- numbers are taken from one another, and a key that one side has stays
taken_from : plays (Join Both (ByKey Sub) (Pure (Controls ((N, Number (pos 3)) ∷ []))) (Pure (Controls ((N, Number (pos 5)) ∷ (Pan, Number (pos 1)) ∷ []))))
    (arc (pos 0) 1 (pos 1) 1)
    ≡ with_controls ((N, Number (negsuc 1)) ∷ (Pan, Number (pos 1)) ∷ []) ∷ []
unfolding plays
taken_from = refl

-- the right's number, with the right's whole
united : plays (Join Right (ByKey Union) (Pure (Controls ((N, Number (pos 3)) ∷ []))) (Pure (Controls ((N, Number (pos 5)) ∷ [])))) (arc (pos 0) 1 (pos 1) 1)
    ≡ with_controls ((N, Number (pos 5)) ∷ []) ∷ []
unfolding plays
united = refl

-- a map with an index gives none
unlike : plays (Join Left (ByKey Union) (Pure (Controls [])) bd) (arc (pos 0) 1 (pos 1) 1) ≡ []
unfolding plays
unlike = refl

-- ---- the same at each time, and not event by event
-- half as fast and then twice, one event is in two parts
halved_and_doubled : plays (Fast (frac (pos 2) 1) (Fast (frac (pos 1) 2) bd)) (arc (pos 0) 1 (pos 1) 1)
    ≡ event (arc (pos 0) 1 (pos 1) 1) (arc (pos 0) 1 (pos 1) 2) 1 ∷ event (arc (pos 0) 1 (pos 1) 1) (arc (pos 1) 2 (pos 1) 1) 1 ∷ []
unfolding plays
halved_and_doubled = refl

-- and the other way round it is in one
doubled_and_halved : plays (Fast (frac (pos 1) 2) (Fast (frac (pos 2) 1) bd)) (arc (pos 0) 1 (pos 1) 1) ≡ entire (arc (pos 0) 1 (pos 1) 1) 1 ∷ []
unfolding plays
doubled_and_halved = refl

-- half a cycle later twice, one event is in two parts
half_later_twice : plays (Shift (frac (pos 1) 2) (Shift (frac (pos 1) 2) bd)) (arc (pos 0) 1 (pos 1) 1)
    ≡ event (arc (pos 0) 1 (pos 1) 1) (arc (pos 0) 1 (pos 1) 2) 1 ∷ event (arc (pos 0) 1 (pos 1) 1) (arc (pos 1) 2 (pos 1) 1) 1 ∷ []
unfolding plays
half_later_twice = refl

-- and a cycle later it is in one
one_later : plays (Shift (frac (pos 1) 1) bd) (arc (pos 0) 1 (pos 1) 1) ≡ entire (arc (pos 0) 1 (pos 1) 1) 1 ∷ []
unfolding plays
one_later = refl
