-- Patterns, and one combinator for each kind of tree.
--     Pattern      the events of each cycle
--     over         a pattern's events in an arc: the events of its cycles in rising order, each cut to the arc
--     silence      no events
--     pure         one event in each cycle
--     fast         a pattern at another rate
--     time_cat     steps one after another, each with its share of every cycle
--     cat          patterns by turns, a cycle each
--     stack        patterns together
--     rev          each cycle from its end to its start
--     pick         for each event of a selector, the pattern that it names, over the event's part
use Rattle.std.specs.Prelude.{ℕ, zero, suc, ◌+◌, List, [], ◌∷◌, ◌++◌, map, length, get_or, ℤ, pos, ◌+ℤ◌, ◌-ℤ◌, ◌*ℤ◌, nat_abs}
use Rattle.std.specs.List.{flat_map}
use Rattle.tdl_control.specs.declared.leaves.Leaf.{Leaf}
use Rattle.tdl_control.specs.declared.leaves.Leaf.TheVariants.{Controls, Truth, Index}
use Rattle.tdl_fraction.specs.Rational.{Rational, frac, whole, ◌+ℚ◌, ◌-ℚ◌, ◌*ℚ◌, ◌/ℚ◌, floor, ceil}
use Rattle.tdl_fraction.specs.Arc.{Arc, map_arc, turn_arc}
use Rattle.tdl_event.specs.Event.{Event, clip}

abbrev pub Pattern : Type 0
Pattern = ℤ → List Event

-- n whole numbers, from first on
abbrev pub whole_range : ℤ → ℕ → List ℤ
whole_range first zero = []
whole_range first (suc n) = first ∷ whole_range (first +ℤ pos 1) n

-- the cycles that share time with an arc, in rising order
abbrev pub cycles_of : Arc → List ℤ
cycles_of a = whole_range (floor a.start) (nat_abs (ceil a.stop -ℤ floor a.start))

unfoldable pub over : Pattern → Arc → List Event
over p a = flat_map (λ c. clip a (p c)) (cycles_of a)

-- an event with each of its times moved by a function of times
abbrev pub moved : (Rational → Rational) → Event → Event
moved f e = record { whole = map_arc f e.whole; part = map_arc f e.part; value = e.value }

-- a cycle, from its number up to the next
abbrev pub cycle_arc : ℤ → Arc
cycle_arc c = record { start = whole c; stop = whole (c +ℤ pos 1) }

unfoldable pub silence : Pattern
silence c = []

unfoldable pub pure : Leaf → Pattern
pure v c = record { whole = cycle_arc c; part = cycle_arc c; value = v } ∷ []

unfoldable pub fast : Rational → Pattern → Pattern
fast r p c = map (moved (λ t. t /ℚ r)) (over p (record { start = whole c *ℚ r; stop = whole (c +ℤ pos 1) *ℚ r }))

-- a pattern with its share of each cycle
pub record Share : Type 0 where
  pub weight : ℕ
  pub pattern : Pattern

-- a time t of cycle c, brought into the share of weight w after earlier weights o, of weights W in all
abbrev pub squeezed : ℤ → ℕ → ℕ → ℕ → Rational → Rational
squeezed c o w W t = whole c +ℚ (whole (pos o) +ℚ (t -ℚ whole c) *ℚ whole (pos w)) /ℚ whole (pos W)

abbrev pub total_weight : List Share → ℕ
total_weight [] = 0
total_weight (s ∷ steps) = s.weight + total_weight steps

-- the steps after earlier weights o, of weights W in all
abbrev pub steps_from : ℕ → ℕ → List Share → Pattern
steps_from W o [] c = []
steps_from W o (s ∷ steps) c = map (moved (squeezed c o s.weight W)) (s.pattern c) ++ steps_from W (o + s.weight) steps c

unfoldable pub time_cat : List Share → Pattern
time_cat steps c = steps_from (total_weight steps) 0 steps c

-- how often n patterns went round before cycle c
abbrev pub rounds : ℤ → ℕ → ℤ
rounds c n = floor (frac c n)

-- how many cycles of its round are before cycle c
abbrev pub turn : ℤ → ℕ → ℕ
turn c n = nat_abs (c -ℤ rounds c n *ℤ pos n)

unfoldable pub cat : List Pattern → Pattern
cat patterns c =
    let k = rounds c (length patterns) in
    map (moved (λ t. t +ℚ whole (c -ℤ k))) (get_or patterns (turn c (length patterns)) silence k)

unfoldable pub stack : List Pattern → Pattern
stack patterns c = flat_map (λ p. p c) patterns

-- a time, an arc and an event of cycle c, seen from the cycle's end
abbrev pub turned_time : ℤ → Rational → Rational
turned_time c t = whole (c +ℤ c +ℤ pos 1) -ℚ t

abbrev pub turned : ℤ → Arc → Arc
turned c a = turn_arc (turned_time c) a

abbrev pub turned_event : ℤ → Event → Event
turned_event c e = record { whole = turned c e.whole; part = turned c e.part; value = e.value }

unfoldable pub rev : Pattern → Pattern
rev p c = map (turned_event c) (p c)

abbrev pub picked : List Pattern → Arc → Leaf → List Event
picked patterns part (Controls controls) = []
picked patterns part (Truth truth) = []
picked patterns part (Index k) = over (get_or patterns k silence) part

unfoldable pub pick : Pattern → List Pattern → Pattern
pick selector patterns c = flat_map (λ e. picked patterns e.part e.value) (selector c)
