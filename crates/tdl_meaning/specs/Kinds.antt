-- Five further combinators of patterns.
--     when         one pattern in some cycles of each round, and another in the others
--     shift        a pattern earlier or later
--     gate         the events whose wholes start in some part of a cycle, or those whose wholes do not
--     ply          each event so many times, each time in its piece of the whole
--     pair_of      what two events make in a join of a side, if their parts meet and their values give one
--     join_left    each event of one pattern with each of another that shares time with it: with the left's whole,
--     join_right   with the right's,
--     join_both    or with what the wholes share
use Rattle.std.specs.Prelude.{ℕ, ◌+◌, Bool, true, false, not, List, [], ◌∷◌, map, Option, Some, None, ℤ, pos, ◌+ℤ◌, nat_abs}
use Rattle.std.specs.List.{flat_map, filter, range_with_len}
use Rattle.tdl_control.specs.declared.leaves.Leaf.{Leaf}
use Rattle.tdl_fraction.specs.Rational.{Rational, frac, whole, ◌+ℚ◌, ◌-ℚ◌, ◌*ℚ◌, ◌/ℚ◌, floor}
use Rattle.tdl_fraction.specs.Arc.{Arc, meet}
use Rattle.tdl_event.specs.ClipLaws.{is_in}
use Rattle.tdl_event.specs.Event.{Event}
use Rattle.tdl_expr.specs.declared.joinings.Side.{Side}
use Rattle.tdl_expr.specs.declared.joinings.Side.TheVariants.{Left, Right, Both}
use Rattle.tdl_meaning.specs.Pattern.{Pattern, over, moved, turn}

-- ---- when
abbrev pub one_of : Bool → Pattern → Pattern → Pattern
one_of true p q = p
one_of false p q = q

-- p in the cycles whose place in a round of modulus cycles meets the test, and q in the others
unfoldable pub when : ℕ → (ℕ → Bool) → Pattern → Pattern → Pattern
when modulus meets p q c = one_of (meets (turn c modulus)) p q c

-- ---- shift
-- cycle c, earlier by t
abbrev pub earlier : Rational → ℤ → Arc
earlier t c = record { start = whole c -ℚ t; stop = whole (c +ℤ pos 1) -ℚ t }

-- later by t, and earlier where t is below zero
unfoldable pub shift : Rational → Pattern → Pattern
shift t p c = map (moved (λ u. u +ℚ t)) (over p (earlier t c))

-- ---- gate
-- where in its cycle a time is
abbrev pub place : Rational → Rational
place t = t -ℚ whole (floor t)

abbrev pub is_between : Rational → Rational → Rational → Bool
is_between from to t = is_in t (record { start = from; stop = to })

-- whether a whole starts between two places of its cycle, or whether it does not
abbrev pub starts_in : Rational → Rational → Bool → Arc → Bool
starts_in from to true w = is_between from to (place w.start)
starts_in from to false w = not (is_between from to (place w.start))

abbrev pub passes : Rational → Rational → Bool → Event → Bool
passes from to inside e = starts_in from to inside e.whole

unfoldable pub gate : Rational → Rational → Bool → Pattern → Pattern
gate from to inside p c = filter (passes from to inside) (p c)

-- ---- parts of events
-- an event with this whole, the time that two parts share, and a value, if there are both
abbrev pub joined_event : Arc → Option Arc → Option Leaf → List Event
joined_event w (Some part) (Some value) = record { whole = w; part = part; value = value } ∷ []
joined_event w (Some part) None = []
joined_event w None value = []

-- ---- ply
-- j of n of the way through an arc
abbrev pub along : ℕ → Arc → ℕ → Rational
along n a j = a.start +ℚ (a.stop -ℚ a.start) *ℚ frac (pos j) n

-- the piece after j of n equal pieces
abbrev pub piece : ℕ → Arc → ℕ → Arc
piece n a j = record { start = along n a j; stop = along n a (j + 1) }

-- an event with another whole, and of its part what lies there
abbrev pub fragment : Arc → Event → List Event
fragment w e = joined_event w (meet w e.part) (Some e.value)

abbrev pub fragments : ℕ → Event → List Event
fragments n e = flat_map (λ j. fragment (piece n e.whole j) e) (range_with_len 0 n)

unfoldable pub ply : ℕ → Pattern → Pattern
ply n p c = flat_map (fragments n) (p c)

-- ---- join
-- how two values give one, if they do
abbrev pub Joining : Type 0
Joining = Leaf → Leaf → Option Leaf

-- the whole of what two events make, by the side that gives it, if there is one
abbrev pub shared_whole : Side → Arc → Arc → Option Arc
shared_whole Left l r = Some l
shared_whole Right l r = Some r
shared_whole Both l r = meet l r

-- such an event, if there is a whole for it
abbrev pub joined_in : Option Arc → Option Arc → Option Leaf → List Event
joined_in (Some w) part value = joined_event w part value
joined_in None part value = []

abbrev pub pair_of : Side → Joining → Event → Event → List Event
pair_of side v l r = joined_in (shared_whole side l.whole r.whole) (meet l.part r.part) (v l.value r.value)

abbrev pub with_left : Joining → Event → Event → List Event
with_left = pair_of Left

abbrev pub with_right : Joining → Event → Event → List Event
with_right = pair_of Right

abbrev pub with_both : Joining → Event → Event → List Event
with_both = pair_of Both

unfoldable pub join_left : Joining → Pattern → Pattern → Pattern
join_left v x y c = flat_map (λ l. flat_map (λ r. with_left v l r) (over y l.whole)) (x c)

unfoldable pub join_right : Joining → Pattern → Pattern → Pattern
join_right v x y c = flat_map (λ r. flat_map (λ l. with_right v l r) (over x r.whole)) (y c)

unfoldable pub join_both : Joining → Pattern → Pattern → Pattern
join_both v x y c = flat_map (λ l. flat_map (λ r. with_both v l r) (y c)) (x c)

-- ---- what is heard
-- a whole and a value, if there are both
abbrev pub valued : Option Arc → Option Leaf → List (Arc × Leaf)
valued (Some w) (Some value) = (w, value) ∷ []
valued (Some w) None = []
valued None value = []

-- which of n equal pieces of an arc has a time of the arc
abbrev pub piece_of : ℕ → Rational → Arc → ℕ
piece_of n t a = nat_abs (floor ((t -ℚ a.start) /ℚ (a.stop -ℚ a.start) *ℚ whole (pos n)))

-- that piece of an event's whole, with the value
abbrev pub piece_at : ℕ → Rational → Arc × Leaf → Arc × Leaf
piece_at n t x = (piece n x.0 (piece_of n t x.0), x.1)
