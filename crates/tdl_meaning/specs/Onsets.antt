-- The onsets of a list of events, and the law that an arc may be cut in two.
--     has_onset     whether the part starts where the whole starts
--     onsets        the wholes and values of the events that have their onset, in their order
--     SplitLaw      an arc that is cut in two has the same onsets, each as often
--     CountLaw      the same by numbers, for each test of a whole and a value
use Rattle.std.specs.Prelude.{◌≡◌, ℕ, ◌+◌, Bool, ◌&&◌, if◌then◌else◌, List, [], ◌∷◌, ◌++◌}
use Rattle.std.specs.List.{flat_map, count_by}
use Rattle.std.specs.List.Sorted.{IsPermutation}
use Rattle.tdl_control.specs.declared.leaves.Leaf.{Leaf}
use Rattle.tdl_fraction.specs.Rational.{Rational, le_ℚ, ◌<ℚ◌}
use Rattle.tdl_fraction.specs.Arc.{Arc}
use Rattle.tdl_event.specs.Event.{Event}
use Rattle.tdl_expr.specs.Tree.{Tree}
use Rattle.tdl_expr.specs.Valid.{IsValid}
use Rattle.tdl_meaning.specs.Pattern.{over}
use Rattle.tdl_meaning.specs.Meaning.{cyc}

abbrev pub has_onset : Event → Bool
has_onset e = le_ℚ e.part.start e.whole.start && le_ℚ e.whole.start e.part.start

-- the whole and the value of an event that has its onset
abbrev pub onset_of : Event → List (Arc × Leaf)
onset_of e = if has_onset e then (e.whole, e.value) ∷ [] else []

abbrev pub onsets : List Event → List (Arc × Leaf)
onsets events = flat_map onset_of events

abbrev pub from_to : Rational → Rational → Arc
from_to start stop = record { start = start; stop = stop }

abbrev pub SplitLaw : Type 0
SplitLaw = (e : Tree) → IsValid e → (a m b : Rational) → a <ℚ m → m <ℚ b
    → IsPermutation (onsets (over (cyc e) (from_to a b))) (onsets (over (cyc e) (from_to a m)) ++ onsets (over (cyc e) (from_to m b)))

-- how many onsets pass a test
abbrev pub how_many : (Arc × Leaf → Bool) → List Event → ℕ
how_many test events = count_by test (onsets events)

abbrev pub CountLaw : Type 0
CountLaw = (test : Arc × Leaf → Bool) (e : Tree) → IsValid e → (a m b : Rational) → a <ℚ m → m <ℚ b
    → how_many test (over (cyc e) (from_to a b)) ≡ how_many test (over (cyc e) (from_to a m)) + how_many test (over (cyc e) (from_to m b))
