-- What spans are as arcs, and items as events, where their counts are moved or read in another unit.
--     events_of     the events that items are in a unit
--     ItemLaws      what each kind of pattern does to the counts of its items is what it does to their times
--     SpanLaws      and what it asks of its children in counts is what it asks in times
--     UnitLaws      the unit of a child: its grid divides it, and it is not too fine; which counts a time has
use Rattle.std.specs.Prelude.{◌≡◌, ℕ, ◌*◌, ◌/◌, ◌^◌, ◌<◌, ◌≤◌, ◌↔◌, Bool, List, ◌++◌, map, take, drop, length, ℤ, pos, ◌+ℤ◌, ◌-ℤ◌, ◌*ℤ◌, ◌≤ℤ◌}
use Rattle.std.specs.Int.{◌∣◌}
use Rattle.std.specs.List.{filter}
use Rattle.tdl_fraction.specs.Divisor.{gcd}
use Rattle.tdl_fraction.specs.Rational.{Rational, frac, whole, ◌+ℚ◌, ◌-ℚ◌, ◌*ℚ◌, ◌/ℚ◌, ◌≤ℚ◌, ceil, IsMultiple}
use Rattle.tdl_fraction.specs.Arc.{map_arc}
use Rattle.tdl_fraction.specs.Range.{InRange}
use Rattle.tdl_event.specs.Event.{Event}
use Rattle.tdl_meaning.specs.Pattern.{moved, squeezed, turned, turned_event}
use Rattle.tdl_meaning.specs.Kinds.{piece, passes}
use Rattle.tdl_meaning.specs.Proper.{Each}
use Rattle.tdl_meaning.specs.Ranges.{HasEnds}
use Rattle.tdl_grid.specs.Span.{Span, earlier_span, finer_span, turn_span, piece_span, arc_of}
use Rattle.tdl_grid.specs.Item.{Item, HasCounts, delayed, finer_item, turned_item, event_of, passes_in, Adds}
use Rattle.tdl_grid.specs.Step.{step_delay}

abbrev pub events_of : ℕ → List Item → List Event
events_of u = map (event_of u)

pub record ItemLaws : Type 0 where
  -- so many cycles later
  pub later : (u : ℕ) → 0 < u → (k : ℤ) (items : List Item)
      → events_of u (map (delayed (k *ℤ pos u)) items) ≡ map (moved (λ s. s +ℚ whole k)) (events_of u items)
  -- later by a time whose denominator goes x times into the unit
  pub shifted : (u x : ℕ) → 0 < u → (t : Rational) → x * t.den ≡ u → (items : List Item)
      → events_of u (map (delayed (t.num *ℤ pos x)) items) ≡ map (moved (λ s. s +ℚ t)) (events_of u items)
  -- at a rate, whose numerator times the one unit is its denominator times the other: the counts stay
  pub slower : (u v p : ℕ) → 0 < u → 0 < v → 0 < p → (r : Rational) → r.num ≡ pos p → v * p ≡ u * r.den → (items : List Item)
      → events_of u items ≡ map (moved (λ s. s /ℚ r)) (events_of v items)
  -- in the share of a step
  pub squeezed : (c : ℤ) (o w W x : ℕ) → 0 < w → 0 < W → 0 < x → (items : List Item)
      → events_of (x * W) (map (delayed (step_delay c o w W x)) items) ≡ map (moved (squeezed c o w W)) (events_of (x * w) items)
  -- in a unit so many times as fine
  pub finer : (u x : ℕ) → 0 < u → 0 < x → (items : List Item) → events_of (u * x) (map (finer_item x) items) ≡ events_of u items
  -- turned round in a cycle
  pub turned : (u : ℕ) → 0 < u → (c : ℤ) (items : List Item)
      → events_of u (map (turned_item ((c +ℤ c +ℤ pos 1) *ℤ pos u)) items) ≡ map (turned_event c) (events_of u items)
  -- a list that gained items and has them moved then gained the moved events
  pub gained : (u v : ℕ) (g : Item → Item) (f : Event → Event) → ((items : List Item) → events_of u (map g items) ≡ map f (events_of v items))
      → (old mid new : List Item) (events : List Event) → Adds v old mid events → new ≡ take (length old) mid ++ map g (drop (length old) mid)
      → Adds u old new (map f events)
  -- and one whose new items stay where they pass a gate gained the events that pass it
  pub passed : (u : ℕ) (from to : Rational) (inside : Bool) (old mid new : List Item) (events : List Event) → Adds u old mid events
      → new ≡ take (length old) mid ++ filter (passes_in u from to inside) (drop (length old) mid) → Adds u old new (filter (passes from to inside) events)
  -- one list of events after another
  pub both : (u : ℕ) (old mid new : List Item) (first second : List Event) → Adds u old mid first → Adds u mid new second
      → Adds u old new (first ++ second)
  -- the program's numbers have room for the counts of times in range
  pub fits : (u : ℕ) → 0 < u → u ≤ 2 ^ 88 → (items : List Item) → Each (HasEnds InRange) (events_of u items) → Each HasCounts items

pub record SpanLaws : Type 0 where
  -- so many cycles earlier
  pub earlier : (u : ℕ) → 0 < u → (k : ℤ) (s : Span) → arc_of u (earlier_span (k *ℤ pos u) s) ≡ map_arc (λ a. a -ℚ whole k) (arc_of u s)
  -- earlier by a time whose denominator goes x times into the unit
  pub shifted : (u x : ℕ) → 0 < u → (t : Rational) → x * t.den ≡ u → (s : Span)
      → arc_of u (earlier_span (t.num *ℤ pos x) s) ≡ map_arc (λ a. a -ℚ t) (arc_of u s)
  -- at a rate: the counts stay
  pub faster : (u v p : ℕ) → 0 < u → 0 < v → (r : Rational) → r.num ≡ pos p → v * p ≡ u * r.den → (s : Span)
      → arc_of v s ≡ map_arc (λ a. a *ℚ r) (arc_of u s)
  -- in a unit so many times as fine
  pub finer : (u x : ℕ) → 0 < u → 0 < x → (s : Span) → arc_of (u * x) (finer_span x s) ≡ arc_of u s
  -- turned round in a cycle
  pub turned : (u : ℕ) → 0 < u → (c : ℤ) (s : Span) → arc_of u (turn_span (λ n. (c +ℤ c +ℤ pos 1) *ℤ pos u -ℤ n) s) ≡ turned c (arc_of u s)
  -- the piece after j of n equal ones, each of so many counts
  pub piece : (u n : ℕ) → 0 < u → 0 < n → (width : ℤ) (s : Span) (j : ℕ) → s.stop -ℤ s.start ≡ width *ℤ pos n
      → arc_of u (piece_span width s j) ≡ piece n (arc_of u s) j

-- where the unit is at most so many times as fine as what is asked, so is the child's
pub record UnitLaws : Type 0 where
  -- at a rate p / s, where the child is asked on f, at least s / p times as fine as q
  pub rate_divides : (g p s u v : ℕ) → 0 < p → p * (g / gcd g s) ∣ u → v * p ≡ u * s → g ∣ v
  pub rate_small : (q u v p s f most : ℕ) → 0 < p → v * p ≡ u * s → q * s ≤ f * p → u ≤ q * most → v ≤ f * most
  -- in a step of weight w of W, where the grids of all steps divide L
  pub step_divides : (g L W w u x : ℕ) → 0 < W → W * L ∣ u → x * W ≡ u → g ∣ L → g ∣ x * w
  pub step_small : (q u x W w most : ℕ) → 0 < W → x * W ≡ u → u ≤ q * most → x * w ≤ q * w * most
  -- a multiple of 1 / g is a whole number of times x counts, where the unit is g times x
  pub exact : (g x : ℕ) (n : ℤ) → 0 < g → 0 < x → IsMultiple g (frac n (g * x)) → (m : ℤ) × (n ≡ m *ℤ pos x) × (frac n (g * x) ≡ frac m g)
  -- the counts that are not before a time are those from one on
  pub not_before : (from : Rational) (n : ℤ) (u : ℕ) → 0 < u → (from ≤ℚ frac n u) ↔ (ceil (from *ℚ whole (pos u)) ≤ℤ n)
