-- What a pattern has at each time. It does not show where the parts of events are cut.
--     heard         the wholes and values of the events whose part has the time, in their order
--     opposite      the time that is as far from its cycle's end as this one is from the start
--     HasNoEndAt    no part of some events starts or stops at a time
--     HeardLaws     what each kind has at a time, by what its children have
use Rattle.std.specs.Prelude.{◌≡◌, ◌≢◌, ℕ, ◌+◌, ◌<◌, Bool, Some, List, [], ◌∷◌, ◌++◌, map, length, get_or, ℤ, pos, ◌+ℤ◌, ◌-ℤ◌}
use Rattle.std.specs.List.{flat_map, filter}
use Rattle.tdl_control.specs.declared.leaves.Leaf.{Leaf}
use Rattle.tdl_control.specs.declared.leaves.Leaf.TheVariants.{Controls, Truth, Index}
use Rattle.tdl_fraction.specs.Rational.{Rational, whole, ◌+ℚ◌, ◌-ℚ◌, ◌*ℚ◌, ◌/ℚ◌, ◌<ℚ◌, floor}
use Rattle.tdl_fraction.specs.Arc.{Arc, IsArc, IsIn, map_arc, meet}
use Rattle.tdl_event.specs.Event.{Event}
use Rattle.tdl_event.specs.ClipLaws.{seen_at}
use Rattle.tdl_meaning.specs.Pattern.{Pattern, Share, over, cycle_arc, silence, pure, fast, squeezed, total_weight, time_cat, rounds, turn, cat, stack}
use Rattle.tdl_meaning.specs.Pattern.{turned_time, turned, rev, pick}
use Rattle.tdl_meaning.specs.Kinds.{Joining, one_of, when, shift, starts_in, gate, ply, piece_at, join_left, join_right, join_both, valued}
use Rattle.tdl_meaning.specs.Proper.{Each, HasProperEvents}

abbrev pub heard : Pattern → Rational → List (Arc × Leaf)
heard p t = seen_at t (p (floor t))

-- a whole, moved by a function of times
abbrev pub moved_whole : (Rational → Rational) → Arc × Leaf → Arc × Leaf
moved_whole f x = (map_arc f x.0, x.1)

abbrev pub moved_wholes : (Rational → Rational) → List (Arc × Leaf) → List (Arc × Leaf)
moved_wholes f = map (moved_whole f)

-- the time of cycle c that goes to t in the share of weight w after earlier weights o, of weights W in all
abbrev pub unsqueezed : ℤ → ℕ → ℕ → ℕ → Rational → Rational
unsqueezed c o w W t = whole c +ℚ ((t -ℚ whole c) *ℚ whole (pos W) -ℚ whole (pos o)) /ℚ whole (pos w)

-- of each step after earlier weights o, what its cycle c has at the time that goes to t, with its wholes squeezed
abbrev pub shares_heard : ℕ → ℕ → List Share → ℤ → Rational → List (Arc × Leaf)
shares_heard W o [] c t = []
shares_heard W o (s ∷ steps) c t =
    moved_wholes (squeezed c o s.weight W) (seen_at (unsqueezed c o s.weight W t) (s.pattern c)) ++ shares_heard W (o + s.weight) steps c t

-- what the pattern that a value names has
abbrev pub named : List Pattern → Rational → Leaf → List (Arc × Leaf)
named ps t (Controls controls) = []
named ps t (Truth truth) = []
named ps t (Index k) = heard (get_or ps k silence) t

-- a time of a cycle, seen from the cycle's end
abbrev pub opposite : Rational → Rational
opposite t = turned_time (floor t) t

-- no part starts or stops there
abbrev pub HasNoEndAt : Rational → List Event → Type 0
HasNoEndAt t = Each (λ (e : Event). (e.part.start ≢ t) × (e.part.stop ≢ t))

pub record HeardLaws : Type 0 where
  -- at a time of an arc there is in the arc what the pattern has
  pub in_arc : (p : Pattern) → HasProperEvents p → (a : Arc) → IsArc a → (t : Rational) → IsIn t a → seen_at t (over p a) ≡ heard p t
  pub of_silence : (t : Rational) → heard silence t ≡ []
  -- the value, for as long as the cycle lasts
  pub of_pure : (v : Leaf) (t : Rational) → heard (pure v) t ≡ (cycle_arc (floor t), v) ∷ []
  -- what the pattern has at a time r times as late, with its wholes r times shorter
  pub of_fast : (r : Rational) (p : Pattern) → whole (pos 0) <ℚ r → HasProperEvents p → (t : Rational)
      → heard (fast r p) t ≡ moved_wholes (λ u. u /ℚ r) (heard p (t *ℚ r))
  pub of_time_cat : (steps : List Share) → Each (λ s. 0 < s.weight) steps → (t : Rational)
      → heard (time_cat steps) t ≡ shares_heard (total_weight steps) 0 steps (floor t) t
  -- what the pattern has whose turn it is, so many cycles earlier as the others had by then
  pub of_cat : (ps : List Pattern) (t : Rational)
      → let c = floor t in
      let k = rounds c (length ps) in
      heard (cat ps) t ≡ moved_wholes (λ u. u +ℚ whole (c -ℤ k)) (heard (get_or ps (turn c (length ps)) silence) (t -ℚ whole (c -ℤ k)))
  -- one after another
  pub of_stack : (ps : List Pattern) (t : Rational) → heard (stack ps) t ≡ flat_map (λ p. heard p t) ps
  -- for each value of the selector, what the pattern has that it names
  pub of_pick : (s : Pattern) (ps : List Pattern) → HasProperEvents s → Each HasProperEvents ps → (t : Rational)
      → heard (pick s ps) t ≡ flat_map (λ (x : Arc × Leaf). named ps t x.1) (heard s t)
  -- what the pattern has whose turn it is
  pub of_when : (modulus : ℕ) (meets : ℕ → Bool) (p q : Pattern) (t : Rational)
      → heard (when modulus meets p q) t ≡ heard (one_of (meets (turn (floor t) modulus)) p q) t
  -- what the pattern has so much earlier, that much later
  pub of_shift : (t : Rational) (p : Pattern) → HasProperEvents p → (u : Rational) → heard (shift t p) u ≡ moved_wholes (λ w. w +ℚ t) (heard p (u -ℚ t))
  -- what starts there, or what does not
  pub of_gate : (from to : Rational) (inside : Bool) (p : Pattern) (t : Rational)
      → heard (gate from to inside p) t ≡ filter (λ (x : Arc × Leaf). starts_in from to inside x.0) (heard p t)
  -- of each whole the piece that has the time
  pub of_ply : (n : ℕ) (p : Pattern) → 0 < n → HasProperEvents p → (t : Rational) → heard (ply n p) t ≡ map (piece_at n t) (heard p t)
  -- each that the one has with each that the other has: with the left's whole, with the right's, or with what both share
  pub of_join_left : (v : Joining) (x y : Pattern) → HasProperEvents x → HasProperEvents y → (t : Rational)
      → heard (join_left v x y) t
      ≡ flat_map (λ (l : Arc × Leaf). flat_map (λ (r : Arc × Leaf). valued (Some l.0) (v l.1 r.1)) (heard y t)) (heard x t)
  pub of_join_right : (v : Joining) (x y : Pattern) → HasProperEvents x → HasProperEvents y → (t : Rational)
      → heard (join_right v x y) t
      ≡ flat_map (λ (r : Arc × Leaf). flat_map (λ (l : Arc × Leaf). valued (Some r.0) (v l.1 r.1)) (heard x t)) (heard y t)
  pub of_join_both : (v : Joining) (x y : Pattern) (t : Rational)
      → heard (join_both v x y) t
      ≡ flat_map (λ (l : Arc × Leaf). flat_map (λ (r : Arc × Leaf). valued (meet l.0 r.0) (v l.1 r.1)) (heard y t)) (heard x t)
  -- within a cycle, what the pattern has as far from the cycle's end, with its wholes turned round; but not where a part starts or
  -- stops, since turned round the two change places, and a part has its start alone
  pub of_rev : (p : Pattern) (t : Rational) → whole (floor t) ≢ t → HasNoEndAt (opposite t) (p (floor t))
      → heard (rev p) t ≡ map (λ (x : Arc × Leaf). (turned (floor t) x.0, x.1)) (heard p (opposite t))
  -- twice is nothing
  pub rev_twice : (p : Pattern) (c : ℤ) → rev (rev p) c ≡ p c
