-- After how many cycles each kind of pattern repeats, by what its children repeat after.
use Rattle.std.proofs.Common.{◌≡◌, ℕ, ◌+◌, ◌*◌, ◌<◌, List, [], ◌∷◌, ◌++◌, map, length, get_or, ℤ, pos, ◌+ℤ◌, ◌-ℤ◌, ◌*ℤ◌, nat_abs, refl, sym}
use Rattle.std.proofs.Common.{ap, ap₂, ◌∙◌, arith}
use Rattle.std.specs.List.{flat_map}
use Rattle.std.proofs.lemmas.Int.{ints}
use Rattle.std.proofs.lemmas.List.{map-append}
use Rattle.tdl_control.specs.declared.leaves.Leaf.{Leaf}
use Rattle.tdl_control.specs.declared.leaves.Leaf.TheVariants.{Controls, Truth, Index}
use Rattle.tdl_ring.proofs.Quoting.{by_ring, ring}
use Rattle.tdl_fraction.specs.Rational.{Rational, frac, whole, floor, ◌+ℚ◌, ◌-ℚ◌, ◌*ℚ◌, ◌/ℚ◌, ◌<ℚ◌}
use Rattle.tdl_fraction.specs.Arc.{Arc, map_arc}
use Rattle.tdl_fraction.proofs.Field.{rationals, whole-plus, whole-times, +ℚ_assoc, plus-*ℚ, plus-/ℚ, *ℚ-divide, frac-plus, frac-quotient}
use Rattle.tdl_fraction.proofs.Integers.{plus_times}
use Rattle.tdl_fraction.proofs.Order.{≢_from_positive, whole_positive}
use Rattle.tdl_fraction.proofs.Rounding.{floor-plus}
use Rattle.tdl_event.specs.Event.{Event}
use Rattle.tdl_meaning.specs.Pattern.{Pattern, Share, over, moved, cycle_arc, silence, pure, fast, squeezed, total_weight, steps_from, time_cat, turned_event}
use Rattle.tdl_meaning.specs.Pattern.{rounds, turn, cat, stack, turned, rev, picked, pick}
use Rattle.tdl_meaning.specs.Proper.{Each}
use Rattle.tdl_meaning.specs.Repeats.{later, Repeats}
use Rattle.tdl_meaning.proofs.Lists.{each_get_or}
use Rattle.tdl_meaning.proofs.Times.{asked}
use Rattle.tdl_meaning.proofs.Repeating.{over_later}

-- a cycle's end, so many cycles later
end_later : (c : ℤ) (n : ℕ) → (c +ℤ pos n) +ℤ pos 1 ≡ (c +ℤ pos 1) +ℤ pos n
end_later c n = omega (arith, ints)

cycle_later : (n : ℕ) (c : ℤ) → cycle_arc (c +ℤ pos n) ≡ map_arc (later n) (cycle_arc c)
cycle_later n c =
    ap₂ (λ s t. record { start = s; stop = t }) (whole-plus c (pos n)) (ap whole (end_later c n) ∙ whole-plus (c +ℤ pos 1) (pos n))

-- two moves, in the other order
moved_in_turn : (f g h k : Rational → Rational) → ((t : Rational) → f (g t) ≡ h (k t)) → (events : List Event)
    → map (moved f) (map (moved g) events) ≡ map (moved h) (map (moved k) events)
moved_in_turn f g h k same [] = refl
moved_in_turn f g h k same (e ∷ events) =
    ap₂ (λ x xs. x ∷ xs)
    (ap₂ (λ a b. record { whole = a; part = b; value = e.value }) (both e.whole) (both e.part))
    (moved_in_turn f g h k same events)
  where
    both : (a : Arc) → map_arc f (map_arc g a) ≡ map_arc h (map_arc k a)
    both a = ap₂ (λ s t. record { start = s; stop = t }) (same a.start) (same a.stop)

-- ---- silence, and one event in each cycle
pub silence_repeats : (n : ℕ) → Repeats n silence
unfolding silence
silence_repeats n c = refl

pub pure_repeats : (n : ℕ) (v : Leaf) → Repeats n (pure v)
unfolding pure
pure_repeats n v c = ap (λ (a : Arc). record { whole = a; part = a; value = v } ∷ []) (cycle_later n c)

-- ---- another rate
-- as many cycles of the child as are asked for in n cycles
pub fast_repeats : (n m : ℕ) (r : Rational) (p : Pattern) → whole (pos 0) <ℚ r → whole (pos m) ≡ whole (pos n) *ℚ r → Repeats m p → Repeats n (fast r p)
unfolding fast
fast_repeats n m r p positive rate repeats c =
    ap (λ a. map (moved (λ t. t /ℚ r)) (over p a)) (asked_later c)
    ∙ ap (map (moved (λ t. t /ℚ r))) (over_later m p repeats (asked r c))
    ∙ moved_in_turn (λ t. t /ℚ r) (later m) (later n) (λ t. t /ℚ r) slower (over p (asked r c))
  where
    quick : (z : ℤ) → whole (z +ℤ pos n) *ℚ r ≡ later m (whole z *ℚ r)
    quick z = ap (λ x. x *ℚ r) (whole-plus z (pos n)) ∙ plus-*ℚ (whole z) (whole (pos n)) r ∙ ap (λ x. whole z *ℚ r +ℚ x) (sym rate)

    asked_later : (z : ℤ) → asked r (z +ℤ pos n) ≡ map_arc (later m) (asked r z)
    asked_later z =
        ap₂ (λ s t. record { start = s; stop = t }) (quick z) (ap (λ y. whole y *ℚ r) (end_later z n) ∙ quick (z +ℤ pos 1))

    slower : (t : Rational) → later m t /ℚ r ≡ later n (t /ℚ r)
    slower t =
        plus-/ℚ t (whole (pos m)) r
        ∙ ap (λ x. t /ℚ r +ℚ x) (ap (λ x. x /ℚ r) rate ∙ *ℚ-divide (whole (pos n)) r (≢_from_positive positive))

-- ---- a sequence
squeezed_later : (n : ℕ) (c : ℤ) (o w W : ℕ) (t : Rational) → squeezed (c +ℤ pos n) o w W (later n t) ≡ later n (squeezed c o w W t)
squeezed_later n c o w W t =
    ap (λ x. x +ℚ (whole (pos o) +ℚ (later n t -ℚ x) *ℚ whole (pos w)) /ℚ whole (pos W)) (whole-plus c (pos n))
    ∙ ap (λ x. (whole c +ℚ whole (pos n)) +ℚ (whole (pos o) +ℚ x *ℚ whole (pos w)) /ℚ whole (pos W)) (since (whole c) (whole (pos n)) t)
    ∙ exchange (whole c) (whole (pos n)) ((whole (pos o) +ℚ (t -ℚ whole c) *ℚ whole (pos w)) /ℚ whole (pos W))
  where
    since : (x y t : Rational) → (t +ℚ y) -ℚ (x +ℚ y) ≡ t -ℚ x
    since x y t = by_ring rationals (x ∷ y ∷ t ∷ []) (search ring depth 12) refl

    exchange : (x y s : Rational) → (x +ℚ y) +ℚ s ≡ (x +ℚ s) +ℚ y
    exchange x y s = by_ring rationals (x ∷ y ∷ s ∷ []) (search ring depth 12) refl

steps_repeat : (n W o : ℕ) (steps : List Share) → Each (λ (s : Share). Repeats n s.pattern) steps → Repeats n (steps_from W o steps)
steps_repeat n W o [] all c = refl
steps_repeat n W o (s ∷ steps) all c =
    let f = squeezed (c +ℤ pos n) o s.weight W in
    let g = squeezed c o s.weight W in
    ap₂ (λ x y. x ++ y)
    (ap (map (moved f)) (all.0 c) ∙ moved_in_turn f (later n) (later n) g (squeezed_later n c o s.weight W) (s.pattern c))
    (steps_repeat n W (o + s.weight) steps all.1 c)
    ∙ sym (map-append (moved (later n)) (map (moved g) (s.pattern c)) (steps_from W (o + s.weight) steps c))

pub time_cat_repeats : (n : ℕ) (steps : List Share) → Each (λ (s : Share). Repeats n s.pattern) steps → Repeats n (time_cat steps)
unfolding time_cat
time_cat_repeats n steps all = steps_repeat n (total_weight steps) 0 steps all

-- ---- turns
-- m rounds later
rounds_later : (c : ℤ) (m k : ℕ) → 0 < k → rounds (c +ℤ pos (m * k)) k ≡ rounds c k +ℤ pos m
rounds_later c m k some =
    ap floor (sym (frac-plus c (pos (m * k)) k some) ∙ ap (λ x. frac c k +ℚ x) all) ∙ floor-plus (frac c k) (pos m)
  where
    all : frac (pos (m * k)) k ≡ whole (pos m)
    all =
        frac-quotient (pos (m * k)) k ∙ ap (λ x. x /ℚ whole (pos k)) (whole-times (pos m) (pos k))
        ∙ *ℚ-divide (whole (pos m)) (whole (pos k)) (≢_from_positive (whole_positive k some))

turn_later : (c : ℤ) (m k : ℕ) → 0 < k → turn (c +ℤ pos (m * k)) k ≡ turn c k
turn_later c m k some =
    ap (λ r. nat_abs ((c +ℤ pos (m * k)) -ℤ r *ℤ pos k)) (rounds_later c m k some) ∙ ap nat_abs (same (rounds c k))
  where
    same : (r : ℤ) → (c +ℤ pos (m * k)) -ℤ (r +ℤ pos m) *ℤ pos k ≡ c -ℤ r *ℤ pos k
    same r = rw (plus_times r (pos m) (pos k)) (omega (arith, ints))

-- as often as the patterns go round in n cycles
pub cat_repeats : (n m : ℕ) (ps : List Pattern) → 0 < length ps → n ≡ m * length ps → Each (Repeats m) ps → Repeats n (cat ps)
unfolding cat
cat_repeats n m ps some times all c =
    ap (λ k. cat ps (c +ℤ pos k)) times
    ∙ ap₂ (λ r i. map (moved (λ t. t +ℚ whole ((c +ℤ pos (m * count)) -ℤ r))) (get_or ps i silence r))
    (rounds_later c m count some) (turn_later c m count some)
    ∙ ap (map (moved (λ t. t +ℚ whole ((c +ℤ pos (m * count)) -ℤ (round +ℤ pos m))))) (repeats round)
    ∙ moved_in_turn (λ t. t +ℚ whole ((c +ℤ pos (m * count)) -ℤ (round +ℤ pos m))) (later m) (later (m * count)) (λ t. t +ℚ whole (c -ℤ round)) back (p round)
    ∙ ap (λ k. map (moved (later k)) (cat ps c)) (sym times)
  where
    count : ℕ
    count = length ps

    round : ℤ
    round = rounds c count

    p : Pattern
    p = get_or ps (turn c count) silence

    repeats : Repeats m p
    repeats = each_get_or (Repeats m) ps (turn c count) silence (silence_repeats m) all

    whole_back : (k : ℕ) → whole (pos m) +ℚ whole ((c +ℤ pos k) -ℤ (round +ℤ pos m)) ≡ whole (c -ℤ round) +ℚ whole (pos k)
    whole_back k =
        sym (whole-plus (pos m) ((c +ℤ pos k) -ℤ (round +ℤ pos m))) ∙ ap whole (omega (arith, ints)) ∙ whole-plus (c -ℤ round) (pos k)

    back : (t : Rational) → later m t +ℚ whole ((c +ℤ pos (m * count)) -ℤ (round +ℤ pos m)) ≡ later (m * count) (t +ℚ whole (c -ℤ round))
    back t =
        +ℚ_assoc t (whole (pos m)) (whole ((c +ℤ pos (m * count)) -ℤ (round +ℤ pos m))) ∙ ap (λ x. t +ℚ x) (whole_back (m * count))
        ∙ sym (+ℚ_assoc t (whole (c -ℤ round)) (whole (pos (m * count))))

-- ---- patterns together
pub stack_repeats : (n : ℕ) (ps : List Pattern) → Each (Repeats n) ps → Repeats n (stack ps)
unfolding stack
stack_repeats n [] all c = refl
stack_repeats n (p ∷ ps) all c =
    ap₂ (λ x y. x ++ y) (all.0 c) (stack_repeats n ps all.1 c) ∙ sym (map-append (moved (later n)) (p c) (flat_map (λ q. q c) ps))

-- ---- cycles turned round
turned_later : (n : ℕ) (c : ℤ) (a : Arc) → turned (c +ℤ pos n) (map_arc (later n) a) ≡ map_arc (later n) (turned c a)
turned_later n c a = ap₂ (λ s t. record { start = s; stop = t }) (end a.stop) (end a.start)
  where
    ends : ((c +ℤ pos n) +ℤ (c +ℤ pos n)) +ℤ pos 1 ≡ (((c +ℤ c) +ℤ pos 1) +ℤ pos n) +ℤ pos n
    ends = omega (arith, ints)

    apart : (x y t : Rational) → ((x +ℚ y) +ℚ y) -ℚ (t +ℚ y) ≡ (x -ℚ t) +ℚ y
    apart x y t = by_ring rationals (x ∷ y ∷ t ∷ []) (search ring depth 12) refl

    end : (t : Rational) → whole ((c +ℤ pos n) +ℤ (c +ℤ pos n) +ℤ pos 1) -ℚ later n t ≡ later n (whole (c +ℤ c +ℤ pos 1) -ℚ t)
    end t =
        ap (λ x. x -ℚ later n t)
        (ap whole ends ∙ whole-plus (((c +ℤ c) +ℤ pos 1) +ℤ pos n) (pos n) ∙ ap (λ x. x +ℚ whole (pos n)) (whole-plus ((c +ℤ c) +ℤ pos 1) (pos n)))
        ∙ apart (whole (c +ℤ c +ℤ pos 1)) (whole (pos n)) t

events_turned_later : (n : ℕ) (c : ℤ) (events : List Event)
    → map (turned_event (c +ℤ pos n)) (map (moved (later n)) events) ≡ map (moved (later n)) (map (turned_event c) events)
events_turned_later n c [] = refl
events_turned_later n c (e ∷ events) =
    ap₂ (λ x xs. x ∷ xs)
    (ap₂ (λ a b. record { whole = a; part = b; value = e.value }) (turned_later n c e.whole) (turned_later n c e.part))
    (events_turned_later n c events)

pub rev_repeats : (n : ℕ) (p : Pattern) → Repeats n p → Repeats n (rev p)
unfolding rev
rev_repeats n p repeats c = ap (map (turned_event (c +ℤ pos n))) (repeats c) ∙ events_turned_later n c (p c)

-- ---- choices
picked_later : (n : ℕ) (ps : List Pattern) → Each (Repeats n) ps → (a : Arc) (v : Leaf)
    → picked ps (map_arc (later n) a) v ≡ map (moved (later n)) (picked ps a v)
picked_later n ps all a (Controls controls) = refl
picked_later n ps all a (Truth truth) = refl
picked_later n ps all a (Index k) =
    over_later n (get_or ps k silence) (each_get_or (Repeats n) ps k silence (silence_repeats n) all) a

choices_later : (n : ℕ) (ps : List Pattern) → Each (Repeats n) ps → (events : List Event)
    → flat_map (λ (e : Event). picked ps e.part e.value) (map (moved (later n)) events)
    ≡ map (moved (later n)) (flat_map (λ (e : Event). picked ps e.part e.value) events)
choices_later n ps all [] = refl
choices_later n ps all (e ∷ events) =
    ap₂ (λ x y. x ++ y) (picked_later n ps all e.part e.value) (choices_later n ps all events)
    ∙ sym (map-append (moved (later n)) (picked ps e.part e.value) (flat_map (λ (x : Event). picked ps x.part x.value) events))

pub pick_repeats : (n : ℕ) (s : Pattern) (ps : List Pattern) → Repeats n s → Each (Repeats n) ps → Repeats n (pick s ps)
unfolding pick
pick_repeats n s ps repeats all c =
    ap (flat_map (λ (e : Event). picked ps e.part e.value)) (repeats c) ∙ choices_later n ps all (s c)
