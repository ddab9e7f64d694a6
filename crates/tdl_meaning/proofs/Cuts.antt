-- A pattern in an arc of an arc: for patterns whose events are well formed, what is cut twice is cut to what the arcs share.
use Rattle.std.proofs.Common.{◌≡◌, ℕ, ◌+◌, ◌⊎◌, inl, inr, ⊎_elim, List, [], ◌∷◌, ◌++◌, ℤ, pos, ◌+ℤ◌, ◌-ℤ◌, ◌≤ℤ◌, ◌<ℤ◌, nat_abs, refl, sym, ap, ap₂, ◌∙◌, subst}
use Rattle.std.proofs.Common.{append-nil, Option, Some, None, option_and_then, arith}
use Rattle.std.specs.List.{flat_map}
use Rattle.std.proofs.lemmas.Int.{ints}
use Rattle.std.proofs.lemmas.Grind.{flat_map-append}
use Rattle.tdl_fraction.specs.Rational.{Rational, whole, ◌≤ℚ◌, ◌<ℚ◌, floor, ceil}
use Rattle.tdl_fraction.specs.Arc.{Arc, IsArc, IsInside, meet}
use Rattle.tdl_fraction.proofs.Order.{≤ℚ_trans, ≤ℚ_from_<ℚ, <ℚ-≤ℚ_trans, ≤ℚ-<ℚ_trans, whole-le}
use Rattle.tdl_fraction.proofs.Rounding.{le_floor, ceil_le, floor_unique, ceil_unique, floor_monotone, ceil_monotone, floor_le_ceil, floor-whole, ceil-whole}
use Rattle.tdl_fraction.proofs.Arcs.{meet_assoc, meet_ends, meet_inside, meet_inside_left, none_from_apart, inside_self, meet_stop_beyond, meet_start_beyond}
use Rattle.tdl_event.specs.Event.{Event, clip, clip_event}
use Rattle.tdl_meaning.specs.Pattern.{Pattern, whole_range, cycles_of, over, cycle_arc}
use Rattle.tdl_meaning.specs.Proper.{Each, IsProper, HasProperEvents}
use Rattle.tdl_meaning.specs.Onsets.{from_to}
use Rattle.tdl_meaning.specs.inside.Arcs.{clip_met, over_met}
use Rattle.tdl_meaning.proofs.Cycles.{range_end, cycle_is_arc}
use Rattle.tdl_meaning.proofs.Lists.{each_in_range}
use Rattle.tdl_meaning.proofs.Flat.{flat_map-flat_map, flat_map_same, flat_map_same_each, flat_map_nothing, each_of_all, whole_range-append, flat_map_within}

-- the event with this part, if there is one
abbrev pub piece : Event → Option Arc → List Event
piece e o = elim o [ Some part ↦ record { whole = e.whole; part = part; value = e.value } ∷ [] | None ↦ [] ]

-- ---- clips
cut_piece : (a : Arc) (e : Event) (o : Option Arc) → clip a (piece e o) ≡ piece e (option_and_then (λ m. meet m a) o)
cut_piece a e (Some part) = append-nil _
cut_piece a e None = refl

cut_all : (o : Option Arc) (events : List Event) → flat_map (λ e. piece e (option_and_then (λ m. meet e.part m) o)) events ≡ clip_met o events
cut_all (Some a) events = refl
cut_all None events = flat_map_nothing _ events (each_of_all (λ e. [] ≡ []) (λ e. refl) events)

-- a clip of a clip is a clip to what the arcs share
pub clip_clip : (a b : Arc) (events : List Event) → clip a (clip b events) ≡ clip_met (meet b a) events
clip_clip a b events =
    flat_map-flat_map (clip_event a) (clip_event b) events
    ∙ flat_map_same (λ e. clip a (clip_event b e)) (λ e. piece e (option_and_then (λ m. meet e.part m) (meet b a)))
    (λ e. cut_piece a e (meet e.part b) ∙ ap (piece e) (meet_assoc e.part b a)) events
    ∙ cut_all (meet b a) events

-- events of an arc are not changed by a clip to it
pub clip_itself : (a : Arc) (events : List Event) → Each (IsProper a) events → clip a events ≡ events
clip_itself a [] all = refl
clip_itself a (e ∷ events) all =
    ap₂ (λ x y. x ++ y) (ap (piece e) (meet_inside e.part a all.0.width all.0.in_arc)) (clip_itself a events all.1)

pub clip_shared : (a b : Arc) (events : List Event) → Each (IsProper b) events → clip a events ≡ clip_met (meet b a) events
clip_shared a b events all = ap (clip a) (sym (clip_itself b events all)) ∙ clip_clip a b events

-- ---- cycles
-- a cycle before or behind the arc has nothing in it
pub outside : (p : Pattern) → HasProperEvents p → (a : Arc) (c : ℤ) → (c <ℤ floor a.start) ⊎ (ceil a.stop ≤ℤ c) → clip a (p c) ≡ []
outside p proper a c elsewhere =
    clip_shared a (cycle_arc c) (p c) (proper c)
    ∙ ap (λ o. clip_met o (p c)) (none_from_apart (cycle_arc c) a (⊎_elim
    (λ before. inl ((le_floor (c +ℤ pos 1) a.start).1 (next c (floor a.start) before)))
    (λ behind. inr ((ceil_le a.stop c).1 behind))
    elsewhere))
  where
    next : (c f : ℤ) → c <ℤ f → (c +ℤ pos 1) ≤ℤ f
    next c f lt = omega (arith, ints)

pub cycles_in_order : (a : Arc) → IsArc a → floor a.start ≤ℤ ceil a.stop
cycles_in_order a h = above (floor a.start) (floor a.stop) (ceil a.stop) (floor_monotone (≤ℚ_from_<ℚ h)) (floor_le_ceil a.stop)
  where
    above : (x y z : ℤ) → x ≤ℤ y → y ≤ℤ z → x ≤ℤ z
    above x y z p q = omega (arith, ints)

-- each run of cycles that has the arc's gives what the pattern has in it
pub covered : (p : Pattern) → HasProperEvents p → (a : Arc) → IsArc a → (first : ℤ) (n : ℕ)
    → first ≤ℤ floor a.start → ceil a.stop ≤ℤ (first +ℤ pos n) → flat_map (λ c. clip a (p c)) (whole_range first n) ≡ over p a
unfolding over
covered p proper a h first n low high =
    flat_map_within (λ c. clip a (p c)) (floor a.start) (ceil a.stop) first n low (cycles_in_order a h) high
    (λ c before. outside p proper a c (inl before)) (λ c behind. outside p proper a c (inr behind))

-- ---- arcs inside one cycle
pub floor_inside : (c : ℤ) (a : Arc) → IsArc a → IsInside a (cycle_arc c) → floor a.start ≡ c
floor_inside c a h inside = floor_unique a.start c inside.0 (<ℚ-≤ℚ_trans h inside.1)

pub ceil_inside : (c : ℤ) (a : Arc) → IsArc a → IsInside a (cycle_arc c) → ceil a.stop ≡ c +ℤ pos 1
ceil_inside c a h inside = ceil_unique a.stop (c +ℤ pos 1) inside.1 (subst (λ z. whole z <ℚ a.stop) (itself c) (≤ℚ-<ℚ_trans inside.0 h))
  where
    itself : (c : ℤ) → c ≡ (c +ℤ pos 1) -ℤ pos 1
    itself c = omega (arith, ints)

pub cycles_inside : (c : ℤ) (a : Arc) → IsArc a → IsInside a (cycle_arc c) → cycles_of a ≡ c ∷ []
cycles_inside c a h inside =
    ap₂ (λ x y. whole_range x (nat_abs (y -ℤ x))) (floor_inside c a h inside) (ceil_inside c a h inside) ∙ ap (whole_range c) (one c)
  where
    one : (c : ℤ) → nat_abs ((c +ℤ pos 1) -ℤ c) ≡ 1
    one c = omega (arith, ints)

pub over_inside : (p : Pattern) (c : ℤ) (a : Arc) → IsArc a → IsInside a (cycle_arc c) → over p a ≡ clip a (p c)
unfolding over
over_inside p c a h inside = ap (flat_map (λ d. clip a (p d))) (cycles_inside c a h inside) ∙ append-nil (clip a (p c))

pub over_cycle : (p : Pattern) → HasProperEvents p → (c : ℤ) → over p (cycle_arc c) ≡ p c
over_cycle p proper c = over_inside p c (cycle_arc c) (cycle_is_arc c) (inside_self (cycle_arc c)) ∙ clip_itself (cycle_arc c) (p c) (proper c)

-- ---- arcs of arcs
pub met_inside : (a b d : Arc) → meet a b ≡ Some d → IsArc d × IsInside d a
met_inside a b d met = ((meet_ends a b d met).2, meet_inside_left a b d met)

-- what a pattern has in b, cut to a, is what it has in the arc that both share
pub clip_over : (p : Pattern) → HasProperEvents p → (a b : Arc) → clip a (over p b) ≡ over_met p (meet b a)
unfolding over
clip_over p proper a b =
    flat_map-flat_map (clip_event a) (λ c. clip b (p c)) (cycles_of b)
    ∙ flat_map_same (λ c. clip a (clip b (p c))) (λ c. clip_met (meet b a) (p c)) (λ c. clip_clip a b (p c)) (cycles_of b)
    ∙ by (meet b a) refl
  where
    by : (o : Option Arc) → meet b a ≡ o → flat_map (λ c. clip_met o (p c)) (cycles_of b) ≡ over_met p o
    by None met = flat_map_nothing _ (cycles_of b) (each_of_all (λ c. [] ≡ []) (λ c. refl) (cycles_of b))
    by (Some d) met =
        let is = met_inside b a d met in
        let b_is : IsArc b = ≤ℚ-<ℚ_trans is.1.0 (<ℚ-≤ℚ_trans is.0 is.1.1) in
        covered p proper d is.0 (floor b.start) (nat_abs (ceil b.stop -ℤ floor b.start)) (floor_monotone is.1.0)
        (subst (λ z. ceil d.stop ≤ℤ z) (sym (range_end b b_is)) (ceil_monotone is.1.1))

pub clip_cycle : (p : Pattern) → HasProperEvents p → (c : ℤ) (a : Arc) → clip a (p c) ≡ over_met p (meet (cycle_arc c) a)
clip_cycle p proper c a = ap (clip a) (sym (over_cycle p proper c)) ∙ clip_over p proper a (cycle_arc c)

-- cycle by cycle, what the arc has of the cycle
pub over_by_cycles : (p : Pattern) → HasProperEvents p → (a : Arc) → over p a ≡ flat_map (λ c. over_met p (meet (cycle_arc c) a)) (cycles_of a)
unfolding over
over_by_cycles p proper a =
    flat_map_same (λ c. clip a (p c)) (λ c. over_met p (meet (cycle_arc c) a)) (λ c. clip_cycle p proper c a) (cycles_of a)

-- arcs that are neighbours at a whole number join
pub over_joined : (p : Pattern) → HasProperEvents p → (s t : Rational) (m : ℤ) → s ≤ℚ whole m → whole m ≤ℚ t
    → over p (from_to s t) ≡ over p (from_to s (whole m)) ++ over p (from_to (whole m) t)
unfolding over
over_joined p proper s t m low high =
    let both = λ (c : ℤ). clip (from_to s t) (p c) in
    let x = floor s in
    let z = ceil t in
    let first = nat_abs (m -ℤ x) in
    let last = nat_abs (z -ℤ m) in
    let x_m : x ≤ℤ m = subst (λ k. x ≤ℤ k) (floor-whole m) (floor_monotone low) in
    let m_z : m ≤ℤ z = subst (λ k. k ≤ℤ z) (ceil-whole m) (ceil_monotone high) in
    ap (λ n. flat_map both (whole_range x n)) (two x m z x_m m_z)
    ∙ ap (flat_map both) (whole_range-append x first last ∙ ap (λ k. whole_range x first ++ whole_range k last) (there x m x_m))
    ∙ flat_map-append both (whole_range x first) (whole_range m last)
    ∙ ap₂ (λ u v. u ++ v)
    (flat_map_same_each (λ c. c <ℤ m) both (λ c. clip (from_to s (whole m)) (p c)) (λ c before. front c before) (whole_range x first)
    (each_in_range (λ c. c <ℤ m) x first (λ c from to. subst (λ k. c <ℤ k) (there x m x_m) to))
    ∙ ap (λ k. flat_map (λ c. clip (from_to s (whole m)) (p c)) (whole_range x (nat_abs (k -ℤ x)))) (sym (ceil-whole m)))
    (flat_map_same_each (λ c. m ≤ℤ c) both (λ c. clip (from_to (whole m) t) (p c)) (λ c behind. back c behind) (whole_range m last)
    (each_in_range (λ c. m ≤ℤ c) m last (λ c from to. from))
    ∙ ap (λ k. flat_map (λ c. clip (from_to (whole m) t) (p c)) (whole_range k (nat_abs (z -ℤ k)))) (sym (floor-whole m)))
  where
    two : (x m z : ℤ) → x ≤ℤ m → m ≤ℤ z → nat_abs (z -ℤ x) ≡ nat_abs (m -ℤ x) + nat_abs (z -ℤ m)
    two x m z p q = omega (arith, ints)

    there : (x m : ℤ) → x ≤ℤ m → x +ℤ pos (nat_abs (m -ℤ x)) ≡ m
    there x m p = omega (arith, ints)

    next : (c m : ℤ) → c <ℤ m → (c +ℤ pos 1) ≤ℤ m
    next c m lt = omega (arith, ints)

    front : (c : ℤ) → c <ℤ m → clip (from_to s t) (p c) ≡ clip (from_to s (whole m)) (p c)
    front c before =
        let ends = (whole-le (c +ℤ pos 1) m).0 (next c m before) in
        clip_shared (from_to s t) (cycle_arc c) (p c) (proper c)
        ∙ ap (λ o. clip_met o (p c)) (meet_stop_beyond (cycle_arc c) (from_to s t) (from_to s (whole m)) refl (≤ℚ_trans ends high) ends)
        ∙ sym (clip_shared (from_to s (whole m)) (cycle_arc c) (p c) (proper c))

    back : (c : ℤ) → m ≤ℤ c → clip (from_to s t) (p c) ≡ clip (from_to (whole m) t) (p c)
    back c behind =
        let starts = (whole-le m c).0 behind in
        clip_shared (from_to s t) (cycle_arc c) (p c) (proper c)
        ∙ ap (λ o. clip_met o (p c)) (meet_start_beyond (cycle_arc c) (from_to s t) (from_to (whole m) t) (≤ℚ_trans low starts) starts refl)
        ∙ sym (clip_shared (from_to (whole m) t) (cycle_arc c) (p c) (proper c))
