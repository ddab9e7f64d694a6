-- What each kind of pattern has in an arc of one cycle, by what its children have in the arcs that go there.
use Rattle.std.proofs.Common.{◌≡◌, ℕ, ◌+◌, ◌<◌, ◌≤◌, List, [], ◌∷◌, ◌++◌, map, length, get_or, ℤ, pos, ◌+ℤ◌, ◌-ℤ◌, refl, sym, ap, ap₂, ◌∙◌, subst}
use Rattle.std.proofs.Common.{append-nil, Option, Some, None, option_map, arith}
use Rattle.std.specs.List.{flat_map}
use Rattle.std.proofs.lemmas.Int.{ints}
use Rattle.std.proofs.lemmas.List.{map-append}
use Rattle.std.proofs.lemmas.Grind.{flat_map-append}
use Rattle.tdl_control.specs.declared.leaves.Leaf.{Leaf}
use Rattle.tdl_control.specs.declared.leaves.Leaf.TheVariants.{Controls, Truth, Index}
use Rattle.tdl_fraction.specs.Rational.{Rational, whole, ◌+ℚ◌, ◌-ℚ◌, ◌*ℚ◌, ◌/ℚ◌, ◌<ℚ◌}
use Rattle.tdl_fraction.specs.Arc.{Arc, IsArc, IsInside, map_arc, turn_arc, meet}
use Rattle.tdl_fraction.proofs.Field.{whole-minus, -ℚ-plus, *ℚ-divide}
use Rattle.tdl_fraction.proofs.Order.{≢_from_positive}
use Rattle.tdl_fraction.proofs.Arcs.{KeepsOrder, meet_through, meet_turned, meet_around, keeps_arc, keeps_inside, turned_arc, turned_inside, inside_trans}
use Rattle.tdl_fraction.proofs.Arcs.{keeps-plus, keeps-minus, keeps-times, keeps-divide, reverses-minus}
use Rattle.tdl_event.specs.Event.{Event, clip, clip_event}
use Rattle.tdl_meaning.specs.Pattern.{Pattern, Share, over, cycles_of, moved, cycle_arc, silence, pure, fast, squeezed, total_weight, steps_from, time_cat}
use Rattle.tdl_meaning.specs.Pattern.{turned_event}
use Rattle.tdl_meaning.specs.Pattern.{rounds, turn, cat, stack, turned, rev, picked, pick}
use Rattle.tdl_meaning.specs.Proper.{Each, HasProperEvents}
use Rattle.tdl_meaning.specs.Heard.{unsqueezed}
use Rattle.tdl_meaning.specs.inside.Arcs.{over_met, share, step_ask, steps_over}
use Rattle.tdl_meaning.proofs.Lists.{each_get_or}
use Rattle.tdl_meaning.proofs.Flat.{flat_map-flat_map, flat_map_same, flat_map_nothing, each_of_all}
use Rattle.tdl_meaning.proofs.Cuts.{piece, met_inside, over_inside, clip_over, clip_cycle}
use Rattle.tdl_meaning.proofs.Times.{asked, keeps-squeezed, squeezed_there, unsqueezed_back, keeps-unsqueezed, turned_back}
use Rattle.tdl_meaning.proofs.kinds.Proper.{silence_proper, cycle_turned}

-- ---- clips of moved events
-- an event with both of its arcs moved
abbrev carried : (Arc → Arc) → Event → Event
carried f e = record { whole = f e.whole; part = f e.part; value = e.value }

clip_carried : (f : Arc → Arc) (a : Arc) → ((b : Arc) → meet (f b) (f a) ≡ option_map f (meet b a)) → (events : List Event)
    → clip (f a) (map (carried f) events) ≡ map (carried f) (clip a events)
clip_carried f a through [] = refl
clip_carried f a through (e ∷ events) =
    ap₂ (λ x y. x ++ y) (ap (piece (carried f e)) (through e.part) ∙ one (meet e.part a)) (clip_carried f a through events)
    ∙ sym (map-append (carried f) (clip_event a e) (clip a events))
  where
    one : (o : Option Arc) → piece (carried f e) (option_map f o) ≡ map (carried f) (piece e o)
    one (Some part) = refl
    one None = refl

pub clip_moved : (f : Rational → Rational) → KeepsOrder f → (a : Arc) (events : List Event)
    → clip (map_arc f a) (map (moved f) events) ≡ map (moved f) (clip a events)
clip_moved f keeps a events = clip_carried (map_arc f) a (λ b. meet_through f keeps b a) events

pub there_and_back : (f g : Rational → Rational) → ((t : Rational) → f (g t) ≡ t) → (a : Arc) → map_arc f (map_arc g a) ≡ a
there_and_back f g back a = ap₂ (λ s t. record { start = s; stop = t }) (back a.start) (back a.stop)

-- what moved events have in an arc comes from the arc that goes there
pub clip_there : (f g : Rational → Rational) → KeepsOrder f → ((t : Rational) → f (g t) ≡ t) → (a : Arc) (events : List Event)
    → clip a (map (moved f) events) ≡ map (moved f) (clip (map_arc g a) events)
clip_there f g keeps back a events = ap (λ x. clip x (map (moved f) events)) (sym (there_and_back f g back a)) ∙ clip_moved f keeps (map_arc g a) events

pub clip_turned : (c : ℤ) (a : Arc) (events : List Event) → clip a (map (turned_event c) events) ≡ map (turned_event c) (clip (turned c a) events)
clip_turned c a events =
    let f : Rational → Rational = λ t. whole (c +ℤ c +ℤ pos 1) -ℚ t in
    ap (λ x. clip x (map (turned_event c) events)) (sym (turned_back c a))
    ∙ clip_carried (turn_arc f) (turned c a) (λ b. meet_turned f (reverses-minus (whole (c +ℤ c +ℤ pos 1))) b (turned c a)) events

-- ---- kind by kind
pub over-silence : (a : Arc) → over silence a ≡ []
unfolding over silence
over-silence a = flat_map_nothing (λ c. clip a []) (cycles_of a) (each_of_all (λ c. clip a [] ≡ []) (λ c. refl) (cycles_of a))

pub over-pure : (v : Leaf) (c : ℤ) (a : Arc) → IsArc a → IsInside a (cycle_arc c) → over (pure v) a ≡ record { whole = cycle_arc c; part = a; value = v } ∷ []
unfolding pure
over-pure v c a h inside =
    over_inside (pure v) c a h inside ∙ append-nil _
    ∙ ap (piece (record { whole = cycle_arc c; part = cycle_arc c; value = v })) (meet_around (cycle_arc c) a h inside)

pub over-stack : (ps : List Pattern) (c : ℤ) (a : Arc) → IsArc a → IsInside a (cycle_arc c) → over (stack ps) a ≡ flat_map (λ p. over p a) ps
unfolding stack
over-stack ps c a h inside =
    over_inside (stack ps) c a h inside
    ∙ flat_map-flat_map (clip_event a) (λ p. p c) ps
    ∙ flat_map_same (λ p. clip a (p c)) (λ p. over p a) (λ p. sym (over_inside p c a h inside)) ps

-- an arc of cycle c, moved back to cycle k
pub later_inside : (c k : ℤ) (a : Arc) → IsInside a (cycle_arc c) → IsInside (map_arc (λ t. t -ℚ whole (c -ℤ k)) a) (cycle_arc k)
later_inside c k a inside =
    subst (λ x. IsInside (map_arc (λ t. t -ℚ whole (c -ℤ k)) a) x)
    (ap₂ (λ s t. record { start = s; stop = t }) (start c k) (stop c k))
    (keeps_inside (λ t. t -ℚ whole (c -ℤ k)) (keeps-minus (whole (c -ℤ k))) a (cycle_arc c) inside)
  where
    start : (c k : ℤ) → whole c -ℚ whole (c -ℤ k) ≡ whole k
    start c k = sym (whole-minus c (c -ℤ k)) ∙ ap whole (omega (arith, ints))

    stop : (c k : ℤ) → whole (c +ℤ pos 1) -ℚ whole (c -ℤ k) ≡ whole (k +ℤ pos 1)
    stop c k = sym (whole-minus (c +ℤ pos 1) (c -ℤ k)) ∙ ap whole (omega (arith, ints))

pub over-cat : (ps : List Pattern) (c : ℤ) (a : Arc) → IsArc a → IsInside a (cycle_arc c)
    → let k = rounds c (length ps) in
    over (cat ps) a ≡ map (moved (λ t. t +ℚ whole (c -ℤ k))) (over (get_or ps (turn c (length ps)) silence) (map_arc (λ t. t -ℚ whole (c -ℤ k)) a))
unfolding cat
over-cat ps c a h inside =
    let k = rounds c (length ps) in
    let p = get_or ps (turn c (length ps)) silence in
    let by = whole (c -ℤ k) in
    over_inside (cat ps) c a h inside
    ∙ clip_there (λ t. t +ℚ by) (λ t. t -ℚ by) (keeps-plus by) (λ t. -ℚ-plus t by) a (p k)
    ∙ ap (map (moved (λ t. t +ℚ by)))
    (sym (over_inside p k (map_arc (λ t. t -ℚ by) a) (keeps_arc (λ t. t -ℚ by) (keeps-minus by) a h) (later_inside c k a inside)))

pub turned_is_arc : (c : ℤ) (a : Arc) → IsArc a → IsArc (turned c a)
turned_is_arc c a h = turned_arc (λ t. whole (c +ℤ c +ℤ pos 1) -ℚ t) (reverses-minus (whole (c +ℤ c +ℤ pos 1))) a h

pub turned_inside_cycle : (c : ℤ) (a : Arc) → IsInside a (cycle_arc c) → IsInside (turned c a) (cycle_arc c)
turned_inside_cycle c a inside =
    inside_trans (turned c a) (turned c (cycle_arc c)) (cycle_arc c)
    (turned_inside (λ t. whole (c +ℤ c +ℤ pos 1) -ℚ t) (reverses-minus (whole (c +ℤ c +ℤ pos 1))) a (cycle_arc c) inside) (cycle_turned c)

pub over-rev : (p : Pattern) (c : ℤ) (a : Arc) → IsArc a → IsInside a (cycle_arc c) → over (rev p) a ≡ map (turned_event c) (over p (turned c a))
unfolding rev
over-rev p c a h inside =
    over_inside (rev p) c a h inside
    ∙ clip_turned c a (p c)
    ∙ ap (map (turned_event c)) (sym (over_inside p c (turned c a) (turned_is_arc c a h) (turned_inside_cycle c a inside)))

pub over-fast : (r : Rational) (p : Pattern) → whole (pos 0) <ℚ r → HasProperEvents p → (c : ℤ) (a : Arc) → IsArc a → IsInside a (cycle_arc c)
    → over (fast r p) a ≡ map (moved (λ t. t /ℚ r)) (over p (map_arc (λ t. t *ℚ r) a))
unfolding fast
over-fast r p positive proper c a h inside =
    let times : Rational → Rational = λ t. t *ℚ r in
    let keeps = keeps-times r positive in
    over_inside (fast r p) c a h inside
    ∙ clip_there (λ t. t /ℚ r) times (keeps-divide r positive) (λ t. *ℚ-divide t r (≢_from_positive positive)) a (over p (asked r c))
    ∙ ap (map (moved (λ t. t /ℚ r)))
    (clip_over p proper (map_arc times a) (asked r c)
    ∙ ap (over_met p) (meet_around (asked r c) (map_arc times a) (keeps_arc times keeps a h) (keeps_inside times keeps a (cycle_arc c) inside)))

-- ---- sequences
-- what a step is asked for is what its cycle has of the arc that is brought back
pub ask_is : (c : ℤ) (o w W : ℕ) (a : Arc) → 0 < w → 0 < W → meet (cycle_arc c) (map_arc (unsqueezed c o w W) a) ≡ step_ask c o w W a
ask_is c o w W a h k =
    let f = squeezed c o w W in
    let g = unsqueezed c o w W in
    ap (λ x. meet x (map_arc g a)) (sym (there_and_back g f (λ t. unsqueezed_back c o w W t h k) (cycle_arc c)))
    ∙ meet_through g (keeps-unsqueezed c o w W h k) (share c o w W) a

pub ask_inside : (c : ℤ) (o w W : ℕ) (a : Arc) → 0 < w → 0 < W → (b : Arc) → step_ask c o w W a ≡ Some b → IsArc b × IsInside b (cycle_arc c)
ask_inside c o w W a h k b asks = met_inside (cycle_arc c) (map_arc (unsqueezed c o w W) a) b (ask_is c o w W a h k ∙ asks)

pub clip_steps : (W o : ℕ) (steps : List Share) → Each (λ s. (0 < s.weight) × HasProperEvents s.pattern) steps → o + total_weight steps ≤ W → (c : ℤ) (a : Arc)
    → clip a (steps_from W o steps c) ≡ steps_over W o steps c a
clip_steps W o [] all le c a = refl
clip_steps W o (s ∷ steps) all le c a =
    let f = squeezed c o s.weight W in
    let g = unsqueezed c o s.weight W in
    let p = s.pattern in
    let above : 0 < W = omega (arith, all.0.0) in
    flat_map-append (clip_event a) (map (moved f) (p c)) (steps_from W (o + s.weight) steps c)
    ∙ ap₂ (λ x y. x ++ y)
    (clip_there f g (keeps-squeezed c o s.weight W all.0.0 above) (λ t. squeezed_there c o s.weight W t all.0.0 above) a (p c)
    ∙ ap (map (moved f)) (clip_cycle p all.0.1 c (map_arc g a) ∙ ap (over_met p) (ask_is c o s.weight W a all.0.0 above)))
    (clip_steps W (o + s.weight) steps all.1 (omega arith) c a)

pub over-time_cat : (steps : List Share) → Each (λ s. (0 < s.weight) × HasProperEvents s.pattern) steps → (c : ℤ) (a : Arc) → IsArc a → IsInside a (cycle_arc c)
    → over (time_cat steps) a ≡ steps_over (total_weight steps) 0 steps c a
unfolding time_cat
over-time_cat steps all c a h inside = over_inside (time_cat steps) c a h inside ∙ clip_steps (total_weight steps) 0 steps all (omega arith) c a

-- ---- choices, also where an arc has several cycles
-- a pattern that makes a list of each event, such that a cut of the list is the list of the cut event
pub over_each_event : (K : Event → List Event) → ((a : Arc) (e : Event) → clip a (K e) ≡ flat_map K (clip_event a e)) → (p : Pattern) (a : Arc)
    → over (λ c. flat_map K (p c)) a ≡ flat_map K (over p a)
unfolding over
over_each_event K cuts p a =
    flat_map_same (λ c. clip a (flat_map K (p c))) (λ c. flat_map K (clip a (p c)))
    (λ c.
    flat_map-flat_map (clip_event a) K (p c)
    ∙ flat_map_same (λ e. clip a (K e)) (λ e. flat_map K (clip_event a e)) (cuts a) (p c)
    ∙ sym (flat_map-flat_map K (clip_event a) (p c)))
    (cycles_of a)
    ∙ sym (flat_map-flat_map K (λ c. clip a (p c)) (cycles_of a))

pub over-pick : (s : Pattern) (ps : List Pattern) → Each HasProperEvents ps → (a : Arc)
    → over (pick s ps) a ≡ flat_map (λ e. picked ps e.part e.value) (over s a)
unfolding pick
over-pick s ps all a = over_each_event choices (λ a e. cut a e e.value) s a
  where
    choices : Event → List Event
    choices e = picked ps e.part e.value

    unchosen : (w : Arc) (v : Leaf) → ((b : Arc) → picked ps b v ≡ []) → (o : Option Arc)
        → [] ≡ flat_map choices (elim o [ Some part ↦ record { whole = w; part = part; value = v } ∷ [] | None ↦ [] ])
    unchosen w v none (Some part) = sym (append-nil _ ∙ none part)
    unchosen w v none None = refl

    chosen : (w : Arc) (k : ℕ) (o : Option Arc)
        → over_met (get_or ps k silence) o ≡ flat_map choices (elim o [ Some part ↦ record { whole = w; part = part; value = Index k } ∷ [] | None ↦ [] ])
    chosen w k (Some part) = sym (append-nil _)
    chosen w k None = refl

    cut : (a : Arc) (e : Event) (v : Leaf)
        → clip a (picked ps e.part v)
        ≡ flat_map choices (elim (meet e.part a) [ Some part ↦ record { whole = e.whole; part = part; value = v } ∷ [] | None ↦ [] ])
    cut a e (Controls controls) = unchosen e.whole (Controls controls) (λ b. refl) (meet e.part a)
    cut a e (Truth truth) = unchosen e.whole (Truth truth) (λ b. refl) (meet e.part a)
    cut a e (Index k) =
        let p = get_or ps k silence in
        clip_over p (each_get_or HasProperEvents ps k silence silence_proper all) a e.part ∙ chosen e.whole k (meet e.part a)
