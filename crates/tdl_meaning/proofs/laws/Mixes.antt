-- Patterns with others: joined with one value, together, one after another, by turns and by their places, and gates.
use Rattle.std.proofs.Common.{◌≡◌, ◌↔◌, ℕ, suc, ◌+◌, ◌<◌, ◌≤◌, Bool, true, false, cond, Some, List, [], ◌∷◌, ◌++◌, map, length, get_or}
use Rattle.std.proofs.Common.{ℤ, pos, ◌+ℤ◌, ◌-ℤ◌, ◌*ℤ◌, ◌≤ℤ◌, ◌<ℤ◌, nat_abs, append-nil, refl, sym, ap, ap₂, ◌∙◌, arith}
use Rattle.std.specs.List.{flat_map, count_by}
use Rattle.std.proofs.lemmas.Bool.{eqb-true, eq-eqb, ltb-true, lt-ltb}
use Rattle.std.proofs.lemmas.List.Folds.{flat_map-map}
use Rattle.std.proofs.lemmas.List.Filters.{sum_by-filter_both}
use Rattle.std.proofs.lemmas.Int.{ints}
use Rattle.tdl_ring.proofs.Inverses.{by_field}
use Rattle.tdl_control.specs.declared.leaves.Leaf.{Leaf}
use Rattle.tdl_control.specs.declared.leaves.Leaf.TheVariants.{Controls, Truth, Index}
use Rattle.tdl_fraction.specs.Rational.{Rational, frac, whole, ◌+ℚ◌, ◌-ℚ◌, ◌*ℚ◌, ◌/ℚ◌, ◌<ℚ◌}
use Rattle.tdl_fraction.specs.Arc.{Arc, meet}
use Rattle.tdl_fraction.proofs.Integers.{plus_times}
use Rattle.tdl_fraction.proofs.Field.{rationals, +ℚ-zero}
use Rattle.tdl_fraction.proofs.Equations.{field, positive}
use Rattle.tdl_fraction.proofs.Order.{≤ℚ-<ℚ_trans, <ℚ-≤ℚ_trans, whole_positive}
use Rattle.tdl_fraction.proofs.MinMax.{max_le, le_min}
use Rattle.tdl_fraction.proofs.Over.{Over-whole, Over-frac, le_from_cross, lt_from_cross}
use Rattle.tdl_fraction.proofs.Rounding.{floor_unique}
use Rattle.tdl_fraction.proofs.Arcs.{meet-some, meet_inside}
use Rattle.tdl_event.specs.Event.{Event}
use Rattle.tdl_expr.specs.declared.rounds.Test.TheVariants.{Equal, AtLeast}
use Rattle.tdl_meaning.specs.Pattern.{Pattern, moved, cycle_arc, silence, pure, squeezed, total_weight, steps_from, time_cat, rounds, turn}
use Rattle.tdl_meaning.specs.Pattern.{cat, stack, picked, pick}
use Rattle.tdl_meaning.specs.Kinds.{Joining, one_of, when, gate, passes, joined_event, joined_in, with_left, with_right, with_both, join_left}
use Rattle.tdl_meaning.specs.Kinds.{join_right, join_both}
use Rattle.tdl_meaning.specs.Values.{meets}
use Rattle.tdl_meaning.specs.Proper.{IsProper, HasProperEvents}
use Rattle.tdl_meaning.specs.PatternLaws.{AreSame, in_round, carried, revalued, held_for, held_within, beat, hits, hits_from}
use Rattle.tdl_meaning.proofs.Flat.{flat_map_same_each, flat_map_nothing, each_of_all}
use Rattle.tdl_meaning.proofs.ByKind.{over-silence}
use Rattle.tdl_meaning.proofs.kinds.Proper.{pure_proper}
use Rattle.tdl_meaning.proofs.kinds.Join.{join_left_cycles, join_right_cycles, mirrored as exchanged}
use Rattle.tdl_meaning.proofs.laws.Moved.{moved_as_is}

-- ---- joined
pub with_one_value : (v : Joining) (p : Pattern) (u : Leaf) → HasProperEvents p → (c : ℤ) → join_left v p (pure u) c ≡ revalued (λ x. v x u) (p c)
unfolding pure
with_one_value v p u proper c =
    join_left_cycles v p (pure u) proper (pure_proper u) c
    ∙ flat_map_same_each (IsProper (cycle_arc c)) (λ l. flat_map (λ r. with_left v l r) (pure u c)) (λ e. joined_event e.whole (Some e.part) (v e.value u)) one
    (p c) (proper c)
  where
    one : (e : Event) → IsProper (cycle_arc c) e → flat_map (λ r. with_left v e r) (pure u c) ≡ joined_event e.whole (Some e.part) (v e.value u)
    one e is =
        append-nil (joined_event e.whole (meet e.part (cycle_arc c)) (v e.value u))
        ∙ ap (λ o. joined_event e.whole o (v e.value u)) (meet_inside e.part (cycle_arc c) is.width is.in_arc)

-- with the value's wholes
pub held_by_one_value : (v : Joining) (p : Pattern) (u : Leaf) → HasProperEvents p → (c : ℤ)
    → join_right v p (pure u) c ≡ revalued (λ x. v x u) (map (held_for (cycle_arc c)) (p c))
unfolding pure
held_by_one_value v p u proper c =
    join_right_cycles v p (pure u) proper (pure_proper u) c
    ∙ append-nil (flat_map (λ l. with_right v l (all c)) (p c))
    ∙ flat_map_same_each (IsProper (cycle_arc c)) (λ l. with_right v l (all c)) (λ e. joined_event (cycle_arc c) (Some e.part) (v e.value u))
    (λ e is. ap (λ o. joined_event (cycle_arc c) o (v e.value u)) (meet_inside e.part (cycle_arc c) is.width is.in_arc)) (p c) (proper c)
    ∙ sym (flat_map-map (λ (e : Event). joined_event e.whole (Some e.part) (v e.value u)) (held_for (cycle_arc c)) (p c))
  where
    all : ℤ → Event
    all c = record { whole = cycle_arc c; part = cycle_arc c; value = u }

-- and with what both wholes share
pub shared_with_one_value : (v : Joining) (p : Pattern) (u : Leaf) → HasProperEvents p → (c : ℤ)
    → join_both v p (pure u) c ≡ revalued (λ x. v x u) (map (held_within (cycle_arc c)) (p c))
unfolding pure join_both
shared_with_one_value v p u proper c =
    flat_map_same_each (IsProper (cycle_arc c)) (λ l. flat_map (λ r. with_both v l r) (pure u c))
    (λ e. joined_event (held_within (cycle_arc c) e).whole (Some e.part) (v e.value u)) one (p c) (proper c)
    ∙ sym (flat_map-map (λ (e : Event). joined_event e.whole (Some e.part) (v e.value u)) (held_within (cycle_arc c)) (p c))
  where
    -- the part is in both wholes
    meets : (e : Event) → IsProper (cycle_arc c) e → meet e.whole (cycle_arc c) ≡ Some (held_within (cycle_arc c) e).whole
    meets e is =
        meet-some e.whole (cycle_arc c)
        (≤ℚ-<ℚ_trans ((max_le e.whole.start (whole c) e.part.start).1 (is.in_whole.0, is.in_arc.0))
        (<ℚ-≤ℚ_trans is.width ((le_min e.whole.stop (whole (c +ℤ pos 1)) e.part.stop).1 (is.in_whole.1, is.in_arc.1))))

    one : (e : Event) → IsProper (cycle_arc c) e
        → flat_map (λ r. with_both v e r) (pure u c) ≡ joined_event (held_within (cycle_arc c) e).whole (Some e.part) (v e.value u)
    one e is =
        append-nil (joined_in (meet e.whole (cycle_arc c)) (meet e.part (cycle_arc c)) (v e.value u))
        ∙ ap₂ (λ w o. joined_in w o (v e.value u)) (meets e is) (meet_inside e.part (cycle_arc c) is.width is.in_arc)

pub mirrored : (v : Joining) (x y : Pattern) → AreSame (join_right v x y) (join_left (λ l r. v r l) y x)
mirrored v x y c = sym (ap (λ (p : Pattern). p c) (exchanged v x y))

-- ---- together
pub stack_of_one : (p : Pattern) → AreSame (stack (p ∷ [])) p
unfolding stack
stack_of_one p c = append-nil (p c)

pub stack_of_two : (p q : Pattern) (c : ℤ) → stack (p ∷ q ∷ []) c ≡ p c ++ q c
unfolding stack
stack_of_two p q c = ap (λ es. p c ++ es) (append-nil (q c))

-- ---- one after another
pub one_step : (w : ℕ) (p : Pattern) → 0 < w → AreSame (time_cat (record { weight = w; pattern = p } ∷ [])) p
unfolding time_cat
one_step w p some c =
    append-nil _
    ∙ ap (λ W. map (moved (squeezed c 0 w W)) (p c)) (alone w)
    ∙ moved_as_is (squeezed c 0 w w) (λ t. whole_share (whole c) t (whole (pos w)) (whole_positive w some)) (p c)
  where
    alone : (w : ℕ) → w + 0 ≡ w
    alone w = omega arith

    whole_share : (c t w : Rational) → whole (pos 0) <ℚ w → c +ℚ (whole (pos 0) +ℚ (t -ℚ c) *ℚ w) /ℚ w ≡ t
    whole_share c t w h = by_field rationals (positive w h ∷ []) (c ∷ t ∷ []) (search field depth 14) refl

pub rhythm : (p : Pattern) (beats : List Bool) (c : ℤ)
    → time_cat (map (beat p) beats) c ≡ flat_map (λ i. map (moved (squeezed c i 1 (length beats))) (p c)) (hits beats)
unfolding time_cat silence
rhythm p beats c = ap (λ W. steps_from W 0 (map (beat p) beats) c) (steps beats) ∙ from (length beats) 0 beats
  where
    steps : (beats : List Bool) → total_weight (map (beat p) beats) ≡ length beats
    steps [] = refl
    steps (true ∷ beats) = omega (arith, steps beats)
    steps (false ∷ beats) = omega (arith, steps beats)

    from : (W i : ℕ) (beats : List Bool) → steps_from W i (map (beat p) beats) c ≡ flat_map (λ i. map (moved (squeezed c i 1 W)) (p c)) (hits_from i beats)
    from W i [] = refl
    from W i (true ∷ beats) = ap (λ es. map (moved (squeezed c i 1 W)) (p c) ++ es) (from W (i + 1) beats)
    from W i (false ∷ beats) = from W (i + 1) beats

-- ---- by turns
pub rounds_are : (n : ℕ) (k : ℤ) (i : ℕ) → i < n → rounds (in_round n k i) n ≡ k
rounds_are n k i below =
    let c = in_round n k i in
    let over = Over-frac c n (omega (arith, below)) in
    floor_unique (frac c n) k (le_from_cross (Over-whole k) over (low (k *ℤ pos n) i))
    (lt_from_cross over (Over-whole (k +ℤ pos 1)) (high (k *ℤ pos n) i ((k +ℤ pos 1) *ℤ pos n) below (plus_times k (pos 1) (pos n) ∙ once n)))
  where
    low : (z : ℤ) (i : ℕ) → z ≤ℤ ((z +ℤ pos i) *ℤ pos 1)
    low z i = omega (arith, ints)

    once : (n : ℕ) → k *ℤ pos n +ℤ pos 1 *ℤ pos n ≡ k *ℤ pos n +ℤ pos n
    once n = omega (arith, ints)

    high : (z : ℤ) (i : ℕ) (y : ℤ) → i < n → y ≡ z +ℤ pos n → ((z +ℤ pos i) *ℤ pos 1) <ℤ y
    high z i y h e = omega (arith, ints, e, h)

pub turn_is : (n : ℕ) (k : ℤ) (i : ℕ) → i < n → turn (in_round n k i) n ≡ i
turn_is n k i below = ap (λ r. nat_abs (in_round n k i -ℤ r *ℤ pos n)) (rounds_are n k i below) ∙ left (k *ℤ pos n) i
  where
    left : (z : ℤ) (i : ℕ) → nat_abs ((z +ℤ pos i) -ℤ z) ≡ i
    left z i = omega (arith, ints)

pub in_turn : (ps : List Pattern) (k : ℤ) (i : ℕ) → i < length ps
    → cat ps (in_round (length ps) k i) ≡ carried k (in_round (length ps) k i) (get_or ps i silence k)
unfolding cat
in_turn ps k i below =
    let c = in_round (length ps) k i in
    ap₂ (λ (r : ℤ) (j : ℕ). carried r c (get_or ps j silence r)) (rounds_are (length ps) k i below) (turn_is (length ps) k i below)

pub one_turn : (p : Pattern) → AreSame (cat (p ∷ [])) p
one_turn p c =
    ap (cat (p ∷ [])) (sym (itself c))
    ∙ in_turn (p ∷ []) c 0 (omega arith)
    ∙ ap (λ z. map (moved (λ t. t +ℚ whole z)) (p c)) (none c)
    ∙ moved_as_is (λ t. t +ℚ whole (pos 0)) +ℚ-zero (p c)
  where
    itself : (c : ℤ) → in_round 1 c 0 ≡ c
    itself c = omega (arith, ints)

    none : (c : ℤ) → in_round 1 c 0 -ℤ c ≡ pos 0
    none c = omega (arith, ints)

-- ---- chosen
pub no_choice : (selector : Pattern) → AreSame (pick selector []) silence
unfolding pick silence
no_choice selector c =
    flat_map_nothing (λ e. picked [] e.part e.value) (selector c)
    (each_of_all (λ e. picked [] e.part e.value ≡ []) (λ e. none e.part e.value) (selector c))
  where
    none : (part : Arc) (v : Leaf) → picked [] part v ≡ []
    none part (Controls controls) = refl
    none part (Truth truth) = refl
    none part (Index k) = over-silence part

-- ---- by places
pub by_place : (n : ℕ) (test : ℕ → Bool) (p q : Pattern) (k : ℤ) (i : ℕ) → i < n
    → when n test p q (in_round n k i) ≡ one_of (test i) p q (in_round n k i)
unfolding when
by_place n test p q k i below = ap (λ j. one_of (test j) p q (in_round n k i)) (turn_is n k i below)

pub equal : (k n : ℕ) → (meets (Equal k) n ≡ true) ↔ (n ≡ k)
equal k n = (λ e. eqb-true n k e, λ e. eq-eqb n k e)

pub at_least : (k n : ℕ) → (meets (AtLeast k) n ≡ true) ↔ (k ≤ n)
at_least k n = (λ e. omega (arith, ltb-true k (suc n) e), λ h. lt-ltb k (suc n) (omega (arith, h)))

-- ---- gates
pub on_one_side : (from to : Rational) (p : Pattern) (c : ℤ) (test : Event → Bool)
    → count_by test (gate from to true p c) + count_by test (gate from to false p c) ≡ count_by test (p c)
unfolding gate
on_one_side from to p c test = sum_by-filter_both (passes from to true) (passes from to false) (λ e. refl) (λ e. cond (test e) 1 0) (p c)
