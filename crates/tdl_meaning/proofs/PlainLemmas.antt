-- What the evaluator stands on: the rows of children, the cycles of an arc, and each kind of tree, child by child.
use Rattle.std.proofs.Common.{◌≡◌, ℕ, zero, suc, ◌+◌, ◌<◌, ◌≤◌, List, [], ◌∷◌, ◌++◌, map, take, drop, length, get_or, Contains, refl, sym, ap, ap₂}
use Rattle.std.proofs.Common.{◌∙◌, subst, arith, ℤ, pos, ◌+ℤ◌, ◌-ℤ◌, ◌≤ℤ◌, neg_ℤ, nat_abs, append-nil, Bool}
use Rattle.std.proofs.Common.{Option, Some, None}
use Rattle.std.specs.List.{flat_map, All, sum_by, filter, range_with_len}
use Rattle.std.proofs.lemmas.Int.{ints}
use Rattle.std.proofs.lemmas.List.{take_more, take_all, drop_all, append_assoc}
use Rattle.std.proofs.lemmas.List.Elements.{All-head, All-tail}
use Rattle.std.proofs.lemmas.List.Sums.{sum_by-drop_more}
use Rattle.std.proofs.lemmas.Grind.{flat_map-append}
use Rattle.tdl_control.specs.declared.leaves.Leaf.{Leaf}
use Rattle.tdl_control.specs.declared.leaves.Leaf.TheVariants.{Controls, Truth, Index}
use Rattle.tdl_fraction.specs.Rational.{Rational, whole, ◌/ℚ◌, ◌+ℚ◌, floor, ceil}
use Rattle.tdl_fraction.specs.Arc.{Arc, IsArc, meet}
use Rattle.tdl_fraction.specs.Units.{IsQueryArc, tick_units, last_cycle}
use Rattle.tdl_fraction.proofs.Order.{≤ℚ_from_<ℚ, ≤ℚ_trans, whole-le}
use Rattle.tdl_fraction.proofs.Rounding.{floor_monotone, floor_le_ceil}
use Rattle.tdl_event.specs.Event.{Event, clip}
use Rattle.tdl_expr.specs.declared.ids.NodeId.{NodeId}
use Rattle.tdl_expr.specs.declared.steps.Step.{Step as StepValue}
use Rattle.tdl_expr.specs.Tree.{Tree, Trees}
use Rattle.tdl_expr.specs.Tree as tree
use Rattle.tdl_expr.specs.Bounds.{sum_of_weights}
use Rattle.tdl_expr.specs.Valid.{IsValid, IsWithinLimits}
use Rattle.tdl_expr.specs.Rows.{row, in_order, weighted as steps_of}
use Rattle.tdl_expr.proofs.ValidRows.{same_sum}
use Rattle.tdl_expr.specs.declared.joinings.Op.{Op}
use Rattle.tdl_expr.specs.declared.joinings.Side.{Side}
use Rattle.tdl_meaning.specs.Pattern.{Pattern, over, whole_range, cycle_arc, cycles_of, moved, pure, fast, cat, rev, pick, stack, time_cat, silence}
use Rattle.tdl_meaning.specs.Pattern.{turned_event}
use Rattle.tdl_meaning.specs.Pattern.{picked, rounds, turn, squeezed, steps_from, total_weight}
use Rattle.tdl_meaning.specs.Meaning.{cyc, patterns, weighted as shares_of}
use Rattle.tdl_meaning.specs.Proper.{Each}
use Rattle.tdl_meaning.specs.Asks.{IsChild, here, there, IsStep, first, later, IsCycleOf}
use Rattle.tdl_meaning.specs.Ranges.{HasEnds}
use Rattle.tdl_meaning.specs.declared.motions.Motion.TheVariants.{Later, Step}
use Rattle.tdl_meaning.specs.Motions.{CanMove}
use Rattle.tdl_meaning.specs.inside.Conditions.{MayAsk}
use Rattle.tdl_meaning.specs.inside.Children.{rows_needed, MayAskEach}
use Rattle.tdl_meaning.specs.Kinds.{one_of, when, earlier, shift, fragments, ply, passes, gate, joined_event, piece, fragment}
use Rattle.tdl_meaning.specs.Values.{value_of}
use Rattle.tdl_meaning.specs.Pairs.{joined_pairs}
use Rattle.tdl_meaning.proofs.Condition.{may_cat, may_step, may_chosen}
use Rattle.tdl_meaning.proofs.Moving.{cat_moves, step_moves, step_is_valid}
use Rattle.tdl_meaning.proofs.Times.{asked}
use Rattle.tdl_meaning.proofs.Grids.{same_weights}
use Rattle.tdl_meaning.proofs.Proper.{proper}
use Rattle.tdl_meaning.proofs.kinds.Join.{join_cycles}

-- a tree within the limits may be asked for the arcs of queries
pub may_query : (e : Tree) (a : Arc) → IsValid e → IsWithinLimits e → IsQueryArc a → MayAsk e a
may_query e a valid limits query = record {
  q = tick_units;
  m = last_cycle;
  room = record { valid = valid; on_grid = omega arith; not_too_fine = limits.not_too_fine; not_too_far = limits.not_too_far };
  asked = record {
    is_arc = query.ordered;
    on_grid = query.on_grid;
    from = ≤ℚ_trans ((whole-le (neg_ℤ (pos last_cycle)) (pos 0)).0 (omega (arith, ints))) query.from_zero;
    to = query.to_last;
  };
}

-- ---- rows
pub rows_below : (ids : List NodeId) (n : ℕ) → All (λ id. id.index < n) ids → rows_needed ids ≤ n
rows_below [] n below = omega arith
rows_below (id ∷ ids) n below =
    let head : id.index < n = All-head (λ (x : NodeId). x.index < n) id ids below in
    let rest = rows_below ids n (All-tail (λ (x : NodeId). x.index < n) id ids below) in
    omega arith

pub row_at : (ids : List NodeId) (i : ℕ) (d : NodeId) → i < length ids → (get_or ids i d).index + 1 ≤ rows_needed ids
row_at [] i d h = absurd (omega arith)
row_at (id ∷ ids) zero d h = omega arith
row_at (id ∷ ids) (suc i) d h = let rest = row_at ids i d (omega arith) in omega arith

pub step_row_at : (steps : List StepValue) (i : ℕ) (d : StepValue) → i < length steps
    → (get_or steps i d).child.index + 1 ≤ rows_needed (map (λ s. s.child) steps)
step_row_at [] i d h = absurd (omega arith)
step_row_at (s ∷ steps) zero d h = omega arith
step_row_at (s ∷ steps) (suc i) d h = let rest = step_row_at steps i d (omega arith) in omega arith

-- ---- children
pub child_at : (trees : List Tree) (ids : List NodeId) (i : ℕ) (d : NodeId) → i < length ids → IsChild i (in_order trees ids) (row trees (get_or ids i d))
child_at trees [] i d h = absurd (omega arith)
child_at trees (id ∷ ids) zero d h = here
child_at trees (id ∷ ids) (suc i) d h = there (child_at trees ids i d (omega arith))

pub step_at : (trees : List Tree) (steps : List StepValue) (i : ℕ) (d : StepValue) → i < length steps
    → IsStep (get_or steps i d).weight (steps_of trees steps) (row trees (get_or steps i d).child)
step_at trees [] i d h = absurd (omega arith)
step_at trees (s ∷ steps) zero d h = first
step_at trees (s ∷ steps) (suc i) d h = later (step_at trees steps i d (omega arith))

pub row_of : (ids : List NodeId) (i : ℕ) (x : NodeId) → i < length ids → x ≡ get_or ids i x → x.index + 1 ≤ rows_needed ids
row_of ids i x h e = subst (λ (y : NodeId). y.index + 1 ≤ rows_needed ids) (sym e) (row_at ids i x h)

pub child_of : (trees : List Tree) (ids : List NodeId) (i : ℕ) (x : NodeId) → i < length ids → x ≡ get_or ids i x
    → IsChild i (in_order trees ids) (row trees x)
child_of trees ids i x h e = subst (λ y. IsChild i (in_order trees ids) (row trees y)) (sym e) (child_at trees ids i x h)

pub length-patterns : (trees : List Tree) (ids : List NodeId) → length (patterns (in_order trees ids)) ≡ length ids
length-patterns trees [] = refl
length-patterns trees (id ∷ ids) = ap suc (length-patterns trees ids)

pub pattern_at : (trees : List Tree) (ids : List NodeId) (k : ℕ) (d : NodeId) → k < length ids
    → get_or (patterns (in_order trees ids)) k silence ≡ cyc (row trees (get_or ids k d))
pattern_at trees [] k d h = absurd (omega arith)
pattern_at trees (id ∷ ids) zero d h = refl
pattern_at trees (id ∷ ids) (suc k) d h = pattern_at trees ids k d (omega arith)

pub pattern_past : (trees : List Tree) (ids : List NodeId) (k : ℕ) → length ids ≤ k → get_or (patterns (in_order trees ids)) k silence ≡ silence
pattern_past trees [] k h = refl
pattern_past trees (id ∷ ids) zero h = absurd (omega arith)
pattern_past trees (id ∷ ids) (suc k) h = pattern_past trees ids k (omega arith)

-- ---- loops
pub flat_more : {X Y : Type 0} (f : X → List Y) (xs : List X) (i : ℕ) (x : X) (out es out' : List Y) → i < length xs → x ≡ get_or xs i x
    → es ≡ f x → out' ≡ out ++ es → out ≡ flat_map f (take i xs) → out' ≡ flat_map f (take (i + 1) xs)
flat_more f xs i x out es out' h is made new old =
    let one : flat_map f (get_or xs i x ∷ []) ≡ es = append-nil (f (get_or xs i x)) ∙ ap f (sym is) ∙ sym made in
    new ∙ ap₂ (λ a b. a ++ b) old (sym one) ∙ sym (flat_map-append f (take i xs) (get_or xs i x ∷ [])) ∙ ap (flat_map f) (sym (take_more xs i x h))

counted_on : (a n : ℕ) → range_with_len a (suc n) ≡ range_with_len a n ++ (a + n) ∷ []
counted_on a zero = ap (λ k. k ∷ []) (omega arith)
counted_on a (suc n) =
    let next : (a + 1) + n ≡ a + suc n = omega arith in
    ap (λ ks. a ∷ ks) (counted_on (a + 1) n ∙ ap (λ k. range_with_len (a + 1) n ++ k ∷ []) next)

-- the same of a range
pub range_more : {Y : Type 0} (f : ℕ → List Y) (n : ℕ) (out es out' : List Y) → es ≡ f n → out' ≡ out ++ es → out ≡ flat_map f (range_with_len 0 n)
    → out' ≡ flat_map f (range_with_len 0 (n + 1))
range_more f n out es out' made new old =
    let one : flat_map f (n ∷ []) ≡ es = append-nil (f n) ∙ sym made in
    let last : n ≡ 0 + n = omega arith in
    let next : suc n ≡ n + 1 = omega arith in
    new ∙ ap₂ (λ a b. a ++ b) old (sym one) ∙ sym (flat_map-append f (range_with_len 0 n) (n ∷ []))
    ∙ ap (flat_map f) (ap (λ k. range_with_len 0 n ++ k ∷ []) last ∙ sym (counted_on 0 n)) ∙ ap (λ k. flat_map f (range_with_len 0 k)) next

pub flat_all : {X Y : Type 0} (f : X → List Y) (xs : List X) (n : ℕ) (out : List Y) → length xs ≤ n → out ≡ flat_map f (take n xs) → out ≡ flat_map f xs
flat_all f xs n out h e = e ∙ ap (flat_map f) (take_all n xs h)

cycles_next : (from : ℤ) (n : ℕ) → whole_range from (suc n) ≡ whole_range from n ++ (from +ℤ pos n) ∷ []
cycles_next from zero = ap (λ c. c ∷ []) (back from)
  where
    back : (from : ℤ) → from ≡ from +ℤ pos 0
    back from = omega (arith, ints)
cycles_next from (suc n) = ap (λ cs. from ∷ cs) (cycles_next (from +ℤ pos 1) n ∙ ap (λ c. whole_range (from +ℤ pos 1) n ++ c ∷ []) (one from n))
  where
    one : (from : ℤ) (n : ℕ) → (from +ℤ pos 1) +ℤ pos n ≡ from +ℤ pos (suc n)
    one from n = omega (arith, ints)

pub cycles_more : {Y : Type 0} (f : ℤ → List Y) (from : ℤ) (n : ℕ) (c : ℤ) (out es out' : List Y) → c ≡ from +ℤ pos n → es ≡ f c
    → out' ≡ out ++ es → out ≡ flat_map f (whole_range from n) → out' ≡ flat_map f (whole_range from (n + 1))
cycles_more f from n c out es out' is made new old =
    let one : flat_map f ((from +ℤ pos n) ∷ []) ≡ es = append-nil (f (from +ℤ pos n)) ∙ ap f (sym is) ∙ sym made in
    let next : suc n ≡ n + 1 = omega arith in
    new ∙ ap₂ (λ a b. a ++ b) old (sym one) ∙ sym (flat_map-append f (whole_range from n) ((from +ℤ pos n) ∷ []))
    ∙ ap (flat_map f) (sym (cycles_next from n)) ∙ ap (λ k. flat_map f (whole_range from k)) next

-- ---- the cycles of an arc
pub in_order_of : (a : Arc) → IsArc a → floor a.start ≤ℤ ceil a.stop
in_order_of a h = after (floor a.start) (floor a.stop) (ceil a.stop) (floor_monotone (≤ℚ_from_<ℚ h)) (floor_le_ceil a.stop)
  where
    after : (x y z : ℤ) → x ≤ℤ y → y ≤ℤ z → x ≤ℤ z
    after x y z h k = omega (arith, ints)

pub kth_cycle : (a : Arc) (k n : ℕ) → floor a.start +ℤ pos n ≡ ceil a.stop → k < n → IsCycleOf a (floor a.start +ℤ pos k)
kth_cycle a k n stop h = record { not_before = low (floor a.start) k; not_after = high (floor a.start) (ceil a.stop) stop }
  where
    low : (f : ℤ) (k : ℕ) → f ≤ℤ (f +ℤ pos k)
    low f k = omega (arith, ints)

    high : (f z : ℤ) → f +ℤ pos n ≡ z → ((f +ℤ pos k) +ℤ pos 1) ≤ℤ z
    high f z e = omega (arith, ints)

pub over_made : (p : Pattern) (a : Arc) (n : ℕ) (out : List Event) → floor a.start +ℤ pos n ≡ ceil a.stop
    → out ≡ flat_map (λ c. clip a (p c)) (whole_range (floor a.start) n) → out ≡ over p a
unfolding over
over_made p a n out stop e = e ∙ ap (λ k. flat_map (λ c. clip a (p c)) (whole_range (floor a.start) k)) (count (floor a.start) (ceil a.stop) n stop)
  where
    count : (f z : ℤ) (n : ℕ) → f +ℤ pos n ≡ z → n ≡ nat_abs (z -ℤ f)
    count f z n e = omega (arith, ints)

pub arc_made : (a : Arc) (s t : Rational) → a.start ≡ s → a.stop ≡ t → a ≡ record { start = s; stop = t }
arc_made a s t e f = ap₂ (λ x y. record { start = x; stop = y }) e f

-- ---- kinds
pub pure_made : (v : Leaf) (c : ℤ) (a : Arc) (out : List Event) → a.start ≡ whole c → a.stop ≡ whole (c +ℤ pos 1)
    → out ≡ record { whole = a; part = a; value = v } ∷ [] → out ≡ pure v c
unfolding pure
pure_made v c a out start stop e = e ∙ ap (λ (b : Arc). record { whole = b; part = b; value = v } ∷ []) (arc_made a _ _ start stop)

pub silence_made : (c : ℤ) → [] ≡ silence c
unfolding silence
silence_made c = refl

flat_silence : (a : Arc) (cs : List ℤ) → flat_map (λ c. clip a (silence c)) cs ≡ []
unfolding silence
flat_silence a [] = refl
flat_silence a (c ∷ cs) = flat_silence a cs

pub over-silence : (a : Arc) → over silence a ≡ []
unfolding over
over-silence a = flat_silence a (cycles_of a)

pub fast_made : (r : Rational) (p : Pattern) (c : ℤ) (a : Arc) (events out : List Event) → a ≡ asked r c → events ≡ over p a
    → out ≡ map (moved (λ t. t /ℚ r)) events → out ≡ fast r p c
unfolding fast
fast_made r p c a events out arc made e = e ∙ ap (map (moved (λ t. t /ℚ r))) (made ∙ ap (over p) arc)

pub rev_made : (p : Pattern) (c : ℤ) (events out : List Event) → events ≡ p c → out ≡ map (turned_event c) events → out ≡ rev p c
unfolding rev
rev_made p c events out made e = e ∙ ap (map (turned_event c)) made

pub stack_made : (trees : List Tree) (ids : List NodeId) (c : ℤ) → flat_map (λ id. cyc (row trees id) c) ids ≡ stack (patterns (in_order trees ids)) c
unfolding stack
stack_made trees [] c = refl
stack_made trees (id ∷ ids) c = ap (λ es. cyc (row trees id) c ++ es) (stack_made trees ids c)

-- the child whose turn it is, and the cycle that it plays then
module _ (trees : List Tree) (ids : List NodeId) (c : ℤ) (i : ℕ) (x : NodeId) (k : ℤ)
    (within : i < length ids) (is : x ≡ get_or ids i x) (at : i ≡ turn c (length ids)) (round : k ≡ rounds c (length ids)) where
  count : length ids ≡ length (patterns (in_order trees ids))
  count = sym (length-patterns trees ids)

  its_turn : i ≡ turn c (length (patterns (in_order trees ids)))
  its_turn = at ∙ ap (turn c) count

  its_cycle : k ≡ rounds c (length (patterns (in_order trees ids)))
  its_cycle = round ∙ ap (rounds c) count

  its_events : cyc (row trees x) k
      ≡ get_or (patterns (in_order trees ids)) (turn c (length (patterns (in_order trees ids)))) silence (rounds c (length (patterns (in_order trees ids))))
  its_events =
      ap (λ (p : Pattern). p k) (ap (λ y. cyc (row trees y)) is ∙ sym (pattern_at trees ids i x within))
      ∙ ap₂ (λ j z. get_or (patterns (in_order trees ids)) j silence z) its_turn its_cycle

  pub may_turn : MayAsk (tree.Cat (in_order trees ids)) (cycle_arc c) → MayAsk (row trees x) (cycle_arc k)
  may_turn may =
      let child = subst (λ j. IsChild j (in_order trees ids) (row trees x)) its_turn (child_of trees ids i x within is) in
      subst (λ z. MayAsk (row trees x) (cycle_arc z)) (sym its_cycle) (may_cat (in_order trees ids) (row trees x) c child may)

  pub turn_moves : (by : ℤ) (events : List Event) → by ≡ c -ℤ k → events ≡ cyc (row trees x) k → MayAsk (tree.Cat (in_order trees ids)) (cycle_arc c)
      → Each (HasEnds (CanMove (Later by))) events
  turn_moves by events after made may =
      let later_by = after ∙ ap (λ z. c -ℤ z) its_cycle in
      subst (λ z. Each (HasEnds (CanMove (Later z))) events) (sym later_by)
      (subst (Each (HasEnds (CanMove (Later (c -ℤ rounds c (length (patterns (in_order trees ids)))))))) (sym (made ∙ its_events))
      (cat_moves (in_order trees ids) c may))

  pub cat_made : (by : ℤ) (events out : List Event) → by ≡ c -ℤ k → events ≡ cyc (row trees x) k → out ≡ map (moved (λ t. t +ℚ whole by)) events
      → out ≡ cat (patterns (in_order trees ids)) c
  unfolding cat
  cat_made by events out after made e =
      e ∙ ap₂ (λ z es. map (moved (λ t. t +ℚ whole z)) es) (after ∙ ap (λ z. c -ℤ z) its_cycle) (made ∙ its_events)

pub pick_made : (s : Pattern) (ps : List Pattern) (c : ℤ) (events : List Event) → events ≡ s c
    → flat_map (λ (e : Event). picked ps e.part e.value) events ≡ pick s ps c
unfolding pick
pick_made s ps c events made = ap (flat_map (λ (x : Event). picked ps x.part x.value)) made

-- what an event of the selector chooses
pub choice_made : (trees : List Tree) (ids : List NodeId) (k : ℕ) (x : NodeId) (e : Event) → k < length ids → x ≡ get_or ids k x → e.value ≡ Index k
    → over (cyc (row trees x)) e.part ≡ picked (patterns (in_order trees ids)) e.part e.value
choice_made trees ids k x e h is value =
    ap (λ p. over p e.part) (ap (λ y. cyc (row trees y)) is ∙ sym (pattern_at trees ids k x h))
    ∙ ap (picked (patterns (in_order trees ids)) e.part) (sym value)

pub no_choice : (trees : List Tree) (ids : List NodeId) (k : ℕ) (e : Event) → length ids ≤ k → e.value ≡ Index k
    → [] ≡ picked (patterns (in_order trees ids)) e.part e.value
no_choice trees ids k e h value =
    sym (over-silence e.part) ∙ ap (λ p. over p e.part) (sym (pattern_past trees ids k h)) ∙ ap (picked (patterns (in_order trees ids)) e.part) (sym value)

pub not_index : (ps : List Pattern) (a : Arc) (v : Leaf) → ((k : ℕ) → ¬ (v ≡ Index k)) → [] ≡ picked ps a v
not_index ps a (Controls controls) other = refl
not_index ps a (Truth truth) other = refl
not_index ps a (Index k) other = absurd (other k refl)

pub each_contained_in : {X : Type 0} (P : X → Type 0) (xs : List X) → ((x : X) → Contains xs x → P x) → Each P xs
each_contained_in P [] all = tt
each_contained_in P (x ∷ xs) all = (
  all x (0, omega arith, refl),
  each_contained_in P xs (λ y in_it. all y (suc in_it.0, omega (arith, in_it.1), in_it.2)),
)

pub may_choose : (s : Tree) (trees : Trees) (c : ℤ) (events : List Event) → events ≡ cyc s c → MayAsk (tree.Pick s trees) (cycle_arc c)
    → Each (λ (e : Event). MayAskEach trees e.part) events
may_choose s trees c events made may =
    subst (Each (λ (e : Event). MayAskEach trees e.part)) (sym made)
    (each_contained_in (λ (e : Event). MayAskEach trees e.part) (cyc s c) (λ x in_it k e child. may_chosen s trees k e c x child in_it may))

-- ---- steps
pub total-weights : (trees : List Tree) (steps : List StepValue) → total_weight (shares_of (steps_of trees steps)) ≡ sum_by (λ (s : StepValue). s.weight) steps
total-weights trees steps = same_weights (steps_of trees steps) ∙ same_sum trees steps

pub time_cat_made : (trees : List Tree) (steps : List StepValue) (c : ℤ) (W : ℕ) → W ≡ sum_by (λ (s : StepValue). s.weight) steps
    → steps_from W 0 (shares_of (steps_of trees steps)) c ≡ cyc (tree.TimeCat (steps_of trees steps)) c
unfolding time_cat
time_cat_made trees steps c W e = ap (λ w. steps_from w 0 (shares_of (steps_of trees steps)) c) (e ∙ sym (total-weights trees steps))

rest_at : (trees : List Tree) (steps : List StepValue) (i : ℕ) (d : StepValue) → i < length steps
    → steps_of trees (drop i steps) ≡ tree.step (get_or steps i d).weight (row trees (get_or steps i d).child) (steps_of trees (drop (suc i) steps))
rest_at trees [] i d h = absurd (omega arith)
rest_at trees (x ∷ steps) zero d h = refl
rest_at trees (x ∷ steps) (suc i) d h = rest_at trees steps i d (omega arith)

module _ (trees : List Tree) (steps : List StepValue) (i : ℕ) (d : StepValue) (within : i < length steps) where
  rest_of : steps_of trees (drop i steps)
      ≡ tree.step (get_or steps i d).weight (row trees (get_or steps i d).child) (steps_of trees (drop (i + 1) steps))
  rest_of =
      let next : suc i ≡ i + 1 = omega arith in
      let s = get_or steps i d in
      rest_at trees steps i d within ∙ ap (λ n. tree.step s.weight (row trees s.child) (steps_of trees (drop n steps))) next

  -- with one step more done, the steps that are left give what is left
  pub steps_more : (W o : ℕ) (c : ℤ) (es moved_es out out' all : List Event) → es ≡ cyc (row trees (get_or steps i d).child) c
      → moved_es ≡ map (moved (squeezed c o (get_or steps i d).weight W)) es → out' ≡ out ++ moved_es
      → out ++ steps_from W o (shares_of (steps_of trees (drop i steps))) c ≡ all
      → out' ++ steps_from W (o + (get_or steps i d).weight) (shares_of (steps_of trees (drop (i + 1) steps))) c ≡ all
  steps_more W o c es moved_es out out' all made moves new old =
      let w = (get_or steps i d).weight in
      let others = steps_from W (o + w) (shares_of (steps_of trees (drop (i + 1) steps))) c in
      let squeezed_es : moved_es ≡ map (moved (squeezed c o w W)) (cyc (row trees (get_or steps i d).child) c) =
      moves ∙ ap (map (moved (squeezed c o w W))) made in
      let before = ap (λ ss. out ++ steps_from W o (shares_of ss) c) (sym rest_of) ∙ old in
      ap (λ front. front ++ others) new ∙ append_assoc out moved_es others ∙ ap (λ one. out ++ (one ++ others)) squeezed_es ∙ before

  pub weights_more : (W o : ℕ) → o + sum_by (λ (s : StepValue). s.weight) (drop i steps) ≡ W
      → o + (get_or steps i d).weight + sum_by (λ (s : StepValue). s.weight) (drop (i + 1) steps) ≡ W
  weights_more W o sum = omega (arith, sum, sum_by-drop_more (λ (s : StepValue). s.weight) steps i d within)

  pub may_be_step : (c : ℤ) → MayAsk (tree.TimeCat (steps_of trees steps)) (cycle_arc c) → MayAsk (row trees (get_or steps i d).child) (cycle_arc c)
  may_be_step c may =
      let s = get_or steps i d in
      may_step (steps_of trees steps) s.weight (row trees s.child) c (step_at trees steps i d within) may

  pub step_forward : (c : ℤ) (W : ℕ) → W ≡ sum_by (λ (s : StepValue). s.weight) steps → MayAsk (tree.TimeCat (steps_of trees steps)) (cycle_arc c)
      → (0 < (get_or steps i d).weight) × (0 < W)
  step_forward c W sum may =
      let total = may.room.valid.0 in
      ((step_is_valid (step_at trees steps i d within) may.room.valid.1).0, omega (arith, sum, same_sum trees steps, total))

  pub steps_move : (c : ℤ) (o W : ℕ) (events : List Event) → o + sum_by (λ (s : StepValue). s.weight) (drop i steps) ≡ W
      → W ≡ sum_by (λ (s : StepValue). s.weight) steps → events ≡ cyc (row trees (get_or steps i d).child) c
      → MayAsk (tree.TimeCat (steps_of trees steps)) (cycle_arc c) → Each (HasEnds (CanMove (Step c o (get_or steps i d).weight W))) events
  steps_move c o W events left sum made may =
      let s = get_or steps i d in
      let total : W ≡ sum_of_weights (steps_of trees steps) = sum ∙ sym (same_sum trees steps) in
      let after = weights_more W o left in
      let fits : o + s.weight ≤ sum_of_weights (steps_of trees steps) = omega (arith, after, total) in
      subst (λ n. Each (HasEnds (CanMove (Step c o s.weight n))) events) (sym total)
      (subst (Each (HasEnds (CanMove (Step c o s.weight (sum_of_weights (steps_of trees steps)))))) (sym made)
      (step_moves (steps_of trees steps) o s.weight (row trees s.child) c (step_at trees steps i d within) fits may))

pub steps_done : (trees : List Tree) (steps : List StepValue) (i : ℕ) (W o : ℕ) (c : ℤ) (out all : List Event) → length steps ≤ i
    → out ++ steps_from W o (shares_of (steps_of trees (drop i steps))) c ≡ all → out ≡ all
steps_done trees steps i W o c out all h e =
    let none = drop_all i steps h in
    sym (append-nil out) ∙ ap (λ ss. out ++ steps_from W o (shares_of (steps_of trees ss)) c) (sym none) ∙ e

-- ---- further kinds
pub when_made : (modulus : ℕ) (meets : ℕ → Bool) (p q : Pattern) (c : ℤ) (b : Bool) → b ≡ meets (turn c modulus) → one_of b p q c ≡ when modulus meets p q c
unfolding when
when_made modulus meets p q c b e = ap (λ t. one_of t p q c) e

pub shift_made : (t : Rational) (p : Pattern) (c : ℤ) (a : Arc) (events out : List Event) → a ≡ earlier t c → events ≡ over p a
    → out ≡ map (moved (λ u. u +ℚ t)) events → out ≡ shift t p c
unfolding shift
shift_made t p c a events out arc made e = e ∙ ap (map (moved (λ u. u +ℚ t))) (made ∙ ap (over p) arc)

pub ply_made : (n : ℕ) (p : Pattern) (c : ℤ) (events : List Event) → events ≡ p c → flat_map (fragments n) events ≡ ply n p c
unfolding ply
ply_made n p c events made = ap (flat_map (fragments n)) made

pub gate_made : (from to : Rational) (inside : Bool) (p : Pattern) (c : ℤ) (events : List Event) → events ≡ p c
    → filter (passes from to inside) events ≡ gate from to inside p c
unfolding gate
gate_made from to inside p c events made = ap (filter (passes from to inside)) made

pub join_made : (side : Side) (op : Op) (d e : Tree) (c : ℤ) (lefts rights : List Event) → lefts ≡ cyc d c → rights ≡ cyc e c
    → MayAsk (tree.Join side op d e) (cycle_arc c) → joined_pairs side (value_of op) lefts rights ≡ cyc (tree.Join side op d e) c
join_made side op d e c lefts rights left right may =
    ap₂ (joined_pairs side (value_of op)) left right
    ∙ join_cycles side (value_of op) (cyc d) (cyc e) (proper d may.room.valid.0) (proper e may.room.valid.1) c

-- one piece of an event, if its part has something of it
pub fragment_made : (n j : ℕ) (e : Event) (w p : Arc) (v : Leaf) → w ≡ piece n e.whole j → meet w e.part ≡ Some p → v ≡ e.value
    → record { whole = w; part = p; value = v } ∷ [] ≡ fragment (piece n e.whole j) e
fragment_made n j e w p v whole part value =
    ap (λ x. record { whole = w; part = p; value = x } ∷ []) value
    ∙ ap (λ o. joined_event w o (Some e.value)) (sym part)
    ∙ ap (λ u. fragment u e) whole

pub fragment_missed : (n j : ℕ) (e : Event) (w : Arc) (o : Option Arc) → w ≡ piece n e.whole j → o ≡ meet w e.part → ((p : Arc) → ¬ (o ≡ Some p))
    → [] ≡ fragment (piece n e.whole j) e
fragment_missed n j e w o whole met none = nothing o none ∙ ap (λ o. joined_event w o (Some e.value)) met ∙ ap (λ u. fragment u e) whole
  where
    nothing : (o : Option Arc) → ((p : Arc) → ¬ (o ≡ Some p)) → [] ≡ joined_event w o (Some e.value)
    nothing (Some p) none = absurd (none p refl)
    nothing None none = refl
