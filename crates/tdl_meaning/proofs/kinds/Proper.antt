-- Well-formed events, kind by kind: each event of a cycle has a part of positive width, in its whole and in the cycle.
use Rattle.std.proofs.Common.{◌≡◌, ℕ, ◌+◌, ◌<◌, ◌≤◌, List, [], ◌∷◌, map, length, get_or, ℤ, pos, ◌+ℤ◌, ◌-ℤ◌, sym, ap, ◌∙◌, subst, arith}
use Rattle.std.proofs.lemmas.Int.{ints}
use Rattle.tdl_control.specs.declared.leaves.Leaf.{Leaf}
use Rattle.tdl_control.specs.declared.leaves.Leaf.TheVariants.{Controls, Truth, Index}
use Rattle.tdl_fraction.specs.Rational.{Rational, whole, ◌+ℚ◌, ◌-ℚ◌, ◌/ℚ◌, ◌≤ℚ◌, ◌<ℚ◌}
use Rattle.tdl_fraction.specs.Arc.{Arc, IsInside, map_arc}
use Rattle.tdl_fraction.proofs.Field.{whole-plus, whole-minus}
use Rattle.tdl_fraction.proofs.Order.{≤ℚ_from_same}
use Rattle.tdl_fraction.proofs.Arcs.{KeepsOrder, keeps_arc, keeps_inside, keeps-plus, keeps-divide, reverses-minus, turned_arc, turned_inside}
use Rattle.tdl_fraction.proofs.Arcs.{inside_self, inside_trans}
use Rattle.tdl_event.specs.Event.{Event}
use Rattle.tdl_meaning.specs.Pattern.{Pattern, Share, over, moved, cycle_arc, silence, pure, fast, squeezed, total_weight, steps_from, time_cat}
use Rattle.tdl_meaning.specs.Pattern.{rounds, turn, cat, stack, turned, rev, picked, pick}
use Rattle.tdl_meaning.specs.Proper.{Each, IsProper, HasProperEvents}
use Rattle.tdl_meaning.proofs.Lists.{each_append, each_map, each_flat, each_weaker, each_get_or}
use Rattle.tdl_meaning.proofs.Overs.{proper_over}
use Rattle.tdl_meaning.proofs.Times.{cycle_is_arc, asked, asked_is_arc, asked_divided, keeps-squeezed, squeezed_start, squeezed_stop}

-- moved in order, from one arc into another
pub moved_all : (f : Rational → Rational) → KeepsOrder f → (a b : Arc) → IsInside (map_arc f a) b → (events : List Event) → Each (IsProper a) events
    → Each (IsProper b) (map (moved f) events)
moved_all f keeps a b inside events all = each_map (IsProper a) (IsProper b) (moved f) (λ e h. record {
  width = keeps_arc f keeps e.part h.width;
  in_whole = keeps_inside f keeps e.part e.whole h.in_whole;
  in_arc = inside_trans (map_arc f e.part) (map_arc f a) b (keeps_inside f keeps e.part a h.in_arc) inside;
}) events all

pub inside_same : (a b : Arc) → a ≡ b → IsInside a b
inside_same a b e = subst (λ x. IsInside a x) e (inside_self a)

-- ---- kind by kind
pub silence_proper : HasProperEvents silence
unfolding silence
silence_proper c = tt

pub pure_proper : (v : Leaf) → HasProperEvents (pure v)
unfolding pure
pure_proper v c = (record { width = cycle_is_arc c; in_whole = inside_self (cycle_arc c); in_arc = inside_self (cycle_arc c) }, tt)

pub fast_proper : (r : Rational) (p : Pattern) → whole (pos 0) <ℚ r → HasProperEvents p → HasProperEvents (fast r p)
unfolding fast
fast_proper r p positive proper c =
    moved_all (λ t. t /ℚ r) (keeps-divide r positive) (asked r c) (cycle_arc c) (inside_same _ _ (asked_divided r c positive))
    (over p (asked r c)) (proper_over p proper (asked r c) (asked_is_arc r c positive))

-- a share of a cycle is in the cycle
share_inside : (c : ℤ) (o w W : ℕ) → 0 < W → o + w ≤ W → IsInside (map_arc (squeezed c o w W) (cycle_arc c)) (cycle_arc c)
share_inside c o w W h le = (
  subst (λ z. whole z ≤ℚ squeezed c o w W (whole z)) (itself c) (squeezed_start c o w W 0 h (omega arith)),
  subst (λ z. squeezed c o w W (whole z) ≤ℚ whole z) (next c) (squeezed_stop c o w W 0 h le),
)
  where
    itself : (c : ℤ) → c -ℤ pos 0 ≡ c
    itself c = omega (arith, ints)

    next : (c : ℤ) → (c +ℤ pos 1) +ℤ pos 0 ≡ c +ℤ pos 1
    next c = omega (arith, ints)

pub steps_proper : (W o : ℕ) (steps : List Share) → Each (λ s. (0 < s.weight) × HasProperEvents s.pattern) steps → o + total_weight steps ≤ W
    → HasProperEvents (steps_from W o steps)
steps_proper W o [] all le c = tt
steps_proper W o (s ∷ steps) all le c =
    each_append (IsProper (cycle_arc c)) (map (moved (squeezed c o s.weight W)) (s.pattern c)) (steps_from W (o + s.weight) steps c)
    (moved_all (squeezed c o s.weight W) (keeps-squeezed c o s.weight W all.0.0 (omega (arith, all.0.0))) (cycle_arc c) (cycle_arc c)
    (share_inside c o s.weight W (omega (arith, all.0.0)) (omega arith)) (s.pattern c) (all.0.1 c))
    (steps_proper W (o + s.weight) steps all.1 (omega arith) c)

pub time_cat_proper : (steps : List Share) → Each (λ s. (0 < s.weight) × HasProperEvents s.pattern) steps → HasProperEvents (time_cat steps)
unfolding time_cat
time_cat_proper steps all = steps_proper (total_weight steps) 0 steps all (omega arith)

-- cycle k, moved on to cycle c
pub cycle_moved : (c k : ℤ) → IsInside (map_arc (λ t. t +ℚ whole (c -ℤ k)) (cycle_arc k)) (cycle_arc c)
cycle_moved c k = (≤ℚ_from_same (sym (start c k)), ≤ℚ_from_same (stop c k))
  where
    start : (c k : ℤ) → whole k +ℚ whole (c -ℤ k) ≡ whole c
    start c k = sym (whole-plus k (c -ℤ k)) ∙ ap whole (omega (arith, ints))

    stop : (c k : ℤ) → whole (k +ℤ pos 1) +ℚ whole (c -ℤ k) ≡ whole (c +ℤ pos 1)
    stop c k = sym (whole-plus (k +ℤ pos 1) (c -ℤ k)) ∙ ap whole (omega (arith, ints))

pub cat_proper : (ps : List Pattern) → Each HasProperEvents ps → HasProperEvents (cat ps)
unfolding cat
cat_proper ps all c =
    let k = rounds c (length ps) in
    let chosen = get_or ps (turn c (length ps)) silence in
    moved_all (λ t. t +ℚ whole (c -ℤ k)) (keeps-plus (whole (c -ℤ k))) (cycle_arc k) (cycle_arc c) (cycle_moved c k) (chosen k)
    (each_get_or HasProperEvents ps (turn c (length ps)) silence silence_proper all k)

pub stack_proper : (ps : List Pattern) → Each HasProperEvents ps → HasProperEvents (stack ps)
unfolding stack
stack_proper ps all c = each_flat HasProperEvents (IsProper (cycle_arc c)) (λ p. p c) (λ p h. h c) ps all

-- a cycle turned round is itself
pub cycle_turned : (c : ℤ) → IsInside (turned c (cycle_arc c)) (cycle_arc c)
cycle_turned c = (≤ℚ_from_same (sym (start c)), ≤ℚ_from_same (stop c))
  where
    start : (c : ℤ) → whole (c +ℤ c +ℤ pos 1) -ℚ whole (c +ℤ pos 1) ≡ whole c
    start c = sym (whole-minus (c +ℤ c +ℤ pos 1) (c +ℤ pos 1)) ∙ ap whole (omega (arith, ints))

    stop : (c : ℤ) → whole (c +ℤ c +ℤ pos 1) -ℚ whole c ≡ whole (c +ℤ pos 1)
    stop c = sym (whole-minus (c +ℤ c +ℤ pos 1) c) ∙ ap whole (omega (arith, ints))

pub rev_proper : (p : Pattern) → HasProperEvents p → HasProperEvents (rev p)
unfolding rev
rev_proper p proper c =
    let f : Rational → Rational = λ t. whole (c +ℤ c +ℤ pos 1) -ℚ t in
    let reverses = reverses-minus (whole (c +ℤ c +ℤ pos 1)) in
    each_map (IsProper (cycle_arc c)) (IsProper (cycle_arc c))
    (λ e. record { whole = turned c e.whole; part = turned c e.part; value = e.value })
    (λ e h. record {
      width = turned_arc f reverses e.part h.width;
      in_whole = turned_inside f reverses e.part e.whole h.in_whole;
      in_arc = inside_trans (turned c e.part) (turned c (cycle_arc c)) (cycle_arc c) (turned_inside f reverses e.part (cycle_arc c) h.in_arc) (cycle_turned c);
    })
    (p c) (proper c)

-- what is in the part of a selector's event is in the cycle
picked_proper : (a : Arc) (ps : List Pattern) → Each HasProperEvents ps → (e : Event) → IsProper a e → (v : Leaf) → Each (IsProper a) (picked ps e.part v)
picked_proper a ps all e h (Controls controls) = tt
picked_proper a ps all e h (Truth truth) = tt
picked_proper a ps all e h (Index k) =
    each_weaker (IsProper e.part) (IsProper a)
    (λ x is. record { width = is.width; in_whole = is.in_whole; in_arc = inside_trans x.part e.part a is.in_arc h.in_arc })
    (over (get_or ps k silence) e.part)
    (proper_over (get_or ps k silence) (each_get_or HasProperEvents ps k silence silence_proper all) e.part h.width)

pub pick_proper : (s : Pattern) (ps : List Pattern) → HasProperEvents s → Each HasProperEvents ps → HasProperEvents (pick s ps)
unfolding pick
pick_proper s ps proper all c =
    each_flat (IsProper (cycle_arc c)) (IsProper (cycle_arc c)) (λ e. picked ps e.part e.value)
    (λ e h. picked_proper (cycle_arc c) ps all e h e.value) (s c) (proper c)
