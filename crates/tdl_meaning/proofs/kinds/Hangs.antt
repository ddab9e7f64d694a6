-- How far wholes hang over their cycle at either end, kind by kind.
use Rattle.std.proofs.Common.{◌≡◌, ℕ, ◌+◌, ◌<◌, ◌≤◌, List, [], ◌∷◌, map, length, get_or, ℤ, pos, ◌+ℤ◌, ◌-ℤ◌, ◌≤ℤ◌, arith, sym, ap, ◌∙◌, subst}
use Rattle.std.proofs.lemmas.Int.{ints}
use Rattle.tdl_control.specs.declared.leaves.Leaf.{Leaf}
use Rattle.tdl_control.specs.declared.leaves.Leaf.TheVariants.{Controls, Truth, Index}
use Rattle.tdl_fraction.specs.Rational.{Rational, whole, ◌+ℚ◌, ◌-ℚ◌, ◌/ℚ◌, ◌≤ℚ◌, ◌<ℚ◌, floor, ceil}
use Rattle.tdl_fraction.proofs.Field.{whole-plus, whole-minus}
use Rattle.tdl_fraction.proofs.Order.{≤ℚ_refl, ≤ℚ_trans, plus_right_le, minus_left_le}
use Rattle.tdl_fraction.proofs.Rounding.{le_floor, ceil_le}
use Rattle.tdl_fraction.proofs.Arcs.{keeps_≤ℚ}
use Rattle.tdl_event.specs.Event.{Event}
use Rattle.tdl_meaning.specs.Pattern.{Pattern, Share, over, moved, cycle_arc, silence, pure, fast, squeezed, total_weight, steps_from, time_cat}
use Rattle.tdl_meaning.specs.Pattern.{rounds, turn, cat, stack, turned, rev, picked, pick}
use Rattle.tdl_meaning.specs.Proper.{Each, IsProper, IsNear, HasProperEvents}
use Rattle.tdl_meaning.proofs.Gridded.{HasHang}
use Rattle.tdl_meaning.proofs.Lists.{each_append, each_map, each_flat, each_weaker, each_get_or}
use Rattle.tdl_meaning.proofs.Overs.{hang_over, nearer}
use Rattle.tdl_meaning.proofs.Times.{asked, asked_is_arc, keeps-squeezed, squeezed_start, squeezed_stop}
use Rattle.tdl_meaning.proofs.Rates.{hang_at_rate, hang_start, hang_stop}

-- what hangs over by h does so by more
pub further : (h k : ℕ) → h ≤ k → (p : Pattern) → HasHang h p → HasHang k p
further h k le p hung c =
    each_weaker (IsNear h c (c +ℤ pos 1)) (IsNear k c (c +ℤ pos 1)) (nearer h k c (c +ℤ pos 1) c (c +ℤ pos 1) (omega (arith, ints)) (omega (arith, ints)))
    (p c) (hung c)

pub all_further : (h k : ℕ) → h ≤ k → (ps : List Pattern) → Each (HasHang h) ps → Each (HasHang k) ps
all_further h k le ps all = each_weaker (HasHang h) (HasHang k) (further h k le) ps all

-- ---- kind by kind
pub silence_hang : (h : ℕ) → HasHang h silence
unfolding silence
silence_hang h c = tt

pub pure_hang : (v : Leaf) → HasHang 0 (pure v)
unfolding pure
pure_hang v c = (
  record {
    start = subst (λ z. whole z ≤ℚ whole c) (sym (before c)) (≤ℚ_refl (whole c));
    stop = subst (λ z. whole (c +ℤ pos 1) ≤ℚ whole z) (sym (after (c +ℤ pos 1))) (≤ℚ_refl (whole (c +ℤ pos 1)));
  },
  tt,
)
  where
    before : (c : ℤ) → c -ℤ pos 0 ≡ c
    before c = omega (arith, ints)

    after : (c : ℤ) → c +ℤ pos 0 ≡ c
    after c = omega (arith, ints)

pub fast_hang : (r : Rational) (h : ℕ) (p : Pattern) → whole (pos 0) <ℚ r → HasHang h p → HasHang (hang_at_rate r h) (fast r p)
unfolding fast
fast_hang r h p positive hung c =
    let a = asked r c in
    each_map (IsNear h (floor a.start) (ceil a.stop)) (IsNear (hang_at_rate r h) c (c +ℤ pos 1)) (moved (λ t. t /ℚ r)) (λ e near. record {
      start = hang_start r h positive c e.whole.start near.start;
      stop = hang_stop r h positive (c +ℤ pos 1) e.whole.stop near.stop;
    }) (over p a) (hang_over h p hung a (asked_is_arc r c positive))

pub steps_hang : (h W o : ℕ) (steps : List Share) → Each (λ s. (0 < s.weight) × HasHang h s.pattern) steps → o + total_weight steps ≤ W
    → HasHang h (steps_from W o steps)
steps_hang h W o [] all le c = tt
steps_hang h W o (s ∷ steps) all le c =
    let w = s.weight in
    let total : 0 < W = omega (arith, all.0.0) in
    let keeps = keeps_≤ℚ (squeezed c o w W) (keeps-squeezed c o w W all.0.0 total) in
    each_append (IsNear h c (c +ℤ pos 1)) (map (moved (squeezed c o w W)) (s.pattern c)) (steps_from W (o + w) steps c)
    (each_map (IsNear h c (c +ℤ pos 1)) (IsNear h c (c +ℤ pos 1)) (moved (squeezed c o w W)) (λ e near. record {
      start = ≤ℚ_trans (squeezed_start c o w W h total (omega arith)) (keeps (whole (c -ℤ pos h)) e.whole.start near.start);
      stop = ≤ℚ_trans (keeps e.whole.stop (whole ((c +ℤ pos 1) +ℤ pos h)) near.stop) (squeezed_stop c o w W h total (omega arith));
    }) (s.pattern c) (all.0.1 c))
    (steps_hang h W (o + w) steps all.1 (omega arith) c)

pub time_cat_hang : (h : ℕ) (steps : List Share) → Each (λ s. (0 < s.weight) × HasHang h s.pattern) steps → HasHang h (time_cat steps)
unfolding time_cat
time_cat_hang h steps all = steps_hang h (total_weight steps) 0 steps all (omega arith)

pub cat_hang : (h : ℕ) (ps : List Pattern) → Each (HasHang h) ps → HasHang h (cat ps)
unfolding cat
cat_hang h ps all c =
    let k = rounds c (length ps) in
    let chosen = get_or ps (turn c (length ps)) silence in
    each_map (IsNear h k (k +ℤ pos 1)) (IsNear h c (c +ℤ pos 1)) (moved (λ t. t +ℚ whole (c -ℤ k))) (λ e near. record {
      start = subst (λ x. x ≤ℚ e.whole.start +ℚ whole (c -ℤ k)) (start c k) (plus_right_le (whole (c -ℤ k)) near.start);
      stop = subst (λ x. e.whole.stop +ℚ whole (c -ℤ k) ≤ℚ x) (stop c k) (plus_right_le (whole (c -ℤ k)) near.stop);
    }) (chosen k) (each_get_or (HasHang h) ps (turn c (length ps)) silence (silence_hang h) all k)
  where
    start : (c k : ℤ) → whole (k -ℤ pos h) +ℚ whole (c -ℤ k) ≡ whole (c -ℤ pos h)
    start c k = sym (whole-plus (k -ℤ pos h) (c -ℤ k)) ∙ ap whole (omega (arith, ints))

    stop : (c k : ℤ) → whole ((k +ℤ pos 1) +ℤ pos h) +ℚ whole (c -ℤ k) ≡ whole ((c +ℤ pos 1) +ℤ pos h)
    stop c k = sym (whole-plus ((k +ℤ pos 1) +ℤ pos h) (c -ℤ k)) ∙ ap whole (omega (arith, ints))

pub stack_hang : (h : ℕ) (ps : List Pattern) → Each (HasHang h) ps → HasHang h (stack ps)
unfolding stack
stack_hang h ps all c = each_flat (HasHang h) (IsNear h c (c +ℤ pos 1)) (λ p. p c) (λ p hung. hung c) ps all

pub rev_hang : (h : ℕ) (p : Pattern) → HasHang h p → HasHang h (rev p)
unfolding rev
rev_hang h p hung c =
    let ends = whole (c +ℤ c +ℤ pos 1) in
    each_map (IsNear h c (c +ℤ pos 1)) (IsNear h c (c +ℤ pos 1))
    (λ e. record { whole = turned c e.whole; part = turned c e.part; value = e.value }) (λ e near. record {
      start = subst (λ x. x ≤ℚ ends -ℚ e.whole.stop) (start c) (minus_left_le ends near.stop);
      stop = subst (λ x. ends -ℚ e.whole.start ≤ℚ x) (stop c) (minus_left_le ends near.start);
    }) (p c) (hung c)
  where
    start : (c : ℤ) → whole (c +ℤ c +ℤ pos 1) -ℚ whole ((c +ℤ pos 1) +ℤ pos h) ≡ whole (c -ℤ pos h)
    start c = sym (whole-minus (c +ℤ c +ℤ pos 1) ((c +ℤ pos 1) +ℤ pos h)) ∙ ap whole (omega (arith, ints))

    stop : (c : ℤ) → whole (c +ℤ c +ℤ pos 1) -ℚ whole (c -ℤ pos h) ≡ whole ((c +ℤ pos 1) +ℤ pos h)
    stop c = sym (whole-minus (c +ℤ c +ℤ pos 1) (c -ℤ pos h)) ∙ ap whole (omega (arith, ints))

-- a selector's part is in the cycle, so the hang of what it chooses counts from there
picked_hung : (h : ℕ) (c : ℤ) (ps : List Pattern) → Each (HasHang h) ps → (e : Event) → IsProper (cycle_arc c) e → (v : Leaf)
    → Each (IsNear h c (c +ℤ pos 1)) (picked ps e.part v)
picked_hung h c ps all e is (Controls controls) = tt
picked_hung h c ps all e is (Truth truth) = tt
picked_hung h c ps all e is (Index k) =
    let chosen = get_or ps k silence in
    let first = floor e.part.start in
    let last = ceil e.part.stop in
    each_weaker (IsNear h first last) (IsNear h c (c +ℤ pos 1))
    (nearer h h first last c (c +ℤ pos 1) (low first ((le_floor c e.part.start).0 is.in_arc.0)) (high last ((ceil_le e.part.stop (c +ℤ pos 1)).0 is.in_arc.1)))
    (over chosen e.part) (hang_over h chosen (each_get_or (HasHang h) ps k silence (silence_hang h) all) e.part is.width)
  where
    low : (first : ℤ) → c ≤ℤ first → (pos h +ℤ c) ≤ℤ (pos h +ℤ first)
    low first le = omega (arith, ints)

    high : (last : ℤ) → last ≤ℤ (c +ℤ pos 1) → (last +ℤ pos h) ≤ℤ ((c +ℤ pos 1) +ℤ pos h)
    high last le = omega (arith, ints)

pub pick_hang : (h : ℕ) (x : Pattern) (ps : List Pattern) → HasProperEvents x → Each (HasHang h) ps → HasHang h (pick x ps)
unfolding pick
pick_hang h x ps proper all c =
    each_flat (IsProper (cycle_arc c)) (IsNear h c (c +ℤ pos 1)) (λ e. picked ps e.part e.value) (λ e is. picked_hung h c ps all e is e.value) (x c) (proper c)
