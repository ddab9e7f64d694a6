-- How many cycles of its child an arc of one cycle meets at a rate, and how many events a pattern has in a cycle, kind by kind.
use Rattle.std.proofs.Common.{◌≡◌, ℕ, ◌+◌, ◌*◌, ◌≤◌, Bool, true, false, eqb, List, [], ◌∷◌, length, get_or, ℤ, pos, ◌+ℤ◌, ◌-ℤ◌, ◌≤ℤ◌}
use Rattle.std.proofs.Common.{nat_abs, length-append, refl, sym, ap, ◌∙◌, subst, arith}
use Rattle.std.specs.List.{flat_map}
use Rattle.std.specs.Int.{div_ceil}
use Rattle.std.proofs.Math.Nat.{suc-mul, le_trans, mul-le-mul_right}
use Rattle.std.proofs.lemmas.Bool.Decides.{nat_tests}
use Rattle.std.proofs.lemmas.Int.{ints}
use Rattle.std.proofs.lemmas.List.{length-map}
use Rattle.tdl_ring.proofs.Quoting.{by_ring, ring}
use Rattle.tdl_control.specs.declared.leaves.Leaf.{Leaf}
use Rattle.tdl_control.specs.declared.leaves.Leaf.TheVariants.{Controls, Truth, Index}
use Rattle.tdl_fraction.specs.Rational.{Rational, frac, whole, ◌+ℚ◌, ◌*ℚ◌, ◌≤ℚ◌, ◌<ℚ◌, floor, ceil, IsMultiple}
use Rattle.tdl_fraction.specs.Arc.{Arc, IsArc, IsInside, map_arc}
use Rattle.tdl_fraction.proofs.Over.{Over, Over-whole, den_positive, same_over, frac_over}
use Rattle.tdl_fraction.proofs.Field.{rationals, whole-plus, one-*ℚ}
use Rattle.tdl_fraction.proofs.Order.{≤ℚ_from_same, plus_le, minus_le}
use Rattle.tdl_fraction.proofs.Rounding.{near_floor, floor_above, ceil_le, floor_monotone, ceil_monotone}
use Rattle.tdl_fraction.proofs.Rates.{rate_over, rounded_at_rate}
use Rattle.tdl_fraction.proofs.Multiples.{whole_from_multiple, whole_multiple_one, whole_multiple, multiple_own, multiple_times, multiple_gap}
use Rattle.tdl_fraction.proofs.Arcs.{keeps-times, keeps_arc, keeps_inside}
use Rattle.tdl_event.specs.Event.{clip}
use Rattle.tdl_event.proofs.Clips.{length-clip_le}
use Rattle.tdl_expr.specs.Bounds.{upper, lower, touched}
use Rattle.tdl_meaning.specs.Pattern.{Pattern, over, cycles_of, cycle_arc, moved, silence, pure, fast, rounds, turn, cat, rev, picked, pick, turned_event}
use Rattle.tdl_meaning.specs.Proper.{Each, IsProper, HasProperEvents}
use Rattle.tdl_meaning.proofs.Cycles.{length-whole_range}
use Rattle.tdl_meaning.proofs.Lists.{each_get_or}
use Rattle.tdl_meaning.proofs.Flat.{each_of_all}
use Rattle.tdl_meaning.proofs.Cuts.{cycles_in_order, over_inside}
use Rattle.tdl_meaning.proofs.Times.{asked, asked_is_arc}

-- ---- cycles
-- what a cycle asks for at a rate ends so much after its start
asked_width : (r : Rational) (c : ℤ) → whole (c +ℤ pos 1) *ℚ r ≡ (whole c *ℚ r) +ℚ r
asked_width r c = ap (λ x. x *ℚ r) (whole-plus c (pos 1)) ∙ together (whole c)
  where
    together : (x : Rational) → (x +ℚ whole (pos 1)) *ℚ r ≡ (x *ℚ r) +ℚ r
    together x = by_ring rationals (x ∷ r ∷ []) (search ring depth 12) refl

-- by the same three cases as the number of cycles
module _ (r : Rational) (c : ℤ) (positive : whole (pos 0) <ℚ r) where
  abbrev first : ℤ
  first = floor (whole c *ℚ r)

  at_whole : lower r ≡ 1 → whole (c +ℤ pos 1) *ℚ r ≤ℚ whole (first +ℤ pos (upper r))
  at_whole one =
      let whole_r : r ≡ whole (pos (upper r)) = same_over (subst (λ d. Over (pos (upper r)) d r) one (rate_over r positive)) (Over-whole (pos (upper r))) in
      let on_grid = subst (λ g. IsMultiple g (whole c *ℚ r)) (ap (λ d. 1 * d) one) (multiple_times (whole_multiple_one c) (multiple_own r)) in
      subst (λ x. x ≤ℚ whole (first +ℤ pos (upper r))) (sym (asked_width r c))
      (subst (λ x. (whole c *ℚ r) +ℚ r ≤ℚ x) (sym (whole-plus first (pos (upper r))))
      (plus_le (≤ℚ_from_same ((whole_from_multiple (whole c *ℚ r) on_grid).0)) (≤ℚ_from_same whole_r)))

  at_share : upper r ≡ 1 → whole (c +ℤ pos 1) *ℚ r ≤ℚ whole (first +ℤ pos 1)
  at_share one =
      let share_r : r ≡ frac (pos 1) (lower r) = frac_over (subst (λ n. Over (pos n) (lower r) r) one (rate_over r positive)) in
      let on_grid = subst (λ g. IsMultiple g (whole c *ℚ r)) (once (lower r)) (multiple_times (whole_multiple_one c) (multiple_own r)) in
      let gap = multiple_gap (lower r) (whole c *ℚ r) (whole (first +ℤ pos 1)) (den_positive r) on_grid (whole_multiple (lower r) (first +ℤ pos 1))
      (floor_above (whole c *ℚ r)) in
      subst (λ x. x ≤ℚ whole (first +ℤ pos 1)) (sym (asked_width r c ∙ ap (λ x. (whole c *ℚ r) +ℚ x) share_r)) gap
    where
      once : (d : ℕ) → 1 * d ≡ d
      once d = omega arith

  at_any : whole (c +ℤ pos 1) *ℚ r ≤ℚ whole (first +ℤ pos (div_ceil (upper r) (lower r) + 1))
  at_any =
      let d = div_ceil (upper r) (lower r) in
      let rate : r ≤ℚ whole (pos d) =
      subst (λ x. x ≤ℚ whole (pos d)) (one-*ℚ r)
      (subst (λ k. whole (pos 1) *ℚ r ≤ℚ whole (pos (div_ceil k (lower r)))) (once (upper r)) (rounded_at_rate r 1 positive)) in
      let start : whole c *ℚ r ≤ℚ whole first +ℚ whole (pos 1) = (minus_le (whole c *ℚ r) (whole first) (whole (pos 1))).0 (near_floor (whole c *ℚ r)) in
      subst (λ x. x ≤ℚ whole (first +ℤ pos (d + 1))) (sym (asked_width r c))
      (subst (λ x. (whole c *ℚ r) +ℚ r ≤ℚ x) (sum d first) (plus_le start rate))
    where
      once : (u : ℕ) → 1 * u ≡ u
      once u = omega arith

      sum : (d : ℕ) (x : ℤ) → (whole x +ℚ whole (pos 1)) +ℚ whole (pos d) ≡ whole (x +ℤ pos (d + 1))
      sum d x = ap (λ y. y +ℚ whole (pos d)) (sym (whole-plus x (pos 1))) ∙ sym (whole-plus (x +ℤ pos 1) (pos d)) ∙ ap whole (omega (arith, ints))

  within : whole (c +ℤ pos 1) *ℚ r ≤ℚ whole (first +ℤ pos (touched r))
  within = by (eqb (lower r) 1) refl
    where
      sure : (n m : ℕ) → eqb n m ≡ true → n ≡ m
      sure n m e = grind (arith, nat_tests)

      by_upper : (t : Bool) → eqb (upper r) 1 ≡ t
          → whole (c +ℤ pos 1) *ℚ r ≤ℚ whole (first +ℤ pos (elim t [ true ↦ 1 | false ↦ div_ceil (upper r) (lower r) + 1 ]))
      by_upper true e = at_share (sure (upper r) 1 e)
      by_upper false e = at_any

      by : (t : Bool) → eqb (lower r) 1 ≡ t → whole (c +ℤ pos 1) *ℚ r
          ≤ℚ whole (first +ℤ pos (elim t [
            | true ↦ upper r
            | false ↦ elim (eqb (upper r) 1) [ true ↦ 1 | false ↦ div_ceil (upper r) (lower r) + 1 ]
          ]))
      by true e = at_whole (sure (lower r) 1 e)
      by false e = by_upper (eqb (upper r) 1) refl

  -- what a cycle asks for at a rate meets no more cycles than that
  pub rate_touches : length (cycles_of (asked r c)) ≤ touched r
  rate_touches =
      subst (λ n. n ≤ touched r) (sym (length-whole_range first _))
      (few first (ceil (whole (c +ℤ pos 1) *ℚ r)) (touched r) (cycles_in_order (asked r c) (asked_is_arc r c positive))
      ((ceil_le (whole (c +ℤ pos 1) *ℚ r) (first +ℤ pos (touched r))).0 within))
    where
      few : (x y : ℤ) (n : ℕ) → x ≤ℤ y → y ≤ℤ (x +ℤ pos n) → nat_abs (y -ℤ x) ≤ n
      few x y n low high = omega (arith, ints)

-- an arc inside another meets no more cycles
pub fewer_cycles : (a b : Arc) → IsArc a → IsInside a b → length (cycles_of a) ≤ length (cycles_of b)
fewer_cycles a b h inside =
    subst (λ n. n ≤ length (cycles_of b)) (sym (length-whole_range (floor a.start) _))
    (subst (λ n. nat_abs (ceil a.stop -ℤ floor a.start) ≤ n) (sym (length-whole_range (floor b.start) _))
    (fewer (floor b.start) (floor a.start) (ceil a.stop) (ceil b.stop) (floor_monotone inside.0) (cycles_in_order a h) (ceil_monotone inside.1)))
  where
    fewer : (x y z w : ℤ) → x ≤ℤ y → y ≤ℤ z → z ≤ℤ w → nat_abs (z -ℤ y) ≤ nat_abs (w -ℤ x)
    fewer x y z w p q s = omega (arith, ints)

-- and so what an arc of one cycle asks for at a rate
pub arc_touches : (r : Rational) → whole (pos 0) <ℚ r → (c : ℤ) (a : Arc) → IsArc a → IsInside a (cycle_arc c)
    → length (cycles_of (map_arc (λ t. t *ℚ r) a)) ≤ touched r
arc_touches r positive c a h inside =
    let times : Rational → Rational = λ t. t *ℚ r in
    let keeps = keeps-times r positive in
    le_trans
    (fewer_cycles (map_arc times a) (asked r c) (keeps_arc times keeps a h) (keeps_inside times keeps a (cycle_arc c) inside))
    (rate_touches r c positive)

-- ---- events
abbrev pub HasCount : ℕ → Pattern → Type 0
HasCount k p = (c : ℤ) → length (p c) ≤ k

-- where each item gives at most k
pub length-flat_map_le : {X Y : Type 0} (k : ℕ) (P : X → Type 0) (f : X → List Y) → ((x : X) → P x → length (f x) ≤ k) → (xs : List X) → Each P xs
    → length (flat_map f xs) ≤ length xs * k
length-flat_map_le k P f few [] all = omega arith
length-flat_map_le k P f few (x ∷ xs) all =
    let one = few x all.0 in
    let others = length-flat_map_le k P f few xs all.1 in
    rw (length-append (f x) (flat_map f xs)) (omega (arith, suc-mul (length xs) k))

pub over_count : (k : ℕ) (p : Pattern) → HasCount k p → (a : Arc) → length (over p a) ≤ length (cycles_of a) * k
unfolding over
over_count k p few a =
    let each = λ (c : ℤ). le_trans (length-clip_le a (p c)) (few c) in
    length-flat_map_le k (λ c. length (clip a (p c)) ≤ k) (λ c. clip a (p c)) (λ c le. le) (cycles_of a)
    (each_of_all (λ c. length (clip a (p c)) ≤ k) each (cycles_of a))

-- in an arc of one cycle there are at most as many as in a cycle
pub count_inside : (k : ℕ) (p : Pattern) → HasCount k p → (c : ℤ) (a : Arc) → IsArc a → IsInside a (cycle_arc c) → length (over p a) ≤ k
count_inside k p few c a h inside =
    subst (λ es. length es ≤ k) (sym (over_inside p c a h inside)) (le_trans (length-clip_le a (p c)) (few c))

pub count_silence : (k : ℕ) → HasCount k silence
unfolding silence
count_silence k c = omega arith

pub count_pure : (v : Leaf) → HasCount 1 (pure v)
unfolding pure
count_pure v c = omega arith

pub count_fast : (r : Rational) (k : ℕ) (p : Pattern) → whole (pos 0) <ℚ r → HasCount k p → HasCount (touched r * k) (fast r p)
unfolding fast
count_fast r k p positive few c =
    subst (λ n. n ≤ touched r * k) (sym (length-map (over p (asked r c)) (moved _)))
    (le_trans (over_count k p few (asked r c)) (mul-le-mul_right k (rate_touches r c positive)))

pub count_cat : (k : ℕ) (ps : List Pattern) → Each (HasCount k) ps → HasCount k (cat ps)
unfolding cat
count_cat k ps few c =
    let p = get_or ps (turn c (length ps)) silence in
    subst (λ n. n ≤ k) (sym (length-map (p (rounds c (length ps))) (moved _)))
    (each_get_or (HasCount k) ps (turn c (length ps)) silence (count_silence k) few (rounds c (length ps)))

pub count_rev : (k : ℕ) (p : Pattern) → HasCount k p → HasCount k (rev p)
unfolding rev
count_rev k p few c = subst (λ n. n ≤ k) (sym (length-map (p c) (turned_event c))) (few c)

-- what a selector's event chooses is what an arc of one cycle has
count_picked : (k : ℕ) (ps : List Pattern) → Each (HasCount k) ps → (c : ℤ) (a : Arc) → IsArc a → IsInside a (cycle_arc c) → (v : Leaf)
    → length (picked ps a v) ≤ k
count_picked k ps few c a h inside (Controls controls) = omega arith
count_picked k ps few c a h inside (Truth truth) = omega arith
count_picked k ps few c a h inside (Index i) =
    count_inside k (get_or ps i silence) (each_get_or (HasCount k) ps i silence (count_silence k) few) c a h inside

pub count_pick : (x : Pattern) → HasProperEvents x → (n k : ℕ) (ps : List Pattern) → HasCount n x → Each (HasCount k) ps → HasCount (n * k) (pick x ps)
unfolding pick
count_pick x proper n k ps few fews c =
    le_trans
    (length-flat_map_le k (IsProper (cycle_arc c)) (λ ev. picked ps ev.part ev.value)
    (λ ev is. count_picked k ps fews c ev.part is.width is.in_arc ev.value) (x c) (proper c))
    (mul-le-mul_right k (few c))
