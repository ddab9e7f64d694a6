-- Each event of one pattern with each of another that shares time with it: facts and laws.
use Rattle.std.proofs.Common.{◌≡◌, ℕ, ◌+◌, ◌*◌, ◌≤◌, ◌⊎◌, ⊎_elim, min, Bool, true, false, List, map, length, Option, Some, None, ℤ, pos}
use Rattle.std.proofs.Common.{◌+ℤ◌, ◌-ℤ◌, nat_abs, refl, sym, ap, ap₂, ◌∙◌, subst, arith}
use Rattle.std.specs.List.{flat_map}
use Rattle.std.specs.Int.{◌∣◌}
use Rattle.std.proofs.Math.Nat.{le_trans, mul-one, mul_assoc, mul-le-mul_right}
use Rattle.std.proofs.lemmas.Bool.{cases_lt}
use Rattle.std.proofs.lemmas.List.Folds.{flat_map-map}
use Rattle.std.proofs.lemmas.Int.{ints}
use mathlib.Core.Path.{fun_ext}
use Rattle.tdl_control.specs.declared.leaves.Leaf.{Leaf}
use Rattle.tdl_fraction.specs.Divisor.{lcm}
use Rattle.tdl_fraction.specs.Rational.{Rational, whole, ◌≤ℚ◌, floor, IsMultiple}
use Rattle.tdl_fraction.specs.Arc.{Arc, IsArc, IsInside, IsIn, meet}
use Rattle.tdl_fraction.proofs.Coprime.{divides_lcm_left, divides_lcm_right}
use Rattle.tdl_fraction.proofs.Order.{≤ℚ_trans, <ℚ-≤ℚ_trans}
use Rattle.tdl_fraction.proofs.Rounding.{floor-whole, ceil-whole}
use Rattle.tdl_fraction.proofs.Multiples.{multiple_finer, multiple_min, multiple_max, multiple_lcm_left, multiple_lcm_right}
use Rattle.tdl_fraction.proofs.Arcs.{keeps-plus, meet_through, meet_comm, meet_ends, meet_greatest, meet_around, meet_inside_left}
use Rattle.tdl_fraction.proofs.Arcs.{meet_inside_right, inside_trans}
use Rattle.tdl_event.specs.Event.{Event, clip, clip_event}
use Rattle.tdl_event.specs.ClipLaws.{is_in, seen_of, seen_at}
use Rattle.tdl_event.proofs.Clips.{is_in-true}
use Rattle.tdl_expr.specs.declared.joinings.Side.{Side}
use Rattle.tdl_expr.specs.declared.joinings.Side.TheVariants.{Left, Right, Both}
use Rattle.tdl_expr.specs.Bounds.{Bounds, of_join}
use Rattle.tdl_meaning.specs.Pattern.{Pattern, over, cycles_of, cycle_arc, moved}
use Rattle.tdl_meaning.specs.Kinds.{Joining, joined_event, shared_whole, with_left, with_right, with_both, join_left}
use Rattle.tdl_meaning.specs.Kinds.{join_right, join_both, valued}
use Rattle.tdl_meaning.specs.Proper.{Each, IsProper, IsNear, HasProperEvents}
use Rattle.tdl_meaning.specs.Ranges.{IsGriddedIn}
use Rattle.tdl_meaning.specs.Heard.{heard}
use Rattle.tdl_meaning.specs.Repeats.{later, Repeats}
use Rattle.tdl_meaning.specs.inside.Arcs.{over_met}
use Rattle.tdl_meaning.specs.Values.{join}
use Rattle.tdl_meaning.specs.Pairs.{joined_pairs}
use Rattle.tdl_meaning.proofs.Gridded.{IsGridded, HasGrid, HasHang}
use Rattle.tdl_meaning.proofs.Lists.{each_flat, each_both}
use Rattle.tdl_meaning.proofs.Flat.{flat_map-flat_map, map-flat_map, flat_map_same, flat_map_same_each, each_of_all}
use Rattle.tdl_meaning.proofs.Cycles.{cycle_is_arc, length-whole_range}
use Rattle.tdl_meaning.proofs.Overs.{over_each, proper_over, grid_over}
use Rattle.tdl_meaning.proofs.kinds.Counts.{HasCount, length-flat_map_le, over_count, fewer_cycles}
use Rattle.tdl_meaning.proofs.Cuts.{piece, over_inside, over_cycle, clip_over}
use Rattle.tdl_meaning.proofs.ByKind.{over_each_event}
use Rattle.tdl_meaning.proofs.Seen.{shown, seen_over}
use Rattle.tdl_meaning.proofs.Repeating.{over_later}
use Rattle.tdl_meaning.proofs.kinds.Joined.{whole_is_arc, each_joined, each_joined_in, length-joined_in}
use Rattle.tdl_meaning.proofs.kinds.Pairs.{Wholes, pair, pair_heard, cut_first, within_part, within_arc, seen-pairs, pairs-moved}

abbrev the_left : Wholes
the_left a b = Some a

-- ---- with the left's whole
-- the left's event with each of what the other pattern has in its whole
abbrev lefts : Joining → Pattern → Event → List Event
lefts v y l = flat_map (λ r. with_left v l r) (over y l.whole)

module _ (v : Joining) (x y : Pattern) where
  -- what holds of each event that is made of two, from what holds of the left's and of what there is in its whole
  pub each_left : (P Q : Event → Type 0) (R : Arc → Event → Type 0) (c : ℤ) → ((l : Event) → P l → Each (R l.whole) (over y l.whole))
      → ((l r : Event) → P l → R l.whole r → (part : Arc) (value : Leaf) → meet l.part r.part ≡ Some part
      → Q (record { whole = l.whole; part = part; value = value }))
      → Each P (x c) → Each Q (join_left v x y c)
  unfolding join_left
  each_left P Q R c right step left =
      each_flat P Q (lefts v y)
      (λ l h. each_flat (R l.whole) Q (with_left v l)
      (λ r k. each_joined Q l.whole (meet l.part r.part) (v l.value r.value) (λ part value met. step l r h k part value met))
      (over y l.whole) (right l h))
      (x c) left

  -- where the left's alone is enough
  each_left_alone : (P Q : Event → Type 0) (c : ℤ)
      → ((l : Event) → P l → (part : Arc) (value : Leaf) → IsArc part → IsInside part l.part → Q (record { whole = l.whole; part = part; value = value }))
      → Each P (x c) → Each Q (join_left v x y c)
  each_left_alone P Q c step left =
      each_left P Q (λ w r. Unit {0}) c (λ l h. each_of_all (λ r. Unit {0}) (λ r. tt) (over y l.whole))
      (λ l r h k part value met. step l h part value (meet_ends l.part r.part part met).2 (meet_inside_left l.part r.part part met))
      left

  pub join_left_proper : HasProperEvents x → HasProperEvents (join_left v x y)
  join_left_proper proper c =
      each_left_alone (IsProper (cycle_arc c)) (IsProper (cycle_arc c)) c
      (λ l is part value width inside. record {
        width = width;
        in_whole = inside_trans part l.part l.whole inside is.in_whole;
        in_arc = inside_trans part l.part (cycle_arc c) inside is.in_arc;
      })
      (proper c)

  -- on any grid that has both
  pub join_left_on : (g m k : ℕ) → g ∣ k → m ∣ k → HasProperEvents x → HasGrid g x → HasGrid m y → HasGrid k (join_left v x y)
  join_left_on g m k g_k m_k proper on_x on_y c =
      each_left (λ l. IsArc l.whole × IsGridded g l) (IsGridded k) (IsGriddedIn m) c
      (λ l is. grid_over m y on_y l.whole is.0) (λ l r is at part value met. made l r is.1 at part value met)
      (each_both (IsProper (cycle_arc c)) (IsGridded g) (λ l. IsArc l.whole × IsGridded g l) (λ l is on. (whole_is_arc (cycle_arc c) l is, on))
      (x c) (proper c) (on_x c))
    where
      of_left : (t : Rational) → IsMultiple g t → IsMultiple k t
      of_left t on = multiple_finer g k t g_k on

      of_right : (t u : Rational) → IsMultiple g u → IsMultiple m t ⊎ (t ≡ u) → IsMultiple k t
      of_right t u on from = ⊎_elim (λ n. multiple_finer m k t m_k n) (λ same. subst (IsMultiple k) (sym same) (of_left u on)) from

      made : (l r : Event) → IsGridded g l → IsGriddedIn m l.whole r → (part : Arc) (value : Leaf) → meet l.part r.part ≡ Some part
          → IsGridded k (record { whole = l.whole; part = part; value = value })
      made l r on at part value met =
          let ends = meet_ends l.part r.part part met in
          record {
            whole_start = of_left l.whole.start on.whole_start;
            whole_stop = of_left l.whole.stop on.whole_stop;
            part_start = subst (IsMultiple k) (sym ends.0)
                (multiple_max (of_left l.part.start on.part_start) (of_right r.part.start l.whole.start on.whole_start at.part_start));
            part_stop = subst (IsMultiple k) (sym ends.1)
                (multiple_min (of_left l.part.stop on.part_stop) (of_right r.part.stop l.whole.stop on.whole_stop at.part_stop));
          }

  pub join_left_grid : (g m : ℕ) → HasProperEvents x → HasGrid g x → HasGrid m y → HasGrid (lcm g m) (join_left v x y)
  join_left_grid g m proper on_x on_y = join_left_on g m (lcm g m) (divides_lcm_left g m) (divides_lcm_right g m) proper on_x on_y

  pub join_left_hang : (h : ℕ) → HasHang h x → HasHang h (join_left v x y)
  join_left_hang h hung c =
      each_left_alone (IsNear h c (c +ℤ pos 1)) (IsNear h c (c +ℤ pos 1)) c
      (λ l near part value width inside. record { start = near.start; stop = near.stop }) (hung c)

-- a whole that hangs over its cycle by h meets so many cycles
pub whole_touches : (h : ℕ) (c : ℤ) (w : Arc) → IsArc w → whole (c -ℤ pos h) ≤ℚ w.start → w.stop ≤ℚ whole ((c +ℤ pos 1) +ℤ pos h)
    → length (cycles_of w) ≤ 2 * h + 1
whole_touches h c w is low high =
    let around : Arc = record { start = whole (c -ℤ pos h); stop = whole ((c +ℤ pos 1) +ℤ pos h) } in
    subst (λ n. length (cycles_of w) ≤ n)
    (length-whole_range (floor around.start) _
    ∙ ap₂ (λ s t. nat_abs (t -ℤ s)) (floor-whole (c -ℤ pos h)) (ceil-whole ((c +ℤ pos 1) +ℤ pos h))
    ∙ wide c)
    (fewer_cycles w around is (low, high))
  where
    wide : (c : ℤ) → nat_abs (((c +ℤ pos 1) +ℤ pos h) -ℤ (c -ℤ pos h)) ≡ 2 * h + 1
    wide c = omega (arith, ints)

-- an event with each of a list gives no more than the list has
at_most_each : (W : Wholes) (v : Joining) (l : Event) (es : List Event) → length (flat_map (pair W v l) es) ≤ length es
at_most_each W v l es =
    subst (λ n. length (flat_map (pair W v l) es) ≤ n) (mul-one (length es))
    (length-flat_map_le 1 (λ r. Unit {0}) (pair W v l) (λ r h. length-joined_in (W l.whole r.whole) (meet l.part r.part) (v l.value r.value)) es
    (each_of_all (λ r. Unit {0}) (λ r. tt) es))

at_most_pairs : (W : Wholes) (v : Joining) (k m : ℕ) (xs ys : List Event) → length xs ≤ k → length ys ≤ m
    → length (flat_map (λ l. flat_map (pair W v l) ys) xs) ≤ k * m
at_most_pairs W v k m xs ys few_x few_y =
    le_trans
    (length-flat_map_le m (λ l. Unit {0}) (λ l. flat_map (pair W v l) ys) (λ l h. le_trans (at_most_each W v l ys) few_y) xs
    (each_of_all (λ l. Unit {0}) (λ l. tt) xs))
    (mul-le-mul_right m few_x)

module _ (v : Joining) (x y : Pattern) where
  pub join_left_count : (h k m : ℕ) → HasProperEvents x → HasHang h x → HasCount k x → HasCount m y → HasCount (k * (2 * h + 1) * m) (join_left v x y)
  unfolding join_left
  join_left_count h k m proper hung few_x few_y c =
      subst (λ n. length (join_left v x y c) ≤ n) (sym (mul_assoc k (2 * h + 1) m))
      (le_trans
      (length-flat_map_le ((2 * h + 1) * m) (λ l. IsProper (cycle_arc c) l × IsNear h c (c +ℤ pos 1) l) (lefts v y) (λ l is. at_most l is.0 is.1) (x c)
      (each_both (IsProper (cycle_arc c)) (IsNear h c (c +ℤ pos 1)) (λ l. IsProper (cycle_arc c) l × IsNear h c (c +ℤ pos 1) l) (λ l is near. (is, near))
      (x c) (proper c) (hung c)))
      (mul-le-mul_right ((2 * h + 1) * m) (few_x c)))
    where
      at_most : (l : Event) → IsProper (cycle_arc c) l → IsNear h c (c +ℤ pos 1) l → length (lefts v y l) ≤ (2 * h + 1) * m
      at_most l is near =
          le_trans (at_most_each the_left v l (over y l.whole))
          (le_trans (over_count m y few_y l.whole)
          (mul-le-mul_right m (whole_touches h c l.whole (whole_is_arc (cycle_arc c) l is) near.start near.stop)))

  -- ---- laws
  -- in any arc
  pub over-join_left : (a : Arc) → over (join_left v x y) a ≡ flat_map (λ l. flat_map (λ r. with_left v l r) (over y l.whole)) (over x a)
  unfolding join_left
  over-join_left a = over_each_event (lefts v y) (λ a l. cut_first the_left v a l (over y l.whole) ∙ same l (meet l.part a)) x a
    where
      same : (l : Event) (o : Option Arc) → flat_map (λ k. flat_map (pair the_left v k) (over y l.whole)) (piece l o) ≡ flat_map (lefts v y) (piece l o)
      same l (Some m) = refl
      same l None = refl

  -- what the left's part has of the other pattern suffices
  left_by_part : HasProperEvents y → (a : Arc) (l : Event) → IsProper a l
      → flat_map (λ r. with_left v l r) (over y l.whole) ≡ flat_map (λ r. with_left v l r) (over y l.part)
  left_by_part proper a l is =
      within_part the_left v l (over y l.whole)
      ∙ ap (flat_map (λ r. with_left v l r)) (clip_over y proper l.part l.whole ∙ ap (over_met y) (meet_around l.whole l.part is.width is.in_whole))

  pub over-join_left_parts : HasProperEvents x → HasProperEvents y → (a : Arc) → IsArc a
      → over (join_left v x y) a ≡ flat_map (λ l. flat_map (λ r. with_left v l r) (over y l.part)) (over x a)
  over-join_left_parts proper_x proper_y a h =
      over-join_left a
      ∙ flat_map_same_each (IsProper a) (lefts v y) (λ l. flat_map (λ r. with_left v l r) (over y l.part)) (left_by_part proper_y a) (over x a)
      (proper_over x proper_x a h)

  -- and so does what the arc has, so that both patterns are asked for the same arc
  pub over-join_left_arc : HasProperEvents x → HasProperEvents y → (a : Arc) → IsArc a
      → over (join_left v x y) a ≡ flat_map (λ l. flat_map (λ r. with_left v l r) (over y a)) (over x a)
  over-join_left_arc proper_x proper_y a h =
      over-join_left_parts proper_x proper_y a h
      ∙ flat_map_same_each (IsProper a) (λ l. flat_map (λ r. with_left v l r) (over y l.part)) (λ l. flat_map (λ r. with_left v l r) (over y a))
      (λ l is. sym (by_arc l is)) (over x a) (proper_over x proper_x a h)
    where
      by_arc : (l : Event) → IsProper a l → flat_map (λ r. with_left v l r) (over y a) ≡ flat_map (λ r. with_left v l r) (over y l.part)
      by_arc l is =
          within_part the_left v l (over y a)
          ∙ ap (flat_map (λ r. with_left v l r)) (clip_over y proper_y l.part a ∙ ap (over_met y) (meet_around a l.part is.width is.in_arc))

  -- so do the cycles of the other pattern
  pub join_left_cycles : HasProperEvents x → HasProperEvents y → (c : ℤ)
      → join_left v x y c ≡ flat_map (λ l. flat_map (λ r. with_left v l r) (y c)) (x c)
  join_left_cycles proper_x proper_y c =
      sym (over_cycle (join_left v x y) (join_left_proper v x y proper_x) c)
      ∙ over-join_left_arc proper_x proper_y (cycle_arc c) (cycle_is_arc c)
      ∙ ap₂ (λ xs ys. flat_map (λ l. flat_map (λ r. with_left v l r) ys) xs) (over_cycle x proper_x c) (over_cycle y proper_y c)

  -- and then there are no more events than pairs, however far wholes hang over their cycles

  -- and so does what the cycle has of the left's whole
  pub over-join_left_cycle : HasProperEvents x → HasProperEvents y → (c : ℤ) (a : Arc) → IsArc a → IsInside a (cycle_arc c)
      → over (join_left v x y) a ≡ flat_map (λ l. flat_map (λ r. with_left v l r) (over_met y (meet (cycle_arc c) l.whole))) (over x a)
  over-join_left_cycle proper_x proper_y c a h inside =
      over-join_left a
      ∙ flat_map_same_each (IsProper a) (lefts v y) (λ l. flat_map (λ r. with_left v l r) (over_met y (meet (cycle_arc c) l.whole)))
      (λ l is. left_by_part proper_y a l is ∙ sym (by_cycle l is)) (over x a) (proper_over x proper_x a h)
    where
      by_cycle : (l : Event) → IsProper a l
          → flat_map (λ r. with_left v l r) (over_met y (meet (cycle_arc c) l.whole)) ≡ flat_map (λ r. with_left v l r) (over y l.part)
      by_cycle l is =
          let in_cycle = inside_trans l.part a (cycle_arc c) is.in_arc inside in
          ap (flat_map (λ r. with_left v l r)) (sym (clip_over y proper_y l.whole (cycle_arc c)))
          ∙ within_arc the_left v l l.whole (over y (cycle_arc c)) is.width is.in_whole
          ∙ within_part the_left v l (over y (cycle_arc c))
          ∙ ap (flat_map (λ r. with_left v l r))
          (clip_over y proper_y l.part (cycle_arc c) ∙ ap (over_met y) (meet_around (cycle_arc c) l.part is.width in_cycle))

  -- each that x has with each that y has, with the whole that x's has
  pub heard_join_left : HasProperEvents x → HasProperEvents y → (t : Rational)
      → heard (join_left v x y) t
      ≡ flat_map (λ (l : Arc × Leaf). flat_map (λ (r : Arc × Leaf). valued (Some l.0) (v l.1 r.1)) (heard y t)) (heard x t)
  unfolding join_left
  heard_join_left proper_x proper_y t =
      flat_map-flat_map (seen_of t) (lefts v y) (x (floor t))
      ∙ flat_map_same_each (IsProper (cycle_arc (floor t))) (λ l. seen_at t (lefts v y l)) (λ l. flat_map with_each (seen_of t l))
      (λ l is. seen-pairs the_left v t l (over y l.whole) ∙ here l is (is_in t l.part) refl) (x (floor t)) (proper_x (floor t))
      ∙ sym (flat_map-flat_map with_each (seen_of t) (x (floor t)))
    where
      with_each : Arc × Leaf → List (Arc × Leaf)
      with_each l = flat_map (λ (r : Arc × Leaf). valued (Some l.0) (v l.1 r.1)) (heard y t)

      here : (l : Event) → IsProper (cycle_arc (floor t)) l → (b : Bool) → is_in t l.part ≡ b
          → flat_map (λ k. flat_map (pair_heard the_left v k) (seen_at t (over y l.whole))) (shown l b)
          ≡ flat_map (λ (k : Arc × Leaf). flat_map (λ (r : Arc × Leaf). valued (Some k.0) (v k.1 r.1)) (heard y t)) (shown l b)
      here l is true e =
          let in_part = (is_in-true t l.part).0 e in
          let in_whole : IsIn t l.whole = (≤ℚ_trans is.in_whole.0 in_part.0, <ℚ-≤ℚ_trans in_part.1 is.in_whole.1) in
          ap (λ es. flat_map (λ k. flat_map (pair_heard the_left v k) es) (shown l true))
          (seen_over y proper_y l.whole (whole_is_arc (cycle_arc (floor t)) l is) t in_whole)
      here l is false e = refl

  pub join_left_repeats : (n : ℕ) → Repeats n x → Repeats n y → Repeats n (join_left v x y)
  unfolding join_left
  join_left_repeats n again_x again_y c =
      ap (flat_map (lefts v y)) (again_x c)
      ∙ flat_map-map (lefts v y) (moved (later n)) (x c)
      ∙ flat_map_same (λ l. lefts v y (moved (later n) l)) (λ l. map (moved (later n)) (lefts v y l))
      (λ l.
      ap (flat_map (λ r. with_left v (moved (later n) l) r)) (over_later n y again_y l.whole)
      ∙ pairs-moved the_left v (later n) (keeps-plus (whole (pos n))) (λ a b. refl) l (over y l.whole))
      (x c)
      ∙ sym (map-flat_map (moved (later n)) (lefts v y) (x c))

-- ---- with the right's whole
-- with the right's whole is with the left's, where the two change places
module _ (v : Joining) where
  abbrev pub swapped : Joining
  swapped a b = v b a

  swap_event : (l r : Event) → with_left swapped r l ≡ with_right v l r
  swap_event l r = ap (λ o. joined_event r.whole o (v l.value r.value)) (meet_comm r.part l.part)

  swap_events : (r : Event) (es : List Event) → flat_map (λ l. with_left swapped r l) es ≡ flat_map (λ l. with_right v l r) es
  swap_events r es = flat_map_same (λ l. with_left swapped r l) (λ l. with_right v l r) (λ l. swap_event l r) es

  pub mirrored : (x y : Pattern) → join_left swapped y x ≡ join_right v x y
  unfolding join_left join_right
  mirrored x y = fun_ext (λ c.
      flat_map_same (λ r. flat_map (λ l. with_left swapped r l) (over x r.whole)) (λ r. flat_map (λ l. with_right v l r) (over x r.whole))
      (λ r. swap_events r (over x r.whole)) (y c))

module _ (v : Joining) (x y : Pattern) where
  pub join_right_proper : HasProperEvents y → HasProperEvents (join_right v x y)
  join_right_proper proper = subst HasProperEvents (mirrored v x y) (join_left_proper (swapped v) y x proper)

  pub join_right_grid : (g m : ℕ) → HasProperEvents y → HasGrid g x → HasGrid m y → HasGrid (lcm g m) (join_right v x y)
  join_right_grid g m proper on_x on_y =
      subst (HasGrid (lcm g m)) (mirrored v x y)
      (join_left_on (swapped v) y x m g (lcm g m) (divides_lcm_right g m) (divides_lcm_left g m) proper on_y on_x)

  pub join_right_hang : (h : ℕ) → HasHang h y → HasHang h (join_right v x y)
  join_right_hang h hung = subst (HasHang h) (mirrored v x y) (join_left_hang (swapped v) y x h hung)

  pub join_right_count : (h k m : ℕ) → HasProperEvents y → HasHang h y → HasCount k x → HasCount m y → HasCount (m * (2 * h + 1) * k) (join_right v x y)
  join_right_count h k m proper hung few_x few_y =
      subst (HasCount (m * (2 * h + 1) * k)) (mirrored v x y) (join_left_count (swapped v) y x h m k proper hung few_y few_x)

  -- in any arc

  pub join_right_cycles : HasProperEvents x → HasProperEvents y → (c : ℤ)
      → join_right v x y c ≡ flat_map (λ r. flat_map (λ l. with_right v l r) (x c)) (y c)
  join_right_cycles proper_x proper_y c =
      sym (ap (λ p. p c) (mirrored v x y))
      ∙ join_left_cycles (swapped v) y x proper_y proper_x c
      ∙ flat_map_same (λ r. flat_map (λ l. with_left (swapped v) r l) (x c)) (λ r. flat_map (λ l. with_right v l r) (x c))
      (λ r. swap_events v r (x c)) (y c)

  pub over-join_right_cycle : HasProperEvents x → HasProperEvents y → (c : ℤ) (a : Arc) → IsArc a → IsInside a (cycle_arc c)
      → over (join_right v x y) a ≡ flat_map (λ r. flat_map (λ l. with_right v l r) (over_met x (meet (cycle_arc c) r.whole))) (over y a)
  over-join_right_cycle proper_x proper_y c a h inside =
      sym (ap (λ p. over p a) (mirrored v x y))
      ∙ over-join_left_cycle (swapped v) y x proper_y proper_x c a h inside
      ∙ flat_map_same (λ r. flat_map (λ l. with_left (swapped v) r l) (over_met x (meet (cycle_arc c) r.whole)))
      (λ r. flat_map (λ l. with_right v l r) (over_met x (meet (cycle_arc c) r.whole)))
      (λ r. swap_events v r (over_met x (meet (cycle_arc c) r.whole))) (over y a)

  -- each that y has with each that x has, with the whole that y's has
  pub heard_join_right : HasProperEvents x → HasProperEvents y → (t : Rational)
      → heard (join_right v x y) t
      ≡ flat_map (λ (r : Arc × Leaf). flat_map (λ (l : Arc × Leaf). valued (Some r.0) (v l.1 r.1)) (heard x t)) (heard y t)
  heard_join_right proper_x proper_y t =
      sym (ap (λ p. heard p t) (mirrored v x y)) ∙ heard_join_left (swapped v) y x proper_y proper_x t

  pub join_right_repeats : (n : ℕ) → Repeats n x → Repeats n y → Repeats n (join_right v x y)
  join_right_repeats n again_x again_y = subst (Repeats n) (mirrored v x y) (join_left_repeats (swapped v) y x n again_y again_x)

-- ---- with what the wholes share
-- the left's event with each of the other pattern's in the cycle
abbrev boths : Joining → List Event → Event → List Event
boths v es l = flat_map (λ r. with_both v l r) es

lesser : (P : ℕ → Type 0) (h k : ℕ) → P h → P k → P (min h k)
lesser P h k at_h at_k =
    ⊎_elim
    (λ lt. let same : h ≡ min h k = omega arith in subst P same at_h)
    (λ le. let same : k ≡ min h k = omega arith in subst P same at_k)
    (cases_lt h k)

module _ (v : Joining) (x y : Pattern) where
  -- what holds of each event that is made of two, from what holds of both
  pub each_shared : (P R Q : Event → Type 0) (c : ℤ)
      → ((l r : Event) → P l → R r → (w part : Arc) (value : Leaf) → meet l.whole r.whole ≡ Some w → meet l.part r.part ≡ Some part
      → Q (record { whole = w; part = part; value = value }))
      → Each P (x c) → Each R (y c) → Each Q (join_both v x y c)
  unfolding join_both
  each_shared P R Q c step left right =
      each_flat P Q (boths v (y c))
      (λ l h. each_flat R Q (with_both v l)
      (λ r k. each_joined_in Q (meet l.whole r.whole) (meet l.part r.part) (v l.value r.value) (λ w part value e met. step l r h k w part value e met))
      (y c) right)
      (x c) left

  pub join_both_proper : HasProperEvents x → HasProperEvents y → HasProperEvents (join_both v x y)
  join_both_proper proper_x proper_y c =
      each_shared (IsProper (cycle_arc c)) (IsProper (cycle_arc c)) (IsProper (cycle_arc c)) c
      (λ l r h k w part value e met.
      let in_left = meet_inside_left l.part r.part part met in
      let in_right = meet_inside_right l.part r.part part met in
      record {
        width = (meet_ends l.part r.part part met).2;
        in_whole = meet_greatest l.whole r.whole w part e
            (inside_trans part l.part l.whole in_left h.in_whole) (inside_trans part r.part r.whole in_right k.in_whole);
        in_arc = inside_trans part l.part (cycle_arc c) in_left h.in_arc;
      })
      (proper_x c) (proper_y c)

  pub join_both_grid : (g m : ℕ) → HasGrid g x → HasGrid m y → HasGrid (lcm g m) (join_both v x y)
  join_both_grid g m on_x on_y c =
      each_shared (IsGridded g) (IsGridded m) (IsGridded (lcm g m)) c
      (λ l r h k w part value e met.
      let whole_ends = meet_ends l.whole r.whole w e in
      let part_ends = meet_ends l.part r.part part met in
      record {
        whole_start = subst (IsMultiple (lcm g m)) (sym whole_ends.0) (multiple_max (multiple_lcm_left m h.whole_start) (multiple_lcm_right g k.whole_start));
        whole_stop = subst (IsMultiple (lcm g m)) (sym whole_ends.1) (multiple_min (multiple_lcm_left m h.whole_stop) (multiple_lcm_right g k.whole_stop));
        part_start = subst (IsMultiple (lcm g m)) (sym part_ends.0) (multiple_max (multiple_lcm_left m h.part_start) (multiple_lcm_right g k.part_start));
        part_stop = subst (IsMultiple (lcm g m)) (sym part_ends.1) (multiple_min (multiple_lcm_left m h.part_stop) (multiple_lcm_right g k.part_stop));
      })
      (on_x c) (on_y c)

  pub join_both_hang : (h k : ℕ) → HasHang h x → HasHang k y → HasHang (min h k) (join_both v x y)
  join_both_hang h k hung_x hung_y c =
      each_shared (IsNear h c (c +ℤ pos 1)) (IsNear k c (c +ℤ pos 1)) (IsNear (min h k) c (c +ℤ pos 1)) c
      (λ l r near_l near_r w part value e met.
      let in_left = meet_inside_left l.whole r.whole w e in
      let in_right = meet_inside_right l.whole r.whole w e in
      lesser (λ j. IsNear j c (c +ℤ pos 1) (record { whole = w; part = part; value = value })) h k
      (record { start = ≤ℚ_trans near_l.start in_left.0; stop = ≤ℚ_trans in_left.1 near_l.stop })
      (record { start = ≤ℚ_trans near_r.start in_right.0; stop = ≤ℚ_trans in_right.1 near_r.stop }))
      (hung_x c) (hung_y c)

  pub join_both_count : (k m : ℕ) → HasCount k x → HasCount m y → HasCount (k * m) (join_both v x y)
  unfolding join_both
  join_both_count k m few_x few_y c = at_most_pairs meet v k m (x c) (y c) (few_x c) (few_y c)

  -- in an arc of one cycle
  pub over-join_both : (c : ℤ) (a : Arc) → IsArc a → IsInside a (cycle_arc c)
      → over (join_both v x y) a ≡ flat_map (λ l. flat_map (λ r. with_both v l r) (over y a)) (over x a)
  unfolding join_both
  over-join_both c a h inside =
      over_inside (join_both v x y) c a h inside
      ∙ flat_map-flat_map (clip_event a) (boths v (y c)) (x c)
      ∙ flat_map_same (λ l. clip a (boths v (y c) l)) (λ l. flat_map (boths v (y c)) (clip_event a l)) (λ l. cut_first meet v a l (y c)) (x c)
      ∙ sym (flat_map-flat_map (boths v (y c)) (clip_event a) (x c))
      ∙ ap (flat_map (boths v (y c))) (sym (over_inside x c a h inside))
      ∙ flat_map_same_each (λ l. IsArc l.part × IsInside l.part a) (boths v (y c)) (boths v (over y a))
      (λ l is. sym (ap (λ es. boths v es l) (over_inside y c a h inside) ∙ within_arc meet v l a (y c) is.0 is.1)) (over x a)
      (over_each (λ d e. Unit {0}) (λ l. IsArc l.part × IsInside l.part a) x a h (λ d. each_of_all (λ e. Unit {0}) (λ e. tt) (x d))
      (λ d is e part met k. ((meet_ends e.part a part met).2, meet_inside_right e.part a part met)))

  -- each that x has with each that y has, with what their wholes share
  pub heard_join_both : (t : Rational)
      → heard (join_both v x y) t
      ≡ flat_map (λ (l : Arc × Leaf). flat_map (λ (r : Arc × Leaf). valued (meet l.0 r.0) (v l.1 r.1)) (heard y t)) (heard x t)
  unfolding join_both
  heard_join_both t =
      flat_map-flat_map (seen_of t) (boths v (y (floor t))) (x (floor t))
      ∙ flat_map_same (λ l. seen_at t (boths v (y (floor t)) l)) (λ l. flat_map with_each (seen_of t l))
      (λ l. seen-pairs meet v t l (y (floor t))) (x (floor t))
      ∙ sym (flat_map-flat_map with_each (seen_of t) (x (floor t)))
    where
      with_each : Arc × Leaf → List (Arc × Leaf)
      with_each l = flat_map (λ (r : Arc × Leaf). valued (meet l.0 r.0) (v l.1 r.1)) (heard y t)

  pub join_both_repeats : (n : ℕ) → Repeats n x → Repeats n y → Repeats n (join_both v x y)
  unfolding join_both
  join_both_repeats n again_x again_y c =
      ap₂ (λ xs ys. flat_map (boths v ys) xs) (again_x c) (again_y c)
      ∙ flat_map-map (boths v (map (moved (later n)) (y c))) (moved (later n)) (x c)
      ∙ flat_map_same (λ l. boths v (map (moved (later n)) (y c)) (moved (later n) l)) (λ l. map (moved (later n)) (boths v (y c) l))
      (λ l.
      pairs-moved meet v (later n) (keeps-plus (whole (pos n))) (λ a b. meet_through (later n) (keeps-plus (whole (pos n))) a b) l (y c))
      (x c)
      ∙ sym (map-flat_map (moved (later n)) (boths v (y c)) (x c))

-- ---- whichever side gives the wholes
module _ (v : Joining) (x y : Pattern) where
  pub join_proper : (side : Side) → HasProperEvents x → HasProperEvents y → HasProperEvents (join side v x y)
  join_proper Left proper_x proper_y = join_left_proper v x y proper_x
  join_proper Right proper_x proper_y = join_right_proper v x y proper_y
  join_proper Both proper_x proper_y = join_both_proper v x y proper_x proper_y

  pub join_grid : (side : Side) (a b : Bounds) → HasProperEvents x → HasProperEvents y → HasGrid a.grid x → HasGrid b.grid y
      → HasGrid (of_join side a b).grid (join side v x y)
  join_grid Left a b proper_x proper_y on_x on_y = join_left_grid v x y a.grid b.grid proper_x on_x on_y
  join_grid Right a b proper_x proper_y on_x on_y = join_right_grid v x y a.grid b.grid proper_y on_x on_y
  join_grid Both a b proper_x proper_y on_x on_y = join_both_grid v x y a.grid b.grid on_x on_y

  pub join_hang : (side : Side) (a b : Bounds) → HasHang a.hang x → HasHang b.hang y → HasHang (of_join side a b).hang (join side v x y)
  join_hang Left a b hung_x hung_y = join_left_hang v x y a.hang hung_x
  join_hang Right a b hung_x hung_y = join_right_hang v x y b.hang hung_y
  join_hang Both a b hung_x hung_y = join_both_hang v x y a.hang b.hang hung_x hung_y

  pub join_count : (side : Side) (a b : Bounds) → HasProperEvents x → HasProperEvents y → HasHang a.hang x → HasHang b.hang y
      → HasCount a.count x → HasCount b.count y → HasCount (of_join side a b).count (join side v x y)
  join_count Left a b proper_x proper_y hung_x hung_y few_x few_y = join_left_count v x y a.hang a.count b.count proper_x hung_x few_x few_y
  join_count Right a b proper_x proper_y hung_x hung_y few_x few_y = join_right_count v x y b.hang a.count b.count proper_y hung_y few_x few_y
  join_count Both a b proper_x proper_y hung_x hung_y few_x few_y = join_both_count v x y a.count b.count few_x few_y

  pub join_repeats : (side : Side) (n : ℕ) → Repeats n x → Repeats n y → Repeats n (join side v x y)
  join_repeats Left n again_x again_y = join_left_repeats v x y n again_x again_y
  join_repeats Right n again_x again_y = join_right_repeats v x y n again_x again_y
  join_repeats Both n again_x again_y = join_both_repeats v x y n again_x again_y

some_same : {X : Type 0} {a b : X} → Some a ≡ Some b → a ≡ b
some_same e = cc

-- the part that two parts share is in the whole that their side gives
pub part_in_shared : (side : Side) (lw lp rw rp w p : Arc) → IsInside lp lw → IsInside rp rw → shared_whole side lw rw ≡ Some w → meet lp rp ≡ Some p
    → IsInside p w
part_in_shared Left lw lp rw rp w p in_l in_r whole part =
    subst (IsInside p) (some_same whole) (inside_trans p lp lw (meet_inside_left lp rp p part) in_l)
part_in_shared Right lw lp rw rp w p in_l in_r whole part =
    subst (IsInside p) (some_same whole) (inside_trans p rp rw (meet_inside_right lp rp p part) in_r)
part_in_shared Both lw lp rw rp w p in_l in_r whole part =
    meet_greatest lw rw w p whole (inside_trans p lp lw (meet_inside_left lp rp p part) in_l) (inside_trans p rp rw (meet_inside_right lp rp p part) in_r)

-- the cycles of both sides suffice
pub join_cycles : (side : Side) (v : Joining) (x y : Pattern) → HasProperEvents x → HasProperEvents y → (c : ℤ)
    → joined_pairs side v (x c) (y c) ≡ join side v x y c
unfolding join_both
join_cycles Left v x y proper_x proper_y c = sym (join_left_cycles v x y proper_x proper_y c)
join_cycles Right v x y proper_x proper_y c = sym (join_right_cycles v x y proper_x proper_y c)
join_cycles Both v x y proper_x proper_y c = refl
