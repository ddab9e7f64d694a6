-- What a selector chooses among children, in the unit of the choice.
use Rattle.std.proofs.Common.{◌≡◌, ℕ, ◌+◌, ◌*◌, ◌<◌, ◌≤◌, ◌^◌, ◌⊎◌, ⊎_elim, Contains, List, [], length, get_or, Result, Ok, ℤ, refl, sym, ap, ◌∙◌, subst, arith}
use Rattle.std.specs.List.{flat_map, sum_by}
use Rattle.std.proofs.lemmas.List.{length-map, get_or-map}
use Rattle.std.proofs.lemmas.Result.{on_ok_weaker}
use native.Mathlib.Nat.{dvd_trans}
use Rattle.tdl_control.specs.declared.faults.NoMemory.{NoMemory}
use Rattle.tdl_control.specs.declared.leaves.Leaf.TheVariants.{Index}
use Rattle.tdl_fraction.specs.Divisor.{lcm}
use Rattle.tdl_fraction.specs.Rational.{Rational, IsMultiple}
use Rattle.tdl_fraction.specs.Arc.{Arc, IsInside}
use Rattle.tdl_fraction.proofs.Order.{≤ℚ_trans}
use Rattle.tdl_fraction.proofs.Multiples.{multiple_lcm_left, multiple_lcm_right}
use Rattle.tdl_fraction.proofs.Coprime.{divides_lcm_left, divides_lcm_right}
use Rattle.tdl_event.specs.Event.{Event}
use Rattle.tdl_expr.specs.declared.ids.NodeId.{NodeId}
use Rattle.tdl_expr.specs.Tree.{Tree, Trees}
use Rattle.tdl_expr.specs.Tree as tree
use Rattle.tdl_expr.specs.Bounds.{bounds, bounds_of, loads, grid, grids, hang}
use Rattle.tdl_expr.specs.Rows.{row, in_order}
use Rattle.tdl_expr.proofs.Numbers.{grid_positive, le_lcm_right}
use Rattle.tdl_meaning.specs.Pattern.{over, cycle_arc, picked}
use Rattle.tdl_meaning.specs.Meaning.{cyc, patterns}
use Rattle.tdl_meaning.specs.Proper.{Each}
use Rattle.tdl_meaning.specs.Ranges.{IsAsked, IsInRange}
use Rattle.tdl_meaning.specs.Asks.{IsChild}
use Rattle.tdl_meaning.specs.inside.Conditions.{MayAsk}
use Rattle.tdl_meaning.proofs.Asked.{room_chosen}
use Rattle.tdl_meaning.proofs.Lists.{each_contained, each_unmap}
use Rattle.tdl_meaning.proofs.Sizes.{range}
use Rattle.tdl_meaning.proofs.Proper.{propers}
use Rattle.tdl_meaning.proofs.ByKind.{over-pick}
use Rattle.tdl_meaning.proofs.PlainLemmas.{choice_made, no_choice, each_contained_in}
use Rattle.tdl_visits.specs.inside.Visits.{visits, visits_at}
use Rattle.tdl_visits.specs.inside.Visited.{Adds as AddsEvents}
use Rattle.tdl_visits.proofs.Choices as times
use Rattle.tdl_grid.specs.Span.{arc_of}
use Rattle.tdl_grid.specs.Item.{Item, event_of, Adds}
use Rattle.tdl_grid.specs.ItemLaws.{events_of}
use Rattle.tdl_grid.specs.declared.asks.CountAsk.{CountAsk}
use Rattle.tdl_grid.specs.inside.Asked.{IsUnit, MayCount, MayCountEach, MayCountVisit, time_ask}
use Rattle.tdl_grid.specs.inside.Visited.{Gains, IsVisit}
use Rattle.tdl_grid.proofs.Gained.{adds_as, adds_none}
use Rattle.tdl_grid.proofs.Gaining.{may_visit, in_times}
use Rattle.tdl_grid.proofs.Stacked.{child_grid}
use Rattle.tdl_grid.proofs.Cut.{all_play}

-- ---- the events of a list, by place
module _ (u : ℕ) (items : List Item) (i : ℕ) where
  pub event_within : i < length items → i < length (events_of u items)
  event_within h = omega (arith, h, length-map items (event_of u))

  pub event_at : (x : Item) → i < length items → x ≡ get_or items i x → event_of u x ≡ get_or (events_of u items) i (event_of u x)
  event_at x h is = ap (event_of u) is ∙ sym (get_or-map (event_of u) items i x (event_of u x) h)

  pub event_past : length items ≤ i → length (events_of u items) ≤ i
  event_past h = omega (arith, h, length-map items (event_of u))

-- ---- what is asked
-- the selector may be asked what the choice may
abbrev may_select : (s : Tree) (trees : Trees) (a : Arc) → MayAsk (tree.Pick s trees) a → MayAsk s a
may_select s trees a may = record {
  q = may.q;
  m = may.m;
  room = record {
    valid = may.room.valid.0;
    on_grid = may.room.on_grid;
    not_too_fine = omega (arith, may.room.not_too_fine);
    not_too_far = omega (arith, may.room.not_too_far);
  };
  asked = may.asked;
}

-- the unit of a choice is one of a child, which is asked on the selector's grid too
chosen_unit : (s : Tree) (trees : Trees) (k : ℕ) (e : Tree) (u q : ℕ) → IsChild k trees e → 0 < grid s → 0 < q → IsUnit u (tree.Pick s trees) q
    → IsUnit u e (lcm (grid s) q)
chosen_unit s trees k e u q is hs hq unit = record {
  positive = unit.positive;
  divides = dvd_trans (grid e) (dvd_trans (grid e) (child_grid is) (divides_lcm_right (grid s) (grids (bounds_of trees)))) unit.divides;
  small = finer u q (lcm (grid s) q) unit.small (le_lcm_right (grid s) q hs hq);
}
  where
    finer : (u q p : ℕ) → u ≤ q * 2 ^ 44 → q ≤ p → u ≤ p * 2 ^ 44
    finer u q p h le = omega (arith, h, le)

-- the part of an event of the selector lies on both grids, and within what is asked
part_asked : (s : Tree) (trees : Trees) (a : Arc) (ev : Event) → Contains (over (cyc s) a) ev → (may : MayAsk (tree.Pick s trees) a)
    → IsAsked (lcm (grid s) may.q) may.m ev.part
part_asked s trees a ev has may =
    let q = may.q in
    let g = grid s in
    let known = each_contained (IsInRange g (hang s) a) (over (cyc s) a) ev (range s may.room.valid.0 a may.asked.is_arc) has in
    let on : (t end : Rational) → IsMultiple q end → IsMultiple g t ⊎ (t ≡ end) → IsMultiple (lcm g q) t =
    λ t end asked either. ⊎_elim (λ h. multiple_lcm_left q h) (λ same. multiple_lcm_right g (subst (IsMultiple q) (sym same) asked)) either in
    record {
      is_arc = known.proper.width;
      on_grid = record {
        start = on ev.part.start a.start may.asked.on_grid.start known.gridded.part_start;
        stop = on ev.part.stop a.stop may.asked.on_grid.stop known.gridded.part_stop;
      };
      from = ≤ℚ_trans may.asked.from known.proper.in_arc.0;
      to = ≤ℚ_trans known.proper.in_arc.1 may.asked.to;
    }

-- each child may be asked for it
may_choose : (s : Tree) (trees : Trees) (u : ℕ) (a : Arc) → MayCount (tree.Pick s trees) u a
    → Each (λ (e : Event). MayCountEach trees u e.part) (over (cyc s) a)
may_choose s trees u a count =
    let may = count.may in
    each_contained_in (λ (e : Event). MayCountEach trees u e.part) (over (cyc s) a)
    (λ x in_it k e child. record {
      may = record {
        q = lcm (grid s) may.q;
        m = may.m;
        room = room_chosen may.q may.m k s trees e child may.room;
        asked = part_asked s trees a x in_it may;
      };
      unit = chosen_unit s trees k e u may.q child (grid_positive s may.room.valid.0) may.room.on_grid count.unit;
    })

module _ (selector : Tree) (trees : Trees) (ask : CountAsk) (visit : MayCountVisit (tree.Pick selector trees) ask) where
  pub pick_selector : MayCountVisit selector ask
  pick_selector = record {
    count = record {
      may = may_select selector trees (arc_of ask.unit ask.arc) visit.count.may;
      unit = record {
        positive = visit.count.unit.positive;
        divides = dvd_trans (grid selector) (divides_lcm_left (grid selector) (grids (bounds_of trees))) visit.count.unit.divides;
        small = visit.count.unit.small;
      };
    };
    inside = visit.inside;
  }

  module _ (none items : List Item) (empty : none ≡ []) (added : Adds ask.unit none items (over (cyc selector) (arc_of ask.unit ask.arc))) where
    made : events_of ask.unit items ≡ over (cyc selector) (arc_of ask.unit ask.arc)
    made = all_play ask.unit none items _ empty added

    pub each_may : Each (λ (i : Item). MayCountEach trees ask.unit (arc_of ask.unit i.part)) items
    each_may =
        let P = λ (e : Event). MayCountEach trees ask.unit e.part in
        each_unmap P (event_of ask.unit) items
        (subst (Each P) (sym made) (may_choose selector trees ask.unit (arc_of ask.unit ask.arc) visit.count))

    pub each_inside : Each (λ (i : Item). IsInside (arc_of ask.unit i.part) (cycle_arc ask.cycle)) items
    each_inside =
        each_unmap (λ (e : Event). IsInside e.part (cycle_arc ask.cycle)) (event_of ask.unit) items
        (times.each_inside selector trees (time_ask ask) (may_visit (tree.Pick selector trees) ask visit) [] (events_of ask.unit items) refl made)

    -- what the selector takes and what its items choose
    pub pick_gains : (r : Result (Unit {0}) NoMemory) (old new : List Item) (s0 s1 s2 : ℕ)
        → s1 ≡ s0 + visits selector ask.cycle (arc_of ask.unit ask.arc) → s1 ≤ s0 + (bounds selector).load
        → Gains ask.unit (flat_map (λ (e : Event). picked (patterns trees) e.part e.value) (events_of ask.unit items))
        (sum_by (visits_at trees ask.cycle) (events_of ask.unit items)) (length items * loads (bounds_of trees)) r old new s1 s2
        → IsVisit (tree.Pick selector trees) ask r old new s0 (s2 + 1)
    pick_gains r old new s0 s1 s2 taken few h =
        let events = events_of ask.unit items in
        let chosen = flat_map (λ (e : Event). picked (patterns trees) e.part e.value) events in
        let takes = sum_by (visits_at trees ask.cycle) events in
        let child = subst (λ n. AddsEvents chosen takes (n * loads (bounds_of trees)) r [] chosen s1 s2) (sym (length-map items (event_of ask.unit)))
        (in_times ask.unit chosen takes _ r old new s1 s2 h) in
        let all = times.pick_visit selector trees (time_ask ask) (may_visit (tree.Pick selector trees) ask visit) [] events refl made
        r [] chosen s0 s1 s2 taken few child in
        let pick_over = ap (flat_map (λ (e : Event). picked (patterns trees) e.part e.value)) made
        ∙ sym (over-pick (cyc selector) (patterns trees) (propers trees visit.count.may.room.valid.1) (arc_of ask.unit ask.arc)) in
        record { items = on_ok_weaker r (adds_as ask.unit old new _ _ pick_over) h.items; exact = all.exact; few = all.few }

-- ---- the child that an item chooses
module _ (trees : List Tree) (u : ℕ) (c : ℤ) (ids : List NodeId) (k : ℕ) (item seen : Item) (same : item ≡ seen) (value : item.value ≡ Index k) where
  pub chosen_gains : (x : NodeId) (r : Result (Unit {0}) NoMemory) (old new : List Item) (s0 s1 : ℕ) → k < length ids → x ≡ get_or ids k x
      → IsVisit (row trees x) (record { cycle = c; unit = u; arc = item.part }) r old new s0 s1
      → Gains u (picked (patterns (in_order trees ids)) (arc_of u seen.part) seen.value) (visits_at (in_order trees ids) c (event_of u seen))
      (loads (bounds_of (in_order trees ids))) r old new s0 s1
  chosen_gains x r old new s0 s1 within at h =
      let child = in_times u _ _ _ r old new s0 s1 h in
      let all = times.chosen_visit trees c ids k (event_of u item) (event_of u seen) (ap (event_of u) same) value x r [] _ s0 s1 within at child in
      let made = choice_made trees ids k x (event_of u item) within at value
      ∙ ap (λ (i : Item). picked (patterns (in_order trees ids)) (arc_of u i.part) i.value) same in
      record { items = on_ok_weaker r (adds_as u old new _ _ made) h.items; exact = all.exact; few = all.few }

  pub none_gained : (old : List Item) (s : ℕ) → length ids ≤ k
      → Gains u (picked (patterns (in_order trees ids)) (arc_of u seen.part) seen.value) (visits_at (in_order trees ids) c (event_of u seen))
      (loads (bounds_of (in_order trees ids))) (Ok tt) old old s s
  none_gained old s past =
      let all = times.none_chosen_visit trees c ids k (event_of u item) (event_of u seen) (ap (event_of u) same) value [] s past in
      let made = no_choice trees ids k (event_of u item) past value
      ∙ ap (λ (i : Item). picked (patterns (in_order trees ids)) (arc_of u i.part) i.value) same in
      record { items = adds_as u old old _ _ made (adds_none u old old refl); exact = all.exact; few = all.few }
