-- What items make with a leaf on the other side of a join, which lasts as long as its cycle.
use Rattle.std.proofs.Common.{◌≡◌, ℕ, ◌+◌, ◌<◌, ◌≤◌, ℤ, List, [], ◌∷◌, ◌++◌, Option, Some, option_map, length, Result, Ok, OnOk}
use Rattle.std.proofs.Common.{sym, ap, ◌∙◌, subst, arith, append-nil}
use Rattle.std.specs.List.{flat_map, sum_by}
use Rattle.std.proofs.lemmas.List.Folds.{flat_map-map, fold-map}
use Rattle.std.proofs.lemmas.List.Sums.{sum_by-append}
use Rattle.std.proofs.lemmas.Result.{on_ok_weaker}
use Rattle.tdl_control.specs.declared.faults.NoMemory.{NoMemory}
use Rattle.tdl_control.specs.declared.leaves.Leaf.{Leaf}
use Rattle.tdl_fraction.specs.Arc.{Arc, meet}
use Rattle.tdl_fraction.proofs.Arcs.{meet_ends, meet_inside_left}
use Rattle.tdl_event.specs.Event.{Event}
use Rattle.tdl_expr.specs.declared.joinings.Op.{Op}
use Rattle.tdl_expr.specs.declared.joinings.Side.{Side}
use Rattle.tdl_expr.specs.Tree as tree
use Rattle.tdl_meaning.specs.Pattern.{cycle_arc}
use Rattle.tdl_meaning.specs.Meaning.{cyc}
use Rattle.tdl_meaning.specs.Pairs.{made_with}
use Rattle.tdl_meaning.specs.Values.{value_of}
use Rattle.tdl_meaning.specs.inside.Arcs.{over_met}
use Rattle.tdl_meaning.proofs.ByKind.{over-pure}
use Rattle.tdl_visits.specs.inside.Joins.{made_by_whole, visits_by_whole}
use Rattle.tdl_visits.specs.inside.Visits.{visits, if_met}
use Rattle.tdl_grid.specs.Span.{Span, arc_of}
use Rattle.tdl_grid.specs.Item.{Item, event_of, Adds, AddsInEach}
use Rattle.tdl_grid.specs.ItemLaws.{events_of}
use Rattle.tdl_grid.specs.inside.Visited.{Gains}
use Rattle.tdl_grid.proofs.Gained.{adds_as}

module _ (side : Side) (op : Op) (v : Leaf) (whole : Span) (x : Item) (u : ℕ) (h : 0 < u) (c : ℤ) (lasts : arc_of u whole ≡ cycle_arc c) where
  abbrev made : Event → List Event
  made = made_with side (value_of op) (event_of u x)

  -- what the item gains by what the cycle has of its whole
  abbrev GainsBy : Option Arc → Result (Unit {0}) NoMemory → List Item → List Item → ℕ → ℕ → Type 0
  GainsBy met = Gains u (flat_map made (over_met (cyc (tree.Pure v)) met)) (if_met (visits (tree.Pure v) c) met) 1

  abbrev GainsLeaf : Result (Unit {0}) NoMemory → List Item → List Item → ℕ → ℕ → Type 0
  GainsLeaf = Gains u (made_by_whole side op (tree.Pure v) c (event_of u x)) (visits_by_whole (tree.Pure v) c (event_of u x)) 1

  -- the leaf in what the cycle has of the whole
  pub leaf_joined : (part : Span) → option_map (arc_of u) (Some part) ≡ meet (arc_of u whole) (arc_of u x.whole) → (r : Result (Unit {0}) NoMemory)
      (old new : List Item) (s0 s1 : ℕ) → s1 ≡ s0 + 1
      → OnOk r (AddsInEach old new (λ n. made_with side (value_of op) (event_of n x) (event_of n (record { whole = whole; part = part; value = v }))))
      → GainsLeaf r old new s0 s1
  leaf_joined part met r old new s0 s1 tick put =
      let a = arc_of u part in
      let meets : meet (cycle_arc c) (arc_of u x.whole) ≡ Some a = ap (λ w. meet w (arc_of u x.whole)) (sym lasts) ∙ sym met in
      let is_arc = (meet_ends (cycle_arc c) (arc_of u x.whole) a meets).2 in
      let inside = meet_inside_left (cycle_arc c) (arc_of u x.whole) a meets in
      let leaf : Arc → Event = λ w. record { whole = w; part = a; value = v } in
      let same : made (leaf (arc_of u whole)) ≡ flat_map made (over_met (cyc (tree.Pure v)) (Some a)) =
      ap (λ w. made (leaf w)) lasts ∙ sym (append-nil _) ∙ ap (flat_map made) (sym (over-pure v c a is_arc inside)) in
      subst (λ m. GainsBy m r old new s0 s1) (sym meets) (record {
        items = on_ok_weaker r (λ adds. adds_as u old new _ _ same (adds u h)) put;
        exact = on_ok_weaker r (λ _. tick) put;
        few = omega (arith, tick);
      })

-- ---- item by item
module _ (side : Side) (op : Op) (v : Leaf) (c : ℤ) (u : ℕ) where
  abbrev makes : Item → List Event
  makes i = made_by_whole side op (tree.Pure v) c (event_of u i)

  abbrev takes : Item → ℕ
  takes i = visits_by_whole (tree.Pure v) c (event_of u i)

  pub taken_more : (so_far : List Item) (x : Item) (s0 s1 s2 : ℕ) → s1 ≡ s0 + sum_by takes so_far → s2 ≡ s1 + takes x
      → s2 ≡ s0 + sum_by takes (so_far ++ x ∷ [])
  taken_more so_far x s0 s1 s2 before next = omega (arith, before, next, sum_by-append takes so_far (x ∷ []))

  -- in the end, what all do
  pub all_gained : (givers old new : List Item) (s0 s1 : ℕ) → Adds u old new (flat_map makes givers) → s1 ≡ s0 + sum_by takes givers
      → s1 ≤ s0 + length givers
      → Gains u (flat_map (made_by_whole side op (tree.Pure v) c) (events_of u givers)) (sum_by (visits_by_whole (tree.Pure v) c) (events_of u givers))
      (length givers) (Ok tt) old new s0 s1
  all_gained givers old new s0 s1 items exact few = record {
    items = adds_as u old new _ _ (sym (flat_map-map (made_by_whole side op (tree.Pure v) c) (event_of u) givers)) items;
    exact = exact ∙ ap (λ n. s0 + n) (sym (fold-map (λ (n : ℕ) (x : Event). n + visits_by_whole (tree.Pure v) c x) (event_of u) 0 givers));
    few = few;
  }
