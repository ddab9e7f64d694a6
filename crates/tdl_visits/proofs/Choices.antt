-- What a selector chooses among children.
use Rattle.std.proofs.Common.{◌≡◌, ℕ, ◌+◌, ◌*◌, ◌<◌, ◌≤◌, List, []}
use Rattle.std.proofs.Common.{◌++◌, length, get_or, Result, Ok, ℤ}
use Rattle.std.proofs.Common.{sym, ap, ◌∙◌, subst, arith}
use Rattle.std.specs.List.{flat_map, sum_by}
use Rattle.std.proofs.lemmas.Result.{IfOk-equal, on_ok_weaker}
use Rattle.tdl_control.specs.declared.faults.NoMemory.{NoMemory}
use Rattle.tdl_control.specs.declared.leaves.Leaf.TheVariants.{Index}
use Rattle.tdl_fraction.specs.Arc.{Arc, IsInside}
use Rattle.tdl_fraction.proofs.Arcs.{inside_trans}
use Rattle.tdl_event.specs.Event.{Event}
use Rattle.tdl_expr.specs.declared.ids.NodeId.{NodeId}
use Rattle.tdl_expr.specs.Tree.{Tree, Trees}
use Rattle.tdl_expr.specs.Tree as tree
use Rattle.tdl_expr.specs.Bounds.{bounds, bounds_of, loads, grid, hang}
use Rattle.tdl_expr.specs.Rows.{row, in_order}
use Rattle.tdl_meaning.specs.Pattern.{Pattern, over, cycle_arc, pick, picked}
use Rattle.tdl_meaning.specs.Meaning.{cyc, patterns}
use Rattle.tdl_meaning.specs.Proper.{Each, HasProperEvents}
use Rattle.tdl_meaning.specs.Ranges.{IsInRange}
use Rattle.tdl_meaning.specs.inside.Conditions.{MayAsk}
use Rattle.tdl_meaning.proofs.Lists.{each_weaker}
use Rattle.tdl_meaning.proofs.Proper.{propers}
use Rattle.tdl_meaning.proofs.Sizes.{range}
use Rattle.tdl_meaning.proofs.ByKind.{over-pick}
use Rattle.tdl_meaning.proofs.Added.{nothing_added}
use Rattle.tdl_meaning.proofs.Counts.{counted_inside}
use Rattle.tdl_meaning.proofs.PlainLemmas.{choice_made, no_choice}
use Rattle.tdl_visits.specs.inside.Visits.{visits, visits_at}
use Rattle.tdl_visits.specs.inside.Visited.{Ask, MayVisit, Adds, IsVisit}
use Rattle.tdl_visits.proofs.FewSteps.{of_choices, load_of}
use Rattle.tdl_visits.proofs.Visits.{both_taken, none_taken, choice_visits, no_visits}

pick_over : (s : Pattern) (trees : Trees) (a : Arc) (events : List Event) → Each HasProperEvents (patterns trees) → events ≡ over s a
    → flat_map (λ (e : Event). picked (patterns trees) e.part e.value) events ≡ over (pick s (patterns trees)) a
pick_over s trees a events well made =
    ap (flat_map (λ (x : Event). picked (patterns trees) x.part x.value)) made ∙ sym (over-pick s (patterns trees) well a)

choices_inside : (s : Tree) (trees : Trees) (c : ℤ) (a : Arc) (events : List Event) → events ≡ over (cyc s) a → MayAsk (tree.Pick s trees) a
    → IsInside a (cycle_arc c) → Each (λ (e : Event). IsInside e.part (cycle_arc c)) events
choices_inside s trees c a events made may inside =
    subst (Each (λ (e : Event). IsInside e.part (cycle_arc c))) (sym made)
    (each_weaker (IsInRange (grid s) (hang s) a) (λ (e : Event). IsInside e.part (cycle_arc c))
    (λ x is. inside_trans x.part a (cycle_arc c) is.proper.in_arc inside) (over (cyc s) a) (range s may.room.valid.0 a may.asked.is_arc))

module _ (selector : Tree) (trees : Trees) (ask : Ask) (visit : MayVisit (tree.Pick selector trees) ask) (none events : List Event)
    (empty : none ≡ []) (added : events ≡ none ++ over (cyc selector) ask.arc) where
  made : events ≡ over (cyc selector) ask.arc
  made = added ∙ ap (λ es. es ++ over (cyc selector) ask.arc) empty

  pub each_inside : Each (λ (e : Event). IsInside e.part (cycle_arc ask.cycle)) events
  each_inside = choices_inside selector trees ask.cycle ask.arc events made visit.may visit.inside

  most : length events ≤ (bounds selector).count
  most =
      subst (λ es. length es ≤ (bounds selector).count) (sym made)
      (counted_inside selector visit.may.room.valid.0 ask.cycle ask.arc visit.may.asked.is_arc visit.inside)

  pub pick_visit : (r : Result (Unit {0}) NoMemory) (old new : List Event) (s0 s1 s2 : ℕ) → s1 ≡ s0 + visits selector ask.cycle ask.arc
      → s1 ≤ s0 + (bounds selector).load
      → Adds (flat_map (λ (e : Event). picked (patterns trees) e.part e.value) events) (sum_by (visits_at trees ask.cycle) events)
      (length events * loads (bounds_of trees)) r old new s1 s2
      → IsVisit (tree.Pick selector trees) ask r old new s0 (s2 + 1)
  pick_visit r old new s0 s1 s2 taken few h = record {
    events = IfOk-equal r new _ _ h.events (ap (λ es. old ++ es) (pick_over (cyc selector) trees ask.arc events (propers trees visit.may.room.valid.1) made));
    exact = on_ok_weaker r (λ more. both_taken _ _ _ _ _ _ taken more (ap (sum_by (visits_at trees ask.cycle)) made)) h.exact;
    few = of_choices _ _ _ _ _ _ _ most few h.few;
  }

-- ---- the child that an event chooses
module _ (trees : List Tree) (c : ℤ) (ids : List NodeId) (k : ℕ) (event seen : Event) (same : event ≡ seen) (value : event.value ≡ Index k) where
  pub chosen_visit : (x : NodeId) (r : Result (Unit {0}) NoMemory) (old new : List Event) (s0 s1 : ℕ) → k < length ids → x ≡ get_or ids k x
      → IsVisit (row trees x) (record { cycle = c; arc = event.part }) r old new s0 s1
      → Adds (picked (patterns (in_order trees ids)) seen.part seen.value) (visits_at (in_order trees ids) c seen)
      (loads (bounds_of (in_order trees ids))) r old new s0 s1
  chosen_visit x r old new s0 s1 within at h =
      let all = ap (λ (e : Event). picked (patterns (in_order trees ids)) e.part e.value) same in
      let counted = ap (visits_at (in_order trees ids) c) same in
      record {
        events = IfOk-equal r new _ _ h.events (ap (λ es. old ++ es) (choice_made trees ids k x event within at value ∙ all));
        exact = IfOk-equal r s1 _ _ h.exact (ap (λ n. s0 + n) (choice_visits trees c ids k x event within at value ∙ counted));
        few = omega (arith, h.few, load_of trees ids k x within at);
      }

  pub none_chosen_visit : (old : List Event) (s : ℕ) → length ids ≤ k
      → Adds (picked (patterns (in_order trees ids)) seen.part seen.value) (visits_at (in_order trees ids) c seen)
      (loads (bounds_of (in_order trees ids))) (Ok tt) old old s s
  none_chosen_visit old s past =
      let all = ap (λ (e : Event). picked (patterns (in_order trees ids)) e.part e.value) same in
      let counted = ap (visits_at (in_order trees ids) c) same in
      record {
        events = nothing_added old _ (sym (no_choice trees ids k event past value ∙ all));
        exact = none_taken _ _ (sym counted ∙ no_visits trees c ids k event past value);
        few = omega arith;
      }
