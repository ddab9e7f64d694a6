-- A child that is asked for another arc, and whose events are moved: at a rate, turned round, or later.
use Rattle.std.proofs.Common.{◌≡◌, ℕ, ◌+◌, ◌*◌, List}
use Rattle.std.proofs.Common.{◌++◌, map, length, Result, ℤ, pos}
use Rattle.std.proofs.Common.{sym, ap, ◌∙◌}
use Rattle.std.proofs.lemmas.Result.{IfOk-equal, on_ok_weaker}
use Rattle.tdl_control.specs.declared.faults.NoMemory.{NoMemory}
use Rattle.tdl_fraction.specs.Rational.{Rational, whole, ◌-ℚ◌, ◌*ℚ◌, ◌/ℚ◌, ◌<ℚ◌}
use Rattle.tdl_fraction.specs.Arc.{Arc, IsArc, IsInside, map_arc}
use Rattle.tdl_event.specs.Event.{Event}
use Rattle.tdl_expr.specs.Tree.{Tree, Fast, Rev, Shift}
use Rattle.tdl_expr.specs.Bounds.{bounds}
use Rattle.tdl_meaning.specs.declared.motions.Motion.TheVariants.{Slower, Shifted}
use Rattle.tdl_meaning.specs.Pattern.{Pattern, over, cycle_arc, cycles_of, moved, fast, rev, turned_event}
use Rattle.tdl_meaning.specs.Pattern.{turned}
use Rattle.tdl_meaning.specs.Meaning.{cyc}
use Rattle.tdl_meaning.specs.Proper.{HasProperEvents}
use Rattle.tdl_meaning.specs.Motions.{time_at}
use Rattle.tdl_meaning.proofs.Proper.{proper}
use Rattle.tdl_meaning.proofs.ByKind.{over-fast, over-rev}
use Rattle.tdl_visits.specs.inside.Visits.{visits_in}
use Rattle.tdl_visits.specs.inside.Visited.{Ask, MayVisit, Adds, IsVisit}
use Rattle.tdl_visits.proofs.Shifts.{shift_over, at_shift}
use Rattle.tdl_visits.proofs.FewSteps.{at_rate}
use Rattle.tdl_visits.proofs.Visits.{for_child}

fast_over : (r : Rational) (p : Pattern) (c : ℤ) (a ask : Arc) → whole (pos 0) <ℚ r → HasProperEvents p → IsArc a → IsInside a (cycle_arc c)
    → ask ≡ map_arc (λ t. t *ℚ r) a → map (moved (λ t. t /ℚ r)) (over p ask) ≡ over (fast r p) a
fast_over r p c a ask positive well h inside is = ap (λ b. map (moved (λ t. t /ℚ r)) (over p b)) is ∙ sym (over-fast r p positive well c a h inside)

rev_over : (p : Pattern) (c : ℤ) (a ask : Arc) → IsArc a → IsInside a (cycle_arc c) → ask ≡ turned c a
    → map (turned_event c) (over p ask) ≡ over (rev p) a
rev_over p c a ask h inside is = ap (λ b. map (turned_event c) (over p b)) is ∙ sym (over-rev p c a h inside)

-- ---- at a rate
module _ (rate : Rational) (e : Tree) (ask : Ask) (there : Arc) (asks : there ≡ map_arc (λ t. t *ℚ rate) ask.arc)
    (visit : MayVisit (Fast rate e) ask) where
  pub fast_visit : (r : Result (Unit {0}) NoMemory) (old new : List Event) (s0 s1 : ℕ)
      → Adds (map (moved (time_at (Slower rate))) (over (cyc e) there)) (visits_in e there) (length (cycles_of there) * (bounds e).load) r old new s0 s1
      → IsVisit (Fast rate e) ask r old new s0 (s1 + 1)
  fast_visit r old new s0 s1 h =
      let valid = visit.may.room.valid in
      let is_arc = visit.may.asked.is_arc in
      let made = fast_over rate (cyc e) ask.cycle ask.arc there valid.0 (proper e valid.1) is_arc visit.inside asks in
      record {
        events = IfOk-equal r new _ _ h.events (ap (λ es. old ++ es) made);
        exact = on_ok_weaker r (λ more. for_child _ _ _ _ more (ap (visits_in e) asks)) h.exact;
        few = at_rate rate ask.cycle ask.arc there _ _ _ valid.0 is_arc visit.inside asks h.few;
      }

-- ---- later
module _ (by : Rational) (e : Tree) (ask : Ask) (there : Arc) (asks : there ≡ map_arc (λ t. t -ℚ by) ask.arc) (visit : MayVisit (Shift by e) ask) where
  pub shift_visit : (r : Result (Unit {0}) NoMemory) (old new : List Event) (s0 s1 : ℕ)
      → Adds (map (moved (time_at (Shifted by))) (over (cyc e) there)) (visits_in e there) (length (cycles_of there) * (bounds e).load) r old new s0 s1
      → IsVisit (Shift by e) ask r old new s0 (s1 + 1)
  shift_visit r old new s0 s1 h =
      let is_arc = visit.may.asked.is_arc in
      let made = shift_over by (cyc e) ask.cycle ask.arc there (proper e visit.may.room.valid) is_arc visit.inside asks in
      record {
        events = IfOk-equal r new _ _ h.events (ap (λ es. old ++ es) made);
        exact = on_ok_weaker r (λ more. for_child _ _ _ _ more (ap (visits_in e) asks)) h.exact;
        few = at_shift by ask.cycle ask.arc there _ _ _ is_arc visit.inside asks h.few;
      }

-- ---- turned round
module _ (e : Tree) (ask : Ask) (there : Arc) (asks : there ≡ turned ask.cycle ask.arc) (visit : MayVisit (Rev e) ask) where
  pub rev_made : map (turned_event ask.cycle) (over (cyc e) there) ≡ over (rev (cyc e)) ask.arc
  rev_made = rev_over (cyc e) ask.cycle ask.arc there visit.may.asked.is_arc visit.inside asks
