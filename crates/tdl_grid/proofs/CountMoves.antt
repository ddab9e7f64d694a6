-- A child on counts whose answer is moved: later by some time, or turned round in its cycle. The program's count n of the move is
-- passed on as it reads it.
use Rattle.std.proofs.Common.{◌≡◌, ℕ, ◌+◌, ◌*◌, ◌/◌, ◌^◌, ◌≤◌, List, [], ◌++◌, map, take, drop, length, Result}
use Rattle.std.proofs.Common.{ℤ, pos, ◌+ℤ◌, ◌-ℤ◌, ◌*ℤ◌, nat_abs, sym, ap, ◌∙◌, subst, arith}
use Rattle.std.specs.Int.{◌∣◌}
use Rattle.std.proofs.Math.Nat.{div-mul_cancel}
use native.Mathlib.Nat.{dvd_trans}
use Rattle.tdl_control.specs.declared.faults.NoMemory.{NoMemory}
use Rattle.tdl_fraction.specs.Rational.{Rational, ◌+ℚ◌, ◌-ℚ◌}
use Rattle.tdl_fraction.specs.Arc.{IsInside, map_arc}
use Rattle.tdl_fraction.proofs.Multiples.{whole_multiple, multiple_minus}
use Rattle.tdl_fraction.proofs.Coprime.{divides_lcm_left, divides_lcm_right}
use Rattle.tdl_fraction.proofs.Over.{den_positive}
use Rattle.tdl_expr.specs.Tree.{Tree, Rev, Shift}
use Rattle.tdl_expr.specs.Bounds.{grid, shift_ask, shift_far}
use Rattle.tdl_expr.proofs.Numbers.{le_lcm_left}
use Rattle.tdl_meaning.specs.Pattern.{over, cycle_arc, moved, turned, turned_event}
use Rattle.tdl_meaning.specs.Meaning.{cyc}
use Rattle.tdl_meaning.specs.Proper.{Each}
use Rattle.tdl_meaning.specs.Ranges.{IsAsked}
use Rattle.tdl_meaning.proofs.Proper.{proper}
use Rattle.tdl_meaning.proofs.ByKind.{turned_is_arc, turned_inside_cycle}
use Rattle.tdl_meaning.proofs.Asked.{shift_asked, low_cycle, high_cycle, room_shift, room_rev}
use Rattle.tdl_visits.specs.inside.Visits.{visits}
use Rattle.tdl_visits.specs.inside.Visited.{IsVisit as IsTimeVisit}
use Rattle.tdl_visits.proofs.Asking.{one_cycle_of}
use Rattle.tdl_visits.proofs.Shifts.{shift_over}
use Rattle.tdl_visits.proofs.MovedChild as times
use Rattle.tdl_grid.specs.Span.{Span, earlier_span, turn_span, arc_of}
use Rattle.tdl_grid.specs.Item.{Item, HasCounts, delayed, turned_item, event_of, Adds}
use Rattle.tdl_grid.specs.declared.asks.CountAsk.{CountAsk}
use Rattle.tdl_grid.specs.inside.Asked.{MayCount, MayCountVisit}
use Rattle.tdl_grid.specs.inside.Visited.{IsVisits}
use Rattle.tdl_grid.proofs.Sums.{read}
use Rattle.tdl_grid.proofs.SpanArcs.{span_shifted, span_turned}
use Rattle.tdl_grid.proofs.Moved.{items_shifted, items_turned}
use Rattle.tdl_grid.proofs.Gaining.{may_visit}
use Rattle.tdl_grid.proofs.Children.{in_times_as, count_read, asked_within, moved_counts, moved_there}

-- ---- later
module _ (t : Rational) (e : Tree) (ask : CountAsk) (visit : MayCountVisit (Shift t e) ask) where
  pub shift_divides : t.den ∣ ask.unit
  shift_divides = dvd_trans t.den (divides_lcm_right (grid e) t.den) visit.count.unit.divides

  abbrev x : ℕ
  x = ask.unit / t.den

  whole_count : x * t.den ≡ ask.unit
  whole_count = div-mul_cancel t.den shift_divides

  module _ (n : ℤ) (bound : nat_abs n ≤ 2 ^ 126) (value : (x : ℕ) → x * t.den ≡ ask.unit → n ≡ t.num *ℤ pos x) (there : Span)
      (asks : there ≡ earlier_span (read n) ask.arc) where
    by_is : read n ≡ t.num *ℤ pos x
    by_is = count_read n bound ∙ value x whole_count

    earlier_is : arc_of ask.unit there ≡ map_arc (λ s. s -ℚ t) (arc_of ask.unit ask.arc)
    earlier_is =
        ap (arc_of ask.unit) asks ∙ ap (λ k. arc_of ask.unit (earlier_span k ask.arc)) by_is
        ∙ span_shifted ask.unit x visit.count.unit.positive t whole_count ask.arc

    pub shift_child : MayCount e ask.unit (arc_of ask.unit there)
    shift_child = subst (MayCount e ask.unit) (sym earlier_is) (record {
      may = record {
        q = shift_ask t visit.count.may.q;
        m = shift_far t visit.count.may.m;
        room = room_shift visit.count.may.q visit.count.may.m t e visit.count.may.room;
        asked = shift_asked visit.count.may.q visit.count.may.m t (arc_of ask.unit ask.arc) visit.count.may.asked;
      };
      unit = record {
        positive = visit.count.unit.positive;
        divides = dvd_trans (grid e) (divides_lcm_left (grid e) t.den) visit.count.unit.divides;
        small = omega (arith, visit.count.unit.small, le_lcm_left visit.count.may.q t.den visit.count.may.room.on_grid (den_positive t));
      };
    })

    shift_items : (items : List Item) → map (event_of ask.unit) (map (delayed (read n)) items) ≡ map (moved (λ s. s +ℚ t)) (map (event_of ask.unit) items)
    shift_items items =
        ap (λ k. map (event_of ask.unit) (map (delayed k) items)) by_is ∙ items_shifted ask.unit x visit.count.unit.positive t whole_count items

    shift_makes : map (moved (λ s. s +ℚ t)) (over (cyc e) (arc_of ask.unit there)) ≡ over (cyc (Shift t e)) (arc_of ask.unit ask.arc)
    shift_makes =
        shift_over t (cyc e) ask.cycle (arc_of ask.unit ask.arc) (arc_of ask.unit there) (proper e visit.count.may.room.valid)
        visit.count.may.asked.is_arc visit.inside earlier_is

    pub shift_counts : (out mid : List Item) (from : ℕ) → from ≡ length out → Adds ask.unit out mid (over (cyc e) (arc_of ask.unit there))
        → Each HasCounts (map (delayed (read n)) (drop from mid))
    shift_counts = moved_counts (Shift t e) ask.unit _ visit.count ask.unit (delayed (read n)) _ shift_items _ shift_makes

    pub shift_there : (out mid : List Item) (from : ℕ) → from ≡ length out → Adds ask.unit out mid (over (cyc e) (arc_of ask.unit there)) → (new : List Item)
        → new ≡ take from mid ++ map (delayed (read n)) (drop from mid) → Adds ask.unit out new (over (cyc (Shift t e)) (arc_of ask.unit ask.arc))
    shift_there = moved_there (Shift t e) ask.unit _ visit.count ask.unit (delayed (read n)) _ shift_items _ shift_makes

    -- the steps of the whole
    pub shift_steps : (res : Result (Unit {0}) NoMemory) (out out' : List Item) (s0 s1 : ℕ) → IsVisits e ask.unit (arc_of ask.unit there) res out out' s0 s1
        → IsTimeVisit (Shift t e) (record { cycle = ask.cycle; arc = arc_of ask.unit ask.arc }) res []
        (map (moved (λ s. s +ℚ t)) (over (cyc e) (arc_of ask.unit there))) s0 (s1 + 1)
    shift_steps res out out' s0 s1 h =
        times.shift_visit t e (record { cycle = ask.cycle; arc = arc_of ask.unit ask.arc }) (arc_of ask.unit there) earlier_is
        (may_visit (Shift t e) ask visit) res [] _ s0 s1
        (in_times_as _ ask.unit _ _ _ res out out' s0 s1 h)

-- ---- turned round
module _ (e : Tree) (ask : CountAsk) (visit : MayCountVisit (Rev e) ask) (n : ℤ) (bound : nat_abs n ≤ 2 ^ 126)
    (value : n ≡ (ask.cycle +ℤ ask.cycle +ℤ pos 1) *ℤ pos ask.unit) (there : Span) (asks : there ≡ turn_span (λ k. read n -ℤ k) ask.arc) where
  round_is : read n ≡ (ask.cycle +ℤ ask.cycle +ℤ pos 1) *ℤ pos ask.unit
  round_is = count_read n bound ∙ value

  turned_is : arc_of ask.unit there ≡ turned ask.cycle (arc_of ask.unit ask.arc)
  turned_is =
      ap (arc_of ask.unit) asks ∙ ap (λ k. arc_of ask.unit (turn_span (λ i. k -ℤ i) ask.arc)) round_is
      ∙ span_turned ask.unit visit.count.unit.positive ask.cycle ask.arc

  turned_asked : IsAsked visit.count.may.q visit.count.may.m (turned ask.cycle (arc_of ask.unit ask.arc))
  turned_asked =
      let q = visit.count.may.q in
      let c = ask.cycle in
      let a = arc_of ask.unit ask.arc in
      let asked = visit.count.may.asked in
      let at = one_cycle_of c a asked.is_arc visit.inside in
      let to = whole_multiple q (c +ℤ c +ℤ pos 1) in
      asked_within q visit.count.may.m c (turned c a) (low_cycle c asked at) (high_cycle c asked at) (turned_is_arc c a asked.is_arc)
      (turned_inside_cycle c a visit.inside) (multiple_minus to asked.on_grid.stop) (multiple_minus to asked.on_grid.start)

  pub rev_child : MayCountVisit e (record { cycle = ask.cycle; unit = ask.unit; arc = there })
  rev_child = record {
    count = subst (MayCount e ask.unit) (sym turned_is) (record {
      may = record {
        q = visit.count.may.q;
        m = visit.count.may.m;
        room = room_rev visit.count.may.q visit.count.may.m e visit.count.may.room;
        asked = turned_asked;
      };
      unit = record { positive = visit.count.unit.positive; divides = visit.count.unit.divides; small = visit.count.unit.small };
    });
    inside = subst (λ b. IsInside b (cycle_arc ask.cycle)) (sym turned_is) (turned_inside_cycle ask.cycle (arc_of ask.unit ask.arc) visit.inside);
  }

  rev_items : (items : List Item) → map (event_of ask.unit) (map (turned_item (read n)) items) ≡ map (turned_event ask.cycle) (map (event_of ask.unit) items)
  rev_items items =
      ap (λ k. map (event_of ask.unit) (map (turned_item k) items)) round_is ∙ items_turned ask.unit visit.count.unit.positive ask.cycle items

  rev_makes : map (turned_event ask.cycle) (over (cyc e) (arc_of ask.unit there)) ≡ over (cyc (Rev e)) (arc_of ask.unit ask.arc)
  rev_makes = times.rev_made e (record { cycle = ask.cycle; arc = arc_of ask.unit ask.arc }) _ turned_is (may_visit (Rev e) ask visit)

  pub rev_counts : (out mid : List Item) (from : ℕ) → from ≡ length out → Adds ask.unit out mid (over (cyc e) (arc_of ask.unit there))
      → Each HasCounts (map (turned_item (read n)) (drop from mid))
  rev_counts = moved_counts (Rev e) ask.unit _ visit.count ask.unit (turned_item (read n)) _ rev_items _ rev_makes

  pub rev_there : (out mid : List Item) (from : ℕ) → from ≡ length out → Adds ask.unit out mid (over (cyc e) (arc_of ask.unit there)) → (new : List Item)
      → new ≡ take from mid ++ map (turned_item (read n)) (drop from mid) → Adds ask.unit out new (over (cyc (Rev e)) (arc_of ask.unit ask.arc))
  rev_there = moved_there (Rev e) ask.unit _ visit.count ask.unit (turned_item (read n)) _ rev_items _ rev_makes

  pub rev_visits : visits e ask.cycle (arc_of ask.unit there) ≡ visits e ask.cycle (turned ask.cycle (arc_of ask.unit ask.arc))
  rev_visits = ap (visits e ask.cycle) turned_is
