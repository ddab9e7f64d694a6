-- On counts: the child whose turn it is, the one of two that a test of the cycle chooses, and the rows of a program.
use Rattle.std.proofs.Common.{◌≡◌, ℕ, Bool, true, false, if◌then◌else◌, ◌+◌, ◌≤◌, ◌^◌, List, [], ◌++◌, map, take, drop, length, Result}
use Rattle.std.proofs.Common.{ℤ, pos, ◌-ℤ◌, ◌*ℤ◌, nat_abs, w64, to_z, of_z, refl, sym, ap, ◌∙◌, subst, arith}
use Rattle.std.specs.Int.{◌∣◌}
use Rattle.std.proofs.lemmas.Result.{on_ok_weaker}
use native.Mathlib.Nat.{dvd_trans}
use Rattle.tdl_control.specs.declared.faults.NoMemory.{NoMemory}
use Rattle.tdl_fraction.specs.Rational.{whole, ◌+ℚ◌, ◌-ℚ◌}
use Rattle.tdl_fraction.specs.Arc.{Arc, map_arc}
use Rattle.tdl_fraction.proofs.Arcs.{keeps_arc, keeps-minus}
use Rattle.tdl_fraction.proofs.Multiples.{whole_multiple, multiple_minus}
use Rattle.tdl_fraction.proofs.Coprime.{divides_lcm_left, divides_lcm_right}
use Rattle.tdl_expr.specs.declared.ids.NodeId.{NodeId}
use Rattle.tdl_expr.specs.declared.nodes.Node.{Node}
use Rattle.tdl_expr.specs.declared.rounds.Test.{Test}
use Rattle.tdl_expr.specs.Tree.{Tree, Trees}
use Rattle.tdl_expr.specs.Tree as tree
use Rattle.tdl_expr.specs.Bounds.{bounds_of, grid, grids}
use Rattle.tdl_expr.specs.Rows.{row, in_order, tree_of, trees_of, tree_at}
use Rattle.tdl_meaning.specs.Pattern.{over, moved, rounds, turn, cat}
use Rattle.tdl_meaning.specs.Kinds.{one_of}
use Rattle.tdl_meaning.specs.Values.{meets}
use Rattle.tdl_meaning.specs.Meaning.{cyc, patterns}
use Rattle.tdl_meaning.specs.Asks.{IsChild, here, there}
use Rattle.tdl_meaning.specs.Proper.{Each}
use Rattle.tdl_meaning.specs.Ranges.{IsAsked}
use Rattle.tdl_meaning.proofs.Asked.{room_cat, room_met, room_other, low_cycle, high_cycle, low_round, high_round, child_places}
use Rattle.tdl_meaning.proofs.ByKind.{later_inside}
use Rattle.tdl_meaning.proofs.Rounds.{passed_worked_out}
use Rattle.tdl_meaning.proofs.PlainLemmas.{child_of, length-patterns}
use Rattle.tdl_meaning.proofs.kinds.When.{over-when}
use Rattle.tdl_visits.specs.declared.rounds.ChosenChild.{ChosenChild}
use Rattle.tdl_visits.specs.Rounds.{IsChosenChild}
use Rattle.tdl_visits.specs.inside.Visits.{visits}
use Rattle.tdl_visits.proofs.Asking.{one_cycle_of}
use Rattle.tdl_visits.proofs.TakenTurns as times
use Rattle.tdl_visits.proofs.ByRow as rows
use Rattle.tdl_grid.specs.Span.{Span, earlier_span, arc_of}
use Rattle.tdl_grid.specs.Item.{Item, HasCounts, delayed, event_of, Adds}
use Rattle.tdl_grid.specs.declared.asks.CountAsk.{CountAsk}
use Rattle.tdl_grid.specs.inside.Asked.{MayCount, MayCountVisit}
use Rattle.tdl_grid.specs.inside.Visited.{IsVisit}
use Rattle.tdl_grid.proofs.Sums.{read}
use Rattle.tdl_grid.proofs.SpanArcs.{span_earlier}
use Rattle.tdl_grid.proofs.Moved.{items_later}
use Rattle.tdl_grid.proofs.Gained.{adds_as}
use Rattle.tdl_grid.proofs.Gaining.{may_visit}
use Rattle.tdl_grid.proofs.Children.{in_times_as, count_read, cycle_fits, asked_within, moved_counts, moved_there}

-- ---- rows
-- the tree of a row, in the table that the program shows
pub tree_there : (shown nodes : List Node) (id : NodeId) (x : Node) → shown ≡ nodes → tree_at shown id ≡ tree_of (trees_of shown) x
    → tree_at nodes id ≡ tree_of (trees_of nodes) x
tree_there shown nodes id x same at = subst (λ ns. tree_at ns id ≡ tree_of (trees_of ns) x) same at

pub may_node : (x node : Node) → x ≡ node → (trees : List Tree) (e : Tree) (ask : CountAsk) → e ≡ tree_of trees x → MayCountVisit e ask
    → MayCountVisit (tree_of trees node) ask
may_node x node is trees e ask at may = subst (λ t. MayCountVisit t ask) (at ∙ ap (tree_of trees) is) may

-- the grid of a child divides that of all
pub child_grid : {k : ℕ} {trees : Trees} {e : Tree} → IsChild k trees e → grid e ∣ grids (bounds_of trees)
child_grid (here {e = e} {trees = trees}) = divides_lcm_left (grid e) (grids (bounds_of trees))
child_grid (there {d = d} {e = e} {trees = trees} is) = dvd_trans (grid e) (child_grid is) (divides_lcm_right (grid d) (grids (bounds_of trees)))

-- ---- by turns
module _ (trees : List Tree) (ids : List NodeId) (ask : CountAsk) (round : ChosenChild) (since : ℤ) (is : IsChosenChild ids ask.cycle round)
    (passed : since ≡ ask.cycle -ℤ round.cycle) (visit : MayCountVisit (tree.Cat (in_order trees ids)) ask) where
  abbrev a : Arc
  a = arc_of ask.unit ask.arc

  -- so many cycles later, in what 64 bits hold
  abbrev k : ℤ
  k = to_z w64 (of_z w64 since)

  pub turn_passed : nat_abs k ≤ 2 ^ 38
  turn_passed =
      let few : nat_abs k ≤ 2 ^ 36 =
      times.round_passed trees ids (record { cycle = ask.cycle; arc = a }) round since _ is passed refl (may_visit (tree.Cat (in_order trees ids)) ask visit) in
      omega (arith, few)

  module _ (n : ℤ) (bound : nat_abs n ≤ 2 ^ 126) (value : n ≡ k *ℤ pos ask.unit) (span : Span) (asks : span ≡ earlier_span (read n) ask.arc) where
    by_is : read n ≡ k *ℤ pos ask.unit
    by_is = count_read n bound ∙ value

    abbrev here_arc : Arc
    here_arc = arc_of ask.unit span

    there_is : here_arc ≡ map_arc (λ t. t -ℚ whole k) a
    there_is =
        ap (arc_of ask.unit) asks ∙ ap (λ by. arc_of ask.unit (earlier_span by ask.arc)) by_is
        ∙ span_earlier ask.unit visit.count.unit.positive k ask.arc

    turn_items : (items : List Item) → map (event_of ask.unit) (map (delayed (read n)) items) ≡ map (moved (λ s. s +ℚ whole k)) (map (event_of ask.unit) items)
    turn_items items =
        ap (λ by. map (event_of ask.unit) (map (delayed by) items)) by_is ∙ items_later ask.unit visit.count.unit.positive k items

    turn_makes : map (moved (λ t. t +ℚ whole k)) (over (cyc (row trees round.child)) here_arc) ≡ over (cat (patterns (in_order trees ids))) a
    turn_makes =
        times.cat_over trees ids (record { cycle = ask.cycle; arc = a }) round since here_arc is passed there_is
        (may_visit (tree.Cat (in_order trees ids)) ask visit)

    pub turn_counts : (out mid : List Item) (from : ℕ) → from ≡ length out → Adds ask.unit out mid (over (cyc (row trees round.child)) here_arc)
        → Each HasCounts (map (delayed (read n)) (drop from mid))
    turn_counts = moved_counts (tree.Cat (in_order trees ids)) ask.unit a visit.count ask.unit (delayed (read n)) _ turn_items _ turn_makes

    pub turn_there : (out mid : List Item) (from : ℕ) → from ≡ length out → Adds ask.unit out mid (over (cyc (row trees round.child)) here_arc)
        → (new : List Item) → new ≡ take from mid ++ map (delayed (read n)) (drop from mid)
        → Adds ask.unit out new (over (cyc (tree.Cat (in_order trees ids))) a)
    turn_there = moved_there (tree.Cat (in_order trees ids)) ask.unit a visit.count ask.unit (delayed (read n)) _ turn_items _ turn_makes

    pub turn_visits : 1 + visits (row trees round.child) round.cycle here_arc ≡ visits (tree.Cat (in_order trees ids)) ask.cycle a
    turn_visits =
        times.cat_visits trees ids (record { cycle = ask.cycle; arc = a }) round since here_arc is passed there_is
        (may_visit (tree.Cat (in_order trees ids)) ask visit)

    abbrev count : ℕ
    count = length (patterns (in_order trees ids))

    same_count : length ids ≡ count
    same_count = sym (length-patterns trees ids)

    its_by : k ≡ ask.cycle -ℤ rounds ask.cycle count
    its_by =
        passed_worked_out ask.cycle (length ids) round.cycle since (cycle_fits (tree.Cat (in_order trees ids)) ask visit).0 (omega (arith, is.within)) is.cycle
        passed
        ∙ ap (λ z. ask.cycle -ℤ z) (is.cycle ∙ ap (rounds ask.cycle) same_count)

    its_ask : here_arc ≡ map_arc (λ t. t -ℚ whole (ask.cycle -ℤ rounds ask.cycle count)) a
    its_ask = there_is ∙ ap (λ z. map_arc (λ t. t -ℚ whole z) a) its_by

    its_place : IsChild (turn ask.cycle count) (in_order trees ids) (row trees round.child)
    its_place =
        subst (λ j. IsChild j (in_order trees ids) (row trees round.child)) (ap (turn ask.cycle) same_count)
        (child_of trees ids (turn ask.cycle (length ids)) round.child is.within is.child)

    turn_asked : IsAsked visit.count.may.q visit.count.may.m (map_arc (λ t. t -ℚ whole (ask.cycle -ℤ rounds ask.cycle count)) a)
    turn_asked =
        let asked = visit.count.may.asked in
        let own = rounds ask.cycle count in
        let by = whole (ask.cycle -ℤ own) in
        let at = one_cycle_of ask.cycle a asked.is_arc visit.inside in
        let from = whole_multiple visit.count.may.q (ask.cycle -ℤ own) in
        asked_within visit.count.may.q visit.count.may.m own (map_arc (λ t. t -ℚ by) a)
        (low_round visit.count.may.m count ask.cycle (child_places its_place) (low_cycle ask.cycle asked at))
        (high_round visit.count.may.m count ask.cycle (child_places its_place) (high_cycle ask.cycle asked at))
        (keeps_arc (λ t. t -ℚ by) (keeps-minus by) a asked.is_arc) (later_inside ask.cycle own a visit.inside)
        (multiple_minus asked.on_grid.start from) (multiple_minus asked.on_grid.stop from)

    pub turn_child : MayCountVisit (row trees round.child) (record { cycle = round.cycle; unit = ask.unit; arc = span })
    turn_child = record {
      count = subst (MayCount (row trees round.child) ask.unit) (sym its_ask) (record {
        may = record {
          q = visit.count.may.q;
          m = visit.count.may.m;
          room = room_cat visit.count.may.q visit.count.may.m (turn ask.cycle count) (in_order trees ids) (row trees round.child) its_place
              visit.count.may.room;
          asked = turn_asked;
        };
        unit = record {
          positive = visit.count.unit.positive;
          divides = dvd_trans (grid (row trees round.child)) (child_grid its_place) visit.count.unit.divides;
          small = visit.count.unit.small;
        };
      });
      inside = times.round_inside trees ids (record { cycle = ask.cycle; arc = a }) round since here_arc is passed there_is
          (may_visit (tree.Cat (in_order trees ids)) ask visit);
    }

-- ---- the one row or the other, by a test of the cycle
module _ (trees : List Tree) (modulus : ℕ) (test : Test) (yes no x : NodeId) (ask : CountAsk)
    (is : x ≡ (if meets test (turn ask.cycle modulus) then yes else no))
    (visit : MayCountVisit (tree.When modulus test (row trees yes) (row trees no)) ask) where
  abbrev b : Arc
  b = arc_of ask.unit ask.arc

  by_either : (P : NodeId → Type 0) → P yes → P no → P x
  by_either P met other = subst P (sym is) (either (meets test (turn ask.cycle modulus)))
    where
      either : (t : Bool) → P (if t then yes else no)
      either true = met
      either false = other

  pub when_child : MayCountVisit (row trees x) ask
  when_child = record {
    count = by_either (λ y. MayCount (row trees y) ask.unit b)
        (record {
          may = record {
            q = visit.count.may.q;
            m = visit.count.may.m;
            room = room_met visit.count.may.q visit.count.may.m modulus test (row trees yes) (row trees no) visit.count.may.room;
            asked = visit.count.may.asked;
          };
          unit = record {
            positive = visit.count.unit.positive;
            divides = dvd_trans (grid (row trees yes)) (divides_lcm_left (grid (row trees yes)) (grid (row trees no))) visit.count.unit.divides;
            small = visit.count.unit.small;
          };
        })
        (record {
          may = record {
            q = visit.count.may.q;
            m = visit.count.may.m;
            room = room_other visit.count.may.q visit.count.may.m modulus test (row trees yes) (row trees no) visit.count.may.room;
            asked = visit.count.may.asked;
          };
          unit = record {
            positive = visit.count.unit.positive;
            divides = dvd_trans (grid (row trees no)) (divides_lcm_right (grid (row trees yes)) (grid (row trees no))) visit.count.unit.divides;
            small = visit.count.unit.small;
          };
        });
    inside = visit.inside;
  }

  when_over : over (cyc (row trees x)) b ≡ over (cyc (tree.When modulus test (row trees yes) (row trees no))) b
  when_over =
      ap (λ y. over (cyc (row trees y)) b) is ∙ either (meets test (turn ask.cycle modulus))
      ∙ sym (over-when modulus (meets test) (cyc (row trees yes)) (cyc (row trees no)) ask.cycle b visit.count.may.asked.is_arc visit.inside)
    where
      either : (t : Bool) → over (cyc (row trees (if t then yes else no))) b ≡ over (one_of t (cyc (row trees yes)) (cyc (row trees no))) b
      either true = refl
      either false = refl

  pub when_visit : (r : Result (Unit {0}) NoMemory) (out out' : List Item) (s0 s1 : ℕ) → IsVisit (row trees x) ask r out out' s0 s1
      → IsVisit (tree.When modulus test (row trees yes) (row trees no)) ask r out out' s0 (s1 + 1)
  when_visit r out out' s0 s1 h =
      let own = rows.when_visit trees modulus test yes no x (record { cycle = ask.cycle; arc = b }) is
      (may_visit (tree.When modulus test (row trees yes) (row trees no)) ask visit) r [] _ s0 s1
      (in_times_as (over (cyc (row trees x)) b) ask.unit _ _ _ r out out' s0 s1 h) in
      record { items = on_ok_weaker r (adds_as ask.unit out out' _ _ when_over) h.items; exact = own.exact; few = own.few }
