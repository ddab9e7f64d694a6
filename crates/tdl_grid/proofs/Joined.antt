-- What a join on counts makes of its sides' answers, by what one on fractions makes of the same events.
use Rattle.std.proofs.Common.{◌≡◌, ℕ, ◌+◌, ◌*◌, ◌^◌, ◌<◌, ◌≤◌, ℤ, List, [], ◌++◌, map, take, length, get_or, Option}
use Rattle.std.proofs.Common.{Some, None, Result, Ok, Err, OnOk, refl, sym, ap, ◌∙◌, subst, arith}
use Rattle.std.specs.Int.{◌∣◌}
use Rattle.std.specs.List.{flat_map, sum_by}
use Rattle.std.specs.Result.{IsErrAnd}
use Rattle.std.proofs.Math.Nat.{mul-pos}
use Rattle.std.proofs.lemmas.List.{get_or-map, length-map}
use Rattle.std.proofs.lemmas.Result.{on_ok_weaker}
use Rattle.tdl_control.specs.declared.faults.NoMemory.{NoMemory}
use Rattle.tdl_control.specs.declared.leaves.Leaf.{Leaf}
use Rattle.tdl_fraction.specs.Arc.{Arc, meet}
use Rattle.tdl_fraction.specs.Range.{InRange}
use Rattle.tdl_event.specs.Event.{Event}
use Rattle.tdl_expr.specs.declared.ids.NodeId.{NodeId}
use Rattle.tdl_expr.specs.declared.joinings.Op.{Op}
use Rattle.tdl_expr.specs.declared.joinings.Side.{Side}
use Rattle.tdl_expr.specs.declared.joinings.Side.TheVariants.{Both}
use Rattle.tdl_expr.specs.declared.nodes.Node.{Node}
use Rattle.tdl_expr.specs.Bounds.{bounds, grid, hang}
use Rattle.tdl_expr.specs.Rows.{tree_at}
use Rattle.tdl_expr.specs.Tree.{Tree}
use Rattle.tdl_expr.specs.Tree as tree
use Rattle.tdl_meaning.specs.Pattern.{over, cycle_arc}
use Rattle.tdl_meaning.specs.Meaning.{cyc}
use Rattle.tdl_meaning.specs.Pairs.{made_with, joined_pairs}
use Rattle.tdl_meaning.specs.Proper.{Each}
use Rattle.tdl_meaning.specs.Ranges.{HasEnds, IsInRange}
use Rattle.tdl_meaning.specs.Asks.{IsCycleOf}
use Rattle.tdl_meaning.specs.Values.{value_of}
use Rattle.tdl_meaning.specs.inside.Arcs.{over_met}
use Rattle.tdl_meaning.specs.inside.Conditions.{MayAsk}
use Rattle.tdl_meaning.proofs.Condition.{over_fits}
use Rattle.tdl_meaning.proofs.Moves.{each_of}
use Rattle.tdl_meaning.proofs.Sizes.{range}
use Rattle.tdl_visits.specs.declared.joined_rows.JoinedRows.{JoinedRows}
use Rattle.tdl_visits.specs.Sides.{giver_of, other_of}
use Rattle.tdl_visits.specs.inside.Joins.{IsAskable, joined_tree, made_by_whole, visits_by_whole}
use Rattle.tdl_visits.specs.inside.Visits.{if_met, visits}
use Rattle.tdl_visits.specs.inside.Visited.{Adds as AddsEvents, IsVisit as IsVisitInTimes}
use Rattle.tdl_visits.proofs.Asking.{may_cut}
use Rattle.tdl_visits.proofs.FewSteps.{once_more}
use Rattle.tdl_visits.proofs.Sides as times
use Rattle.tdl_visits.proofs.Visits.{next_taken, each_taken}
use Rattle.tdl_grid.specs.Span.{Span, arc_of, finer_span}
use Rattle.tdl_grid.specs.Item.{Item, HasCounts, finer_item, event_of, Adds, AddsInEach}
use Rattle.tdl_grid.specs.ItemLaws.{events_of}
use Rattle.tdl_grid.specs.declared.asks.CountAsk.{CountAsk}
use Rattle.tdl_grid.specs.declared.asks.JoinUnit.{JoinUnit}
use Rattle.tdl_grid.specs.inside.Asked.{MayCount, MayCountVisit, IsJoinUnit, MayAskWhole}
use Rattle.tdl_grid.specs.inside.Visited.{Gains, IsVisit, IsVisitMet}
use Rattle.tdl_grid.proofs.Gained.{adds_as, adds_next, adds_all}
use Rattle.tdl_grid.proofs.Gaining.{may_visit, ran_out}
use Rattle.tdl_grid.proofs.Moved.{items_finer, counts_fit}
use Rattle.tdl_grid.proofs.OtherSides.{giver_divides, other_divides, giver_asked, grid_small, wholes_asked}
use Rattle.tdl_grid.proofs.SpanArcs.{span_finer}

-- ---- answers as events
-- items of some events are items of equal ones
said : (u : ℕ) (r : Result (Unit {0}) NoMemory) (out out' : List Item) (es fs : List Event) → OnOk r (es ≡ fs) → OnOk r (Adds u out out' es)
    → OnOk r (Adds u out out' fs)
said u (Ok x) out out' es fs same adds = adds_as u out out' es fs same adds
said u (Err x) out out' es fs same adds = tt

-- what a tree answers, as a list that was empty before
answered : (d : Tree) (ask : CountAsk) (none items : List Item) (s0 s1 : ℕ) → none ≡ [] → IsVisit d ask (Ok tt) none items s0 s1
    → IsVisitInTimes d (record { cycle = ask.cycle; arc = arc_of ask.unit ask.arc }) (Ok tt) [] (events_of ask.unit items) s0 s1
answered d ask none items s0 s1 empty first = record {
  events = ap (events_of ask.unit) (first.items.behind ∙ ap (λ xs. xs ++ first.items.made) empty) ∙ first.items.plays;
  exact = first.exact;
  few = first.few;
}

-- ---- of two joined rows
module _ (table : List Node) (j : JoinedRows) (ask : CountAsk) (visit : MayCountVisit (joined_tree table j) ask) where
  abbrev u : ℕ
  u = ask.unit

  -- where both sides give the wholes
  pub both_gained : (both : j.side ≡ Both) (r : Result (Unit {0}) NoMemory) (none none' lefts rights out out' : List Item) (s0 s1 s2 : ℕ)
      → none ≡ [] → none' ≡ [] → IsVisit (tree_at table j.left) ask (Ok tt) none lefts s0 s1 → IsVisit (tree_at table j.right) ask (Ok tt) none' rights s1 s2
      → OnOk r (AddsInEach out out' (λ v. joined_pairs Both (value_of j.op) (events_of v lefts) (events_of v rights)))
      → IsVisit (joined_tree table j) ask r out out' s0 (s2 + 1)
  both_gained both r none none' lefts rights out out' s0 s1 s2 empty empty' left right h =
      let made = joined_pairs Both (value_of j.op) (events_of u lefts) (events_of u rights) in
      let asked = may_visit (joined_tree table j) ask visit in
      let all = times.both_visit table j _ asked both r [] [] (events_of u lefts) (events_of u rights) [] made s0 s1 s2
      refl refl (answered _ ask none lefts s0 s1 empty left) (answered _ ask none' rights s1 s2 empty' right) (on_ok_weaker r (λ _. refl) h) in
      record {
        items = said u r out out' made _ all.events (on_ok_weaker r (λ adds. adds u visit.count.unit.positive) h);
        exact = all.exact;
        few = all.few;
      }

  -- where memory runs out while the side that gives the wholes is asked
  pub giver_ran_out : (one : ¬ (j.side ≡ Both)) (giver : NodeId) → giver ≡ giver_of j → (r : Result (Unit {0}) NoMemory) (Q : NoMemory → Type 0) → IsErrAnd r Q
      → (out out' : List Item) (s0 s1 : ℕ) → s1 ≤ s0 + (bounds (tree_at table giver)).load → IsVisit (joined_tree table j) ask r out out' s0 (s1 + 1)
  giver_ran_out one giver is r Q err out out' s0 s1 few =
      ran_out u (over (cyc (joined_tree table j)) (arc_of u ask.arc)) (visits (joined_tree table j) ask.cycle (arc_of u ask.arc))
      (bounds (joined_tree table j)).load r out out' s0 (s1 + 1) Q err
      (times.giver_few table j _ (may_visit (joined_tree table j) ask visit) one giver is s0 s1 few)

  module _ (one : ¬ (j.side ≡ Both)) (giver : NodeId) (is : giver ≡ giver_of j) (none givers : List Item) (s0 s1 : ℕ) (empty : none ≡ [])
      (first : IsVisit (tree_at table giver) ask (Ok tt) none givers s0 s1) where
    abbrev d : Tree
    d = tree_at table giver

    abbrev e : Tree
    e = tree_at table (other_of j)

    abbrev a : Arc
    a = arc_of u ask.arc

    heard : IsVisitInTimes d (record { cycle = ask.cycle; arc = a }) (Ok tt) [] (events_of u givers) s0 s1
    heard = answered d ask none givers s0 s1 empty first

    -- the other side may be asked for the whole of each
    pub givers_asked : (own : JoinUnit) → IsJoinUnit own → own.unit ≡ grid (joined_tree table j) → own.unit * own.times ≡ u
        → Each (λ (i : Item). MayAskWhole e ask.cycle own i.whole) givers
    givers_asked own joins same makes =
        let can = times.others_may table j _ (may_visit (joined_tree table j) ask visit) one giver is [] (events_of u givers) s0 s1 refl heard in
        let may = (giver_asked table j ask visit giver is).count.may in
        let placed = subst (Each (IsInRange (grid d) (hang d) a)) (sym heard.events) (range d may.room.valid a may.asked.is_arc) in
        let on = subst (λ x. grid (tree_at table x) ∣ own.unit) (sym is)
        (subst (λ g. grid (tree_at table (giver_of j)) ∣ g) (sym same) (giver_divides table j)) in
        wholes_asked d e ask.cycle a own joins on (subst (λ g. grid e ∣ g) (sym same) (other_divides table j))
        (subst (λ g. g ≤ 2 ^ 44) (sym same) (grid_small (joined_tree table j) a visit.count.may)) givers
        (subst (λ n. Each (λ (x : Event). IsAskable e ask.cycle x.whole) (events_of n givers)) (sym makes) can)
        (subst (λ n. Each (IsInRange (grid d) (hang d) a) (events_of n givers)) (sym makes) placed)

    -- where one side gives them, and the other's answers to them were added
    pub one_gained : (own : JoinUnit) → own.unit * own.times ≡ u → (r : Result (Unit {0}) NoMemory) (out out' : List Item) (s2 : ℕ)
        → Gains (own.unit * own.times) (flat_map (made_by_whole j.side j.op e ask.cycle) (events_of (own.unit * own.times) givers))
        (sum_by (visits_by_whole e ask.cycle) (events_of (own.unit * own.times) givers)) (length givers * (bounds e).load) r out out' s1 s2
        → IsVisit (joined_tree table j) ask r out out' s0 (s2 + 1)
    one_gained own makes r out out' s2 h =
        let wholes = events_of u givers in
        let made = flat_map (made_by_whole j.side j.op e ask.cycle) wholes in
        let gained = subst (λ n. Gains n (flat_map (made_by_whole j.side j.op e ask.cycle) (events_of n givers))
        (sum_by (visits_by_whole e ask.cycle) (events_of n givers)) (length givers * (bounds e).load) r out out' s1 s2) makes h in
        let by : AddsEvents made (sum_by (visits_by_whole e ask.cycle) wholes) (length wholes * (bounds e).load) r [] made s1 s2 = record {
          events = on_ok_weaker r (λ _. refl) gained.exact;
          exact = gained.exact;
          few = subst (λ n. s2 ≤ s1 + n * (bounds e).load) (sym (length-map givers (event_of u))) gained.few;
        } in
        let all = times.one_visit table j _ (may_visit (joined_tree table j) ask visit) one giver is [] wholes s0 s1 refl heard r [] made s2 by in
        record { items = said u r out out' made _ all.events gained.items; exact = all.exact; few = all.few }

    -- where the other side is a leaf
    pub leaf_gained : (v : Leaf) → e ≡ tree.Pure v → (r : Result (Unit {0}) NoMemory) (out out' : List Item) (s2 : ℕ)
        → Gains u (flat_map (made_by_whole j.side j.op (tree.Pure v) ask.cycle) (events_of u givers))
        (sum_by (visits_by_whole (tree.Pure v) ask.cycle) (events_of u givers)) (length givers) r out out' s1 s2
        → IsVisit (joined_tree table j) ask r out out' s0 (s2 + 1)
    leaf_gained v is r out out' s2 h =
        let GainsIn : ℕ → Tree → ℕ → Type 0 = λ n t m. Gains n (flat_map (made_by_whole j.side j.op t ask.cycle) (events_of n givers))
        (sum_by (visits_by_whole t ask.cycle) (events_of n givers)) m r out out' s1 s2 in
        let once : u * 1 ≡ u = omega arith in
        let each : length givers ≡ length givers * (bounds (tree.Pure v)).load = omega arith in
        let of_other : GainsIn u e (length givers * (bounds e).load) =
        subst (λ (t : Tree). GainsIn u t (length givers * (bounds t).load)) (sym is) (subst (GainsIn u (tree.Pure v)) each h) in
        one_gained (record { unit = u; times = 1 }) once r out out' s2 (subst (λ n. GainsIn n e (length givers * (bounds e).load)) (sym once) of_other)

-- ---- the other side's answer for a whole, in the unit of the join's own grid
-- events of what a cycle has of an arc are in range
met_fits : (e : Tree) (c : ℤ) (w : Arc) → MayAsk e w → Each (HasEnds InRange) (over_met (cyc e) (meet (cycle_arc c) w))
met_fits e c w may = by (meet (cycle_arc c) w) refl
  where
    by : (o : Option Arc) → meet (cycle_arc c) w ≡ o → Each (HasEnds InRange) (over_met (cyc e) o)
    by None met = tt
    by (Some d) met = over_fits e d (may_cut e c w d may met)

module _ (e : Tree) (c : ℤ) (own : JoinUnit) (is : IsJoinUnit own) (w s : Span) (finer : finer_span own.times s ≡ w) where
  abbrev all : ℕ
  all = own.unit * own.times

  same_time : arc_of own.unit s ≡ arc_of all w
  same_time = sym (span_finer own.unit own.times is.unit is.times s) ∙ ap (arc_of all) finer

  -- in that unit the other side may be asked for the whole, which meets the cycle
  pub whole_may : MayAskWhole e c own w → MayCount e own.unit (arc_of own.unit s)
  whole_may h = h.may s finer

  pub whole_meets : MayAskWhole e c own w → IsCycleOf (arc_of own.unit s) c
  whole_meets h = subst (λ b. IsCycleOf b c) (sym same_time) h.cycle

  module _ (none others : List Item) (s0 s1 : ℕ) (empty : none ≡ [])
      (h : IsVisitMet e c own.unit (meet (cycle_arc c) (arc_of own.unit s)) (Ok tt) none others s0 s1) where
    finer_heard : events_of all (map (finer_item own.times) others) ≡ over_met (cyc e) (meet (cycle_arc c) (arc_of own.unit s))
    finer_heard =
        items_finer own.unit own.times is.unit is.times others
        ∙ ap (events_of own.unit) (h.items.behind ∙ ap (λ xs. xs ++ h.items.made) empty) ∙ h.items.plays

    -- there is room for the counts of its answer in the unit of the wholes
    pub others_fit : MayAskWhole e c own w → Each HasCounts (map (finer_item own.times) others)
    others_fit asked =
        counts_fit all (mul-pos is.unit is.times) is.small (map (finer_item own.times) others)
        (subst (Each (HasEnds InRange)) (sym finer_heard) (met_fits e c (arc_of own.unit s) (whole_may asked).may))

    module _ (x : Item) (same : x.whole ≡ w) where
      of_item : arc_of own.unit s ≡ arc_of all x.whole
      of_item = same_time ∙ ap (arc_of all) (sym same)

      -- what the item makes with that answer
      pub made_next : (side : Side) (op : Op) (fine out out' : List Item) → fine ≡ map (finer_item own.times) others
          → AddsInEach out out' (λ v. flat_map (λ (o : Event). made_with side (value_of op) (event_of v x) o) (events_of v fine))
          → Adds all out out' (made_by_whole side op e c (event_of all x))
      made_next side op fine out out' are adds =
          adds_as all out out' _ _ (ap (flat_map (λ (o : Event). made_with side (value_of op) (event_of all x) o))
          (ap (events_of all) are ∙ finer_heard ∙ ap (λ b. over_met (cyc e) (meet (cycle_arc c) b)) of_item)) (adds all (mul-pos is.unit is.times))

      -- and the steps of that answer
      pub taken_next : s1 ≡ s0 + visits_by_whole e c (event_of all x)
      taken_next = h.exact ∙ ap (λ b. s0 + if_met (visits e c) (meet (cycle_arc c) b)) of_item

-- what may be asked for the whole of the item at a place
pub asked_at : (table : List Node) (j : JoinedRows) (c : ℤ) (own : JoinUnit) (givers : List Item)
    → Each (λ (i : Item). MayAskWhole (tree_at table (other_of j)) c own i.whole) givers → (other : NodeId) → other ≡ other_of j → (i : ℕ) (x y : Item)
    → i < length givers → x ≡ get_or givers i x → y ≡ x → MayAskWhole (tree_at table other) c own y.whole
asked_at table j c own givers all other is i x y within at same =
    subst (λ (z : Item). MayAskWhole (tree_at table other) c own z.whole) (sym same)
    (subst (λ id. MayAskWhole (tree_at table id) c own x.whole) (sym is)
    (each_of (λ (z : Item). MayAskWhole (tree_at table (other_of j)) c own z.whole) givers i x within at all))

-- an item that is read twice
pub same_whole : (givers : List Item) (i : ℕ) (x y z : Item) → z ≡ y → y ≡ get_or givers i x → x ≡ get_or givers i x → x.whole ≡ z.whole
same_whole givers i x y z seen at again = ap (λ (v : Item). v.whole) (again ∙ sym at ∙ sym seen)

-- ---- whole by whole
module _ (side : Side) (op : Op) (e : Tree) (c : ℤ) (u : ℕ) (givers : List Item) (i : ℕ) where
  abbrev made : List Event → List Event
  made = flat_map (made_by_whole side op e c)

  abbrev taken : List Event → ℕ
  taken = sum_by (visits_by_whole e c)

  abbrev wholes : List Event
  wholes = events_of u givers

  -- what the items so far make and take, and with one more
  module _ (x : Item) (within : i < length givers) (at : x ≡ get_or givers i x) where
    place : i < length wholes
    place = omega (arith, within, length-map givers (event_of u))

    here : event_of u x ≡ get_or wholes i (event_of u x)
    here = ap (event_of u) at ∙ sym (get_or-map (event_of u) givers i x (event_of u x) within)

    pub made_more : (old mid new : List Item) → Adds u old mid (made (take i wholes)) → Adds u mid new (made_by_whole side op e c (event_of u x))
        → Adds u old new (made (take (i + 1) wholes))
    made_more old mid new so_far next = adds_next u (made_by_whole side op e c) wholes i (event_of u x) old mid new place here so_far next

    pub taken_more : (s0 s1 s2 : ℕ) → s1 ≡ s0 + taken (take i wholes) → s2 ≡ s1 + visits_by_whole e c (event_of u x)
        → s2 ≡ s0 + taken (take (i + 1) wholes)
    taken_more s0 s1 s2 so_far next = next_taken (visits_by_whole e c) wholes i s0 s1 so_far (event_of u x) s2 place here next

    pub few_more : (s0 s1 s2 : ℕ) → s1 ≤ s0 + i * (bounds e).load → s2 ≤ s1 + (bounds e).load → s2 ≤ s0 + (i + 1) * (bounds e).load
    few_more s0 s1 s2 so_far next = once_more s0 i (bounds e).load s1 s2 so_far next

  -- in the end, what all do
  pub all_gained : i ≡ length givers → (old new : List Item) (s0 s1 : ℕ) → Adds u old new (made (take i wholes)) → s1 ≡ s0 + taken (take i wholes)
      → s1 ≤ s0 + i * (bounds e).load → Gains u (made wholes) (taken wholes) (length givers * (bounds e).load) (Ok tt) old new s0 s1
  all_gained end old new s0 s1 items exact few =
      let last : length wholes ≤ i = omega (arith, end, length-map givers (event_of u)) in
      record {
        items = adds_all u (made_by_whole side op e c) wholes i old new last items;
        exact = each_taken (visits_by_whole e c) wholes i s0 s1 exact last;
        few = subst (λ n. s1 ≤ s0 + n * (bounds e).load) end few;
      }

-- so by whatever name the other row is known
pub of_other : (table : List Node) (j : JoinedRows) (other : NodeId) → other ≡ other_of j → (c : ℤ) (u : ℕ) (givers old new : List Item) (s0 s1 : ℕ)
    → Gains u (flat_map (made_by_whole j.side j.op (tree_at table other) c) (events_of u givers))
    (sum_by (visits_by_whole (tree_at table other) c) (events_of u givers)) (length givers * (bounds (tree_at table other)).load) (Ok tt) old new s0 s1
    → Gains u (flat_map (made_by_whole j.side j.op (tree_at table (other_of j)) c) (events_of u givers))
    (sum_by (visits_by_whole (tree_at table (other_of j)) c) (events_of u givers)) (length givers * (bounds (tree_at table (other_of j))).load)
    (Ok tt) old new s0 s1
of_other table j other is c u givers old new s0 s1 all =
    subst (λ (id : NodeId). Gains u (flat_map (made_by_whole j.side j.op (tree_at table id) c) (events_of u givers))
    (sum_by (visits_by_whole (tree_at table id) c) (events_of u givers)) (length givers * (bounds (tree_at table id)).load) (Ok tt) old new s0 s1) is all
