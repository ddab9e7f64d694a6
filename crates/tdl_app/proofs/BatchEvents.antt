-- The events of an arc, batch by batch, and those of a batch that are had from the batch before.
use Rattle.std.proofs.Common.{◌≡◌, ℕ, ◌+◌, ◌-◌, ◌*◌, ◌<◌, ◌≤◌, ◌^◌, ◌++◌, map, ℤ, pos, ◌+ℤ◌, ◌≤ℤ◌, nat_abs, List, [], Some, sym, ap, subst, ◌∙◌, arith}
use Rattle.std.proofs.Math.Nat.{mul-le-mul_right, le-mul_of_pos_right}
use Rattle.std.proofs.lemmas.Int.{ints}
use Rattle.tdl_fraction.specs.Rational.{whole, floor, ceil, IsMultiple}
use Rattle.tdl_fraction.specs.Range.{InRange}
use Rattle.tdl_fraction.specs.Arc.{Arc, meet, map_arc}
use Rattle.tdl_fraction.specs.Units.{IsQueryArc, tick_units, last_cycle}
use Rattle.tdl_fraction.proofs.Order.{≤ℚ_trans}
use Rattle.tdl_fraction.proofs.Rounding.{le_floor, ceil_le}
use Rattle.tdl_fraction.proofs.Multiples.{whole_multiple, multiple_max, multiple_min}
use Rattle.tdl_fraction.proofs.Arcs.{meet_ends, meet_inside_right}
use Rattle.tdl_event.specs.Event.{Event}
use Rattle.tdl_expr.specs.Tree.{Tree}
use Rattle.tdl_meaning.specs.declared.motions.Motion.TheVariants.{Later}
use Rattle.tdl_meaning.specs.Pattern.{Pattern, over, moved}
use Rattle.tdl_meaning.specs.Meaning.{cyc}
use Rattle.tdl_meaning.specs.Motions.{CanMove}
use Rattle.tdl_meaning.specs.Proper.{Each, HasProperEvents}
use Rattle.tdl_meaning.specs.Ranges.{HasEnds}
use Rattle.tdl_meaning.specs.Repeats.{later}
use Rattle.tdl_meaning.specs.inside.Arcs.{over_met}
use Rattle.tdl_meaning.proofs.Condition.{over_fits}
use Rattle.tdl_meaning.proofs.Cuts.{cycles_in_order}
use Rattle.tdl_meaning.proofs.Lists.{each_weaker, each_unmap}
use Rattle.tdl_meaning.proofs.PlainLemmas.{may_query}
use Rattle.tdl_meaning.proofs.Repeating.{over_later}
use Rattle.tdl_app.specs.declared.batches.Batches.{Batches}
use Rattle.tdl_app.specs.inside.Batches.{run, batch, batch_events, front_events, IsCut, AreBatchesOf}
use Rattle.tdl_app.proofs.Runs.{run_later, run_in_arc, arc_in_run, over_no_run, over_runs}

-- ---- the batches of an arc
-- an arc of a query has few cycles
pub cycles_few : (arc : Arc) (c : ℤ) (all : ℕ) → IsQueryArc arc → c ≡ floor arc.start → c +ℤ pos all ≡ ceil arc.stop → all ≤ 2 ^ 20
cycles_few arc c all query first last =
    let low : pos 0 ≤ℤ floor arc.start = (le_floor (pos 0) arc.start).0 query.from_zero in
    let high : ceil arc.stop ≤ℤ pos last_cycle = (ceil_le arc.stop (pos last_cycle)).0 query.to_last in
    few c (floor arc.start) (ceil arc.stop) first low high last
  where
    few : (c x y : ℤ) → c ≡ x → pos 0 ≤ℤ x → y ≤ℤ pos last_cycle → c +ℤ pos all ≡ y → all ≤ 2 ^ 20
    few c x y same low high last = omega (arith, ints)

-- batches that have all cycles of the arc, and few more
pub is_cut : (s : Batches) (all : ℕ) → IsQueryArc s.arc → s.first ≡ floor s.arc.start → s.first +ℤ pos all ≡ ceil s.arc.stop → 0 < s.cycles
    → all ≤ s.count * s.cycles → s.count * s.cycles ≤ all + all → IsCut s
is_cut s all query first last some covered close = record {
  query = query;
  first = first;
  some = some;
  few = omega (arith, cycles_few s.arc s.first all query first last);
  all = ends s.first (ceil s.arc.stop) (s.count * s.cycles) last covered;
}
  where
    ends : (c y : ℤ) (m : ℕ) → c +ℤ pos all ≡ y → all ≤ m → y ≤ℤ (c +ℤ pos m)
    ends c y m last covered = omega (arith, ints)

-- ---- one batch after another
pub no_front : (p : Pattern) (s : Batches) → front_events p s 0 ≡ []
no_front p s = ap (λ n. over_met p (meet (run s.first n) s.arc)) (omega arith) ∙ over_no_run p s.arc s.first

pub more_front : (p : Pattern) → HasProperEvents p → (s : Batches) (k : ℕ) → front_events p s (k + 1) ≡ front_events p s k ++ batch_events p s k
more_front p well s k =
    ap (λ n. over_met p (meet (run s.first n) s.arc)) (omega arith) ∙ over_runs p well s.arc s.first (k * s.cycles) s.cycles

-- what the batches from batch k on have
abbrev pub rest_events : Pattern → Batches → ℕ → List Event
rest_events p s k = over_met p (meet (run (s.first +ℤ pos (k * s.cycles)) ((s.count - k) * s.cycles)) s.arc)

pub all_events : (p : Pattern) (s : Batches) → IsCut s → front_events p s s.count ≡ over p s.arc
all_events p s cut =
    ap (over_met p) (arc_in_run s.arc s.first (s.count * s.cycles) cut.query.ordered (same s.first (floor s.arc.start) cut.first) cut.all)
  where
    same : (x y : ℤ) → x ≡ y → x ≤ℤ y
    same x y e = omega (arith, ints)

pub front_then_rest : (p : Pattern) → HasProperEvents p → (s : Batches) → IsCut s → (k : ℕ) → k ≤ s.count
    → over p s.arc ≡ front_events p s k ++ rest_events p s k
front_then_rest p well s cut k below =
    sym (all_events p s cut) ∙ ap (λ n. over_met p (meet (run s.first n) s.arc)) (parts s.count k s.cycles below)
    ∙ over_runs p well s.arc s.first (k * s.cycles) ((s.count - k) * s.cycles)
  where
    added : (d k n : ℕ) → (k + d) * n ≡ k * n + d * n
    added d k n = omega arith

    parts : (c k n : ℕ) → k ≤ c → c * n ≡ k * n + (c - k) * n
    parts c k n le = ap (λ m. m * n) (omega arith) ∙ added (c - k) k n

-- ---- what an arc has of a batch
-- what an arc of a query has of an arc between whole numbers is one
pub query_arc_part : (arc part : Arc) (first last : ℤ) → IsQueryArc arc → meet (record { start = whole first; stop = whole last }) arc ≡ Some part
    → IsQueryArc part
query_arc_part arc part first last query met =
    let around : Arc = record { start = whole first; stop = whole last } in
    let ends = meet_ends around arc part met in
    let inside = meet_inside_right around arc part met in
    record {
      ordered = ends.2;
      from_zero = ≤ℚ_trans query.from_zero inside.0;
      to_last = ≤ℚ_trans inside.1 query.to_last;
      on_grid = record {
        start = subst (IsMultiple tick_units) (sym ends.0) (multiple_max (whole_multiple tick_units first) query.on_grid.start);
        stop = subst (IsMultiple tick_units) (sym ends.1) (multiple_min (whole_multiple tick_units last) query.on_grid.stop);
      };
    }

-- batches are short, and their ends small
pub batch_short : (s : Batches) → IsCut s → (k : ℕ) → k < s.count → s.cycles ≤ 2 ^ 21
batch_short s cut k below =
    let once : 1 * s.cycles ≤ s.count * s.cycles = mul-le-mul_right s.cycles (omega arith) in
    omega (arith, once, cut.few)

pub batch_small : (s : Batches) → IsCut s → (k : ℕ) → k < s.count
    → (nat_abs (s.first +ℤ pos (k * s.cycles)) ≤ 2 ^ 36) × (nat_abs ((s.first +ℤ pos (k * s.cycles)) +ℤ pos s.cycles) ≤ 2 ^ 36)
batch_small s cut k below =
    let low : pos 0 ≤ℤ floor s.arc.start = (le_floor (pos 0) s.arc.start).0 cut.query.from_zero in
    let high : ceil s.arc.stop ≤ℤ pos last_cycle = (ceil_le s.arc.stop (pos last_cycle)).0 cut.query.to_last in
    let within : (k + 1) * s.cycles ≤ s.count * s.cycles = mul-le-mul_right s.cycles (omega arith) in
    let order = cycles_in_order s.arc cut.query.ordered in
    small s.first (floor s.arc.start) (ceil s.arc.stop) k s.cycles (s.count * s.cycles) cut.first low order high within cut.few
  where
    small : (x y z : ℤ) (k n m : ℕ) → x ≡ y → pos 0 ≤ℤ y → y ≤ℤ z → z ≤ℤ pos last_cycle → (k + 1) * n ≤ m → m ≤ 2 ^ 21
        → (nat_abs (x +ℤ pos (k * n)) ≤ 2 ^ 36) × (nat_abs ((x +ℤ pos (k * n)) +ℤ pos n) ≤ 2 ^ 36)
    small x y z k n m same low order high within few = (omega (arith, ints), omega (arith, ints))

-- ---- a batch that has the events of the one before
module _ (e : Tree) (s : Batches) (are : AreBatchesOf e s) (k : ℕ) (after : s.known_from ≤ k) (before : k + 1 < s.known_to) where
  -- it is a batch later
  next_batch : map_arc (later s.cycles) (batch s k) ≡ batch s (k + 1)
  next_batch = run_later (s.first +ℤ pos (k * s.cycles)) s.cycles ∙ ap (λ c. run c s.cycles) (next s.first k s.cycles)
    where
      next : (c : ℤ) (k n : ℕ) → (c +ℤ pos (k * n)) +ℤ pos n ≡ c +ℤ pos ((k + 1) * n)
      next c k n = omega (arith, ints)

  -- both are whole
  here_whole : meet (batch s k) s.arc ≡ Some (batch s k)
  here_whole =
      let from : k ≤ k * s.cycles = le-mul_of_pos_right k are.cut.some in
      let to : (k + 2) * s.cycles ≤ s.known_to * s.cycles = mul-le-mul_right s.cycles (omega arith) in
      let ends =
      inside s.first (ceil s.arc.start) (floor s.arc.stop) s.known_from (s.known_to * s.cycles) k s.cycles after from to are.known_from are.known_to in
      run_in_arc s.arc (s.first +ℤ pos (k * s.cycles)) s.cycles are.cut.some ends.0 ends.1
    where
      inside : (c x y : ℤ) (f t k n : ℕ) → f ≤ k → k ≤ k * n → (k + 2) * n ≤ t → x ≤ℤ (c +ℤ pos f) → (c +ℤ pos t) ≤ℤ y
          → (x ≤ℤ (c +ℤ pos (k * n))) × (((c +ℤ pos (k * n)) +ℤ pos n) ≤ℤ y)
      inside c x y f t k n after from to low high = (omega (arith, ints), omega (arith, ints))

  next_whole : meet (batch s (k + 1)) s.arc ≡ Some (batch s (k + 1))
  next_whole =
      let from : k + 1 ≤ (k + 1) * s.cycles = le-mul_of_pos_right (k + 1) are.cut.some in
      let to : (k + 2) * s.cycles ≤ s.known_to * s.cycles = mul-le-mul_right s.cycles (omega arith) in
      let ends =
      inside s.first (ceil s.arc.start) (floor s.arc.stop) s.known_from (s.known_to * s.cycles) k s.cycles after from to are.known_from are.known_to in
      run_in_arc s.arc (s.first +ℤ pos ((k + 1) * s.cycles)) s.cycles are.cut.some ends.0 ends.1
    where
      inside : (c x y : ℤ) (f t k n : ℕ) → f ≤ k → k + 1 ≤ (k + 1) * n → (k + 2) * n ≤ t → x ≤ℤ (c +ℤ pos f) → (c +ℤ pos t) ≤ℤ y
          → (x ≤ℤ (c +ℤ pos ((k + 1) * n))) × (((c +ℤ pos ((k + 1) * n)) +ℤ pos n) ≤ℤ y)
      inside c x y f t k n after from to low high = (omega (arith, ints), omega (arith, ints))

  over_next : over (cyc e) (batch s (k + 1)) ≡ map (moved (later s.cycles)) (batch_events (cyc e) s k)
  over_next =
      ap (over (cyc e)) (sym next_batch) ∙ over_later s.cycles (cyc e) (are.repeats (omega arith)) (batch s k)
      ∙ ap (λ part. map (moved (later s.cycles)) (over_met (cyc e) part)) (sym here_whole)

  pub next_events_moved : batch_events (cyc e) s (k + 1) ≡ map (moved (later s.cycles)) (batch_events (cyc e) s k)
  next_events_moved = ap (over_met (cyc e)) next_whole ∙ over_next

  -- they can be moved there
  pub next_events_can_move : Each (HasEnds (CanMove (Later (pos s.cycles)))) (batch_events (cyc e) s k)
  next_events_can_move =
      let next = batch s (k + 1) in
      let events = batch_events (cyc e) s k in
      let query = query_arc_part s.arc next _ _ are.cut.query next_whole in
      let fits = subst (Each (HasEnds InRange)) over_next (over_fits e next (may_query e next are.valid are.limits query)) in
      each_weaker (λ x. HasEnds InRange (moved (later s.cycles) x)) (HasEnds (CanMove (Later (pos s.cycles))))
      (λ x ends. record { whole_start = ends.whole_start; whole_stop = ends.whole_stop; part_start = ends.part_start; part_stop = ends.part_stop })
      events (each_unmap (HasEnds InRange) (moved (later s.cycles)) events fits)
