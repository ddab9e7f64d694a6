-- What the children of a tree may be asked on counts, and what is made of the items that they add: what all kinds share, the cycles
-- of an arc, and a child at a rate.
use Rattle.std.proofs.Common.{◌≡◌, ℕ, zero, suc, ◌+◌, ◌*◌, ◌/◌, ◌^◌, ◌<◌, ◌≤◌, List, [], ◌++◌, map, take, drop, length, Option, Result, Some}
use Rattle.std.proofs.Common.{ℤ, pos, neg_ℤ, ◌≤ℤ◌, ◌+ℤ◌, nat_abs, refl, sym, ap, ◌∙◌, subst, arith}
use Rattle.std.specs.Int.{◌∣◌}
use Rattle.std.specs.Option.{option_map}
use Rattle.std.proofs.lemmas.Result.{on_ok_weaker}
use Rattle.std.proofs.lemmas.List.{drop_at}
use Rattle.std.proofs.lemmas.Int.{ints}
use Rattle.std.proofs.Math.Nat.{mul-pos, mul-le-mul_left, div-mul_cancel}
use native.Mathlib.Nat.{dvd_trans, dvd-mul_right}
use Rattle.tdl_control.specs.declared.faults.NoMemory.{NoMemory}
use Rattle.tdl_fraction.specs.Divisor.{gcd}
use Rattle.tdl_fraction.specs.LowestTerms.{IsGcd-gcd}
use Rattle.tdl_fraction.specs.Rational.{Rational, frac, whole, ◌*ℚ◌, ◌/ℚ◌, ◌<ℚ◌, floor, ceil, IsMultiple}
use Rattle.tdl_fraction.specs.Range.{InRange}
use Rattle.tdl_fraction.specs.Arc.{Arc, IsArc, IsInside, map_arc, meet}
use Rattle.tdl_fraction.proofs.Arcs.{meet_ends, meet_inside_left, meet_inside_right}
use Rattle.tdl_fraction.proofs.Order.{≤ℚ_trans, whole-le}
use Rattle.tdl_fraction.proofs.Multiples.{whole_multiple, multiple_min, multiple_max}
use Rattle.tdl_fraction.proofs.Euclid.{gcd_le}
use Rattle.tdl_fraction.proofs.Words128.{near_is}
use Rattle.tdl_fraction.proofs.Over.{den_positive, num_den_coprime}
use Rattle.tdl_event.specs.Event.{Event}
use Rattle.tdl_expr.specs.Tree.{Tree, Fast}
use Rattle.tdl_expr.specs.Bounds.{grid, upper, lower, fast_ask, fast_far}
use Rattle.tdl_expr.proofs.Numbers.{grid_positive, shared_out_last, upper_positive}
use Rattle.tdl_expr.proofs.WeightLemmas.{num_positive}
use Rattle.tdl_meaning.specs.Pattern.{over, cycle_arc, moved}
use Rattle.tdl_meaning.specs.Meaning.{cyc}
use Rattle.tdl_meaning.specs.Proper.{Each}
use Rattle.tdl_meaning.specs.Ranges.{HasEnds, IsAsked}
use Rattle.tdl_meaning.proofs.Added.{from_within}
use Rattle.tdl_meaning.proofs.Proper.{proper}
use Rattle.tdl_meaning.proofs.ByKind.{over-fast}
use Rattle.tdl_meaning.proofs.Condition.{arc_fits, over_fits}
use Rattle.tdl_meaning.proofs.Asked.{rate_asked, room_fast}
use Rattle.tdl_meaning.proofs.Moving.{cycle_small}
use Rattle.tdl_visits.specs.inside.Visited.{Adds as AddsEvents}
use Rattle.tdl_visits.proofs.Asking.{may_whole}
use Rattle.tdl_visits.proofs.MovedChild as times
use Rattle.tdl_grid.specs.Span.{Span, IsCount, IsSpan, arc_of}
use Rattle.tdl_grid.specs.Item.{Item, HasCounts, event_of, Adds}
use Rattle.tdl_grid.specs.inside.Rates.{IsRateOf}
use Rattle.tdl_grid.specs.declared.asks.CountAsk.{CountAsk}
use Rattle.tdl_grid.specs.inside.Asked.{MayCount, MayCountVisit}
use Rattle.tdl_grid.specs.inside.Visited.{Gains, IsVisit, IsVisits}
use Rattle.tdl_grid.proofs.Sums.{read}
use Rattle.tdl_grid.proofs.Units.{count_size}
use Rattle.tdl_grid.proofs.SpanArcs.{span_faster}
use Rattle.tdl_grid.proofs.Moved.{items_slower, adds_moved, counts_fit}
use Rattle.tdl_grid.proofs.Grids.{grid_below_rate, small_below_rate}
use Rattle.tdl_grid.proofs.Gaining.{may_visit, unit_small}
use Rattle.tdl_grid.proofs.UnitRates.{unit_made}

-- a visit whose new events are any others
pub in_times_as : (es : List Event) (u : ℕ) (new : List Event) (taken most : ℕ) (r : Result (Unit {0}) NoMemory) (out out' : List Item) (s0 s1 : ℕ)
    → Gains u new taken most r out out' s0 s1 → AddsEvents es taken most r [] es s0 s1
in_times_as es u new taken most r out out' s0 s1 h = record { events = on_ok_weaker r (λ _. refl) h.exact; exact = h.exact; few = h.few }

-- a count, as the program passes it on
pub count_read : (n : ℤ) → nat_abs n ≤ 2 ^ 126 → read n ≡ n
count_read n h = omega (arith, ints)

pub start_read : (n : ℤ) (s : Span) → n ≡ s.start → IsSpan s.start s.stop → read n ≡ s.start
start_read n s is span = ap read is ∙ near_is s.start span.start_small

pub stop_read : (n : ℤ) (s : Span) → n ≡ s.stop → IsSpan s.start s.stop → read n ≡ s.stop
stop_read n s is span = ap read is ∙ near_is s.stop span.stop_small

-- the cycle that a span begins in, and the first that does not begin before its end
pub first_cycle : (u : ℕ) (s : Span) (n c : ℤ) → c ≡ floor (frac (read n) u) → n ≡ s.start → IsSpan s.start s.stop → c ≡ floor (frac s.start u)
first_cycle u s n c is value span = is ∙ ap (λ k. floor (frac k u)) (start_read n s value span)

pub last_cycle : (u : ℕ) (s : Span) (n c : ℤ) → c ≡ ceil (frac (read n) u) → n ≡ s.stop → IsSpan s.start s.stop → c ≡ ceil (frac s.stop u)
last_cycle u s n c is value span = is ∙ ap (λ k. ceil (frac k u)) (stop_read n s value span)

-- ---- what may be asked
-- the ends of a span that may be asked are counts that there is room for
pub ends_fit : (e : Tree) (u : ℕ) (s : Span) → MayCount e u (arc_of u s) → IsCount s.start × IsCount s.stop
ends_fit e u s count =
    let fits = arc_fits e (arc_of u s) count.may in
    (at s.start fits.0, at s.stop fits.1)
  where
    at : (n : ℤ) → InRange (frac n u) → IsCount n
    at n is = omega (arith, count_size n u count.unit.positive is, unit_small e u (arc_of u s) count)

-- as the program passes them on, they are those of times in range
pub start_in_range : (e : Tree) (u : ℕ) (s : Span) (n : ℤ) → MayCount e u (arc_of u s) → n ≡ s.start → InRange (frac n u)
start_in_range e u s n count is = subst (λ k. InRange (frac k u)) (sym is) (arc_fits e (arc_of u s) count.may).0

pub stop_in_range : (e : Tree) (u : ℕ) (s : Span) (n : ℤ) → MayCount e u (arc_of u s) → n ≡ s.stop → InRange (frac n u)
stop_in_range e u s n count is = subst (λ k. InRange (frac k u)) (sym is) (arc_fits e (arc_of u s) count.may).1

-- so are the numbers of a cycle that is asked for
pub cycle_fits : (e : Tree) (ask : CountAsk) → MayCountVisit e ask → (nat_abs ask.cycle ≤ 2 ^ 36) × (nat_abs (ask.cycle +ℤ pos 1) ≤ 2 ^ 36)
cycle_fits e ask visit = cycle_small e ask.cycle (may_whole e ask.cycle (arc_of ask.unit ask.arc) visit.count.may visit.inside)

-- what an arc has of a cycle
pub cut_visit : (e : Tree) (c : ℤ) (u : ℕ) (a : Arc) (d : Span) → MayCount e u a → meet (cycle_arc c) a ≡ Some (arc_of u d)
    → MayCountVisit e (record { cycle = c; unit = u; arc = d })
cut_visit e c u a d count met =
    let may = count.may in
    let ends = meet_ends (cycle_arc c) a (arc_of u d) met in
    let inside = meet_inside_right (cycle_arc c) a (arc_of u d) met in
    record {
      count = record {
        may = record {
          q = may.q;
          m = may.m;
          room = may.room;
          asked = record {
            is_arc = ends.2;
            on_grid = record {
              start = subst (IsMultiple may.q) (sym ends.0) (multiple_max (whole_multiple may.q c) may.asked.on_grid.start);
              stop = subst (IsMultiple may.q) (sym ends.1) (multiple_min (whole_multiple may.q (c +ℤ pos 1)) may.asked.on_grid.stop);
            };
            from = ≤ℚ_trans may.asked.from inside.0;
            to = ≤ℚ_trans inside.1 may.asked.to;
          };
        };
        unit = count.unit;
      };
      inside = meet_inside_left (cycle_arc c) a (arc_of u d) met;
    }

-- as the program works it out
pub met_cycle : (c : ℤ) (u : ℕ) (own s : Span) (o o' : Option Span) → arc_of u own ≡ cycle_arc c → option_map (arc_of u) o ≡ meet (arc_of u own) (arc_of u s)
    → o ≡ o' → meet (cycle_arc c) (arc_of u s) ≡ option_map (arc_of u) o'
met_cycle c u own s o o' cycle met is = ap (λ b. meet b (arc_of u s)) (sym cycle) ∙ sym met ∙ ap (option_map (arc_of u)) is

-- an arc of a cycle that is of no greater size than what is asked
pub asked_within : (q m : ℕ) (k : ℤ) (b : Arc) → neg_ℤ (pos m) ≤ℤ k → (k +ℤ pos 1) ≤ℤ pos m → IsArc b → IsInside b (cycle_arc k)
    → IsMultiple q b.start → IsMultiple q b.stop → IsAsked q m b
asked_within q m k b low high is_arc inside start stop = record {
  is_arc = is_arc;
  on_grid = record { start = start; stop = stop };
  from = ≤ℚ_trans ((whole-le (neg_ℤ (pos m)) k).0 low) inside.0;
  to = ≤ℚ_trans inside.1 ((whole-le (k +ℤ pos 1) (pos m)).0 high);
}

-- ---- items that are moved: those of a child in one unit, as a tree has them in its own
module _ (e : Tree) (u : ℕ) (a : Arc) (count : MayCount e u a) (v : ℕ) (g : Item → Item) (f : Event → Event)
    (same : (items : List Item) → map (event_of u) (map g items) ≡ map f (map (event_of v) items)) (events : List Event) (makes : map f events ≡ over (cyc e) a)
    (old mid : List Item) (from : ℕ) (at : from ≡ length old) (adds : Adds v old mid events) where
  -- there is room for their counts
  pub moved_counts : Each HasCounts (map g (drop from mid))
  moved_counts =
      let made : map (event_of u) (map g adds.made) ≡ over (cyc e) a = same adds.made ∙ ap (map f) adds.plays ∙ makes in
      let fits = subst (Each (HasEnds InRange)) (sym made) (over_fits e a count.may) in
      subst (λ items. Each HasCounts (map g items)) (sym (ap (drop from) adds.behind ∙ drop_at old adds.made from (sym at)))
      (counts_fit u count.unit.positive (unit_small e u a count) (map g adds.made) fits)

  pub moved_there : (new : List Item) → new ≡ take from mid ++ map g (drop from mid) → Adds u old new (over (cyc e) a)
  moved_there new is =
      subst (Adds u old new) makes
      (adds_moved u v g f same old mid new events adds (subst (λ k. new ≡ take k mid ++ map g (drop k mid)) at is))

pub added_within : (u : ℕ) (old mid : List Item) (events : List Event) (from : ℕ) → from ≡ length old → Adds u old mid events → from ≤ length mid
added_within u old mid events from at adds = from_within old mid adds.made from at adds.behind

-- ---- at a rate
module _ (r : Rational) (e : Tree) (ask : CountAsk) (visit : MayCountVisit (Fast r e) ask) where
  abbrev u : ℕ
  u = ask.unit

  abbrev a : Arc
  a = arc_of ask.unit ask.arc

  abbrev p : ℕ
  p = upper r

  above : whole (pos 0) <ℚ r
  above = visit.count.may.room.valid.0

  some : 0 < p
  some = upper_positive r above

  num : r.num ≡ pos p
  num = sym (num_positive r above).0

  on : p * (grid e / gcd (grid e) r.den) ∣ u
  on =
      let is = shared_out_last (grid e) (upper r) (lower r) (grid_positive e visit.count.may.room.valid.1) (num_den_coprime r) in
      subst (λ g. g ∣ u) is visit.count.unit.divides

  divides : p ∣ u
  divides = dvd_trans p (dvd-mul_right p (grid e / gcd (grid e) r.den)) on

  module _ (v : ℕ) (made : v * p ≡ u * r.den) where
    positive : 0 < v
    positive = factor v p (u * r.den) made (mul-pos visit.count.unit.positive (den_positive r))
      where
        factor : (v p n : ℕ) → v * p ≡ n → 0 < n → 0 < v
        factor zero p n e h = absurd (omega arith)
        factor (suc v) p n e h = omega arith

    asked : (q : ℕ) → q * r.den ≤ fast_ask r q * p
    asked q =
        let g = gcd (q * lower r) p in
        let all : q * lower r / g * g ≡ q * lower r = div-mul_cancel g (IsGcd-gcd (q * lower r) p).0 in
        omega (arith, all, mul-le-mul_left (q * lower r / g) (gcd_le (q * lower r) p some))

    rate_count : MayCount e v (map_arc (λ t. t *ℚ r) a)
    rate_count = record {
      may = record {
        q = fast_ask r visit.count.may.q;
        m = fast_far r visit.count.may.m;
        room = room_fast visit.count.may.q visit.count.may.m r e visit.count.may.room;
        asked = rate_asked visit.count.may.q visit.count.may.m r above a visit.count.may.asked;
      };
      unit = record {
        positive = positive;
        divides = grid_below_rate (grid e) p r.den u v some on made;
        small = small_below_rate visit.count.may.q u v p r.den (fast_ask r visit.count.may.q) (2 ^ 44) some made (asked visit.count.may.q)
            visit.count.unit.small;
      };
    }

    there_is : arc_of v ask.arc ≡ map_arc (λ t. t *ℚ r) a
    there_is = span_faster u v p visit.count.unit.positive positive r num made ask.arc

    pub fast_child : MayCount e v (arc_of v ask.arc)
    fast_child = subst (MayCount e v) (sym there_is) rate_count

    pub fast_visit : (res : Result (Unit {0}) NoMemory) (out out' : List Item) (s0 s1 : ℕ) → IsVisits e v (arc_of v ask.arc) res out out' s0 s1
        → IsVisit (Fast r e) ask res out out' s0 (s1 + 1)
    fast_visit res out out' s0 s1 h =
        let es = map (moved (λ t. t /ℚ r)) (over (cyc e) (arc_of v ask.arc)) in
        let own = times.fast_visit r e (record { cycle = ask.cycle; arc = a }) (arc_of v ask.arc) there_is (may_visit (Fast r e) ask visit) res [] es s0 s1
        (in_times_as es v _ _ _ res out out' s0 s1 h) in
        let plays : es ≡ over (cyc (Fast r e)) a =
        ap (λ b. map (moved (λ t. t /ℚ r)) (over (cyc e) b)) there_is
        ∙ sym (over-fast r (cyc e) above (proper e visit.count.may.room.valid.1) ask.cycle a visit.count.may.asked.is_arc visit.inside) in
        record {
          items = on_ok_weaker res (λ (adds : Adds v out out' (over (cyc e) (arc_of v ask.arc))). slower out out' _ _ adds plays) h.items;
          exact = own.exact;
          few = own.few;
        }
      where
        slower : (old new : List Item) (es fs : List Event) → Adds v old new es → map (moved (λ t. t /ℚ r)) es ≡ fs → Adds u old new fs
        slower old new es fs adds plays = record {
          made = adds.made;
          behind = adds.behind;
          plays = items_slower u v p visit.count.unit.positive positive some r num made adds.made ∙ ap (map (moved (λ t. t /ℚ r))) adds.plays ∙ plays;
        }

  pub fast_rate : IsRateOf r u
  fast_rate = record {
    above = above;
    divides = divides;
    small = unit_small e (u / p * r.den) _ (fast_child (u / p * r.den) (unit_made r u p r.den divides refl refl p num));
  }

  pub fast_unit : (v : ℕ) → ((p : ℕ) → r.num ≡ pos p → v * p ≡ u * r.den) → v * p ≡ u * r.den
  fast_unit v made = made p num
