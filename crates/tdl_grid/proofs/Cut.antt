-- Items that are cut into pieces, and those that start in a part of their cycle.
use Rattle.std.proofs.Common.{◌≡◌, ℕ, Bool, ◌+◌, ◌*◌, ◌/◌, ◌<◌, ◌≤◌, List, [], ◌∷◌, ◌++◌, take, drop, length, ℤ, pos, ◌-ℤ◌, ◌*ℤ◌, nat_abs}
use Rattle.std.proofs.Common.{Result, OnOk, Ok, refl, sym, ap, ap₂, ◌∙◌, subst, arith, length-append}
use Rattle.std.specs.Int.{◌∣◌}
use Rattle.std.specs.List.{flat_map, filter}
use Rattle.std.proofs.lemmas.Int.{unsigned_abs-mul}
use Rattle.std.proofs.lemmas.Result.{on_ok_weaker}
use Rattle.std.proofs.Math.Nat.{dvd-mul_left, dvd_of_mul-dvd-mul_left}
use native.Mathlib.Nat.{mul_comm, dvd_trans, div-mul_cancel}
use Rattle.tdl_control.specs.declared.faults.NoMemory.{NoMemory}
use Rattle.tdl_ring.proofs.Integers.{integers}
use Rattle.tdl_ring.proofs.Quoting.{by_ring, ring}
use Rattle.tdl_fraction.specs.Rational.{Rational, frac, IsMultiple}
use Rattle.tdl_fraction.specs.LowestTerms.{positive_quotient}
use Rattle.tdl_event.specs.Event.{Event}
use Rattle.tdl_expr.specs.Tree.{Tree}
use Rattle.tdl_expr.specs.Tree as tree
use Rattle.tdl_expr.specs.Bounds.{bounds, grid, hang}
use Rattle.tdl_expr.proofs.Numbers.{grid_positive}
use Rattle.tdl_meaning.specs.Pattern.{over}
use Rattle.tdl_meaning.specs.Kinds.{fragments}
use Rattle.tdl_meaning.specs.Meaning.{cyc}
use Rattle.tdl_meaning.specs.Proper.{Each}
use Rattle.tdl_meaning.specs.Ranges.{IsInRange}
use Rattle.tdl_meaning.proofs.Asked.{room_ply, room_gate}
use Rattle.tdl_meaning.proofs.Lists.{each_weaker, each_unmap}
use Rattle.tdl_meaning.proofs.Sizes.{range}
use Rattle.tdl_visits.specs.inside.Visits.{visits}
use Rattle.tdl_visits.proofs.ByRow.{ply_over, gate_over}
use Rattle.tdl_visits.proofs.Visits.{for_child}
use Rattle.tdl_grid.specs.Span.{Span, HasPieces, arc_of}
use Rattle.tdl_grid.specs.Item.{Item, HasWholePieces, event_of, passes_in, Adds, AddsInEach}
use Rattle.tdl_grid.specs.ItemLaws.{events_of}
use Rattle.tdl_grid.specs.declared.asks.CountAsk.{CountAsk}
use Rattle.tdl_grid.specs.inside.Asked.{MayCountVisit}
use Rattle.tdl_grid.specs.inside.Visited.{IsVisit}
use Rattle.tdl_grid.proofs.Gained.{adds_as, adds_passed}
use Rattle.tdl_grid.proofs.Units.{exact_count}

-- the events of a list that was begun with none
pub all_play : (u : ℕ) (none items : List Item) (events : List Event) → none ≡ [] → Adds u none items events → events_of u items ≡ events
all_play u none items events empty added = ap (events_of u) (added.behind ∙ ap (λ xs. xs ++ added.made) empty) ∙ added.plays

-- where so many pieces of 1 / g have whole counts, so have those of a span on the grid of 1 / g
pieces_whole : (n g u : ℕ) → 0 < g → 0 < u → n * g ∣ u → (s : Span) → IsMultiple g (frac s.start u) → IsMultiple g (frac s.stop u) → HasPieces n s
pieces_whole n g u hg hu on s start stop =
    let x = u / g in
    let goes : g ∣ u = dvd_trans g (dvd-mul_left g n) on in
    let whole : g * x ≡ u = mul_comm g x ∙ div-mul_cancel g goes in
    let own : n ∣ x = dvd_of_mul-dvd-mul_left n hg (subst (λ k. g * n ∣ k) (sym whole) (subst (λ k. k ∣ u) (mul_comm n g) on)) in
    let some : 0 < x = positive_quotient u g hu goes in
    let first = exact_count g x s.start hg some (subst (λ k. IsMultiple g (frac s.start k)) (sym whole) start) in
    let last = exact_count g x s.stop hg some (subst (λ k. IsMultiple g (frac s.stop k)) (sym whole) stop) in
    let width : s.stop -ℤ s.start ≡ (last.0 -ℤ first.0) *ℤ pos x = ap₂ ◌-ℤ◌ last.1 first.1 ∙ apart last.0 first.0 (pos x) in
    record {
      exact =
          subst (λ k. n ∣ k) (sym (ap nat_abs width ∙ unsigned_abs-mul (last.0 -ℤ first.0) (pos x)))
          (dvd_trans n own (dvd-mul_left x (nat_abs (last.0 -ℤ first.0))));
    }
  where
    apart : (a b x : ℤ) → a *ℤ x -ℤ b *ℤ x ≡ (a -ℤ b) *ℤ x
    apart a b x = by_ring integers (a ∷ b ∷ x ∷ []) (search ring depth 12) refl

-- ---- in pieces
module _ (n : ℕ) (e : Tree) (ask : CountAsk) (visit : MayCountVisit (tree.Ply n e) ask) where
  pub ply_child : MayCountVisit e ask
  ply_child = record {
    count = record {
      may = record {
        q = visit.count.may.q;
        m = visit.count.may.m;
        room = room_ply visit.count.may.q visit.count.may.m n e visit.count.may.room;
        asked = visit.count.may.asked;
      };
      unit = record {
        positive = visit.count.unit.positive;
        divides = dvd_trans (grid e) (dvd-mul_left (grid e) n) visit.count.unit.divides;
        small = visit.count.unit.small;
      };
    };
    inside = visit.inside;
  }

  module _ (none items : List Item) (empty : none ≡ []) (added : Adds ask.unit none items (over (cyc e) (arc_of ask.unit ask.arc))) where
    made : events_of ask.unit items ≡ over (cyc e) (arc_of ask.unit ask.arc)
    made = all_play ask.unit none items _ empty added

    pub ply_pieces : Each (HasWholePieces n) items
    ply_pieces =
        let a = arc_of ask.unit ask.arc in
        let may = visit.count.may in
        let known = subst (Each (IsInRange (grid e) (hang e) a)) (sym made) (range e may.room.valid.1 a may.asked.is_arc) in
        each_weaker (λ i. IsInRange (grid e) (hang e) a (event_of ask.unit i)) (HasWholePieces n)
        (λ i is. pieces_whole n (grid e) ask.unit (grid_positive e may.room.valid.1) visit.count.unit.positive visit.count.unit.divides i.whole
        is.gridded.whole_start is.gridded.whole_stop)
        items (each_unmap (IsInRange (grid e) (hang e) a) (event_of ask.unit) items known)

    pub ply_gains : (r : Result (Unit {0}) NoMemory) (old new : List Item) (s0 s1 : ℕ) → s1 ≡ s0 + visits e ask.cycle (arc_of ask.unit ask.arc)
        → s1 ≤ s0 + (bounds e).load → OnOk r (AddsInEach old new (λ u. flat_map (fragments n) (events_of u items)))
        → IsVisit (tree.Ply n e) ask r old new s0 (s1 + 1)
    ply_gains r old new s0 s1 taken few h =
        let all = ply_over n (cyc e) (arc_of ask.unit ask.arc) (events_of ask.unit items) made in
        record {
          items = on_ok_weaker r (λ each. adds_as ask.unit old new _ _ all (each ask.unit visit.count.unit.positive)) h;
          exact = on_ok_weaker r (λ _. for_child _ _ _ _ taken refl) h;
          few = omega (arith, few);
        }

-- ---- what starts in a part of its cycle
module _ (from to : Rational) (inside : Bool) (e : Tree) (ask : CountAsk) (visit : MayCountVisit (tree.Gate from to inside e) ask) where
  pub gate_child : MayCountVisit e ask
  gate_child = record {
    count = record {
      may = record {
        q = visit.count.may.q;
        m = visit.count.may.m;
        room = room_gate visit.count.may.q visit.count.may.m from to inside e visit.count.may.room;
        asked = visit.count.may.asked;
      };
      unit = record { positive = visit.count.unit.positive; divides = visit.count.unit.divides; small = visit.count.unit.small };
    };
    inside = visit.inside;
  }

  module _ (old mid : List Item) (first : ℕ) (at : first ≡ length old) (added : Adds ask.unit old mid (over (cyc e) (arc_of ask.unit ask.arc))) where
    pub gate_within : first ≤ length mid
    gate_within = omega (arith, at, ap length added.behind, length-append old added.made)

    pub gate_gains : (new : List Item) (s0 s1 : ℕ) → s1 ≡ s0 + visits e ask.cycle (arc_of ask.unit ask.arc) → s1 ≤ s0 + (bounds e).load
        → new ≡ take first mid ++ filter (passes_in ask.unit from to inside) (drop first mid)
        → IsVisit (tree.Gate from to inside e) ask (Ok tt) old new s0 (s1 + 1)
    gate_gains new s0 s1 taken few kept =
        let those = subst (λ k. new ≡ take k mid ++ filter (passes_in ask.unit from to inside) (drop k mid)) at kept in
        record {
          items = adds_as ask.unit old new _ _ (gate_over from to inside (cyc e) (arc_of ask.unit ask.arc))
              (adds_passed ask.unit from to inside old mid new _ added those);
          exact = for_child _ _ _ _ taken refl;
          few = omega (arith, few);
        }
