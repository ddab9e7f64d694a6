-- What a join on counts asks of its sides: both, or the one that gives the wholes, for the arc, and the other for those wholes
-- in the unit of the join's own grid.
use Rattle.std.proofs.Common.{◌≡◌, ℕ, ◌*◌, ◌/◌, ◌^◌, ◌<◌, ◌≤◌, ℤ, pos, nat_abs, List, map, refl, sym, ap, ◌∙◌, subst, arith}
use Rattle.std.specs.Int.{◌∣◌}
use Rattle.std.proofs.lemmas.Int.{unsigned_abs-mul}
use native.Mathlib.Nat.{mul_comm, dvd_trans, dvd-mul_left, div-mul_cancel}
use Rattle.tdl_fraction.specs.LowestTerms.{positive_quotient}
use Rattle.tdl_fraction.specs.Rational.{frac, IsMultiple}
use Rattle.tdl_fraction.specs.Arc.{Arc}
use Rattle.tdl_fraction.proofs.Coprime.{divides_lcm_left, divides_lcm_right}
use Rattle.tdl_fraction.proofs.Multiples.{multiple_finer}
use Rattle.tdl_event.specs.Event.{Event}
use Rattle.tdl_expr.specs.declared.ids.NodeId.{NodeId}
use Rattle.tdl_expr.specs.declared.joinings.Side.{Side}
use Rattle.tdl_expr.specs.declared.joinings.Side.TheVariants.{Left, Right, Both}
use Rattle.tdl_expr.specs.declared.nodes.Node.{Node}
use Rattle.tdl_expr.specs.Bounds.{grid, hang}
use Rattle.tdl_expr.specs.Rows.{tree_at}
use Rattle.tdl_expr.specs.Tree.{Tree, Join}
use Rattle.tdl_expr.proofs.Numbers.{grid_positive, own_grid, le_lcm_left}
use Rattle.tdl_meaning.specs.Proper.{Each}
use Rattle.tdl_meaning.specs.Ranges.{IsInRange}
use Rattle.tdl_meaning.specs.inside.Conditions.{HasRoom, MayAsk}
use Rattle.tdl_meaning.proofs.Asked.{room_left, room_right}
use Rattle.tdl_meaning.proofs.Lists.{each_both, each_unmap}
use Rattle.tdl_visits.specs.declared.joined_rows.JoinedRows.{JoinedRows}
use Rattle.tdl_visits.specs.Sides.{by_side, giver_of, other_of}
use Rattle.tdl_visits.specs.inside.Joins.{IsAskable, joined_tree}
use Rattle.tdl_grid.specs.Span.{Span, arc_of}
use Rattle.tdl_grid.specs.Item.{Item, event_of}
use Rattle.tdl_grid.specs.declared.asks.CountAsk.{CountAsk}
use Rattle.tdl_grid.specs.declared.asks.JoinUnit.{JoinUnit}
use Rattle.tdl_grid.specs.inside.Asked.{MayCount, MayCountVisit, IsJoinUnit, MayAskWhole}
use Rattle.tdl_grid.proofs.Units.{exact_count}
use Rattle.tdl_grid.proofs.SpanArcs.{span_finer}
use Rattle.tdl_grid.proofs.Gaining.{unit_small}

-- a side that has room for the same ask may be asked in the same unit
side_count : (u : ℕ) (d e : Tree) (a : Arc) (count : MayCount e u a) → HasRoom count.may.q count.may.m d → grid d ∣ grid e → MayCount d u a
side_count u d e a count room below = record {
  may = record { q = count.may.q; m = count.may.m; room = room; asked = count.may.asked };
  unit = record { positive = count.unit.positive; divides = dvd_trans (grid d) below count.unit.divides; small = count.unit.small };
}

module _ (table : List Node) (j : JoinedRows) where
  -- ---- grids of the sides
  pub giver_divides : grid (tree_at table (giver_of j)) ∣ grid (joined_tree table j)
  giver_divides = by j.side
    where
      by : (s : Side) → grid (tree_at table (by_side s j.left j.right)) ∣ grid (Join s j.op (tree_at table j.left) (tree_at table j.right))
      by Left = divides_lcm_left _ _
      by Right = divides_lcm_right _ _
      by Both = divides_lcm_left _ _

  pub other_divides : grid (tree_at table (other_of j)) ∣ grid (joined_tree table j)
  other_divides = by j.side
    where
      by : (s : Side) → grid (tree_at table (by_side s j.right j.left)) ∣ grid (Join s j.op (tree_at table j.left) (tree_at table j.right))
      by Left = divides_lcm_right _ _
      by Right = divides_lcm_left _ _
      by Both = divides_lcm_right _ _

  -- ---- sides that are asked for the arc
  module _ (ask : CountAsk) (visit : MayCountVisit (joined_tree table j) ask) where
    abbrev a : Arc
    a = arc_of ask.unit ask.arc

    abbrev d : Tree
    d = tree_at table j.left

    abbrev e : Tree
    e = tree_at table j.right

    module _ (both : j.side ≡ Both) where
      abbrev all : MayCount (Join Both j.op d e) ask.unit a
      all = subst (λ s. MayCount (Join s j.op d e) ask.unit a) both visit.count

      pub left_asked : MayCountVisit d ask
      left_asked = record {
        count = side_count ask.unit d (Join Both j.op d e) a all (room_left all.may.q all.may.m Both j.op d e all.may.room) (divides_lcm_left _ _);
        inside = visit.inside;
      }

      pub right_asked : MayCountVisit e ask
      right_asked = record {
        count = side_count ask.unit e (Join Both j.op d e) a all (room_right all.may.q all.may.m Both j.op d e all.may.room) (divides_lcm_right _ _);
        inside = visit.inside;
      }

    pub giver_asked : (giver : NodeId) → giver ≡ giver_of j → MayCountVisit (tree_at table giver) ask
    giver_asked giver is = record { count = subst (λ x. MayCount (tree_at table x) ask.unit a) (sym is) (by j.side visit.count); inside = visit.inside }
      where
        by : (s : Side) → MayCount (Join s j.op d e) ask.unit a → MayCount (tree_at table (by_side s j.left j.right)) ask.unit a
        by Left x = side_count ask.unit d (Join Left j.op d e) a x (room_left x.may.q x.may.m Left j.op d e x.may.room) (divides_lcm_left _ _)
        by Right x = side_count ask.unit e (Join Right j.op d e) a x (room_right x.may.q x.may.m Right j.op d e x.may.room) (divides_lcm_right _ _)
        by Both x = side_count ask.unit d (Join Both j.op d e) a x (room_left x.may.q x.may.m Both j.op d e x.may.room) (divides_lcm_left _ _)

-- ---- the unit of a tree's own grid
-- the times of a tree that may be asked are no finer than a time may be
pub grid_small : (e : Tree) (a : Arc) → MayAsk e a → grid e ≤ 2 ^ 44
grid_small e a may =
    omega (arith, le_lcm_left (grid e) may.q (grid_positive e may.room.valid) may.room.on_grid, own_grid e may.q, may.room.not_too_fine)

module _ (e : Tree) (u : ℕ) (a : Arc) (count : MayCount e u a) (own : JoinUnit) (is : own.unit ≡ grid e) (parts : own.times ≡ u / own.unit) where
  own_divides : own.unit ∣ u
  own_divides = subst (λ g. g ∣ u) (sym is) count.unit.divides

  -- that unit, and so many times as fine the one that is asked in
  pub own_makes : own.unit * own.times ≡ u
  own_makes = ap (λ n. own.unit * n) parts ∙ mul_comm own.unit (u / own.unit) ∙ div-mul_cancel own.unit own_divides

  pub own_unit : IsJoinUnit own
  own_unit = record {
    unit = subst (λ g. 0 < g) (sym is) (grid_positive e count.may.room.valid);
    times = subst (λ n. 0 < n) (sym parts) (positive_quotient u own.unit count.unit.positive own_divides);
    small = subst (λ n. n ≤ 2 ^ 88) (sym own_makes) (unit_small e u a count);
  }

-- ---- the other side e, asked for the wholes of d
module _ (d e : Tree) (c : ℤ) (a : Arc) (own : JoinUnit) (is : IsJoinUnit own) (on : grid d ∣ own.unit) (other : grid e ∣ own.unit)
    (small : own.unit ≤ 2 ^ 44) where
  -- a count of a whole is a whole number of counts of the join's own unit
  whole_counts : (n : ℤ) → IsMultiple (grid d) (frac n (own.unit * own.times)) → own.times ∣ nat_abs n
  whole_counts n multiple =
      let m = exact_count own.unit own.times n is.unit is.times (multiple_finer (grid d) own.unit _ on multiple) in
      subst (λ k. own.times ∣ k) (sym (ap nat_abs m.1 ∙ unsigned_abs-mul m.0 (pos own.times))) (dvd-mul_left own.times (nat_abs m.0))

  whole_asked : (x : Event) (s : Span) → arc_of (own.unit * own.times) s ≡ x.whole → IsAskable e c x.whole → IsInRange (grid d) (hang d) a x
      → MayAskWhole e c own s
  whole_asked x s same can range = record {
    start = whole_counts s.start (subst (λ (b : Arc). IsMultiple (grid d) b.start) (sym same) range.gridded.whole_start);
    stop = whole_counts s.stop (subst (λ (b : Arc). IsMultiple (grid d) b.stop) (sym same) range.gridded.whole_stop);
    may = λ t finer.
        let back : x.whole ≡ arc_of own.unit t =
        sym same ∙ ap (arc_of (own.unit * own.times)) (sym finer) ∙ span_finer own.unit own.times is.unit is.times t in
        let may = subst (MayAsk e) back can.may in
        record { may = may; unit = record { positive = is.unit; divides = other; small = omega (arith, small, may.room.on_grid) } };
    cycle = (subst (IsAskable e c) (sym same) can).cycle;
  }

  -- the wholes of items, where their events are askable and on the giver's grid
  pub wholes_asked : (items : List Item) → Each (λ (x : Event). IsAskable e c x.whole) (map (event_of (own.unit * own.times)) items)
      → Each (IsInRange (grid d) (hang d) a) (map (event_of (own.unit * own.times)) items) → Each (λ (i : Item). MayAskWhole e c own i.whole) items
  wholes_asked items can range =
      let u = own.unit * own.times in
      each_both (λ (i : Item). IsAskable e c (event_of u i).whole) (λ (i : Item). IsInRange (grid d) (hang d) a (event_of u i))
      (λ (i : Item). MayAskWhole e c own i.whole) (λ i k r. whole_asked (event_of u i) i.whole refl k r) items
      (each_unmap (λ (x : Event). IsAskable e c x.whole) (event_of u) items can)
      (each_unmap (IsInRange (grid d) (hang d) a) (event_of u) items range)
