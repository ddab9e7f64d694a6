-- What a step of a sequence may be asked in counts: its unit, what it has of a span, and that its answer can be moved into its share.
use Rattle.std.proofs.Common.{◌≡◌, ℕ, zero, suc, ◌+◌, ◌*◌, ◌/◌, ◌<◌, ◌≤◌, ◌^◌, List, length, get_or, map, Some}
use Rattle.std.proofs.Common.{ℤ, pos, ◌+ℤ◌, nat_abs, neg_ℤ, refl, sym, ap, ◌∙◌, subst, arith}
use Rattle.std.specs.Int.{◌∣◌}
use Rattle.std.specs.Option.{option_map}
use Rattle.std.proofs.Math.Nat.{mul-pos, dvd-mul_right, zero-mul}
use native.Mathlib.Nat.{dvd_trans, div-mul_cancel}
use Rattle.tdl_fraction.specs.Range.{InRange}
use Rattle.tdl_fraction.specs.Arc.{Arc, IsInside, map_arc}
use Rattle.tdl_fraction.specs.Rational.{IsMultiple}
use Rattle.tdl_fraction.proofs.Order.{≤ℚ_trans, whole-le}
use Rattle.tdl_fraction.proofs.Multiples.{whole_multiple, multiple_min, multiple_max}
use Rattle.tdl_fraction.proofs.Arcs.{meet_ends}
use Rattle.tdl_expr.specs.declared.steps.Step.{Step as StepValue}
use Rattle.tdl_expr.specs.Tree.{Tree, TimeCat, Steps}
use Rattle.tdl_expr.specs.Bounds.{grid, grids, bounds_of_steps, sum_of_weights}
use Rattle.tdl_expr.specs.Rows.{row, weighted as steps_of}
use Rattle.tdl_expr.specs.Passed.{weight_sum}
use Rattle.tdl_expr.proofs.ValidRows.{same_sum}
use Rattle.tdl_meaning.specs.Pattern.{over, moved, squeezed, cycle_arc}
use Rattle.tdl_meaning.specs.Meaning.{cyc}
use Rattle.tdl_meaning.specs.Proper.{Each}
use Rattle.tdl_meaning.specs.Ranges.{HasEnds, IsAsked}
use Rattle.tdl_meaning.specs.Heard.{unsqueezed}
use Rattle.tdl_meaning.specs.Asks.{IsStep as IsStepOf}
use Rattle.tdl_meaning.specs.inside.Arcs.{over_met, step_ask}
use Rattle.tdl_meaning.specs.inside.Conditions.{MayAsk}
use Rattle.tdl_meaning.proofs.ByKind.{ask_is, ask_inside}
use Rattle.tdl_meaning.proofs.Asked.{step_is_valid, room_step, low_cycle, high_cycle}
use Rattle.tdl_meaning.proofs.Moving.{cycle_small, step_grid}
use Rattle.tdl_meaning.proofs.PlainLemmas.{step_at}
use Rattle.tdl_visits.proofs.Asking.{may_whole, one_cycle_of, unsqueezed_multiple}
use Rattle.tdl_grid.specs.Span.{Span, arc_of}
use Rattle.tdl_grid.specs.Step.{IsStep, asked_step}
use Rattle.tdl_grid.specs.declared.asks.CountAsk.{CountAsk}
use Rattle.tdl_grid.specs.declared.steps.Step.{Step}
use Rattle.tdl_grid.specs.inside.Asked.{IsUnit, MayCountVisit, MayCountStep}
use Rattle.tdl_grid.proofs.Grids.{grid_below_step, small_below_step}
use Rattle.tdl_grid.proofs.Sequences.{step_asked}
use Rattle.tdl_grid.proofs.Gaining.{unit_small}

-- a step in counts, and a span of its cycle
abbrev pub step_of : ℤ → ℕ → ℕ → ℕ → ℕ → Step
step_of c o w W x = record { cycle = c; before = o; weight = w; total = W; width = x }

abbrev pub ask_of : ℤ → ℕ → Span → CountAsk
ask_of c u a = record { cycle = c; unit = u; arc = a }

-- what a step is asked for is on a grid of its own, which is w times as fine
share_asked : (steps : Steps) (o w : ℕ) (e : Tree) (c : ℤ) (a d : Arc) (is : IsStepOf w steps e) (may : MayAsk (TimeCat steps) a) → IsInside a (cycle_arc c)
    → step_ask c o w (sum_of_weights steps) a ≡ Some d → IsAsked (may.q * w) may.m d
share_asked steps o w e c a d is may inside asks =
    let W = sum_of_weights steps in
    let weight = (step_is_valid is may.room.valid.1).0 in
    let there = ask_inside c o w W a weight may.room.valid.0 d asks in
    let ends = meet_ends (cycle_arc c) (map_arc (unsqueezed c o w W) a) d (ask_is c o w W a weight may.room.valid.0 ∙ asks) in
    let p = may.q * w in
    let at = one_cycle_of c a may.asked.is_arc inside in
    record {
      is_arc = there.0;
      on_grid = record {
        start = subst (IsMultiple p) (sym ends.0)
            (multiple_max (whole_multiple p c) (unsqueezed_multiple may.q c o w W a.start may.asked.on_grid.start));
        stop = subst (IsMultiple p) (sym ends.1)
            (multiple_min (whole_multiple p (c +ℤ pos 1)) (unsqueezed_multiple may.q c o w W a.stop may.asked.on_grid.stop));
      };
      from = ≤ℚ_trans ((whole-le (neg_ℤ (pos may.m)) c).0 (low_cycle c may.asked at)) there.1.0;
      to = ≤ℚ_trans there.1.1 ((whole-le (c +ℤ pos 1) (pos may.m)).0 (high_cycle c may.asked at));
    }

-- what a step gives is in range, in its share of the cycle
abbrev pub StepFits : Tree → ℤ → ℕ → ℕ → ℕ → Arc → Type 0
StepFits e c o w W a = Each (HasEnds InRange) (map (moved (squeezed c o w W)) (over_met (cyc e) (step_ask c o w W a)))

module _ (steps : Steps) (o w x : ℕ) (e : Tree) (c : ℤ) (a : Span) (is : IsStepOf w steps e) (le : o + w ≤ sum_of_weights steps) (some : 0 < x)
    (visit : MayCountVisit (TimeCat steps) (ask_of c (x * sum_of_weights steps) a))
    (fits : StepFits e c o w (sum_of_weights steps) (arc_of (x * sum_of_weights steps) a)) where
  abbrev W : ℕ
  W = sum_of_weights steps

  weight : 0 < w
  weight = (step_is_valid is visit.count.may.room.valid.1).0

  total : 0 < W
  total = visit.count.may.room.valid.0

  unit : IsUnit (x * w) e (visit.count.may.q * w)
  unit = record {
    positive = mul-pos some weight;
    divides = grid_below_step (grid e) (grids (bounds_of_steps steps)) W w (x * W) x total visit.count.unit.divides refl (step_grid is);
    small = small_below_step visit.count.may.q (x * W) x W w (2 ^ 44) total refl visit.count.unit.small;
  }

  asks : (d : Span) → asked_step c o w W x a ≡ Some d → step_ask c o w W (arc_of (x * W) a) ≡ Some (arc_of (x * w) d)
  asks d asked = step_asked c o w W x weight total some a ∙ ap (option_map (arc_of (x * w))) asked

  -- its answer, moved into its share
  moved_fit : (d : Span) → asked_step c o w W x a ≡ Some d → Each (HasEnds InRange) (map (moved (squeezed c o w W)) (over (cyc e) (arc_of (x * w) d)))
  moved_fit d asked = subst (λ met. Each (HasEnds InRange) (map (moved (squeezed c o w W)) (over_met (cyc e) met))) (asks d asked) fits

  pub step_may : MayCountStep e (step_of c o w W x) a
  step_may = record {
    visit = λ d asked. record {
      count = record {
        may = record {
          q = visit.count.may.q * w;
          m = visit.count.may.m;
          room = room_step visit.count.may.q visit.count.may.m w steps e is visit.count.may.room;
          asked = share_asked steps o w e c (arc_of (x * W) a) (arc_of (x * w) d) is visit.count.may visit.inside (asks d asked);
        };
        unit = unit;
      };
      inside = (ask_inside c o w W (arc_of (x * W) a) weight total (arc_of (x * w) d) (asks d asked)).1;
    };
    in_range = moved_fit;
  }

  pub step_is : IsStep (step_of c o w W x)
  step_is =
      let small = cycle_small (TimeCat steps) c (may_whole (TimeCat steps) c (arc_of (x * W) a) visit.count.may visit.inside) in
      record {
        weight = weight;
        within = le;
        width = some;
        small = unit_small (TimeCat steps) (x * W) (arc_of (x * W) a) visit.count;
        first = small.0;
        last = small.1;
      }

-- the unit that a sequence is asked in, where a weight of one has x counts and W is the sum of the weights
pub record HasWidth (W x : ℕ) (ask : CountAsk) : Type 0 where
  pub some : 0 < W
  pub width : 0 < x
  pub same : x * W ≡ ask.unit
  pub small : x * W ≤ 2 ^ 88
  pub last : nat_abs (ask.cycle +ℤ pos 1) ≤ 2 ^ 36
  pub inside : IsInside (arc_of (x * W) ask.arc) (cycle_arc ask.cycle)

-- what is known at a step, before which weights o have passed
pub record AtCounts (trees : List Tree) (s : StepValue) (W x o : ℕ) (c : ℤ) (a : Span) : Type 0 where
  pub is : IsStep (step_of c o s.weight W x)
  pub may : MayCountStep (row trees s.child) (step_of c o s.weight W x) a

module _ (trees : List Tree) (steps : List StepValue) (W : ℕ) (total : W ≡ weight_sum steps) (ask : CountAsk)
    (visit : MayCountVisit (TimeCat (steps_of trees steps)) ask) where
  in_all : W ≡ sum_of_weights (steps_of trees steps)
  in_all = total ∙ sym (same_sum trees steps)

  pub has_width : (x : ℕ) → x ≡ ask.unit / W → HasWidth W x ask
  has_width x is =
      let n = sum_of_weights (steps_of trees steps) in
      let e = TimeCat (steps_of trees steps) in
      let some : 0 < W = omega (arith, in_all, visit.count.may.room.valid.0) in
      let own : n ∣ ask.unit = dvd_trans n (dvd-mul_right n (grids (bounds_of_steps (steps_of trees steps)))) visit.count.unit.divides in
      let same : x * W ≡ ask.unit = ap (λ k. k * W) is ∙ div-mul_cancel W (subst (λ k. k ∣ ask.unit) (sym in_all) own) in
      record {
        some = some;
        width = factor x W ask.unit same visit.count.unit.positive;
        same = same;
        small = subst (λ u. u ≤ 2 ^ 88) (sym same) (unit_small e ask.unit (arc_of ask.unit ask.arc) visit.count);
        last = (cycle_small e ask.cycle (may_whole e ask.cycle (arc_of ask.unit ask.arc) visit.count.may visit.inside)).1;
        inside = subst (λ u. IsInside (arc_of u ask.arc) (cycle_arc ask.cycle)) (sym same) visit.inside;
      }
    where
      factor : (x W u : ℕ) → x * W ≡ u → 0 < u → 0 < x
      factor zero W u same some = absurd (omega (arith, zero-mul W))
      factor (suc x) W u same some = omega arith

  pub at_counts : (x : ℕ) → HasWidth W x ask → (i : ℕ) (s : StepValue) → i < length steps → s ≡ get_or steps i s → (o : ℕ) → o + s.weight ≤ W
      → StepFits (row trees s.child) ask.cycle o s.weight W (arc_of ask.unit ask.arc) → AtCounts trees s W x o ask.cycle ask.arc
  at_counts x has i s within at o below fits =
      let n = sum_of_weights (steps_of trees steps) in
      let is = subst (λ (y : StepValue). IsStepOf y.weight (steps_of trees steps) (row trees y.child)) (sym at) (step_at trees steps i s within) in
      let le = subst (λ k. o + s.weight ≤ k) in_all below in
      let same : ask.unit ≡ x * n = sym has.same ∙ ap (λ k. x * k) in_all in
      let here = subst (λ u. MayCountVisit (TimeCat (steps_of trees steps)) (ask_of ask.cycle u ask.arc)) same visit in
      let here_fits = subst (λ u. StepFits (row trees s.child) ask.cycle o s.weight n (arc_of u ask.arc)) same
      (subst (λ k. StepFits (row trees s.child) ask.cycle o s.weight k (arc_of ask.unit ask.arc)) in_all fits) in
      subst (λ k. AtCounts trees s k x o ask.cycle ask.arc) (sym in_all) (record {
        is = step_is (steps_of trees steps) o s.weight x (row trees s.child) ask.cycle ask.arc is le has.width here here_fits;
        may = step_may (steps_of trees steps) o s.weight x (row trees s.child) ask.cycle ask.arc is le has.width here here_fits;
      })
