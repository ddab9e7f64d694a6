-- What else may be asked of a tree that may be asked for an arc of one cycle.
use Rattle.std.proofs.Common.{◌≡◌, ℕ, ◌*◌, ℤ, pos, ◌+ℤ◌, ◌≤ℤ◌, Some, sym, subst, arith}
use Rattle.std.proofs.lemmas.Int.{ints}
use Rattle.tdl_fraction.specs.Rational.{Rational, floor, IsMultiple}
use Rattle.tdl_fraction.specs.Arc.{Arc, IsArc, IsInside, meet}
use Rattle.tdl_fraction.proofs.Order.{≤ℚ_trans}
use Rattle.tdl_fraction.proofs.Multiples.{whole_multiple, multiple_plus, multiple_minus, multiple_times_whole, multiple_divide, multiple_min, multiple_max}
use Rattle.tdl_fraction.proofs.Arcs.{meet_ends, meet_inside_right}
use Rattle.tdl_expr.specs.Tree.{Tree}
use Rattle.tdl_meaning.specs.Pattern.{cycle_arc}
use Rattle.tdl_meaning.specs.Asks.{IsCycleOf}
use Rattle.tdl_meaning.specs.Heard.{unsqueezed}
use Rattle.tdl_meaning.specs.inside.Conditions.{MayAsk}
use Rattle.tdl_meaning.proofs.Cuts.{floor_inside, ceil_inside}
use Rattle.tdl_meaning.proofs.Condition.{may_cycle}

-- ---- an arc of one cycle
pub one_cycle_of : (c : ℤ) (a : Arc) → IsArc a → IsInside a (cycle_arc c) → IsCycleOf a c
one_cycle_of c a h inside = record { not_before = same (floor a.start) c (floor_inside c a h inside); not_after = same _ _ (sym (ceil_inside c a h inside)) }
  where
    same : (x y : ℤ) → x ≡ y → x ≤ℤ y
    same x y e = omega (arith, ints)

pub may_whole : (e : Tree) (c : ℤ) (a : Arc) → MayAsk e a → IsInside a (cycle_arc c) → MayAsk e (cycle_arc c)
may_whole e c a may inside = may_cycle e a c may (one_cycle_of c a may.asked.is_arc inside)

-- ---- what an arc has of a cycle
pub may_cut : (e : Tree) (c : ℤ) (a d : Arc) → MayAsk e a → meet (cycle_arc c) a ≡ Some d → MayAsk e d
may_cut e c a d may met =
    let ends = meet_ends (cycle_arc c) a d met in
    let inside = meet_inside_right (cycle_arc c) a d met in
    record {
      q = may.q;
      m = may.m;
      room = may.room;
      asked = record {
        is_arc = ends.2;
        on_grid = record {
          start = subst (IsMultiple may.q) (sym ends.0) (multiple_max (whole_multiple may.q c) may.asked.on_grid.start);
          stop = subst (IsMultiple may.q) (sym ends.1) (multiple_min (whole_multiple may.q (c +ℤ pos 1)) may.asked.on_grid.stop);
        };
        from = ≤ℚ_trans may.asked.from inside.0;
        to = ≤ℚ_trans inside.1 may.asked.to;
      };
    }

-- ---- a step of a sequence
pub unsqueezed_multiple : (q : ℕ) (c : ℤ) (o w W : ℕ) (t : Rational) → IsMultiple q t → IsMultiple (q * w) (unsqueezed c o w W t)
unsqueezed_multiple q c o w W t on =
    let since = multiple_times_whole (pos W) (multiple_minus on (whole_multiple q c)) in
    multiple_plus (whole_multiple (q * w) c) (multiple_divide w (multiple_minus since (whole_multiple q (pos o))))
