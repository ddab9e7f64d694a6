-- The condition of an evaluator, handed down from a tree to its children; and what it gives: all times are fractions
-- of the program.
use Rattle.std.proofs.Common.{ℕ, ◌+◌, ◌*◌, ◌≤◌, arith, length, Contains, ℤ, pos, ◌+ℤ◌, neg_ℤ, ◌≤ℤ◌, inl}
use Rattle.std.proofs.lemmas.Int.{ints}
use Rattle.tdl_fraction.specs.Divisor.{lcm}
use Rattle.tdl_fraction.specs.Rational.{Rational, ◌-ℚ◌, ◌*ℚ◌}
use Rattle.tdl_fraction.specs.Range.{InRange}
use Rattle.tdl_fraction.specs.Arc.{Arc, map_arc}
use Rattle.tdl_fraction.proofs.Order.{whole-le}
use Rattle.tdl_event.specs.Event.{Event}
use Rattle.tdl_expr.specs.declared.joinings.Op.{Op}
use Rattle.tdl_expr.specs.declared.joinings.Side.{Side}
use Rattle.tdl_expr.specs.declared.joinings.Side.TheVariants.{Left, Right, Both}
use Rattle.tdl_expr.specs.Tree.{Tree, Fast, TimeCat, Cat, Stack, Pick, Shift, Join, Trees, Steps}
use Rattle.tdl_expr.specs.Valid.{IsValid}
use Rattle.tdl_expr.specs.Bounds.{grid, hang, fast_ask, fast_far, shift_ask, shift_far, left_ask, left_far, right_ask, right_far}
use Rattle.tdl_meaning.specs.Pattern.{over, cycle_arc, rounds, turn}
use Rattle.tdl_meaning.specs.Meaning.{cyc, patterns}
use Rattle.tdl_meaning.specs.Proper.{Each, IsProper, IsNear}
use Rattle.tdl_meaning.specs.Ranges.{IsAsked, HasEnds}
use Rattle.tdl_meaning.specs.Asks.{IsChild, IsStep, IsCycleOf}
use Rattle.tdl_meaning.specs.inside.Conditions.{MayAsk}
use Rattle.tdl_meaning.proofs.Gridded.{IsGridded}
use Rattle.tdl_meaning.proofs.Lists.{each_both, each_weaker}
use Rattle.tdl_meaning.proofs.Proper.{proper}
use Rattle.tdl_meaning.proofs.Grids.{gridded}
use Rattle.tdl_meaning.proofs.Hangs.{hung}
use Rattle.tdl_meaning.proofs.Sizes.{near_ends, fits, fit, asked_fits}
use Rattle.tdl_meaning.proofs.Asked.{cycle_from, cycle_asked, rate_asked, low_round, high_round, part_asked, child_places}
use Rattle.tdl_meaning.proofs.Asked.{whole_asked, shift_asked, room_shift, room_left, room_right}
use Rattle.tdl_meaning.proofs.Asked.{room_fast, room_step, room_cat, room_stack, room_chosen}

-- ---- handed down
pub may_cycle : (e : Tree) (a : Arc) (c : ℤ) → MayAsk e a → IsCycleOf a c → MayAsk e (cycle_arc c)
may_cycle e a c may is = record { q = may.q; m = may.m; room = may.room; asked = cycle_asked may.q c may.asked is }

pub may_fast : (r : Rational) (e : Tree) (a : Arc) → MayAsk (Fast r e) a → MayAsk e (map_arc (λ t. t *ℚ r) a)
may_fast r e a may = record {
  q = fast_ask r may.q;
  m = fast_far r may.m;
  room = room_fast may.q may.m r e may.room;
  asked = rate_asked may.q may.m r may.room.valid.0 a may.asked;
}

pub low_of : (q m : ℕ) (c : ℤ) → IsAsked q m (cycle_arc c) → neg_ℤ (pos m) ≤ℤ c
low_of q m c h = (whole-le (neg_ℤ (pos m)) c).1 h.from

pub high_of : (q m : ℕ) (c : ℤ) → IsAsked q m (cycle_arc c) → (c +ℤ pos 1) ≤ℤ pos m
high_of q m c h = (whole-le (c +ℤ pos 1) (pos m)).1 h.to

pub may_step : (steps : Steps) (w : ℕ) (e : Tree) (c : ℤ) → IsStep w steps e → MayAsk (TimeCat steps) (cycle_arc c) → MayAsk e (cycle_arc c)
may_step steps w e c is may = record {
  q = may.q * w;
  m = may.m;
  room = room_step may.q may.m w steps e is may.room;
  asked = cycle_from (may.q * w) may.m c (low_of may.q may.m c may.asked) (high_of may.q may.m c may.asked);
}

pub may_cat : (trees : Trees) (e : Tree) (c : ℤ) → IsChild (turn c (length (patterns trees))) trees e → MayAsk (Cat trees) (cycle_arc c)
    → MayAsk e (cycle_arc (rounds c (length (patterns trees))))
may_cat trees e c is may =
    let count = length (patterns trees) in
    record {
      q = may.q;
      m = may.m;
      room = room_cat may.q may.m (turn c count) trees e is may.room;
      asked = cycle_from may.q may.m (rounds c count)
          (low_round may.m count c (child_places is) (low_of may.q may.m c may.asked))
          (high_round may.m count c (child_places is) (high_of may.q may.m c may.asked));
    }

pub may_stack : (trees : Trees) (k : ℕ) (e : Tree) (a : Arc) → IsChild k trees e → MayAsk (Stack trees) a → MayAsk e a
may_stack trees k e a is may = record { q = may.q; m = may.m; room = room_stack may.q may.m k trees e is may.room; asked = may.asked }

pub may_chosen : (s : Tree) (trees : Trees) (k : ℕ) (e : Tree) (c : ℤ) (ev : Event) → IsChild k trees e → Contains (cyc s c) ev
    → MayAsk (Pick s trees) (cycle_arc c) → MayAsk e ev.part
may_chosen s trees k e c ev is has may = record {
  q = lcm (grid s) may.q;
  m = may.m;
  room = room_chosen may.q may.m k s trees e is may.room;
  asked = part_asked may.q may.m s may.room.valid.0 c (low_of may.q may.m c may.asked) (high_of may.q may.m c may.asked) ev has;
}

pub may_shift : (t : Rational) (e : Tree) (a : Arc) → MayAsk (Shift t e) a → MayAsk e (map_arc (λ u. u -ℚ t) a)
may_shift t e a may = record {
  q = shift_ask t may.q;
  m = shift_far t may.m;
  room = room_shift may.q may.m t e may.room;
  asked = shift_asked may.q may.m t a may.asked;
}

-- ---- handed down to the sides of a join
-- the side that gives the wholes may be asked for the arc, and where there is none of the two each of them
pub may_left : (op : Op) (d e : Tree) (a : Arc) → MayAsk (Join Left op d e) a → MayAsk d a
may_left op d e a may = record { q = may.q; m = may.m; room = room_left may.q may.m Left op d e may.room; asked = may.asked }

pub may_right : (op : Op) (d e : Tree) (a : Arc) → MayAsk (Join Right op d e) a → MayAsk e a
may_right op d e a may = record { q = may.q; m = may.m; room = room_right may.q may.m Right op d e may.room; asked = may.asked }

pub may_left_of_both : (op : Op) (d e : Tree) (a : Arc) → MayAsk (Join Both op d e) a → MayAsk d a
may_left_of_both op d e a may = record { q = may.q; m = may.m; room = room_left may.q may.m Both op d e may.room; asked = may.asked }

-- the other may be asked for a whole, and for what the cycle has of it
pub may_right_of_left : (op : Op) (d e : Tree) (c : ℤ) (ev : Event) → Contains (cyc d c) ev → MayAsk (Join Left op d e) (cycle_arc c) → MayAsk e ev.whole
may_right_of_left op d e c ev has may = record {
  q = grid d;
  m = may.m + hang d;
  room = room_right may.q may.m Left op d e may.room;
  asked = whole_asked may.m d may.room.valid.0 c (low_of may.q may.m c may.asked) (high_of may.q may.m c may.asked) ev has;
}

pub may_left_of_right : (op : Op) (d e : Tree) (c : ℤ) (ev : Event) → Contains (cyc e c) ev → MayAsk (Join Right op d e) (cycle_arc c) → MayAsk d ev.whole
may_left_of_right op d e c ev has may = record {
  q = grid e;
  m = may.m + hang e;
  room = room_left may.q may.m Right op d e may.room;
  asked = whole_asked may.m e may.room.valid.1 c (low_of may.q may.m c may.asked) (high_of may.q may.m c may.asked) ev has;
}

-- and either side may be asked for a whole cycle
left_far_more : (side : Side) (d e : Tree) (m : ℕ) → m ≤ left_far side d e m
left_far_more Left d e m = omega arith
left_far_more Right d e m = omega arith
left_far_more Both d e m = omega arith

right_far_more : (side : Side) (d e : Tree) (m : ℕ) → m ≤ right_far side d e m
right_far_more Left d e m = omega arith
right_far_more Right d e m = omega arith
right_far_more Both d e m = omega arith

-- a cycle is on every grid
cycle_further : (q p m n : ℕ) (c : ℤ) → m ≤ n → IsAsked q m (cycle_arc c) → IsAsked p n (cycle_arc c)
cycle_further q p m n c le h =
    let low = low_of q m c h in
    let high = high_of q m c h in
    cycle_from p n c (omega (arith, ints)) (omega (arith, ints))

pub may_left_cycle : (side : Side) (op : Op) (d e : Tree) (c : ℤ) → MayAsk (Join side op d e) (cycle_arc c) → MayAsk d (cycle_arc c)
may_left_cycle side op d e c may = record {
  q = left_ask side d e may.q;
  m = left_far side d e may.m;
  room = room_left may.q may.m side op d e may.room;
  asked = cycle_further may.q (left_ask side d e may.q) may.m (left_far side d e may.m) c (left_far_more side d e may.m) may.asked;
}

pub may_right_cycle : (side : Side) (op : Op) (d e : Tree) (c : ℤ) → MayAsk (Join side op d e) (cycle_arc c) → MayAsk e (cycle_arc c)
may_right_cycle side op d e c may = record {
  q = right_ask side d e may.q;
  m = right_far side d e may.m;
  room = room_right may.q may.m side op d e may.room;
  asked = cycle_further may.q (right_ask side d e may.q) may.m (right_far side d e may.m) c (right_far_more side d e may.m) may.asked;
}

-- ---- what it gives
pub arc_fits : (e : Tree) (a : Arc) → MayAsk e a → InRange a.start × InRange a.stop
arc_fits e a may = asked_fits may.q may.m e may.room a may.asked

pub over_fits : (e : Tree) (a : Arc) → MayAsk e a → Each (HasEnds InRange) (over (cyc e) a)
over_fits e a may = fit may.q may.m e may.room a may.asked

-- what holds of the events of a cycle
pub record IsSettled (e : Tree) (c : ℤ) (ev : Event) : Type 0 where
  pub proper : IsProper (cycle_arc c) ev
  pub gridded : IsGridded (grid e) ev
  pub near : IsNear (hang e) c (c +ℤ pos 1) ev

pub settled : (e : Tree) → IsValid e → (c : ℤ) → Each (IsSettled e c) (cyc e c)
settled e valid c =
    let placed = each_both (IsGridded (grid e)) (IsNear (hang e) c (c +ℤ pos 1)) (λ x. IsGridded (grid e) x × IsNear (hang e) c (c +ℤ pos 1) x)
    (λ x g n. (g, n)) (cyc e c) (gridded e valid c) (hung e valid c) in
    each_both (IsProper (cycle_arc c)) (λ x. IsGridded (grid e) x × IsNear (hang e) c (c +ℤ pos 1) x) (IsSettled e c)
    (λ x p both. record { proper = p; gridded = both.0; near = both.1 }) (cyc e c) (proper e valid c) placed

pub cycle_fits : (e : Tree) (c : ℤ) → MayAsk e (cycle_arc c) → Each (HasEnds InRange) (cyc e c)
cycle_fits e c may =
    let low = low_of may.q may.m c may.asked in
    let high = high_of may.q may.m c may.asked in
    each_weaker (IsSettled e c) (HasEnds InRange)
    (λ x is.
    let ends = near_ends may.m (hang e) c (c +ℤ pos 1) (cycle_arc c) x low high is.proper is.near in
    record {
      whole_start = fits may.q may.m e may.room x.whole.start (inl is.gridded.whole_start) ends.whole_start;
      whole_stop = fits may.q may.m e may.room x.whole.stop (inl is.gridded.whole_stop) ends.whole_stop;
      part_start = fits may.q may.m e may.room x.part.start (inl is.gridded.part_start) ends.part_start;
      part_stop = fits may.q may.m e may.room x.part.stop (inl is.gridded.part_stop) ends.part_stop;
    })
    (cyc e c) (settled e may.room.valid c)
