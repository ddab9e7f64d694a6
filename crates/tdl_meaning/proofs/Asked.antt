-- What a tree asks of a child is on the grid and within the size that the bounds name for it, and a child is no finer
-- and reaches no further than the tree. So what a tree that has room asks of a child, the child has room for.
use Rattle.std.proofs.Common.{◌≡◌, Bool, ℕ, ◌+◌, ◌*◌, ◌<◌, ◌≤◌, length, nat_abs, Contains, ℤ, pos, ◌+ℤ◌, ◌*ℤ◌, neg_ℤ, ◌≤ℤ◌, ◌<ℤ◌, [], ◌∷◌, sym, ap, ◌∙◌}
use Rattle.std.proofs.Common.{refl, subst, arith}
use Rattle.std.proofs.Math.Nat.{mul-pos, mul-le-mul_left}
use Rattle.std.specs.Int.{div_ceil}
use Rattle.std.proofs.lemmas.Int.{ints}
use Rattle.tdl_ring.proofs.Quoting.{by_ring, ring}
use Rattle.tdl_fraction.specs.Divisor.{lcm}
use Rattle.tdl_fraction.specs.LowestTerms.{IsGcd-gcd, positive_quotient}
use Rattle.tdl_fraction.specs.Rational.{Rational, frac, whole, ◌-ℚ◌, ◌*ℚ◌, neg_ℚ, ◌≤ℚ◌, ◌<ℚ◌, floor, ceil}
use Rattle.tdl_fraction.specs.Arc.{Arc, map_arc}
use Rattle.tdl_fraction.proofs.Coprime.{lcm_positive}
use Rattle.tdl_fraction.proofs.Integers.{negate_times}
use Rattle.tdl_fraction.proofs.Over.{den_positive, Over-frac, Over-whole, le_from_cross, lt_from_cross}
use Rattle.tdl_fraction.proofs.Field.{rationals, whole-neg}
use Rattle.tdl_fraction.proofs.Order.{≤ℚ_trans, whole-le, neg_le, times_pos_le}
use Rattle.tdl_fraction.proofs.Rounding.{le_floor, floor_lt}
use Rattle.tdl_fraction.proofs.Multiples.{whole_multiple, multiple_lcm_left}
use Rattle.tdl_fraction.proofs.Rates.{multiple_at_rate, rounded_at_rate}
use Rattle.tdl_fraction.proofs.Arcs.{keeps_arc, keeps-times}
use Rattle.tdl_event.specs.Event.{Event}
use Rattle.tdl_expr.specs.declared.joinings.Op.{Op}
use Rattle.tdl_expr.specs.declared.joinings.Side.{Side}
use Rattle.tdl_expr.specs.declared.joinings.Side.TheVariants.{Left, Right, Both}
use Rattle.tdl_expr.specs.declared.rounds.Test.{Test}
use Rattle.tdl_expr.specs.Tree.{Tree, Fast, TimeCat, Cat, Stack, Rev, Pick, When, Shift, Join, Ply, Gate, Trees, Steps}
use Rattle.tdl_expr.specs.Valid.{IsValid, AreValid, AreValidSteps}
use Rattle.tdl_expr.specs.Bounds.{grid, hang, fine, fine_of, fine_of_steps, reach, reach_of, reach_of_steps, fast_ask, fast_far, shift_ask, shift_far}
use Rattle.tdl_expr.specs.Bounds.{left_ask, left_far, right_ask, right_far}
use Rattle.tdl_expr.proofs.Numbers.{grid_positive}
use Rattle.tdl_meaning.specs.Pattern.{cycle_arc, rounds}
use Rattle.tdl_meaning.specs.Meaning.{cyc, patterns}
use Rattle.tdl_meaning.specs.Proper.{IsProper, IsNear}
use Rattle.tdl_meaning.specs.Ranges.{IsAsked}
use Rattle.tdl_meaning.specs.Asks.{IsChild, here, there, IsStep, first, later, IsCycleOf, fast, time_cat, cat, stack, rev, selector, chosen}
use Rattle.tdl_meaning.specs.Asks.{met, other, shift, left, right_of_left, right, left_of_right, left_of_both, right_of_both, ply, gate, AskLaw}
use Rattle.tdl_meaning.specs.inside.Conditions.{HasRoom}
use Rattle.tdl_meaning.proofs.Gridded.{IsGridded}
use Rattle.tdl_meaning.proofs.Lists.{each_contained}
use Rattle.tdl_meaning.proofs.Times.{cycle_is_arc}
use Rattle.tdl_meaning.proofs.Proper.{proper}
use Rattle.tdl_meaning.proofs.Grids.{gridded}
use Rattle.tdl_meaning.proofs.Hangs.{hung}
use Rattle.tdl_meaning.proofs.Sizes.{floor_asked, ceil_asked, near_ends}
use Rattle.tdl_meaning.proofs.kinds.Shift.{earlier_asked, within_rounded}
use Rattle.tdl_meaning.proofs.kinds.Joined.{whole_is_arc}

-- ---- arcs that are asked for
-- a cycle is on each grid
pub cycle_from : (q m : ℕ) (c : ℤ) → neg_ℤ (pos m) ≤ℤ c → (c +ℤ pos 1) ≤ℤ pos m → IsAsked q m (cycle_arc c)
cycle_from q m c low high = record {
  is_arc = cycle_is_arc c;
  on_grid = record {
    start = whole_multiple q c;
    stop = whole_multiple q (c +ℤ pos 1);
  };
  from = (whole-le (neg_ℤ (pos m)) c).0 low;
  to = (whole-le (c +ℤ pos 1) (pos m)).0 high;
}

pub low_cycle : {q m : ℕ} {a : Arc} (c : ℤ) → IsAsked q m a → IsCycleOf a c → neg_ℤ (pos m) ≤ℤ c
low_cycle {q} {m} {a} c h is = between (neg_ℤ (pos m)) (floor a.start) c (floor_asked h) is.not_before
  where
    between : (x y z : ℤ) → x ≤ℤ y → y ≤ℤ z → x ≤ℤ z
    between x y z h k = omega (arith, ints)

pub high_cycle : {q m : ℕ} {a : Arc} (c : ℤ) → IsAsked q m a → IsCycleOf a c → (c +ℤ pos 1) ≤ℤ pos m
high_cycle {q} {m} {a} c h is = between (c +ℤ pos 1) (ceil a.stop) (pos m) is.not_after (ceil_asked h)
  where
    between : (x y z : ℤ) → x ≤ℤ y → y ≤ℤ z → x ≤ℤ z
    between x y z h k = omega (arith, ints)

pub cycle_asked : {q m : ℕ} {a : Arc} (p : ℕ) (c : ℤ) → IsAsked q m a → IsCycleOf a c → IsAsked p m (cycle_arc c)
cycle_asked {q} {m} p c h is = cycle_from p m c (low_cycle c h is) (high_cycle c h is)

-- at a rate
pub rate_asked : (q m : ℕ) (r : Rational) → whole (pos 0) <ℚ r → (a : Arc) → IsAsked q m a → IsAsked (fast_ask r q) (fast_far r m) (map_arc (λ t. t *ℚ r) a)
rate_asked q m r positive a h = record {
  is_arc = keeps_arc (λ t. t *ℚ r) (keeps-times r positive) a h.is_arc;
  on_grid = record {
    start = multiple_at_rate q a.start r positive h.on_grid.start;
    stop = multiple_at_rate q a.stop r positive h.on_grid.stop;
  };
  from = ≤ℚ_trans below ((times_pos_le (whole (neg_ℤ (pos m))) a.start r positive).0 h.from);
  to = ≤ℚ_trans ((times_pos_le a.stop (whole (pos m)) r positive).0 h.to) (rounded_at_rate r m positive);
}
  where
    opposite : (x r : Rational) → neg_ℚ (x *ℚ r) ≡ neg_ℚ x *ℚ r
    opposite x r = by_ring rationals (x ∷ r ∷ []) (search ring depth 12) refl

    below : whole (neg_ℤ (pos (fast_far r m))) ≤ℚ whole (neg_ℤ (pos m)) *ℚ r
    below =
        let turned = (neg_le (whole (pos m) *ℚ r) (whole (pos (fast_far r m)))).0 (rounded_at_rate r m positive) in
        let there : neg_ℚ (whole (pos m) *ℚ r) ≡ whole (neg_ℤ (pos m)) *ℚ r =
        opposite (whole (pos m)) r ∙ ap (λ x. x *ℚ r) (sym (whole-neg (pos m))) in
        subst (λ x. x ≤ℚ whole (neg_ℤ (pos m)) *ℚ r) (sym (whole-neg (pos (fast_far r m))))
        (subst (λ x. neg_ℚ (whole (pos (fast_far r m))) ≤ℚ x) there turned)

-- of n patterns by turns
pub low_round : (m n : ℕ) (c : ℤ) → 0 < n → neg_ℤ (pos m) ≤ℤ c → neg_ℤ (pos m) ≤ℤ rounds c n
low_round m n c positive low =
    (le_floor (neg_ℤ (pos m)) (frac c n)).0 (le_from_cross (Over-whole (neg_ℤ (pos m))) (Over-frac c n positive) (cross (mul-le-mul_left m positive)))
  where
    cross : m * 1 ≤ m * n → (neg_ℤ (pos m) *ℤ pos n) ≤ℤ (c *ℤ pos 1)
    cross le = rw (negate_times (pos m) (pos n)) (omega (arith, ints))

pub high_round : (m n : ℕ) (c : ℤ) → 0 < n → (c +ℤ pos 1) ≤ℤ pos m → (rounds c n +ℤ pos 1) ≤ℤ pos m
high_round m n c positive high =
    next (rounds c n) (pos m)
    ((floor_lt (frac c n) (pos m)).0 (lt_from_cross (Over-frac c n positive) (Over-whole (pos m)) (cross (mul-le-mul_left m positive))))
  where
    cross : m * 1 ≤ m * n → (c *ℤ pos 1) <ℤ (pos m *ℤ pos n)
    cross le = omega (arith, ints)

    next : (x y : ℤ) → x <ℤ y → (x +ℤ pos 1) ≤ℤ y
    next x y h = omega (arith, ints)

-- the part of a selector's event
pub part_asked : (q m : ℕ) (s : Tree) → IsValid s → (c : ℤ) → neg_ℤ (pos m) ≤ℤ c → (c +ℤ pos 1) ≤ℤ pos m → (ev : Event) → Contains (cyc s c) ev
    → IsAsked (lcm (grid s) q) m ev.part
part_asked q m s valid c low high ev has =
    let well = each_contained (IsProper (cycle_arc c)) (cyc s c) ev (proper s valid c) has in
    let on_grid = each_contained (IsGridded (grid s)) (cyc s c) ev (gridded s valid c) has in
    record {
      is_arc = well.width;
      on_grid = record {
        start = multiple_lcm_left q on_grid.part_start;
        stop = multiple_lcm_left q on_grid.part_stop;
      };
      from = ≤ℚ_trans ((whole-le (neg_ℤ (pos m)) c).0 low) well.in_arc.0;
      to = ≤ℚ_trans well.in_arc.1 ((whole-le (c +ℤ pos 1) (pos m)).0 high);
    }

-- the whole of an event of a cycle is on its tree's grid, and no further than the cycle and the tree's hang together
pub whole_asked : (m : ℕ) (e : Tree) → IsValid e → (c : ℤ) → neg_ℤ (pos m) ≤ℤ c → (c +ℤ pos 1) ≤ℤ pos m → (ev : Event) → Contains (cyc e c) ev
    → IsAsked (grid e) (m + hang e) ev.whole
whole_asked m e valid c low high ev has =
    let well = each_contained (IsProper (cycle_arc c)) (cyc e c) ev (proper e valid c) has in
    let on_grid = each_contained (IsGridded (grid e)) (cyc e c) ev (gridded e valid c) has in
    let near = each_contained (IsNear (hang e) c (c +ℤ pos 1)) (cyc e c) ev (hung e valid c) has in
    let ends = near_ends m (hang e) c (c +ℤ pos 1) (cycle_arc c) ev low high well near in
    record {
      is_arc = whole_is_arc (cycle_arc c) ev well;
      on_grid = record {
        start = on_grid.whole_start;
        stop = on_grid.whole_stop;
      };
      from = ends.whole_start.from;
      to = ends.whole_stop.to;
    }

-- what is asked for is no further than a greater size
pub asked_further : (q m n : ℕ) (a : Arc) → m ≤ n → IsAsked q m a → IsAsked q n a
asked_further q m n a le h = record {
  is_arc = h.is_arc;
  on_grid = h.on_grid;
  from = ≤ℚ_trans ((whole-le (neg_ℤ (pos n)) (neg_ℤ (pos m))).0 (omega (arith, ints))) h.from;
  to = ≤ℚ_trans h.to ((whole-le (pos m) (pos n)).0 (omega (arith, ints)));
}

-- so much earlier
pub shift_asked : (q m : ℕ) (t : Rational) (a : Arc) → IsAsked q m a → IsAsked (shift_ask t q) (shift_far t m) (map_arc (λ u. u -ℚ t) a)
shift_asked q m t a h = earlier_asked q m (div_ceil (nat_abs t.num) t.den) t a (within_rounded t) h

-- ---- children
pub child_places : {k : ℕ} {trees : Trees} {e : Tree} → IsChild k trees e → 0 < length (patterns trees)
child_places (here {e = e} {trees = trees}) = omega arith
child_places (there {k = k} {d = d} {trees = trees} h) = omega (arith, child_places h)

pub child_is_valid : {k : ℕ} {trees : Trees} {e : Tree} → IsChild k trees e → AreValid trees → IsValid e
child_is_valid (here {e = e} {trees = trees}) valid = valid.0
child_is_valid (there {k = k} {d = d} {trees = trees} h) valid = child_is_valid h valid.1

pub step_is_valid : {w : ℕ} {steps : Steps} {e : Tree} → IsStep w steps e → AreValidSteps steps → (0 < w) × IsValid e
step_is_valid (first {e = e} {steps = steps}) valid = (valid.0, valid.1)
step_is_valid (later {v = v} {d = d} {steps = steps} h) valid = step_is_valid h valid.2

pub child_fine : {k : ℕ} {trees : Trees} {e : Tree} → IsChild k trees e → (q : ℕ) → fine e q ≤ fine_of trees q
child_fine (here {e = e} {trees = trees}) q = omega arith
child_fine (there {k = k} {d = d} {trees = trees} h) q = omega (arith, child_fine h q)

pub child_reach : {k : ℕ} {trees : Trees} {e : Tree} → IsChild k trees e → (m : ℕ) → reach e m ≤ reach_of trees m
child_reach (here {e = e} {trees = trees}) m = omega arith
child_reach (there {k = k} {d = d} {trees = trees} h) m = omega (arith, child_reach h m)

pub step_fine : {w : ℕ} {steps : Steps} {e : Tree} → IsStep w steps e → (q : ℕ) → fine e (q * w) ≤ fine_of_steps steps q
step_fine (first {e = e} {steps = steps}) q = omega arith
step_fine (later {v = v} {d = d} {steps = steps} h) q = omega (arith, step_fine h q)

pub step_reach : {w : ℕ} {steps : Steps} {e : Tree} → IsStep w steps e → (m : ℕ) → reach e m ≤ reach_of_steps steps m
step_reach (first {e = e} {steps = steps}) m = omega arith
step_reach (later {v = v} {d = d} {steps = steps} h) m = omega (arith, step_reach h m)

pub fast_ask_positive : (r : Rational) (q : ℕ) → 0 < q → 0 < fast_ask r q
fast_ask_positive r q h = positive_quotient (q * r.den) _ (mul-pos h (den_positive r)) (IsGcd-gcd (q * r.den) _).0

-- ---- room
pub room_fast : (q m : ℕ) (r : Rational) (e : Tree) → HasRoom q m (Fast r e) → HasRoom (fast_ask r q) (fast_far r m) e
room_fast q m r e room = record {
  valid = room.valid.1;
  on_grid = fast_ask_positive r q room.on_grid;
  not_too_fine = omega (arith, room.not_too_fine);
  not_too_far = omega (arith, room.not_too_far);
}

pub room_step : (q m w : ℕ) (steps : Steps) (e : Tree) → IsStep w steps e → HasRoom q m (TimeCat steps) → HasRoom (q * w) m e
room_step q m w steps e is room =
    let valid = step_is_valid is room.valid.1 in
    record {
      valid = valid.1;
      on_grid = mul-pos room.on_grid valid.0;
      not_too_fine = omega (arith, room.not_too_fine, step_fine is q);
      not_too_far = omega (arith, room.not_too_far, step_reach is m);
    }

pub room_cat : (q m k : ℕ) (trees : Trees) (e : Tree) → IsChild k trees e → HasRoom q m (Cat trees) → HasRoom q m e
room_cat q m k trees e is room = record {
  valid = child_is_valid is room.valid;
  on_grid = room.on_grid;
  not_too_fine = omega (arith, room.not_too_fine, child_fine is q);
  not_too_far = omega (arith, room.not_too_far, child_reach is m);
}

pub room_stack : (q m k : ℕ) (trees : Trees) (e : Tree) → IsChild k trees e → HasRoom q m (Stack trees) → HasRoom q m e
room_stack q m k trees e is room = record {
  valid = child_is_valid is room.valid;
  on_grid = room.on_grid;
  not_too_fine = omega (arith, room.not_too_fine, child_fine is q);
  not_too_far = omega (arith, room.not_too_far, child_reach is m);
}

pub room_rev : (q m : ℕ) (e : Tree) → HasRoom q m (Rev e) → HasRoom q m e
room_rev q m e room = record {
  valid = room.valid;
  on_grid = room.on_grid;
  not_too_fine = omega (arith, room.not_too_fine);
  not_too_far = omega (arith, room.not_too_far);
}

pub room_chosen : (q m k : ℕ) (s : Tree) (trees : Trees) (e : Tree) → IsChild k trees e → HasRoom q m (Pick s trees) → HasRoom (lcm (grid s) q) m e
room_chosen q m k s trees e is room = record {
  valid = child_is_valid is room.valid.1;
  on_grid = lcm_positive (grid s) q (grid_positive s room.valid.0) room.on_grid;
  not_too_fine = omega (arith, room.not_too_fine, child_fine is (lcm (grid s) q));
  not_too_far = omega (arith, room.not_too_far, child_reach is m);
}

pub room_met : (q m modulus : ℕ) (test : Test) (d e : Tree) → HasRoom q m (When modulus test d e) → HasRoom q m d
room_met q m modulus test d e room = record {
  valid = room.valid.1;
  on_grid = room.on_grid;
  not_too_fine = omega (arith, room.not_too_fine);
  not_too_far = omega (arith, room.not_too_far);
}

pub room_other : (q m modulus : ℕ) (test : Test) (d e : Tree) → HasRoom q m (When modulus test d e) → HasRoom q m e
room_other q m modulus test d e room = record {
  valid = room.valid.2;
  on_grid = room.on_grid;
  not_too_fine = omega (arith, room.not_too_fine);
  not_too_far = omega (arith, room.not_too_far);
}

pub room_shift : (q m : ℕ) (t : Rational) (e : Tree) → HasRoom q m (Shift t e) → HasRoom (shift_ask t q) (shift_far t m) e
room_shift q m t e room = record {
  valid = room.valid;
  on_grid = lcm_positive q t.den room.on_grid (den_positive t);
  not_too_fine = omega (arith, room.not_too_fine);
  not_too_far = omega (arith, room.not_too_far);
}

left_ask_positive : (side : Side) (d e : Tree) (q : ℕ) → IsValid e → 0 < q → 0 < left_ask side d e q
left_ask_positive Left d e q valid positive = positive
left_ask_positive Right d e q valid positive = grid_positive e valid
left_ask_positive Both d e q valid positive = positive

right_ask_positive : (side : Side) (d e : Tree) (q : ℕ) → IsValid d → 0 < q → 0 < right_ask side d e q
right_ask_positive Left d e q valid positive = grid_positive d valid
right_ask_positive Right d e q valid positive = positive
right_ask_positive Both d e q valid positive = positive

pub room_left : (q m : ℕ) (side : Side) (op : Op) (d e : Tree) → HasRoom q m (Join side op d e) → HasRoom (left_ask side d e q) (left_far side d e m) d
room_left q m side op d e room = record {
  valid = room.valid.0;
  on_grid = left_ask_positive side d e q room.valid.1 room.on_grid;
  not_too_fine = omega (arith, room.not_too_fine);
  not_too_far = omega (arith, room.not_too_far);
}

pub room_right : (q m : ℕ) (side : Side) (op : Op) (d e : Tree) → HasRoom q m (Join side op d e) → HasRoom (right_ask side d e q) (right_far side d e m) e
room_right q m side op d e room = record {
  valid = room.valid.1;
  on_grid = right_ask_positive side d e q room.valid.0 room.on_grid;
  not_too_fine = omega (arith, room.not_too_fine);
  not_too_far = omega (arith, room.not_too_far);
}

pub room_ply : (q m n : ℕ) (e : Tree) → HasRoom q m (Ply n e) → HasRoom q m e
room_ply q m n e room = record {
  valid = room.valid.1;
  on_grid = room.on_grid;
  not_too_fine = omega (arith, room.not_too_fine);
  not_too_far = omega (arith, room.not_too_far);
}

pub room_gate : (q m : ℕ) (from to : Rational) (inside : Bool) (e : Tree) → HasRoom q m (Gate from to inside e) → HasRoom q m e
room_gate q m from to inside e room = record {
  valid = room.valid;
  on_grid = room.on_grid;
  not_too_fine = omega (arith, room.not_too_fine);
  not_too_far = omega (arith, room.not_too_far);
}

-- ---- the law
pub asks : AskLaw
asks q m e a p n d b (fast {r = r} {c = c} is) valid positive h = record {
  valid = valid.1;
  on_grid = fast_ask_positive r q positive;
  asked = rate_asked q m r valid.0 (cycle_arc c) (cycle_asked q c h is);
  no_finer = omega arith;
  no_further = omega arith;
}
asks q m e a p n d b (time_cat {w = w} {steps = steps} {c = c} is at) valid positive h =
    let own = step_is_valid at valid.1 in
    record {
      valid = own.1;
      on_grid = mul-pos positive own.0;
      asked = cycle_asked (q * w) c h is;
      no_finer = omega (arith, step_fine at q);
      no_further = omega (arith, step_reach at m);
    }
asks q m e a p n d b (cat {trees = trees} {c = c} is at) valid positive h =
    let count = length (patterns trees) in
    let places : 0 < count = child_places at in
    record {
      valid = child_is_valid at valid;
      on_grid = positive;
      asked = cycle_from q m (rounds c count) (low_round m count c places (low_cycle c h is)) (high_round m count c places (high_cycle c h is));
      no_finer = omega (arith, child_fine at q);
      no_further = omega (arith, child_reach at m);
    }
asks q m e a p n d b (stack {c = c} is at) valid positive h = record {
  valid = child_is_valid at valid;
  on_grid = positive;
  asked = cycle_asked q c h is;
  no_finer = omega (arith, child_fine at q);
  no_further = omega (arith, child_reach at m);
}
asks q m e a p n d b (rev {c = c} is) valid positive h = record {
  valid = valid;
  on_grid = positive;
  asked = cycle_asked q c h is;
  no_finer = omega arith;
  no_further = omega arith;
}
asks q m e a p n d b (selector {c = c} is) valid positive h = record {
  valid = valid.0;
  on_grid = positive;
  asked = cycle_asked q c h is;
  no_finer = omega arith;
  no_further = omega arith;
}
asks q m e a p n d b (chosen {s = s} {c = c} {ev = ev} is has names at) valid positive h = record {
  valid = child_is_valid at valid.1;
  on_grid = lcm_positive (grid s) q (grid_positive s valid.0) positive;
  asked = part_asked q m s valid.0 c (low_cycle c h is) (high_cycle c h is) ev has;
  no_finer = omega (arith, child_fine at (lcm (grid s) q));
  no_further = omega (arith, child_reach at m);
}
asks q m e a p n d b (met {c = c} is turned) valid positive h = record {
  valid = valid.1;
  on_grid = positive;
  asked = cycle_asked q c h is;
  no_finer = omega arith;
  no_further = omega arith;
}
asks q m e a p n d b (other {c = c} is turned) valid positive h = record {
  valid = valid.2;
  on_grid = positive;
  asked = cycle_asked q c h is;
  no_finer = omega arith;
  no_further = omega arith;
}
asks q m e a p n d b (shift {t = t} {c = c} is) valid positive h = record {
  valid = valid;
  on_grid = lcm_positive q t.den positive (den_positive t);
  asked = shift_asked q m t (cycle_arc c) (cycle_asked q c h is);
  no_finer = omega arith;
  no_further = omega arith;
}
asks q m e a p n d b (left {c = c} is) valid positive h = record {
  valid = valid.0;
  on_grid = positive;
  asked = cycle_asked q c h is;
  no_finer = omega arith;
  no_further = omega arith;
}
asks q m e a p n d b (right_of_left {d = l} {c = c} {ev = ev} is has) valid positive h = record {
  valid = valid.1;
  on_grid = grid_positive l valid.0;
  asked = whole_asked m l valid.0 c (low_cycle c h is) (high_cycle c h is) ev has;
  no_finer = omega arith;
  no_further = omega arith;
}
asks q m e a p n d b (right {c = c} is) valid positive h = record {
  valid = valid.1;
  on_grid = positive;
  asked = cycle_asked q c h is;
  no_finer = omega arith;
  no_further = omega arith;
}
asks q m e a p n d b (left_of_right {e = r} {c = c} {ev = ev} is has) valid positive h = record {
  valid = valid.0;
  on_grid = grid_positive r valid.1;
  asked = whole_asked m r valid.1 c (low_cycle c h is) (high_cycle c h is) ev has;
  no_finer = omega arith;
  no_further = omega arith;
}
asks q m e a p n d b (left_of_both {c = c} is) valid positive h = record {
  valid = valid.0;
  on_grid = positive;
  asked = cycle_asked q c h is;
  no_finer = omega arith;
  no_further = omega arith;
}
asks q m e a p n d b (right_of_both {c = c} is) valid positive h = record {
  valid = valid.1;
  on_grid = positive;
  asked = cycle_asked q c h is;
  no_finer = omega arith;
  no_further = omega arith;
}
asks q m e a p n d b (ply {c = c} is) valid positive h = record {
  valid = valid.1;
  on_grid = positive;
  asked = cycle_asked q c h is;
  no_finer = omega arith;
  no_further = omega arith;
}
asks q m e a p n d b (gate {c = c} is) valid positive h = record {
  valid = valid;
  on_grid = positive;
  asked = cycle_asked q c h is;
  no_finer = omega arith;
  no_further = omega arith;
}
