-- That the events of a child can be moved as each kind of tree moves them: where each time goes and the times between
-- are fractions of the program.
use Rattle.std.proofs.Common.{ℕ, suc, ◌+◌, ◌*◌, ◌<◌, ◌≤◌, ◌^◌, length, get_or, ℤ, pos, negsuc, ◌+ℤ◌, ◌-ℤ◌, neg_ℤ, ◌≤ℤ◌, nat_abs, arith}
use Rattle.std.specs.Int.{◌∣◌}
use Rattle.std.proofs.Math.Nat.{dvd-mul_left}
use Rattle.std.proofs.lemmas.Int.{ints}
use Rattle.std.proofs.lemmas.Nat.Gcd.{le_of_dvd, dvd_trans}
use native.Mathlib.Nat.{pos_of_dvd_of_pos}
use Rattle.tdl_fraction.specs.Rational.{Rational, whole, ◌+ℚ◌, ◌/ℚ◌, IsMultiple}
use Rattle.tdl_fraction.specs.Range.{InRange}
use Rattle.tdl_fraction.proofs.Coprime.{divides_lcm_left, divides_lcm_right, lcm_positive}
use Rattle.tdl_fraction.proofs.Order.{≢_from_positive, ≤ℚ_trans, whole-le}
use Rattle.tdl_fraction.proofs.Multiples.{multiple_finer}
use Rattle.tdl_fraction.proofs.Ranges.{in_range}
use Rattle.tdl_expr.specs.Tree.{Tree, Fast, TimeCat, Cat, Rev, Shift, Ply, Trees, Steps}
use Rattle.tdl_expr.specs.Bounds.{grid, hang, grids, hangs, bounds_of_steps, sum_of_weights}
use Rattle.tdl_expr.proofs.Numbers.{grid_positive, own_grid, own_reach}
use Rattle.tdl_meaning.specs.declared.motions.Motion.TheVariants.{Slower, Later, Shifted, Step}
use Rattle.tdl_meaning.specs.Pattern.{over, moved, cycle_arc, silence, fast, squeezed, rounds, turn, cat, rev, turned_event}
use Rattle.tdl_meaning.specs.Meaning.{cyc, patterns}
use Rattle.tdl_meaning.specs.Proper.{Each}
use Rattle.tdl_meaning.specs.Ranges.{HasEnds}
use Rattle.tdl_meaning.specs.Asks.{IsStep, first, later}
use Rattle.tdl_meaning.specs.inside.Conditions.{HasRoom, MayAsk}
use Rattle.tdl_meaning.specs.Motions.{CanMove}
use Rattle.tdl_meaning.specs.Turns.{CanTurn}
use Rattle.tdl_meaning.specs.Kinds.{earlier, shift}
use Rattle.tdl_meaning.specs.Pieces.{CanPlyWhole}
use Rattle.tdl_meaning.proofs.Lists.{each_weaker, each_unmap}
use Rattle.tdl_meaning.proofs.Times.{asked}
use Rattle.tdl_meaning.proofs.kinds.Grids.{squeezed_multiple}
use Rattle.tdl_meaning.proofs.Sizes.{IsBeside, ends_beside, beside_within}
use Rattle.tdl_meaning.proofs.Asked.{low_round, high_round}
use Rattle.tdl_meaning.proofs.Condition.{low_of, high_of, IsSettled, settled, cycle_fits}
use Rattle.tdl_meaning.proofs.Between.{squeezed_near, step_fits}
use Rattle.tdl_meaning.proofs.kinds.Joined.{whole_is_arc}
pub use Rattle.tdl_meaning.proofs.Asked.{step_is_valid}

pub cycle_small : (e : Tree) (c : ℤ) → MayAsk e (cycle_arc c) → (nat_abs c ≤ 2 ^ 36) × (nat_abs (c +ℤ pos 1) ≤ 2 ^ 36)
cycle_small e c may =
    let low = low_of may.q may.m c may.asked in
    let high = high_of may.q may.m c may.asked in
    let far = may.room.not_too_far in
    let own = own_reach e may.m in
    (omega (arith, ints), omega (arith, ints))

-- the size of an ask is at least 1, so that of the times near a cycle is at most the tree's reach
pub hang_small : (e : Tree) (c : ℤ) → MayAsk e (cycle_arc c) → suc (hang e) ≤ 2 ^ 36
hang_small e c may =
    let low = low_of may.q may.m c may.asked in
    let high = high_of may.q may.m c may.asked in
    let far = may.room.not_too_far in
    let own = own_reach e may.m in
    omega (arith, ints)

pub grid_small : (q m : ℕ) (e : Tree) → HasRoom q m e → grid e ≤ 2 ^ 44
grid_small q m e room =
    let part = le_of_dvd (lcm_positive (grid e) q (grid_positive e room.valid) room.on_grid) (divides_lcm_left (grid e) q) in
    omega (arith, part, own_grid e q, room.not_too_fine)

-- ---- a slower rate
pub fast_moves : (r : Rational) (e : Tree) (c : ℤ) → MayAsk (Fast r e) (cycle_arc c) → Each (HasEnds (CanMove (Slower r))) (over (cyc e) (asked r c))
unfolding fast
fast_moves r e c may =
    let apart = ≢_from_positive may.room.valid.0 in
    each_weaker (λ x. HasEnds InRange (moved (λ t. t /ℚ r) x)) (HasEnds (CanMove (Slower r)))
    (λ x ends. record {
      whole_start = (apart, ends.whole_start);
      whole_stop = (apart, ends.whole_stop);
      part_start = (apart, ends.part_start);
      part_stop = (apart, ends.part_stop);
    })
    (over (cyc e) (asked r c)) (each_unmap (HasEnds InRange) (moved (λ t. t /ℚ r)) (over (cyc e) (asked r c)) (cycle_fits (Fast r e) c may))

-- ---- a later cycle
-- how often n patterns went round lies between 0 and the cycle
pub rounds_passed : (c : ℤ) (n : ℕ) → 0 < n → nat_abs (c -ℤ rounds c n) ≤ nat_abs c
rounds_passed (pos k) n positive =
    passed k (rounds (pos k) n) (low_round 0 n (pos k) positive (omega (arith, ints))) (high_round (suc k) n (pos k) positive (omega (arith, ints)))
  where
    passed : (k : ℕ) (r : ℤ) → neg_ℤ (pos 0) ≤ℤ r → (r +ℤ pos 1) ≤ℤ pos (suc k) → nat_abs (pos k -ℤ r) ≤ k
    passed k r low high = omega (arith, ints)
rounds_passed (negsuc k) n positive =
    passed k (rounds (negsuc k) n) (low_round (suc k) n (negsuc k) positive (omega (arith, ints)))
    (high_round 0 n (negsuc k) positive (omega (arith, ints)))
  where
    passed : (k : ℕ) (r : ℤ) → neg_ℤ (pos (suc k)) ≤ℤ r → (r +ℤ pos 1) ≤ℤ pos 0 → nat_abs (negsuc k -ℤ r) ≤ suc k
    passed k r low high = omega (arith, ints)

pub cat_moves : (trees : Trees) (c : ℤ) → MayAsk (Cat trees) (cycle_arc c)
    → Each (HasEnds (CanMove (Later (c -ℤ rounds c (length (patterns trees))))))
    (get_or (patterns trees) (turn c (length (patterns trees))) silence (rounds c (length (patterns trees))))
unfolding cat
cat_moves trees c may =
    let n = length (patterns trees) in
    let k = rounds c n in
    let events = get_or (patterns trees) (turn c n) silence k in
    let move = moved (λ t. t +ℚ whole (c -ℤ k)) in
    each_weaker (λ x. HasEnds InRange (move x)) (HasEnds (CanMove (Later (c -ℤ k))))
    (λ x ends. record {
      whole_start = ends.whole_start;
      whole_stop = ends.whole_stop;
      part_start = ends.part_start;
      part_stop = ends.part_stop;
    })
    events (each_unmap (HasEnds InRange) move events (cycle_fits (Cat trees) c may))

-- ---- a share of the cycle
pub step_grid : {w : ℕ} {steps : Steps} {e : Tree} → IsStep w steps e → grid e ∣ grids (bounds_of_steps steps)
step_grid (first {e = e} {steps = steps}) = divides_lcm_left (grid e) (grids (bounds_of_steps steps))
step_grid (later {d = d} {e = e} {steps = steps} h) =
    dvd_trans (grid e) (step_grid h) (divides_lcm_right (grid d) (grids (bounds_of_steps steps)))

pub step_hang : {w : ℕ} {steps : Steps} {e : Tree} → IsStep w steps e → hang e ≤ hangs (bounds_of_steps steps)
step_hang (first {e = e} {steps = steps}) = omega arith
step_hang (later {v = v} {d = d} {steps = steps} h) = omega (arith, step_hang h)

-- a time that is beside a cycle is so by more
beside_more : (h k : ℕ) (c d : ℤ) (t : Rational) → h ≤ k → IsBeside h c d t → IsBeside k c d t
beside_more h k c d t le is = record {
  from = ≤ℚ_trans ((whole-le (c -ℤ pos k) (c -ℤ pos h)).0 (omega (arith, ints))) is.from;
  to = ≤ℚ_trans is.to ((whole-le (d +ℤ pos h) (d +ℤ pos k)).0 (omega (arith, ints)));
}

-- a time of a step's child goes into the step's share
pub into_share : (steps : Steps) (o w : ℕ) (e : Tree) (c : ℤ) (t : Rational) → IsStep w steps e → o + w ≤ sum_of_weights steps
    → MayAsk (TimeCat steps) (cycle_arc c) → IsMultiple (grid e) t → IsBeside (hang e) c (c +ℤ pos 1) t → CanMove (Step c o w (sum_of_weights steps)) t
into_share steps o w e c t is le may on beside =
    let W = sum_of_weights steps in
    let g = grids (bounds_of_steps steps) in
    let h = hangs (bounds_of_steps steps) in
    let positive = (step_is_valid is may.room.valid.1).0 in
    let fine : W * g ≤ 2 ^ 44 = grid_small may.q may.m (TimeCat steps) may.room in
    let all : 0 < W * g = grid_positive (TimeCat steps) may.room.valid in
    let far : may.m + h ≤ 2 ^ 36 = omega (arith, own_reach (TimeCat steps) may.m, may.room.not_too_far) in
    let on_all = multiple_finer (grid e) g t (step_grid is) on in
    let near = beside_more (hang e) h c (c +ℤ pos 1) t (step_hang is) beside in
    let there = squeezed_near c o w W h t positive le near.from near.to in
    let within = beside_within may.m h c (c +ℤ pos 1) (squeezed c o w W t) (low_of may.q may.m c may.asked) (high_of may.q may.m c may.asked)
    (record { from = there.0; to = there.1 }) in (
      may.room.valid.0,
      step_fits g h c o w W t (pos_of_dvd_of_pos (dvd-mul_left g W) all) positive le fine (hang_small (TimeCat steps) c may) on_all near.from near.to,
      in_range (W * g) (may.m + h) (squeezed c o w W t) all (squeezed_multiple g c o w W t on_all) fine within far,
    )

pub step_moves : (steps : Steps) (o w : ℕ) (e : Tree) (c : ℤ) → IsStep w steps e → o + w ≤ sum_of_weights steps → MayAsk (TimeCat steps) (cycle_arc c)
    → Each (HasEnds (CanMove (Step c o w (sum_of_weights steps)))) (cyc e c)
step_moves steps o w e c is le may =
    let can : (t : Rational) → IsMultiple (grid e) t → IsBeside (hang e) c (c +ℤ pos 1) t → CanMove (Step c o w (sum_of_weights steps)) t =
    λ t on beside. into_share steps o w e c t is le may on beside in
    each_weaker (IsSettled e c) (HasEnds (CanMove (Step c o w (sum_of_weights steps))))
    (λ x ev.
    let beside = ends_beside (hang e) c (c +ℤ pos 1) (cycle_arc c) x ev.proper ev.near in
    record {
      whole_start = can x.whole.start ev.gridded.whole_start beside.whole_start;
      whole_stop = can x.whole.stop ev.gridded.whole_stop beside.whole_stop;
      part_start = can x.part.start ev.gridded.part_start beside.part_start;
      part_stop = can x.part.stop ev.gridded.part_stop beside.part_stop;
    })
    (cyc e c) (settled e (step_is_valid is may.room.valid.1).1 c)

-- ---- a cycle turned round
pub rev_moves : (e : Tree) (c : ℤ) → MayAsk (Rev e) (cycle_arc c) → Each (HasEnds (CanTurn c)) (cyc e c)
unfolding rev
rev_moves e c may =
    each_weaker (λ x. HasEnds InRange (turned_event c x)) (HasEnds (CanTurn c))
    (λ x ends. record { whole_start = ends.whole_stop; whole_stop = ends.whole_start; part_start = ends.part_stop; part_stop = ends.part_start })
    (cyc e c) (each_unmap (HasEnds InRange) (turned_event c) (cyc e c) (cycle_fits (Rev e) c may))

-- ---- later by some time
pub shift_moves : (t : Rational) (e : Tree) (c : ℤ) → MayAsk (Shift t e) (cycle_arc c) → Each (HasEnds (CanMove (Shifted t))) (over (cyc e) (earlier t c))
unfolding shift
shift_moves t e c may =
    each_weaker (λ x. HasEnds InRange (moved (λ u. u +ℚ t) x)) (HasEnds (CanMove (Shifted t)))
    (λ x ends. record {
      whole_start = ends.whole_start;
      whole_stop = ends.whole_stop;
      part_start = ends.part_start;
      part_stop = ends.part_stop;
    })
    (over (cyc e) (earlier t c)) (each_unmap (HasEnds InRange) (moved (λ u. u +ℚ t)) (over (cyc e) (earlier t c)) (cycle_fits (Shift t e) c may))

-- ---- in pieces
pub ply_cuts : (n : ℕ) (e : Tree) (c : ℤ) → MayAsk (Ply n e) (cycle_arc c) → Each (CanPlyWhole n) (cyc e c)
ply_cuts n e c may =
    let fine : n * grid e ≤ 2 ^ 44 = grid_small may.q may.m (Ply n e) may.room in
    each_weaker (IsSettled e c) (CanPlyWhole n)
    (λ x is. record {
      is_arc = whole_is_arc (cycle_arc c) x is.proper;
      grid = grid e;
      positive = grid_positive e may.room.valid.1;
      start = is.gridded.whole_start;
      stop = is.gridded.whole_stop;
      fine = fine;
    })
    (cyc e c) (settled e may.room.valid.1 c)
