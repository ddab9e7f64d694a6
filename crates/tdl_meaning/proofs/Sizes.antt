-- The range of the times of trees: events of an arc are on the tree's grid and near the arc, no end is further than
-- the ask's size and the hang together, each end is on the tree's grid or on the ask's, and all ends are as fine and as
-- far as the tree's numbers say. So the times of a tree that has room are fractions of the program.
use Rattle.std.proofs.Common.{◌≡◌, ℕ, ◌+◌, ◌<◌, ◌≤◌, ◌^◌, ◌⊎◌, inl, inr, ⊎_elim, ℤ, pos, ◌+ℤ◌, ◌-ℤ◌, neg_ℤ, ◌≤ℤ◌, sym, subst, arith}
use Rattle.std.proofs.lemmas.Int.{ints}
use Rattle.std.proofs.lemmas.Nat.Gcd.{le_of_dvd}
use Rattle.tdl_fraction.specs.Divisor.{lcm}
use Rattle.tdl_fraction.specs.Rational.{Rational, whole, ◌≤ℚ◌, floor, ceil, IsMultiple}
use Rattle.tdl_fraction.specs.Range.{InRange, IsWithin}
use Rattle.tdl_fraction.specs.Arc.{Arc}
use Rattle.tdl_fraction.proofs.Coprime.{lcm_positive}
use Rattle.tdl_fraction.proofs.Order.{≤ℚ_trans, ≤ℚ_from_<ℚ, whole-le}
use Rattle.tdl_fraction.proofs.Rounding.{le_floor, ceil_le}
use Rattle.tdl_fraction.proofs.Multiples.{multiple_lcm_left, multiple_lcm_right}
use Rattle.tdl_fraction.proofs.Ranges.{InRange-between, within_more}
use Rattle.tdl_event.specs.Event.{Event}
use Rattle.tdl_expr.specs.Tree.{Tree}
use Rattle.tdl_expr.specs.Valid.{IsValid}
use Rattle.tdl_expr.specs.Bounds.{grid, hang, fine, reach}
use Rattle.tdl_meaning.specs.Pattern.{over}
use Rattle.tdl_meaning.specs.Meaning.{cyc}
use Rattle.tdl_meaning.specs.Proper.{Each, IsProper, IsNear}
use Rattle.tdl_meaning.specs.Ranges.{IsGriddedIn, IsInRange, RangeLaw, IsAsked, HasEnds, SizeLaw, IsBounded, NumberLaw, GridLaw}
use Rattle.tdl_meaning.specs.inside.Conditions.{HasRoom}
use Rattle.tdl_meaning.proofs.Lists.{each_both, each_weaker}
use Rattle.tdl_meaning.proofs.Overs.{proper_over, grid_over, hang_over}
use Rattle.tdl_meaning.proofs.Proper.{proper}
use Rattle.tdl_meaning.proofs.Grids.{gridded}
use Rattle.tdl_meaning.proofs.Hangs.{hung}
use Rattle.tdl_expr.proofs.Numbers.{grid_positive, own_grid, own_reach}

-- ---- in an arc
pub range : RangeLaw
range e valid a is_arc =
    let near = hang_over (hang e) (cyc e) (hung e valid) a is_arc in
    let on_grid = grid_over (grid e) (cyc e) (gridded e valid) a is_arc in
    let placed = each_both (IsGriddedIn (grid e) a) (IsNear (hang e) (floor a.start) (ceil a.stop))
    (λ x. IsGriddedIn (grid e) a x × IsNear (hang e) (floor a.start) (ceil a.stop) x) (λ x g n. (g, n)) (over (cyc e) a) on_grid near in
    each_both (IsProper a) (λ x. IsGriddedIn (grid e) a x × IsNear (hang e) (floor a.start) (ceil a.stop) x) (IsInRange (grid e) (hang e) a)
    (λ x p both. record { proper = p; gridded = both.0; near = both.1 }) (over (cyc e) a) (proper_over (cyc e) (proper e valid) a is_arc) placed

-- ---- the size of times
pub floor_asked : {q m : ℕ} {a : Arc} → IsAsked q m a → neg_ℤ (pos m) ≤ℤ floor a.start
floor_asked {q} {m} {a} h = (le_floor (neg_ℤ (pos m)) a.start).0 h.from

pub ceil_asked : {q m : ℕ} {a : Arc} → IsAsked q m a → ceil a.stop ≤ℤ pos m
ceil_asked {q} {m} {a} h = (ceil_le a.stop (pos m)).0 h.to

-- a time from h before the cycle first up to h after the cycle's end last
pub record IsBeside (h : ℕ) (first last : ℤ) (t : Rational) : Type 0 where
  pub from : whole (first -ℤ pos h) ≤ℚ t
  pub to : t ≤ℚ whole (last +ℤ pos h)

-- so is each end of a proper event whose whole is
pub ends_beside : (h : ℕ) (first last : ℤ) (a : Arc) (e : Event) → IsProper a e → IsNear h first last e → HasEnds (IsBeside h first last) e
ends_beside h first last a e p near =
    let width = ≤ℚ_from_<ℚ p.width in
    let before_stop = ≤ℚ_trans width p.in_whole.1 in
    let after_start = ≤ℚ_trans p.in_whole.0 width in
    record {
      whole_start = record { from = near.start; to = ≤ℚ_trans p.in_whole.0 (≤ℚ_trans before_stop near.stop) };
      whole_stop = record { from = ≤ℚ_trans near.start (≤ℚ_trans p.in_whole.0 before_stop); to = near.stop };
      part_start = record { from = ≤ℚ_trans near.start p.in_whole.0; to = ≤ℚ_trans before_stop near.stop };
      part_stop = record { from = ≤ℚ_trans near.start after_start; to = ≤ℚ_trans p.in_whole.1 near.stop };
    }

pub beside_within : (m h : ℕ) (first last : ℤ) (t : Rational) → neg_ℤ (pos m) ≤ℤ first → last ≤ℤ pos m → IsBeside h first last t → IsWithin (m + h) t
beside_within m h first last t low high is = record {
  from = ≤ℚ_trans ((whole-le (neg_ℤ (pos (m + h))) (first -ℤ pos h)).0 (omega (arith, ints))) is.from;
  to = ≤ℚ_trans is.to ((whole-le (last +ℤ pos h) (pos (m + h))).0 (omega (arith, ints)));
}

pub near_ends : (m h : ℕ) (first last : ℤ) (a : Arc) (e : Event) → neg_ℤ (pos m) ≤ℤ first → last ≤ℤ pos m → IsProper a e → IsNear h first last e
    → HasEnds (IsWithin (m + h)) e
near_ends m h first last a e low high p near =
    let beside = ends_beside h first last a e p near in
    let within : (t : Rational) → IsBeside h first last t → IsWithin (m + h) t = λ t is. beside_within m h first last t low high is in
    record {
      whole_start = within e.whole.start beside.whole_start;
      whole_stop = within e.whole.stop beside.whole_stop;
      part_start = within e.part.start beside.part_start;
      part_stop = within e.part.stop beside.part_stop;
    }

pub sizes : SizeLaw
sizes q m e valid a h =
    each_weaker (IsInRange (grid e) (hang e) a) (HasEnds (IsWithin (m + hang e)))
    (λ x is. near_ends m (hang e) (floor a.start) (ceil a.stop) a x (floor_asked h) (ceil_asked h) is.proper is.near)
    (over (cyc e) a) (range e valid a h.is_arc)

pub on_either : (g q : ℕ) (t : Rational) → IsMultiple g t ⊎ IsMultiple q t → IsMultiple (lcm g q) t
on_either g q t either = ⊎_elim (λ h. multiple_lcm_left q h) (λ h. multiple_lcm_right g h) either

-- a part's end is on the tree's grid, or it is an end of the arc, which is on the ask's
pub on_grids : GridLaw
on_grids q m e valid a h =
    let part_end : (t s : Rational) → IsMultiple q s → IsMultiple (grid e) t ⊎ (t ≡ s) → IsMultiple (lcm (grid e) q) t =
    λ t s on either. on_either (grid e) q t (⊎_elim (λ k. inl k) (λ same. inr (subst (IsMultiple q) (sym same) on)) either) in
    each_weaker (IsInRange (grid e) (hang e) a) (HasEnds (IsMultiple (lcm (grid e) q)))
    (λ x is. record {
      whole_start = multiple_lcm_left q is.gridded.whole_start;
      whole_stop = multiple_lcm_left q is.gridded.whole_stop;
      part_start = part_end x.part.start a.start h.on_grid.start is.gridded.part_start;
      part_stop = part_end x.part.stop a.stop h.on_grid.stop is.gridded.part_stop;
    })
    (over (cyc e) a) (range e valid a h.is_arc)

pub bounded : (q m : ℕ) (e : Tree) → IsValid e → 0 < q → (t : Rational) → IsMultiple (grid e) t ⊎ IsMultiple q t → IsWithin (m + hang e) t
    → IsBounded (fine e q) (reach e m) t
bounded q m e valid positive t either within =
    let finest = le_of_dvd (lcm_positive (grid e) q (grid_positive e valid) positive) (on_either (grid e) q t either).divides in
    record {
      fine = omega (arith, finest, own_grid e q);
      within = within_more (own_reach e m) within;
    }

pub numbers : NumberLaw
numbers q m e valid positive a h =
    let At : Rational → Type 0 = IsBounded (fine e q) (reach e m) in
    let far : m ≤ m + hang e = omega arith in
    let ordered = ≤ℚ_from_<ℚ h.is_arc in
    let asked_end : (t : Rational) → IsMultiple q t → IsWithin m t → At t =
    λ t on within. bounded q m e valid positive t (inr on) (within_more far within) in
    let part_end : (t s : Rational) → IsMultiple q s → IsMultiple (grid e) t ⊎ (t ≡ s) → IsWithin (m + hang e) t → At t =
    λ t s on either within. bounded q m e valid positive t (⊎_elim (λ k. inl k) (λ same. inr (subst (IsMultiple q) (sym same) on)) either) within in
    record {
      start = asked_end a.start h.on_grid.start (record { from = h.from; to = ≤ℚ_trans ordered h.to });
      stop = asked_end a.stop h.on_grid.stop (record { from = ≤ℚ_trans h.from ordered; to = h.to });
      ends = each_both (IsInRange (grid e) (hang e) a) (HasEnds (IsWithin (m + hang e))) (HasEnds At)
          (λ x is size. record {
            whole_start = bounded q m e valid positive x.whole.start (inl is.gridded.whole_start) size.whole_start;
            whole_stop = bounded q m e valid positive x.whole.stop (inl is.gridded.whole_stop) size.whole_stop;
            part_start = part_end x.part.start a.start h.on_grid.start is.gridded.part_start size.part_start;
            part_stop = part_end x.part.stop a.stop h.on_grid.stop is.gridded.part_stop size.part_stop;
          })
          (over (cyc e) a) (range e valid a h.is_arc) (sizes q m e valid a h);
    }

-- ---- fractions of the program
pub in_range_from : (f r : ℕ) (t : Rational) → f ≤ 2 ^ 44 → r ≤ 2 ^ 36 → IsBounded f r t → InRange t
in_range_from f r t h k is =
    let within = within_more k is.within in
    InRange-between t (omega (arith, is.fine)) within.from within.to

pub fits : (q m : ℕ) (e : Tree) → HasRoom q m e → (t : Rational) → IsMultiple (grid e) t ⊎ IsMultiple q t → IsWithin (m + hang e) t → InRange t
fits q m e room t either within =
    in_range_from (fine e q) (reach e m) t room.not_too_fine room.not_too_far (bounded q m e room.valid room.on_grid t either within)

-- all ends of a tree's events in an arc that it has room for
pub fit : (q m : ℕ) (e : Tree) → HasRoom q m e → (a : Arc) → IsAsked q m a → Each (HasEnds InRange) (over (cyc e) a)
fit q m e room a h =
    let one : (t : Rational) → IsBounded (fine e q) (reach e m) t → InRange t =
    λ t is. in_range_from (fine e q) (reach e m) t room.not_too_fine room.not_too_far is in
    each_weaker (HasEnds (IsBounded (fine e q) (reach e m))) (HasEnds InRange)
    (λ x is. record {
      whole_start = one x.whole.start is.whole_start;
      whole_stop = one x.whole.stop is.whole_stop;
      part_start = one x.part.start is.part_start;
      part_stop = one x.part.stop is.part_stop;
    })
    (over (cyc e) a) (numbers q m e room.valid room.on_grid a h).ends

-- and those of the arc
pub asked_fits : (q m : ℕ) (e : Tree) → HasRoom q m e → (a : Arc) → IsAsked q m a → InRange a.start × InRange a.stop
asked_fits q m e room a h =
    let ends = numbers q m e room.valid room.on_grid a h in
    let one : (t : Rational) → IsBounded (fine e q) (reach e m) t → InRange t =
    λ t is. in_range_from (fine e q) (reach e m) t room.not_too_fine room.not_too_far is in
    (one a.start ends.start, one a.stop ends.stop)
