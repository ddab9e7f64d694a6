-- Grids, kind by kind: both ends of every whole and of every part are multiples of one over a grid.
use Rattle.std.proofs.Common.{◌≡◌, ℕ, ◌+◌, ◌*◌, ◌⊎◌, ⊎_elim, List, [], ◌∷◌, map, length, get_or, ℤ, pos, ◌+ℤ◌, ◌-ℤ◌, sym, ap, ◌∙◌, subst}
use Rattle.std.specs.Int.{◌∣◌}
use Rattle.std.proofs.Math.Nat.{mul_comm}
use Rattle.tdl_control.specs.declared.leaves.Leaf.{Leaf}
use Rattle.tdl_control.specs.declared.leaves.Leaf.TheVariants.{Controls, Truth, Index}
use Rattle.tdl_fraction.specs.Divisor.{lcm}
use Rattle.tdl_fraction.specs.Rational.{Rational, whole, ◌+ℚ◌, ◌-ℚ◌, ◌*ℚ◌, ◌/ℚ◌, ◌<ℚ◌, IsMultiple}
use Rattle.tdl_fraction.specs.Arc.{Arc}
use Rattle.tdl_fraction.proofs.Field.{*ℚ-divide}
use Rattle.tdl_fraction.proofs.Order.{≢_from_positive}
use Rattle.tdl_fraction.proofs.Multiples.{multiple_finer, whole_multiple, multiple_plus, multiple_minus, multiple_times_whole, multiple_divide}
use Rattle.tdl_fraction.proofs.Multiples.{multiple_lcm_left, multiple_lcm_right}
use Rattle.tdl_fraction.proofs.Rates.{multiple_by_rate}
use Rattle.tdl_event.specs.Event.{Event}
use Rattle.tdl_expr.specs.Bounds.{upper, lower, shared_out}
use Rattle.tdl_meaning.specs.Pattern.{Pattern, Share, over, moved, cycle_arc, silence, pure, fast, squeezed, total_weight, steps_from, time_cat}
use Rattle.tdl_meaning.specs.Pattern.{rounds, turn, cat, stack, turned, rev, picked, pick}
use Rattle.tdl_meaning.specs.Proper.{Each, IsProper, HasProperEvents}
use Rattle.tdl_meaning.specs.Ranges.{IsGriddedIn}
use Rattle.tdl_meaning.proofs.Gridded.{IsGridded, HasGrid}
use Rattle.tdl_meaning.proofs.Lists.{each_append, each_map, each_flat, each_weaker, each_both, each_get_or}
use Rattle.tdl_meaning.proofs.Overs.{grid_over}
use Rattle.tdl_meaning.proofs.Times.{asked, asked_is_arc}

-- what is on a grid is on a finer one
pub finer : (g h : ℕ) → g ∣ h → (p : Pattern) → HasGrid g p → HasGrid h p
finer g h d p gridded c = each_weaker (IsGridded g) (IsGridded h) (λ e on. record {
  whole_start = multiple_finer g h e.whole.start d on.whole_start;
  whole_stop = multiple_finer g h e.whole.stop d on.whole_stop;
  part_start = multiple_finer g h e.part.start d on.part_start;
  part_stop = multiple_finer g h e.part.stop d on.part_stop;
}) (p c) (gridded c)

pub all_finer : (g h : ℕ) → g ∣ h → (ps : List Pattern) → Each (HasGrid g) ps → Each (HasGrid h) ps
all_finer g h d ps all = each_weaker (HasGrid g) (HasGrid h) (finer g h d) ps all

moved_gridded : (g h : ℕ) (f : Rational → Rational) → ((t : Rational) → IsMultiple g t → IsMultiple h (f t)) → (events : List Event)
    → Each (IsGridded g) events → Each (IsGridded h) (map (moved f) events)
moved_gridded g h f goes events all = each_map (IsGridded g) (IsGridded h) (moved f) (λ e on. record {
  whole_start = goes e.whole.start on.whole_start;
  whole_stop = goes e.whole.stop on.whole_stop;
  part_start = goes e.part.start on.part_start;
  part_stop = goes e.part.stop on.part_stop;
}) events all

-- ---- kind by kind
pub silence_grid : (g : ℕ) → HasGrid g silence
unfolding silence
silence_grid g c = tt

pub pure_grid : (v : Leaf) → HasGrid 1 (pure v)
unfolding pure
pure_grid v c =
    let start = whole_multiple 1 c in
    let stop = whole_multiple 1 (c +ℤ pos 1) in
    (record { whole_start = start; whole_stop = stop; part_start = start; part_stop = stop }, tt)

-- an end of what a cycle asks for goes back to an end of the cycle
asked_back : (g : ℕ) (r : Rational) (n : ℤ) (t : Rational) → whole (pos 0) <ℚ r → t ≡ whole n *ℚ r → IsMultiple g (t /ℚ r)
asked_back g r n t positive e = subst (IsMultiple g) (sym (ap (λ x. x /ℚ r) e ∙ *ℚ-divide (whole n) r (≢_from_positive positive))) (whole_multiple g n)

pub fast_grid : (r : Rational) (g : ℕ) (p : Pattern) → whole (pos 0) <ℚ r → HasGrid g p → HasGrid (shared_out g (upper r) (lower r)) (fast r p)
unfolding fast
fast_grid r g p positive gridded c =
    let h = shared_out g (upper r) (lower r) in
    let back : (n : ℤ) (t : Rational) → IsMultiple g t ⊎ (t ≡ whole n *ℚ r) → IsMultiple h (t /ℚ r) =
    λ n t on. ⊎_elim (λ m. multiple_by_rate g t r positive m) (λ e. asked_back h r n t positive e) on in
    each_map (IsGriddedIn g (asked r c)) (IsGridded h) (moved (λ t. t /ℚ r)) (λ e on. record {
      whole_start = multiple_by_rate g e.whole.start r positive on.whole_start;
      whole_stop = multiple_by_rate g e.whole.stop r positive on.whole_stop;
      part_start = back c e.part.start on.part_start;
      part_stop = back (c +ℤ pos 1) e.part.stop on.part_stop;
    }) (over p (asked r c)) (grid_over g p gridded (asked r c) (asked_is_arc r c positive))

pub squeezed_multiple : (g : ℕ) (c : ℤ) (o w W : ℕ) (t : Rational) → IsMultiple g t → IsMultiple (W * g) (squeezed c o w W t)
squeezed_multiple g c o w W t on =
    let since = multiple_times_whole (pos w) (multiple_minus on (whole_multiple g c)) in
    let share = multiple_divide W (multiple_plus (whole_multiple g (pos o)) since) in
    subst (λ k. IsMultiple k (squeezed c o w W t)) (mul_comm g W) (multiple_plus (whole_multiple (g * W) c) share)

pub steps_grid : (g W o : ℕ) (steps : List Share) → Each (λ s. HasGrid g s.pattern) steps → HasGrid (W * g) (steps_from W o steps)
steps_grid g W o [] all c = tt
steps_grid g W o (s ∷ steps) all c =
    each_append (IsGridded (W * g)) (map (moved (squeezed c o s.weight W)) (s.pattern c)) (steps_from W (o + s.weight) steps c)
    (moved_gridded g (W * g) (squeezed c o s.weight W) (squeezed_multiple g c o s.weight W) (s.pattern c) (all.0 c))
    (steps_grid g W (o + s.weight) steps all.1 c)

pub time_cat_grid : (g : ℕ) (steps : List Share) → Each (λ s. HasGrid g s.pattern) steps → HasGrid (total_weight steps * g) (time_cat steps)
unfolding time_cat
time_cat_grid g steps all = steps_grid g (total_weight steps) 0 steps all

pub cat_grid : (g : ℕ) (ps : List Pattern) → Each (HasGrid g) ps → HasGrid g (cat ps)
unfolding cat
cat_grid g ps all c =
    let k = rounds c (length ps) in
    let chosen = get_or ps (turn c (length ps)) silence in
    moved_gridded g g (λ t. t +ℚ whole (c -ℤ k)) (λ t on. multiple_plus on (whole_multiple g (c -ℤ k))) (chosen k)
    (each_get_or (HasGrid g) ps (turn c (length ps)) silence (silence_grid g) all k)

pub stack_grid : (g : ℕ) (ps : List Pattern) → Each (HasGrid g) ps → HasGrid g (stack ps)
unfolding stack
stack_grid g ps all c = each_flat (HasGrid g) (IsGridded g) (λ p. p c) (λ p gridded. gridded c) ps all

pub rev_grid : (g : ℕ) (p : Pattern) → HasGrid g p → HasGrid g (rev p)
unfolding rev
rev_grid g p gridded c =
    let turns : (t : Rational) → IsMultiple g t → IsMultiple g (whole (c +ℤ c +ℤ pos 1) -ℚ t) =
    λ t on. multiple_minus (whole_multiple g (c +ℤ c +ℤ pos 1)) on in
    each_map (IsGridded g) (IsGridded g) (λ e. record { whole = turned c e.whole; part = turned c e.part; value = e.value }) (λ e on. record {
      whole_start = turns e.whole.stop on.whole_stop;
      whole_stop = turns e.whole.start on.whole_start;
      part_start = turns e.part.stop on.part_stop;
      part_stop = turns e.part.start on.part_start;
    }) (p c) (gridded c)

-- a part that is chosen ends on its pattern's grid or where the selector's part does
picked_gridded : (s g : ℕ) (ps : List Pattern) → Each (HasGrid g) ps → (a : Arc) (e : Event) → IsProper a e → IsGridded s e → (v : Leaf)
    → Each (IsGridded (lcm s g)) (picked ps e.part v)
picked_gridded s g ps all a e is on (Controls controls) = tt
picked_gridded s g ps all a e is on (Truth truth) = tt
picked_gridded s g ps all a e is on (Index k) =
    let chosen = get_or ps k silence in
    let ends : (t u : Rational) → IsMultiple s u → IsMultiple g t ⊎ (t ≡ u) → IsMultiple (lcm s g) t =
    λ t u from. ⊎_elim (λ m. multiple_lcm_right s m) (λ same. subst (IsMultiple (lcm s g)) (sym same) (multiple_lcm_left g from)) in
    each_weaker (IsGriddedIn g e.part) (IsGridded (lcm s g)) (λ x at. record {
      whole_start = multiple_lcm_right s at.whole_start;
      whole_stop = multiple_lcm_right s at.whole_stop;
      part_start = ends x.part.start e.part.start on.part_start at.part_start;
      part_stop = ends x.part.stop e.part.stop on.part_stop at.part_stop;
    }) (over chosen e.part) (grid_over g chosen (each_get_or (HasGrid g) ps k silence (silence_grid g) all) e.part is.width)

pub pick_grid : (s g : ℕ) (x : Pattern) (ps : List Pattern) → HasProperEvents x → HasGrid s x → Each (HasGrid g) ps → HasGrid (lcm s g) (pick x ps)
unfolding pick
pick_grid s g x ps proper gridded all c =
    each_flat (λ e. IsProper (cycle_arc c) e × IsGridded s e) (IsGridded (lcm s g)) (λ e. picked ps e.part e.value)
    (λ e h. picked_gridded s g ps all (cycle_arc c) e h.0 h.1 e.value) (x c)
    (each_both (IsProper (cycle_arc c)) (IsGridded s) (λ e. IsProper (cycle_arc c) e × IsGridded s e) (λ e h k. (h, k)) (x c) (proper c) (gridded c))
