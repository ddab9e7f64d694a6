-- The unit of a program's root, of which ticks are whole counts, and an arc on the grid of ticks by its counts.
--     root_unit      it is a unit for what is asked of the root
--     tick_counted   a time on the grid of ticks is a whole count
--     root_counts    the root may be asked for an arc by its counts
--     made_in_range  what it answers has times in range
--     made_alone     what is added to no items
--     span_counts    the counts of an arc's ends, of a unit that their denominators divide
--     span_is        are those of a span, which is the arc
use Rattle.std.proofs.Common.{◌≡◌, ℕ, ◌*◌, ◌/◌, ◌<◌, ◌≤◌, ◌^◌, List, [], ◌∷◌, ◌++◌, map, ℤ, pos, ◌*ℤ◌, neg_ℤ, nat_abs, sym, ap, ap₂, ◌∙◌, subst, arith}
use Rattle.std.specs.Int.{◌∣◌}
use Rattle.std.proofs.lemmas.Int.{ints}
use Rattle.std.proofs.Math.Nat.{div-mul_cancel}
use Rattle.std.proofs.lemmas.Nat.Gcd.{dvd_trans}
use Rattle.tdl_fraction.specs.Divisor.{lcm}
use Rattle.tdl_fraction.specs.Rational.{Rational, frac, ◌<ℚ◌, IsMultiple}
use Rattle.tdl_fraction.specs.Range.{InRange}
use Rattle.tdl_fraction.specs.Arc.{Arc, IsArc}
use Rattle.tdl_fraction.specs.Units.{tick_units, last_cycle, IsQueryArc}
use Rattle.tdl_fraction.proofs.Coprime.{divides_lcm_left, divides_lcm_right, lcm_positive}
use Rattle.tdl_fraction.proofs.Order.{frac-lt, ≤ℚ_trans, whole-le}
use Rattle.tdl_event.specs.Event.{Event}
use Rattle.tdl_expr.specs.Tree.{Tree}
use Rattle.tdl_expr.specs.Bounds.{grid, fine}
use Rattle.tdl_expr.specs.Valid.{IsValid, IsWithinLimits, max_fine}
use Rattle.tdl_expr.proofs.Numbers.{grid_positive, own_grid}
use Rattle.tdl_meaning.specs.Pattern.{over}
use Rattle.tdl_meaning.specs.Meaning.{cyc}
use Rattle.tdl_meaning.specs.Proper.{Each}
use Rattle.tdl_meaning.specs.Ranges.{HasEnds}
use Rattle.tdl_meaning.specs.inside.Conditions.{MayAsk}
use Rattle.tdl_meaning.proofs.Condition.{over_fits}
use Rattle.tdl_grid.specs.Span.{Span, IsSpan, arc_of}
use Rattle.tdl_grid.specs.Item.{Item, event_of, Adds}
use Rattle.tdl_grid.specs.Times.{HasTimes}
use Rattle.tdl_grid.specs.inside.Asked.{IsUnit, MayCount}
use Rattle.tdl_grid.proofs.Units.{time-count, count_size}

-- a time on the grid of ticks is a whole count
pub tick_counted : (g u : ℕ) → u ≡ lcm g tick_units → (t : Rational) → IsMultiple tick_units t → t.den ∣ u
tick_counted g u is t on = subst (λ n. t.den ∣ n) (sym is) (dvd_trans t.den on.divides (divides_lcm_right g tick_units))

pub root_unit : (e : Tree) → IsValid e → (u : ℕ) → u ≡ lcm (grid e) tick_units → fine e tick_units ≤ max_fine → IsUnit u e tick_units
root_unit e valid u is finest = record {
  positive = subst (λ n. 0 < n) (sym is) (lcm_positive (grid e) tick_units (grid_positive e valid) (omega arith));
  divides = subst (λ n. grid e ∣ n) (sym is) (divides_lcm_left (grid e) tick_units);
  small = let most = own_grid e tick_units in omega (arith, is, most, finest);
}

each_of_made : (u : ℕ) (items : List Item) → Each (HasEnds InRange) (map (event_of u) items) → Each (HasTimes u) items
each_of_made u [] all = all
each_of_made u (i ∷ items) all = (all.0, each_of_made u items all.1)

pub made_alone : (u : ℕ) (empty items : List Item) (events : List Event) → empty ≡ [] → Adds u empty items events → map (event_of u) items ≡ events
made_alone u empty items events none adds = ap (map (event_of u)) (adds.behind ∙ ap (λ xs. xs ++ adds.made) none) ∙ adds.plays

module _ (e : Tree) (valid : IsValid e) (u : ℕ) (is : u ≡ lcm (grid e) tick_units) (limits : IsWithinLimits e) where
  pub unit_positive : 0 < u
  unit_positive = (root_unit e valid u is limits.not_too_fine).positive

  pub unit_small : u ≤ 2 ^ 88
  unit_small = let small = (root_unit e valid u is limits.not_too_fine).small in omega (arith, small)

  pub ticks_counted : (t : Rational) → IsMultiple tick_units t → t.den ∣ u
  ticks_counted t on = tick_counted (grid e) u is t on

  pub root_counts : (a : Arc) (s : Span) → IsQueryArc a → arc_of u s ≡ a → MayCount e u (arc_of u s)
  root_counts a s query same =
      let may : MayAsk e a = record {
        q = tick_units;
        m = last_cycle;
        room = record { valid = valid; on_grid = omega arith; not_too_fine = limits.not_too_fine; not_too_far = limits.not_too_far };
        asked = record {
          is_arc = query.ordered;
          on_grid = query.on_grid;
          from = ≤ℚ_trans ((whole-le (neg_ℤ (pos last_cycle)) (pos 0)).0 (omega (arith, ints))) query.from_zero;
          to = query.to_last;
        };
      } in
      subst (MayCount e u) (sym same) (record { may = may; unit = root_unit e valid u is limits.not_too_fine })

  pub made_in_range : (a : Arc) (s : Span) (empty items : List Item) → IsQueryArc a → arc_of u s ≡ a → empty ≡ []
      → Adds u empty items (over (cyc e) (arc_of u s)) → Each (HasTimes u) items
  made_in_range a s empty items query same none adds =
      let whole : items ≡ adds.made = adds.behind ∙ ap (λ xs. xs ++ adds.made) none in
      subst (Each (HasTimes u)) (sym whole)
      (each_of_made u adds.made (subst (Each (HasEnds InRange)) (sym adds.plays) (over_fits e (arc_of u s) (root_counts a s query same).may)))

-- ---- counts of an arc
abbrev pub IsCountOf : ℕ → Rational → ℤ → Type 0
IsCountOf u t n = (x : ℕ) → x * t.den ≡ u → n ≡ t.num *ℤ pos x

module _ (u : ℕ) (h : 0 < u) (small : u ≤ 2 ^ 88) where
  pub count_is : (t : Rational) (n : ℤ) → t.den ∣ u → IsCountOf u t n → frac n u ≡ t
  count_is t n d is =
      let e = div-mul_cancel t.den d in
      ap (λ m. frac m u) (is (u / t.den) e) ∙ time-count t (u / t.den) u h e

  count_fits : (t : Rational) (n : ℤ) → InRange t → frac n u ≡ t → nat_abs n ≤ 2 ^ 124
  count_fits t n range is = let size = count_size n u h (subst InRange (sym is) range) in omega (arith, size, small)

  pub span_counts : (a : Arc) (n m : ℤ) → IsArc a → InRange a.start → InRange a.stop → frac n u ≡ a.start → frac m u ≡ a.stop → IsSpan n m
  span_counts a n m is start_range stop_range start stop = record {
    ordered = (frac-lt n m u h).1 (subst (λ t. t <ℚ frac m u) (sym start) (subst (λ t. a.start <ℚ t) (sym stop) is));
    start_small = count_fits a.start n start_range start;
    stop_small = count_fits a.stop m stop_range stop;
  }

pub span_is : (u : ℕ) (a : Arc) (s : Span) (n m : ℤ) → s ≡ record { start = n; stop = m } → frac n u ≡ a.start → frac m u ≡ a.stop → arc_of u s ≡ a
span_is u a s n m is start stop = ap (arc_of u) is ∙ ap₂ (λ (x y : Rational). record { start = x; stop = y }) start stop
