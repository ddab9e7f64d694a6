-- Orbits that are not asked: where no multiple of one over a pattern's grid is in a span, none of its rows is due.
--     between_multiples     no multiple is in the span's part of a cycle, if no more are before its end than before its start
--     none_due              so no row of a pattern on that grid is due
use Rattle.std.proofs.Common.{◌≡◌, ℕ, ℤ, pos, negsuc, nat_abs, ◌≤ℤ◌, ◌+◌, ◌*◌, ◌-◌, ◌<◌, ◌≤◌, Bool, Some, true, false, max, min, List, [], ◌∷◌, ◌++◌}
use Rattle.std.proofs.Common.{if◌then◌else◌, refl, sym, ap₂, ◌∙◌, subst, arith}
use Rattle.std.specs.Int.{div_ceil}
use Rattle.std.specs.List.{AllByRecursion, flat_map}
use Rattle.tdl_fraction.specs.Rational.{Rational, frac, whole, ◌≤ℚ◌, ◌<ℚ◌}
use Rattle.tdl_fraction.specs.Arc.{Arc}
use Rattle.tdl_fraction.specs.Units.{tick_units, time_of}
use Rattle.tdl_fraction.proofs.Multiples.{multiple_is_frac}
use Rattle.tdl_fraction.proofs.Order.{≤ℚ_trans, <ℚ-≤ℚ_trans}
use Rattle.tdl_fraction.proofs.Over.{Over-frac, Over-zero, num_from_le}
use Rattle.tdl_fraction.proofs.UnitTimes.{units_le, lt_units, units-le, cycle_units}
use Rattle.tdl_event.specs.Event.{Event}
use Rattle.tdl_event.specs.declared.rows.Row.{Row}
use Rattle.tdl_expr.specs.Bounds.{grid, hang}
use Rattle.tdl_expr.specs.Tree.{Tree}
use Rattle.tdl_meaning.specs.Pattern.{over}
use Rattle.tdl_meaning.specs.Meaning.{cyc}
use Rattle.tdl_meaning.specs.Proper.{ProperLaw}
use Rattle.tdl_meaning.specs.Ranges.{IsInRange, RangeLaw}
use Rattle.tdl_meaning.specs.Onsets.{has_onset}
use Rattle.tdl_meaning.proofs.Splits.{has_onset-true}
use Rattle.tdl_score.specs.Programs.{due}
use Rattle.tdl_score.specs.Readings.{IsPlayable}
use Rattle.tdl_score.specs.Score.{leaf_rows, pattern_rows, row_of}
use Rattle.tdl_score.specs.inside.Parts.{IsBetween, part_arc}
use Rattle.tdl_score.proofs.Boundaries.{div_ceil_least, div_ceil_covers}
use Rattle.tdl_score.proofs.Clipped.{due_rows, part_is_arc}

-- ---- no multiple is there
-- so many cycles and units hold so many multiples and a rest
counted : (c u g : ℕ) → (c * tick_units + u) * g ≡ (c * g) * tick_units + u * g
counted c u g = grind arith

-- k / g is not in the cycle's part from the start up to the stop
no_count : (c start stop g k : ℕ) → div_ceil (stop * g) tick_units ≤ div_ceil (start * g) tick_units
    → (c * tick_units + start) * g ≤ k * tick_units → k * tick_units < (c * tick_units + stop) * g → ⊥
no_count c start stop g k fewer low high =
    let first = counted c start g in
    let last = counted c stop g in
    let least = div_ceil_least (start * g) tick_units (k - c * g) (omega arith) (omega arith) in
    let most = div_ceil_covers (stop * g) tick_units (omega arith) in
    omega arith

above_zero : (n : ℤ) → pos 0 ≤ℤ n → n ≡ pos (nat_abs n)
above_zero (pos k) h = refl
above_zero (negsuc k) h = absurd h.le

module _ (from to cycle g : ℕ) (positive : 0 < g) (begun : cycle * tick_units < to) (not_over : from < (cycle + 1) * tick_units) where
  abbrev start : ℕ
  start = max from (cycle * tick_units)

  abbrev stop : ℕ
  stop = min to ((cycle + 1) * tick_units)

  abbrev Fewer : Type 0
  Fewer = div_ceil ((stop - cycle * tick_units) * g) tick_units ≤ div_ceil ((start - cycle * tick_units) * g) tick_units

  clash : Fewer → (n : ℤ) (t : Rational) → t ≡ frac n g → time_of start ≤ℚ t → t <ℚ time_of stop → ⊥
  clash fewer n t is low high =
      let early : time_of start ≤ℚ frac n g = subst (λ x. time_of start ≤ℚ x) is low in
      let zero : whole (pos 0) ≤ℚ frac n g =
      ≤ℚ_trans (subst (λ x. x ≤ℚ time_of start) (cycle_units 0) (units-le (0 * tick_units) start (omega arith))) early in
      let same = above_zero n (num_from_le (Over-zero g positive) (Over-frac n g positive) zero) in
      let k = nat_abs n in
      let least : start * g ≤ k * tick_units = (units_le start k g positive).1 (subst (λ m. time_of start ≤ℚ frac m g) same early) in
      let most : k * tick_units < stop * g =
      (lt_units stop k g positive).1 (subst (λ m. frac m g <ℚ time_of stop) same (subst (λ x. x <ℚ time_of stop) is high)) in
      let first : start ≡ cycle * tick_units + (start - cycle * tick_units) = omega arith in
      let last : stop ≡ cycle * tick_units + (stop - cycle * tick_units) = omega arith in
      no_count cycle (start - cycle * tick_units) (stop - cycle * tick_units) g k fewer
      (subst (λ u. u * g ≤ k * tick_units) first least) (subst (λ u. k * tick_units < u * g) last most)

  pub between_multiples : Fewer → IsBetween g (part_arc from to cycle)
  between_multiples fewer = record {
    none = λ t multiple low high. let n = (multiple_is_frac g t positive).0 multiple in clash fewer n.0 t n.1 low high;
  }

-- ---- so no event has its onset there
unstarted : (g h orbit : ℕ) (a : Arc) → IsBetween g a → (e : Event) → IsInRange g h a e → row_of orbit e ≡ []
unstarted g h orbit a between e is = by (has_onset e) refl
  where
    by : (b : Bool) → has_onset e ≡ b → (if b then leaf_rows orbit e e.value else []) ≡ []
    by false starts = refl
    by true starts =
        let same = (has_onset-true e).0 starts in
        absurd (between.none e.whole.start is.gridded.whole_start (subst (λ t. a.start ≤ℚ t) same is.proper.in_arc.0)
        (<ℚ-≤ℚ_trans (subst (λ t. t <ℚ e.part.stop) same is.proper.width) is.proper.in_arc.1))

all_unstarted : (g h orbit : ℕ) (a : Arc) → IsBetween g a → (events : List Event) → AllByRecursion (IsInRange g h a) events
    → flat_map (row_of orbit) events ≡ []
all_unstarted g h orbit a between [] all = refl
all_unstarted g h orbit a between (e ∷ events) all =
    ap₂ (λ (xs ys : List Row). xs ++ ys) (unstarted g h orbit a between e all.0) (all_unstarted g h orbit a between events all.1)

module _ (from to cycle orbit : ℕ) (forward : from < to) (begun : cycle * tick_units < to) (not_over : from < (cycle + 1) * tick_units) where
  pub none_due : ProperLaw → RangeLaw → (tree : Tree) → IsPlayable tree → IsBetween (grid tree) (part_arc from to cycle)
      → due from to (pattern_rows cycle orbit (Some tree)) ≡ []
  none_due proper range tree playable between =
      let arc = part_arc from to cycle in
      sym (due_rows from to cycle orbit forward begun not_over (cyc tree) (proper tree playable.valid))
      ∙ all_unstarted (grid tree) (hang tree) orbit arc between (over (cyc tree) arc)
      (range tree playable.valid arc (part_is_arc from to cycle forward begun not_over))
