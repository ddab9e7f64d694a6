-- The rows of a cycle: each begins in it, has a positive length and an end in range, and plays on an orbit.
--     events_in_cycle    what is known of each event of a cycle
--     whole_positive     the length of a whole is above 0
--     whole_in_range     and in range, where the event has its onset in an arc of a cycle before the last one
--     stop_in_range      its end is in range too, of an event of such a cycle
--     IsRowIn            a row begins in a cycle, and has a positive length
--     pattern_rows_in, rows_in           each row of a cycle begins in it, and has a length
--     pattern_rows_known, rows_known     and is one of the cycle, where that is before the last one
--     rows_from, rows_before, rows_rise  the rows of a cycle are from its start on, before its end, and in order
--     none_early         a cycle has no row before it
use Rattle.std.proofs.Common.{◌≡◌, ℕ, suc, ◌+◌, ◌*◌, ◌<◌, ◌≤◌, ◌==◌, nat_le, Bool, true, false, if◌then◌else◌, List, [], ◌∷◌, filter}
use Rattle.std.proofs.Common.{Option, Some, None, IfSome, ℤ, pos, neg_ℤ, ◌+ℤ◌, refl, sym, ap, ◌∙◌, subst, arith}
use Rattle.std.specs.List.{AllByRecursion, flat_map}
use Rattle.std.proofs.lemmas.Int.{ints}
use Rattle.tdl_control.specs.declared.leaves.Leaf.{Leaf}
use Rattle.tdl_control.specs.declared.leaves.Leaf.TheVariants.{Controls, Truth, Index}
use Rattle.tdl_fraction.specs.Rational.{Rational, whole, ◌-ℚ◌, ◌+ℚ◌, ◌≤ℚ◌, ◌<ℚ◌}
use Rattle.tdl_fraction.specs.Arc.{Arc, IsArc, IsInside}
use Rattle.tdl_fraction.specs.Range.{InRange, IsWithin}
use Rattle.tdl_fraction.specs.Units.{tick_units, last_cycle, time_of}
use Rattle.tdl_fraction.proofs.Field.{whole-plus, +ℚ_comm, -ℚ-plus}
use Rattle.tdl_fraction.proofs.Order.{≤ℚ_trans, ≤ℚ_from_<ℚ, ≤ℚ-<ℚ_trans, <ℚ-≤ℚ_trans, ≤ℚ_from_same, plus_left_le, minus_le, lt_by_difference, whole-le}
use Rattle.tdl_fraction.proofs.Arcs.{inside_self}
use Rattle.tdl_fraction.proofs.Multiples.{multiple_minus}
use Rattle.tdl_fraction.proofs.Ranges.{in_range}
use Rattle.tdl_fraction.proofs.UnitTimes.{units-le, cycle_units}
use Rattle.tdl_event.specs.Event.{Event}
use Rattle.tdl_event.specs.declared.rows.Row.{Row}
use Rattle.tdl_order.specs.TimeOrder.{Rises}
use Rattle.tdl_order.proofs.EachItem.{All-weaker, All-flat_map}
use Rattle.tdl_order.proofs.Rising.{AllFrom, AllBefore, AllFrom-earlier}
use Rattle.tdl_order.proofs.InOrder.{All-by_time, Rises-by_time}
use Rattle.tdl_order.proofs.Cuts.{before-from}
use Rattle.tdl_desk.specs.declared.changes.Change.{Change}
use Rattle.tdl_desk.specs.declared.changes.Change.TheVariants.{Set, Hush, Mute, Unmute, Solo, Unsolo, UnmuteAll, UnsoloAll}
use Rattle.tdl_desk.specs.declared.changes.Dated.{Dated}
use Rattle.tdl_desk.specs.Changes.{pattern_in}
use Rattle.tdl_desk.specs.Desk.{Desk, IsOrbit, with_change, desk_after, empty_desk, desk, is_audible, orbits}
use Rattle.tdl_expr.specs.Tree.{Tree}
use Rattle.tdl_expr.specs.Valid.{IsValid}
use Rattle.tdl_expr.specs.Bounds.{grid, hang}
use Rattle.tdl_expr.proofs.Numbers.{grid_positive, grid_at_most_fine, own_reach}
use Rattle.tdl_meaning.specs.Pattern.{cycle_arc}
use Rattle.tdl_meaning.specs.Meaning.{cyc}
use Rattle.tdl_meaning.specs.Proper.{IsProper, ProperLaw}
use Rattle.tdl_meaning.specs.Ranges.{IsInRange, RangeLaw}
use Rattle.tdl_meaning.proofs.Cycles.{cycle_is_arc}
use Rattle.tdl_meaning.proofs.Cuts.{ceil_inside, over_cycle}
use Rattle.tdl_meaning.proofs.Lists.{each_range_with_len}
use Rattle.tdl_meaning.specs.Onsets.{has_onset}
use Rattle.tdl_meaning.proofs.Splits.{has_onset-true}
use Rattle.tdl_score.specs.Readings.{IsPlayable}
use Rattle.tdl_score.specs.Changes.{ArePlayable}
use Rattle.tdl_score.specs.Score.{leaf_rows, row_of, pattern_rows, orbit_rows, onset, rows, begins_before, IsRowOf}

-- ---- events
pub events_in_cycle : ProperLaw → RangeLaw → (tree : Tree) → IsValid tree → (c : ℤ)
    → AllByRecursion (IsInRange (grid tree) (hang tree) (cycle_arc c)) (cyc tree c)
events_in_cycle proper range tree valid c =
    subst (AllByRecursion (IsInRange (grid tree) (hang tree) (cycle_arc c))) (over_cycle (cyc tree) (proper tree valid) c)
    (range tree valid (cycle_arc c) (cycle_is_arc c))

-- a proper event has a whole of positive length
pub whole_positive : {a : Arc} (e : Event) → IsProper a e → whole (pos 0) <ℚ e.whole.stop -ℚ e.whole.start
whole_positive {a} e proper =
    (lt_by_difference e.whole.start e.whole.stop).0 (≤ℚ-<ℚ_trans proper.in_whole.0 (<ℚ-≤ℚ_trans proper.width proper.in_whole.1))

-- what hangs over a cycle by at most h at its end, and starts in the cycle, is at most h + 1 long
short : (c : ℤ) (h : ℕ) (start stop : Rational) → whole c ≤ℚ start → stop ≤ℚ whole ((c +ℤ pos 1) +ℤ pos h) → whole (pos 0) <ℚ stop -ℚ start
    → IsWithin (suc h) (stop -ℚ start)
short c h start stop low high positive = record {
  from = ≤ℚ_trans ((whole-le (neg_ℤ (pos (suc h))) (pos 0)).0 (omega (arith, ints))) (≤ℚ_from_<ℚ positive);
  to = (minus_le stop (whole (pos (suc h))) start).1
      (≤ℚ_trans (subst (λ z. stop ≤ℚ z) (sums c h) high) (plus_left_le (whole (pos (suc h))) low));
}
  where
    sums : (c : ℤ) (h : ℕ) → whole ((c +ℤ pos 1) +ℤ pos h) ≡ whole (pos (suc h)) +ℚ whole c
    sums c h = ap whole (same c h) ∙ whole-plus (pos (suc h)) c
      where
        same : (c : ℤ) (h : ℕ) → (c +ℤ pos 1) +ℤ pos h ≡ pos (suc h) +ℤ c
        same c h = omega (arith, ints)

-- an event of an arc in a cycle has a length that is in range, where it has its onset there; of an event without
-- its onset, which may hang over the cycle at both ends, the hang alone does not say so
pub whole_in_range : (tree : Tree) → IsPlayable tree → (c : ℤ) (a : Arc) → IsArc a → IsInside a (cycle_arc c) → (e : Event)
    → IsInRange (grid tree) (hang tree) a e → has_onset e ≡ true → InRange (e.whole.stop -ℚ e.whole.start)
whole_in_range tree playable c a is_arc inside e is starts =
    let h = hang tree in
    let begin : whole c ≤ℚ e.whole.start =
    ≤ℚ_trans inside.0 (≤ℚ_trans is.proper.in_arc.0 (≤ℚ_from_same ((has_onset-true e).0 starts))) in
    let end : e.whole.stop ≤ℚ whole ((c +ℤ pos 1) +ℤ pos h) = subst (λ z. e.whole.stop ≤ℚ whole (z +ℤ pos h)) (ceil_inside c a is_arc inside) is.near.stop in
    in_range (grid tree) (suc h) (e.whole.stop -ℚ e.whole.start) (grid_positive tree playable.valid)
    (multiple_minus is.gridded.whole_stop is.gridded.whole_start)
    (omega (arith, grid_at_most_fine tree tick_units playable.valid (omega arith), playable.limits.not_too_fine))
    (short c h e.whole.start e.whole.stop begin end (whole_positive e is.proper))
    (omega (arith, own_reach tree last_cycle, playable.limits.not_too_far))

-- an event of a cycle before the last one that has its onset ends in range: it hangs over the cycle by no more than its tree does
pub stop_in_range : (tree : Tree) → IsPlayable tree → (cycle : ℕ) → cycle < last_cycle → (e : Event)
    → IsInRange (grid tree) (hang tree) (cycle_arc (pos cycle)) e → has_onset e ≡ true → InRange e.whole.stop
stop_in_range tree playable cycle low e is starts =
    let c = pos cycle in
    let h = hang tree in
    let arc = cycle_arc c in
    let m = last_cycle + h in
    let begin : whole c ≤ℚ e.whole.start = ≤ℚ_trans is.proper.in_arc.0 (≤ℚ_from_same ((has_onset-true e).0 starts)) in
    let after : e.whole.start ≤ℚ e.whole.stop = ≤ℚ_from_<ℚ ((lt_by_difference e.whole.start e.whole.stop).1 (whole_positive e is.proper)) in
    let end : e.whole.stop ≤ℚ whole ((c +ℤ pos 1) +ℤ pos h) =
    subst (λ z. e.whole.stop ≤ℚ whole (z +ℤ pos h)) (ceil_inside c arc (cycle_is_arc c) (inside_self arc)) is.near.stop in
    in_range (grid tree) m e.whole.stop (grid_positive tree playable.valid) is.gridded.whole_stop
    (omega (arith, grid_at_most_fine tree tick_units playable.valid (omega arith), playable.limits.not_too_fine))
    (record {
      from = ≤ℚ_trans ((whole-le (neg_ℤ (pos m)) c).0 (omega (arith, ints))) (≤ℚ_trans begin after);
      to = ≤ℚ_trans end ((whole-le ((c +ℤ pos 1) +ℤ pos h) (pos m)).0 (omega (arith, ints)));
    })
    (omega (arith, own_reach tree last_cycle, playable.limits.not_too_far))

-- the end of a row is that of its whole
restored : (start stop : Rational) → start +ℚ (stop -ℚ start) ≡ stop
restored start stop = +ℚ_comm start (stop -ℚ start) ∙ -ℚ-plus stop start

-- ---- the rows of a pattern
pub record IsRowIn (cycle : ℕ) (row : Row) : Type 0 where
  pub from : whole (pos cycle) ≤ℚ row.onset
  pub until : row.onset <ℚ whole (pos (cycle + 1))
  pub positive : whole (pos 0) <ℚ row.length

-- what holds of the row of each event that has its onset holds of the rows of a pattern
rows_of_events : (P : Row → Type 0) (orbit : ℕ) (Q : Event → Type 0)
    → ((e : Event) → Q e → has_onset e ≡ true → (leaf : Leaf) → AllByRecursion P (leaf_rows orbit e leaf))
    → (events : List Event) → AllByRecursion Q events → AllByRecursion P (flat_map (row_of orbit) events)
rows_of_events P orbit Q step events each = All-flat_map P (row_of orbit) events (All-weaker Q (λ e. AllByRecursion P (row_of orbit e)) one events each)
  where
    one : (e : Event) → Q e → AllByRecursion P (row_of orbit e)
    one e fact = either (has_onset e) refl
      where
        either : (b : Bool) → has_onset e ≡ b → AllByRecursion P (if b then leaf_rows orbit e e.value else [])
        either true starts = step e fact starts e.value
        either false starts = tt

starts_in : (cycle : ℕ) (e : Event) → IsProper (cycle_arc (pos cycle)) e → has_onset e ≡ true
    → (whole (pos cycle) ≤ℚ e.whole.start) × (e.whole.start <ℚ whole (pos (cycle + 1)))
starts_in cycle e proper starts =
    let same = (has_onset-true e).0 starts in (
      ≤ℚ_trans proper.in_arc.0 (≤ℚ_from_same same),
      ≤ℚ-<ℚ_trans proper.in_whole.0 (<ℚ-≤ℚ_trans proper.width proper.in_arc.1),
    )

module _ (proper : ProperLaw) (range : RangeLaw) where
  pub pattern_rows_in : (cycle orbit : ℕ) (tree : Tree) → IsPlayable tree → AllByRecursion (IsRowIn cycle) (pattern_rows cycle orbit (Some tree))
  pattern_rows_in cycle orbit tree playable =
      rows_of_events (IsRowIn cycle) orbit (IsProper (cycle_arc (pos cycle))) step (cyc tree (pos cycle)) (proper tree playable.valid (pos cycle))
    where
      step : (e : Event) → IsProper (cycle_arc (pos cycle)) e → has_onset e ≡ true → (leaf : Leaf) → AllByRecursion (IsRowIn cycle) (leaf_rows orbit e leaf)
      step e fact starts (Controls controls) =
          let at = starts_in cycle e fact starts in
          (record { from = at.0; until = at.1; positive = whole_positive e fact }, tt)
      step e fact starts (Truth truth) = tt
      step e fact starts (Index index) = tt

  pub pattern_rows_known : (cycle orbit : ℕ) → cycle < last_cycle → IsOrbit orbit → (tree : Tree) → IsPlayable tree
      → AllByRecursion (IsRowOf cycle) (pattern_rows cycle orbit (Some tree))
  pattern_rows_known cycle orbit low on_orbit tree playable =
      rows_of_events (IsRowOf cycle) orbit (IsInRange (grid tree) (hang tree) (cycle_arc (pos cycle))) step (cyc tree (pos cycle))
      (events_in_cycle proper range tree playable.valid (pos cycle))
    where
      step : (e : Event) → IsInRange (grid tree) (hang tree) (cycle_arc (pos cycle)) e → has_onset e ≡ true → (leaf : Leaf)
          → AllByRecursion (IsRowOf cycle) (leaf_rows orbit e leaf)
      step e is starts (Controls controls) =
          let at = starts_in cycle e is.proper starts in
          let a = cycle_arc (pos cycle) in (
            record {
              from = at.0;
              until = at.1;
              positive = whole_positive e is.proper;
              in_range = whole_in_range tree playable (pos cycle) a (cycle_is_arc (pos cycle)) (inside_self a) e is starts;
              end_in_range = subst InRange (sym (restored e.whole.start e.whole.stop)) (stop_in_range tree playable cycle low e is starts);
              orbit = on_orbit;
            },
            tt,
          )
      step e is starts (Truth truth) = tt
      step e is starts (Index index) = tt

-- ---- desks
abbrev IsPlayableDesk : Desk Tree → Type 0
IsPlayableDesk state = (orbit : ℕ) → IfSome (state.pattern orbit) IsPlayable

changed_playable : (change : Change Tree) (state : Desk Tree) → IfSome (pattern_in change) IsPlayable → IsPlayableDesk state
    → IsPlayableDesk (with_change change state)
changed_playable (Set at tree) state h all orbit = either (at == orbit)
  where
    either : (b : Bool) → IfSome (if b then Some tree else state.pattern orbit) IsPlayable
    either true = h
    either false = all orbit
changed_playable Hush state h all orbit = tt
changed_playable (Mute at) state h all orbit = all orbit
changed_playable (Unmute at) state h all orbit = all orbit
changed_playable (Solo at) state h all orbit = all orbit
changed_playable (Unsolo at) state h all orbit = all orbit
changed_playable UnmuteAll state h all orbit = all orbit
changed_playable UnsoloAll state h all orbit = all orbit

after_playable : (state : Desk Tree) (changes : List (Dated Tree)) (cycle : ℕ) → IsPlayableDesk state → ArePlayable changes
    → IsPlayableDesk (desk_after state changes cycle)
after_playable state [] cycle all playable = all
after_playable state (dated ∷ changes) cycle all playable =
    after_playable (if nat_le dated.boundary cycle then with_change dated.change state else state) changes cycle
    (either (nat_le dated.boundary cycle)) playable.1
  where
    either : (b : Bool) → IsPlayableDesk (if b then with_change dated.change state else state)
    either true = changed_playable dated.change state playable.0 all
    either false = all

-- ---- the rows of a cycle
each_row : (P : Row → Type 0) (cycle : ℕ)
    → ((orbit : ℕ) → IsOrbit orbit → (tree : Tree) → IsPlayable tree → AllByRecursion P (pattern_rows cycle orbit (Some tree)))
    → (changes : List (Dated Tree)) → ArePlayable changes → AllByRecursion P (rows changes cycle)
unfolding rows
each_row P cycle step changes playable =
    let state = desk changes cycle in
    All-by_time onset P (flat_map (orbit_rows cycle state) orbits)
    (All-flat_map P (orbit_rows cycle state) orbits
    (each_range_with_len (λ orbit. AllByRecursion P (orbit_rows cycle state orbit)) 1 16 (λ orbit low high. on_orbit orbit (low, omega arith))))
  where
    all : IsPlayableDesk (desk changes cycle)
    all = after_playable empty_desk changes cycle (λ orbit. tt) playable

    of_pattern : (orbit : ℕ) → IsOrbit orbit → (pattern : Option Tree) → IfSome pattern IsPlayable → AllByRecursion P (pattern_rows cycle orbit pattern)
    of_pattern orbit is None h = tt
    of_pattern orbit is (Some tree) h = step orbit is tree h

    on_orbit : (orbit : ℕ) → IsOrbit orbit → AllByRecursion P (orbit_rows cycle (desk changes cycle) orbit)
    on_orbit orbit is = either (is_audible (desk changes cycle) orbit)
      where
        either : (b : Bool) → AllByRecursion P (if b then pattern_rows cycle orbit ((desk changes cycle).pattern orbit) else [])
        either true = of_pattern orbit is ((desk changes cycle).pattern orbit) (all orbit)
        either false = tt

pub rows_rise : (changes : List (Dated Tree)) (cycle : ℕ) → Rises onset (rows changes cycle)
unfolding rows
rows_rise changes cycle = Rises-by_time onset (flat_map (orbit_rows cycle (desk changes cycle)) orbits)

module _ (proper : ProperLaw) (range : RangeLaw) (changes : List (Dated Tree)) (playable : ArePlayable changes) where
  pub rows_in : (cycle : ℕ) → AllByRecursion (IsRowIn cycle) (rows changes cycle)
  rows_in cycle = each_row (IsRowIn cycle) cycle (λ orbit is tree h. pattern_rows_in proper range cycle orbit tree h) changes playable

  pub rows_known : (cycle : ℕ) → cycle < last_cycle → AllByRecursion (IsRowOf cycle) (rows changes cycle)
  rows_known cycle low = each_row (IsRowOf cycle) cycle (λ orbit is tree h. pattern_rows_known proper range cycle orbit low is tree h) changes playable

  pub rows_from : (cycle : ℕ) → AllFrom onset (time_of (cycle * tick_units)) (rows changes cycle)
  rows_from cycle =
      All-weaker (IsRowIn cycle) (λ row. time_of (cycle * tick_units) ≤ℚ row.onset)
      (λ row is. subst (λ t. t ≤ℚ row.onset) (sym (cycle_units cycle)) is.from) (rows changes cycle) (rows_in cycle)

  pub rows_before : (cycle : ℕ) → AllBefore onset (time_of ((cycle + 1) * tick_units)) (rows changes cycle)
  rows_before cycle =
      All-weaker (IsRowIn cycle) (λ row. row.onset <ℚ time_of ((cycle + 1) * tick_units))
      (λ row is. subst (λ t. row.onset <ℚ t) (sym (cycle_units (cycle + 1))) is.until) (rows changes cycle) (rows_in cycle)

  pub none_early : (cycle units : ℕ) → units ≤ cycle * tick_units → filter (begins_before units) (rows changes cycle) ≡ []
  none_early cycle units h =
      before-from onset (time_of units) (rows changes cycle)
      (AllFrom-earlier onset (units-le units (cycle * tick_units) h) (rows changes cycle) (rows_from cycle))
