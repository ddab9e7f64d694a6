-- The events of a cycle that are cut to what a span has of it, and their rows.
--     part_is_arc, part_inside     the span's part of a cycle that it meets is an arc in it
--     part_is_asked                and one that a pattern can be asked for
--     clipped_row                  an event of the cycle that is cut to it has its row just where the onset is due
--     clipped_rows                 so the rows of a cycle's events that are cut are those that are due
--     due_rows                     those of a pattern
--     clipped_lengths              the events of a tree that are cut and have their onsets have lengths in range
--     cycle_before_last            a cycle that a span meets is before the last one
use Rattle.std.proofs.Common.{◌≡◌, ℕ, ◌+◌, ◌*◌, ◌<◌, ◌≤◌, Bool, true, false, not, ◌&&◌, if◌then◌else◌, Option, Some, None, List, [], ◌∷◌, ◌++◌}
use Rattle.std.proofs.Common.{pos, max, min, ◌⊎◌, ⊎_elim, refl, sym, ap, ap₂, ◌∙◌, subst, arith, append-nil, true≢false, nat_le}
use Rattle.std.proofs.lemmas.Bool.Decides.{nat_tests}
use Rattle.std.proofs.lemmas.Grind.{flat_map-append}
use Rattle.std.specs.List.{AllByRecursion, flat_map}
use Rattle.tdl_control.specs.declared.leaves.Leaf.{Leaf}
use Rattle.tdl_control.specs.declared.leaves.Leaf.TheVariants.{Controls, Truth, Index}
use Rattle.tdl_fraction.specs.Rational.{Rational, lt_ℚ, ◌≤ℚ◌, ◌<ℚ◌}
use Rattle.tdl_fraction.specs.Arc.{Arc, IsArc, IsInside, meet}
use Rattle.tdl_fraction.specs.Units.{IsQueryArc, last_cycle, last_units, tick_units, time_of}
use Rattle.tdl_fraction.proofs.Over.{lt_ℚ-true, lt_ℚ-false}
use Rattle.tdl_fraction.proofs.Order.{≤ℚ_trans, ≤ℚ-<ℚ_trans, <ℚ-≤ℚ_trans, ≤ℚ_from_same, ≤ℚ_or_<ℚ, <ℚ_from_≤ℚ, clash_ℚ}
use Rattle.tdl_fraction.proofs.MinMax.{max-left, le_max_right}
use Rattle.tdl_fraction.proofs.Multiples.{frac_multiple}
use Rattle.tdl_fraction.proofs.Arcs.{meet_ends, meet_exists, meet_overlaps, meet_inside_left}
use Rattle.tdl_fraction.proofs.UnitTimes.{units-le, units-lt, cycle_units}
use Rattle.std.proofs.lemmas.Option.{none-some}
use Rattle.tdl_event.specs.Event.{Event, clip, clip_event}
use Rattle.tdl_event.specs.declared.rows.Row.{Row}
use Rattle.tdl_expr.specs.Tree.{Tree}
use Rattle.tdl_meaning.specs.Pattern.{Pattern, over, cycle_arc}
use Rattle.tdl_expr.specs.Bounds.{grid, hang}
use Rattle.tdl_meaning.specs.Meaning.{cyc}
use Rattle.tdl_meaning.specs.Proper.{IsProper, HasProperEvents, ProperLaw}
use Rattle.tdl_meaning.specs.Ranges.{IsInRange, RangeLaw}
use Rattle.tdl_order.proofs.EachItem.{All-weaker}
use Rattle.tdl_meaning.proofs.Cuts.{piece, over_inside}
use Rattle.tdl_meaning.specs.Onsets.{has_onset}
use Rattle.tdl_meaning.proofs.Splits.{has_onset-true}
use Rattle.tdl_score.specs.Programs.{due}
use Rattle.tdl_score.specs.Score.{leaf_rows, row_of}
use Rattle.tdl_score.specs.Readings.{IsPlayable}
use Rattle.tdl_score.specs.inside.Parts.{HasLength, part_arc}
use Rattle.tdl_score.proofs.CycleRows.{whole_in_range}
use Rattle.tdl_score.proofs.Sent.{due-append}

-- ---- the part of a cycle
module _ (from to cycle : ℕ) (forward : from < to) (begun : cycle * tick_units < to) (not_over : from < (cycle + 1) * tick_units) where
  pub part_is_arc : IsArc (part_arc from to cycle)
  part_is_arc = units-lt (max from (cycle * tick_units)) (min to ((cycle + 1) * tick_units)) (omega arith)

  pub part_inside : IsInside (part_arc from to cycle) (cycle_arc (pos cycle))
  part_inside = (
    subst (λ t. t ≤ℚ time_of (max from (cycle * tick_units))) (cycle_units cycle)
        (units-le (cycle * tick_units) (max from (cycle * tick_units)) (omega arith)),
    subst (λ t. time_of (min to ((cycle + 1) * tick_units)) ≤ℚ t) (cycle_units (cycle + 1))
        (units-le (min to ((cycle + 1) * tick_units)) ((cycle + 1) * tick_units) (omega arith)),
  )

  pub part_is_asked : to ≤ last_units → IsQueryArc (part_arc from to cycle)
  part_is_asked h = record {
    ordered = part_is_arc;
    from_zero = subst (λ t. t ≤ℚ time_of (max from (cycle * tick_units))) (cycle_units 0)
        (units-le (0 * tick_units) (max from (cycle * tick_units)) (omega arith));
    to_last = subst (λ t. time_of (min to ((cycle + 1) * tick_units)) ≤ℚ t) (cycle_units last_cycle)
        (units-le (min to ((cycle + 1) * tick_units)) (last_cycle * tick_units) (omega arith));
    on_grid = record {
      start = frac_multiple (pos (max from (cycle * tick_units))) tick_units (omega arith);
      stop = frac_multiple (pos (min to ((cycle + 1) * tick_units))) tick_units (omega arith);
    };
  }

-- ---- one event
not_true : (b : Bool) → (b ≡ true → ⊥) → b ≡ false
not_true true h = absurd (h refl)
not_true false h = refl

no_onset : (e : Event) → e.whole.start <ℚ e.part.start → has_onset e ≡ false
no_onset e later = not_true (has_onset e) (λ h. clash_ℚ later (≤ℚ_from_same ((has_onset-true e).0 h)))

-- the rows of a value in an event, which are those of its whole
abbrev kept : Bool → List Row → List Row
kept b rows = if b then rows else []

due_leaf : (from to orbit : ℕ) (e : Event) (b : Bool) (value : Leaf)
    → not (lt_ℚ e.whole.start (time_of from)) && lt_ℚ e.whole.start (time_of to) ≡ b
    → due from to (leaf_rows orbit e value) ≡ kept b (leaf_rows orbit e value)
due_leaf from to orbit e b (Controls controls) is = ap (λ k. kept k (leaf_rows orbit e (Controls controls))) is
due_leaf from to orbit e true (Truth truth) is = refl
due_leaf from to orbit e false (Truth truth) is = refl
due_leaf from to orbit e true (Index index) is = refl
due_leaf from to orbit e false (Index index) is = refl

-- both bounds of a time that is not before either, and of one that is before both
time_max : (a b : ℕ) (t : Rational) → time_of a ≤ℚ t → time_of b ≤ℚ t → time_of (max a b) ≤ℚ t
time_max a b t h k = by (nat_le a b) refl
  where
    by : (c : Bool) → nat_le a b ≡ c → time_of (max a b) ≤ℚ t
    by true e = let same : max a b ≡ b = grind (arith, nat_tests) in subst (λ n. time_of n ≤ℚ t) (sym same) k
    by false e = let same : max a b ≡ a = grind (arith, nat_tests) in subst (λ n. time_of n ≤ℚ t) (sym same) h

time_min : (a b : ℕ) (t : Rational) → t <ℚ time_of a → t <ℚ time_of b → t <ℚ time_of (min a b)
time_min a b t h k = by (nat_le a b) refl
  where
    by : (c : Bool) → nat_le a b ≡ c → t <ℚ time_of (min a b)
    by true e = let same : min a b ≡ a = grind (arith, nat_tests) in subst (λ n. t <ℚ time_of n) (sym same) h
    by false e = let same : min a b ≡ b = grind (arith, nat_tests) in subst (λ n. t <ℚ time_of n) (sym same) k

module _ (from to cycle orbit : ℕ) (forward : from < to) (begun : cycle * tick_units < to) (not_over : from < (cycle + 1) * tick_units) (e : Event)
    (sound : IsProper (cycle_arc (pos cycle)) e) where
  abbrev arc : Arc
  arc = part_arc from to cycle

  abbrev cut : Arc → Event
  cut part = record { whole = e.whole; part = part; value = e.value }

  abbrev leaves : List Row
  leaves = leaf_rows orbit e e.value

  cut_leaves : (part : Arc) (value : Leaf) → leaf_rows orbit (cut part) value ≡ leaf_rows orbit e value
  cut_leaves part (Controls controls) = refl
  cut_leaves part (Truth truth) = refl
  cut_leaves part (Index index) = refl

  from_cycle : time_of (cycle * tick_units) ≤ℚ e.part.start
  from_cycle = subst (λ t. t ≤ℚ e.part.start) (sym (cycle_units cycle)) sound.in_arc.0

  in_cycle : e.part.start <ℚ time_of ((cycle + 1) * tick_units)
  in_cycle = <ℚ-≤ℚ_trans sound.width (subst (λ t. e.part.stop ≤ℚ t) (sym (cycle_units (cycle + 1))) sound.in_arc.1)

  -- the rows that are due, by the tests
  due_as : (b : Bool) → has_onset e ≡ true → not (lt_ℚ e.whole.start (time_of from)) && lt_ℚ e.whole.start (time_of to) ≡ b
      → due from to (row_of orbit e) ≡ kept b leaves
  due_as b starts is = ap (λ k. due from to (kept k leaves)) starts ∙ due_leaf from to orbit e b e.value is

  due_early : has_onset e ≡ true → e.whole.start <ℚ time_of from → due from to (row_of orbit e) ≡ []
  due_early starts h =
      due_as false starts (ap (λ b. not b && lt_ℚ e.whole.start (time_of to)) ((lt_ℚ-true e.whole.start (time_of from)).1 h))

  due_late : has_onset e ≡ true → time_of to ≤ℚ e.whole.start → due from to (row_of orbit e) ≡ []
  due_late starts h =
      due_as false starts (ap (λ b. not (lt_ℚ e.whole.start (time_of from)) && b) ((lt_ℚ-false e.whole.start (time_of to)).1 h)
      ∙ never (not (lt_ℚ e.whole.start (time_of from))))
    where
      never : (b : Bool) → b && false ≡ false
      never true = refl
      never false = refl

  due_now : has_onset e ≡ true → time_of from ≤ℚ e.whole.start → e.whole.start <ℚ time_of to → due from to (row_of orbit e) ≡ leaves
  due_now starts h k =
      due_as true starts
      (ap₂ (λ a b. not a && b) ((lt_ℚ-false e.whole.start (time_of from)).1 h) ((lt_ℚ-true e.whole.start (time_of to)).1 k))

  -- the row of what is cut
  cut_later : (part : Arc) → e.whole.start <ℚ part.start → flat_map (row_of orbit) (piece e (Some part)) ≡ []
  cut_later part later = append-nil (row_of orbit (cut part)) ∙ ap (λ b. kept b (leaf_rows orbit (cut part) e.value)) (no_onset (cut part) later)

  cut_there : (part : Arc) → part.start ≡ e.whole.start → flat_map (row_of orbit) (piece e (Some part)) ≡ leaves
  cut_there part same =
      append-nil (row_of orbit (cut part))
      ∙ ap (λ b. kept b (leaf_rows orbit (cut part) e.value)) ((has_onset-true (cut part)).1 same) ∙ cut_leaves part e.value

  starts : (h : has_onset e ≡ true) → (o : Option Arc) → meet e.part arc ≡ o → (time_of from ≤ℚ e.part.start) ⊎ (e.part.start <ℚ time_of from)
      → (time_of to ≤ℚ e.part.start) ⊎ (e.part.start <ℚ time_of to)
      → flat_map (row_of orbit) (piece e o) ≡ due from to (row_of orbit e)
  starts h (Some part) met early late =
      let same = (has_onset-true e).0 h in
      let ends = meet_ends e.part arc part met in
      let before : e.part.start <ℚ time_of to =
      <ℚ-≤ℚ_trans (meet_overlaps e.part arc part met).0 (units-le (min to ((cycle + 1) * tick_units)) to (omega arith)) in
      ⊎_elim
      (λ k.
      cut_there part (ends.0 ∙ max-left (time_max from (cycle * tick_units) e.part.start k from_cycle) ∙ same)
      ∙ sym (due_now h (subst (λ t. time_of from ≤ℚ t) same k) (subst (λ t. t <ℚ time_of to) same before)))
      (λ k.
      let later : e.part.start <ℚ part.start =
      <ℚ-≤ℚ_trans k (≤ℚ_trans (units-le from (max from (cycle * tick_units)) (omega arith))
      (subst (λ t. arc.start ≤ℚ t) (sym ends.0) (le_max_right e.part.start arc.start))) in
      cut_later part (subst (λ t. t <ℚ part.start) same later) ∙ sym (due_early h (subst (λ t. t <ℚ time_of from) same k)))
      early
  starts h None met early late =
      let same = (has_onset-true e).0 h in
      ⊎_elim
      (λ k. ⊎_elim
      (λ l. sym (due_late h (subst (λ t. time_of to ≤ℚ t) same l)))
      (λ l.
      let there = meet_exists e.part arc sound.width (part_is_arc from to cycle forward begun not_over)
      (time_min to ((cycle + 1) * tick_units) e.part.start l in_cycle)
      (≤ℚ-<ℚ_trans (time_max from (cycle * tick_units) e.part.start k from_cycle) sound.width) in
      absurd (none-some there.0 (sym met ∙ there.1)))
      late)
      (λ k. sym (due_early h (subst (λ t. t <ℚ time_of from) same k)))
      early

  hangs : has_onset e ≡ false → (o : Option Arc) → meet e.part arc ≡ o → flat_map (row_of orbit) (piece e o) ≡ []
  hangs h None met = refl
  hangs h (Some part) met =
      let before : e.whole.start <ℚ e.part.start =
      <ℚ_from_≤ℚ sound.in_whole.0
      (λ same. true≢false (sym ((has_onset-true e).1 (sym same)) ∙ h)) in
      cut_later part (<ℚ-≤ℚ_trans before (meet_inside_left e.part arc part met).0)

  pub clipped_row : flat_map (row_of orbit) (clip_event arc e) ≡ due from to (row_of orbit e)
  clipped_row = by (has_onset e) refl
    where
      by : (b : Bool) → has_onset e ≡ b → flat_map (row_of orbit) (clip_event arc e) ≡ due from to (row_of orbit e)
      by true h = starts h (meet e.part arc) refl (≤ℚ_or_<ℚ (time_of from) e.part.start) (≤ℚ_or_<ℚ (time_of to) e.part.start)
      by false h = hangs h (meet e.part arc) refl ∙ sym (ap (λ b. due from to (kept b leaves)) h)

-- ---- the events of a cycle
module _ (from to cycle orbit : ℕ) (forward : from < to) (begun : cycle * tick_units < to) (not_over : from < (cycle + 1) * tick_units) where
  pub clipped_rows : (events : List Event) → AllByRecursion (IsProper (cycle_arc (pos cycle))) events
      → flat_map (row_of orbit) (clip (part_arc from to cycle) events) ≡ due from to (flat_map (row_of orbit) events)
  clipped_rows [] all = refl
  clipped_rows (e ∷ events) all =
      flat_map-append (row_of orbit) (clip_event (part_arc from to cycle) e) (clip (part_arc from to cycle) events)
      ∙ ap₂ (λ xs ys. xs ++ ys) (clipped_row from to cycle orbit forward begun not_over e all.0) (clipped_rows events all.1)
      ∙ sym (due-append from to (row_of orbit e) (flat_map (row_of orbit) events))

  pub due_rows : (p : Pattern) → HasProperEvents p
      → flat_map (row_of orbit) (over p (part_arc from to cycle)) ≡ due from to (flat_map (row_of orbit) (p (pos cycle)))
  due_rows p proper =
      ap (flat_map (row_of orbit))
      (over_inside p (pos cycle) (part_arc from to cycle) (part_is_arc from to cycle forward begun not_over)
      (part_inside from to cycle forward begun not_over))
      ∙ clipped_rows (p (pos cycle)) (proper (pos cycle))

  -- the events that have their onsets have lengths in range
  pub clipped_lengths : ProperLaw → RangeLaw → (tree : Tree) → IsPlayable tree → AllByRecursion HasLength (over (cyc tree) (part_arc from to cycle))
  clipped_lengths proper range tree playable =
      let is_arc = part_is_arc from to cycle forward begun not_over in
      let inside = part_inside from to cycle forward begun not_over in
      All-weaker (IsInRange (grid tree) (hang tree) (part_arc from to cycle)) HasLength
      (λ e is. record { in_range = λ h. whole_in_range tree playable (pos cycle) (part_arc from to cycle) is_arc inside e is h })
      (over (cyc tree) (part_arc from to cycle)) (range tree playable.valid (part_arc from to cycle) is_arc)

pub cycle_before_last : (cycle to : ℕ) → cycle * tick_units < to → to ≤ last_units → cycle < last_cycle
cycle_before_last cycle to begun h = omega arith
