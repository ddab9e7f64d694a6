-- The notes of what is played: when they begin, and that each ends after it begins.
--     cycles_rise     rows of some cycles, each in order and of its own time, one after the other
--     score_begun     the notes of a score begin before its end
--     rows_span       and those of the rows from one time up to another begin in order between them
use Rattle.std.proofs.Common.{◌≡◌, ℕ, zero, suc, ◌+◌, ◌-◌, ◌*◌, ◌/◌, ◌<◌, Bool, true, ◌&&◌, List, filter, pos, arith}
use Rattle.std.specs.List.{AllByRecursion, flat_map, range_with_len}
use Rattle.std.specs.Int.{div_ceil}
use Rattle.std.proofs.lemmas.Bool.{and_parts, not-true}
use Rattle.tdl_fraction.specs.Rational.{whole, lt_ℚ, ◌≤ℚ◌, ◌<ℚ◌}
use Rattle.tdl_fraction.specs.Units.{tick_units, time_of}
use Rattle.tdl_fraction.proofs.Over.{lt_ℚ-true, lt_ℚ-false}
use Rattle.tdl_fraction.proofs.Order.{≤ℚ_from_<ℚ}
use Rattle.tdl_fraction.proofs.UnitTimes.{units-le}
use Rattle.tdl_event.specs.declared.rows.Row.{Row}
use Rattle.tdl_order.specs.TimeOrder.{Rises, is_before, is_from}
use Rattle.tdl_order.proofs.EachItem.{All-weaker, All-flat_map, All-filter, filter_passes}
use Rattle.tdl_order.proofs.Rising.{AllFrom, AllBefore, AllFrom-earlier, Rises-append, Rises-filter}
use Rattle.tdl_order.proofs.Cuts.{AllBefore-filter}
use Rattle.tdl_desk.specs.declared.changes.Dated.{Dated}
use Rattle.tdl_expr.specs.Tree.{Tree}
use Rattle.tdl_meaning.specs.Proper.{ProperLaw}
use Rattle.tdl_meaning.specs.Ranges.{RangeLaw}
use Rattle.tdl_meaning.proofs.Lists.{each_range_with_len}
use Rattle.tdl_notes.specs.Notes.{tones}
use Rattle.tdl_notes.specs.Waiting.{IsScoreTo, IsSpan}
use Rattle.tdl_notes.specs.declared.tones.Tone.{Tone}
use Rattle.tdl_score.specs.Changes.{ArePlayable}
use Rattle.tdl_score.specs.Programs.{due, rows_between}
use Rattle.tdl_score.specs.Score.{begins_before, cycles_before, onset, rows, score}
use Rattle.tdl_score.proofs.CycleRows.{IsRowIn, rows_before, rows_from, rows_in, rows_rise}
use Rattle.tdl_score.proofs.Tones.{All-tones, OfNote, Rises-tones, score_of}

-- ---- the rows of cycles, whatever they are
module _ (found : ℕ → List Row) (rise : (cycle : ℕ) → Rises onset (found cycle))
    (start : (cycle : ℕ) → AllFrom onset (time_of (cycle * tick_units)) (found cycle))
    (stop : (cycle : ℕ) → AllBefore onset (time_of ((cycle + 1) * tick_units)) (found cycle)) where
  cycles_from : (a n : ℕ) → AllFrom onset (time_of (a * tick_units)) (flat_map found (range_with_len a n))
  cycles_from a n =
      All-flat_map (λ (row : Row). time_of (a * tick_units) ≤ℚ row.onset) found (range_with_len a n)
      (each_range_with_len (λ c. AllFrom onset (time_of (a * tick_units)) (found c)) a n
      (λ c low high. AllFrom-earlier onset (units-le (a * tick_units) (c * tick_units) (omega arith)) (found c) (start c)))

  pub cycles_rise : (a n : ℕ) → Rises onset (flat_map found (range_with_len a n))
  cycles_rise a zero = tt
  cycles_rise a (suc n) =
      let later = flat_map found (range_with_len (a + 1) n) in
      Rises-append onset (found a) later (rise a) (cycles_rise (a + 1) n)
      (All-weaker (λ (row : Row). row.onset <ℚ time_of ((a + 1) * tick_units)) (λ (row : Row). AllFrom onset row.onset later)
      (λ row h. AllFrom-earlier onset (≤ℚ_from_<ℚ h) later (cycles_from (a + 1) n)) (found a) (stop a))

-- ---- the rows that are due
abbrev is_due : ℕ → ℕ → Row → Bool
is_due from to row = is_from onset (time_of from) row && is_before onset (time_of to) row

due_from : (from to : ℕ) (list : List Row) → AllFrom onset (time_of from) (due from to list)
due_from from to list =
    All-weaker (λ row. is_due from to row ≡ true) (λ row. time_of from ≤ℚ row.onset)
    (λ row e. (lt_ℚ-false row.onset (time_of from)).0
    (not-true (lt_ℚ row.onset (time_of from)) (and_parts (is_from onset (time_of from) row) (is_before onset (time_of to) row) e).0))
    (due from to list) (filter_passes (is_due from to) list)

due_before : (from to : ℕ) (list : List Row) → AllBefore onset (time_of to) (due from to list)
due_before from to list =
    All-weaker (λ row. is_due from to row ≡ true) (λ row. row.onset <ℚ time_of to)
    (λ row e. (lt_ℚ-true row.onset (time_of to)).0 (and_parts (is_from onset (time_of from) row) (is_before onset (time_of to) row) e).1)
    (due from to list) (filter_passes (is_due from to) list)

-- ---- what changes play
abbrev HasLength : Row → Type 0
HasLength row = whole (pos 0) <ℚ row.length

module _ (proper : ProperLaw) (range : RangeLaw) (changes : List (Dated Tree)) (playable : ArePlayable changes) where
  have_lengths : (cycle : ℕ) → AllByRecursion HasLength (rows changes cycle)
  have_lengths cycle = All-weaker (IsRowIn cycle) HasLength (λ row is. is.positive) (rows changes cycle) (rows_in proper range changes playable cycle)

  pub score_begun : (units : ℕ) → IsScoreTo (time_of units) (tones (score changes units))
  unfolding score
  score_begun units =
      let all = flat_map (rows changes) (cycles_before units) in
      score_of (time_of units) (filter (begins_before units) all) (AllBefore-filter onset (time_of units) all)
      (All-filter HasLength (begins_before units) all
      (All-flat_map HasLength (rows changes) (cycles_before units)
      (each_range_with_len (λ cycle. AllByRecursion HasLength (rows changes cycle)) 0 (div_ceil units tick_units) (λ cycle low high. have_lengths cycle))))

  pub rows_span : (from to : ℕ) → from < to → IsSpan (time_of from) (time_of to) (tones (rows_between changes from to))
  rows_span from to forward =
      let all = rows_between changes from to in
      record {
        forward = units-le from to (omega arith);
        from = All-tones (λ (tone : Tone). time_of from ≤ℚ tone.onset) all
            (All-weaker (λ row. time_of from ≤ℚ row.onset) (OfNote (λ tone. time_of from ≤ℚ tone.onset)) (λ row h note e. h) all
            (each (λ row. time_of from ≤ℚ row.onset) (λ cycle. due_from from to (rows changes cycle))));
        until = score_of (time_of to) all
            (each (λ row. row.onset <ℚ time_of to) (λ cycle. due_before from to (rows changes cycle)))
            (each HasLength (λ cycle. All-filter HasLength (is_due from to) (rows changes cycle) (have_lengths cycle)));
        rises = Rises-tones all
            (cycles_rise (λ cycle. due from to (rows changes cycle))
            (λ cycle. Rises-filter onset (is_due from to) (rows changes cycle) (rows_rise changes cycle))
            (λ cycle. All-filter (λ row. time_of (cycle * tick_units) ≤ℚ row.onset) (is_due from to) (rows changes cycle)
            (rows_from proper range changes playable cycle))
            (λ cycle. All-filter (λ row. row.onset <ℚ time_of ((cycle + 1) * tick_units)) (is_due from to) (rows changes cycle)
            (rows_before proper range changes playable cycle))
            (from / tick_units) (div_ceil to tick_units - from / tick_units));
      }
    where
      each : (P : Row → Type 0) → ((cycle : ℕ) → AllByRecursion P (due from to (rows changes cycle))) → AllByRecursion P (rows_between changes from to)
      each P one =
          All-flat_map P (λ cycle. due from to (rows changes cycle)) (range_with_len (from / tick_units) (div_ceil to tick_units - from / tick_units))
          (each_range_with_len (λ cycle. AllByRecursion P (due from to (rows changes cycle))) (from / tick_units)
          (div_ceil to tick_units - from / tick_units) (λ cycle low high. one cycle))
