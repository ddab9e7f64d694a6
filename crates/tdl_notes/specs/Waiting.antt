-- Ticks, and what waits between them.
--     IsScoreTo       the tones of a score begin before a frontier, and each ends after it begins
--     IsSpan          the tones of a tick begin from one time up to another, in order, and each ends after it begins
--     Queue           the ends that wait, and the order number of the next
--     end_of          the end that waits of a tone
--     end_mark        where the note of an end ends
--     Waits           what waits of a score at a frontier: the ends that are not before it, in order; the next number is above all
--     Tick            the time that a tick goes to, and the tones that begin in it
--     all_tones, last  the tones of ticks one after the other, and the time that they come to
--     Sent            what ticks send after a score, one after the other
use Rattle.std.specs.Prelude.{◌≡◌, ℕ, ◌<◌, false, List, [], ◌∷◌, ◌++◌, map, filter}
use Rattle.std.specs.List.{AllByRecursion}
use Rattle.tdl_fraction.specs.Rational.{Rational, ◌≤ℚ◌, ◌<ℚ◌}
use Rattle.tdl_order.specs.TimeOrder.{by_time, Rises, is_from}
use Rattle.tdl_agenda.specs.declared.items.Item.{Item}
use Rattle.tdl_notes.specs.declared.tones.Tone.{Tone}
use Rattle.tdl_notes.specs.Notes.{Mark, time_of, off_of, midi}

-- ---- scores and ticks
pub record IsToneTo (frontier : Rational) (tone : Tone) : Type 0 where
  pub begun : tone.onset <ℚ frontier
  pub sounds : tone.onset <ℚ tone.stop

abbrev pub IsScoreTo : Rational → List Tone → Type 0
IsScoreTo frontier score = AllByRecursion (IsToneTo frontier) score

abbrev pub onset_of : Tone → Rational
onset_of tone = tone.onset

pub record IsSpan (frontier to : Rational) (span : List Tone) : Type 0 where
  pub forward : frontier ≤ℚ to
  pub from : AllByRecursion (λ tone. frontier ≤ℚ tone.onset) span
  pub until : IsScoreTo to span
  pub rises : Rises onset_of span

-- ---- what waits
pub record Queue : Type 0 where
  pub items : List Item
  pub next : ℕ

abbrev pub end_of : ℕ → Tone → Item
end_of number tone = record { time = tone.stop; order = number; note = tone.note }

abbrev pub end_mark : Item → Mark
end_mark item = record { time = item.time; is_on = false; note = item.note }

pub record Waits (frontier : Rational) (score : List Tone) (queue : Queue) : Type 0 where
  pub below_next : AllByRecursion (λ item. item.order < queue.next) queue.items
  pub items : map end_mark queue.items ≡ filter (is_from time_of frontier) (by_time time_of (map off_of score))

-- ---- ticks one after the other
pub record Tick : Type 0 where
  pub to : Rational
  pub span : List Tone

abbrev pub all_tones : List Tick → List Tone
all_tones [] = []
all_tones (tick ∷ ticks) = tick.span ++ all_tones ticks

abbrev pub last : Rational → List Tick → Rational
last frontier [] = frontier
last frontier (tick ∷ ticks) = last tick.to ticks

-- each sends what the messages of the score gain
abbrev pub Sent : Rational → List Tone → List Tick → List (List ℕ) → Type 0
Sent frontier score [] sent = sent ≡ []
Sent frontier score (tick ∷ ticks) sent =
    (now : List (List ℕ)) × (later : List (List ℕ)) × (sent ≡ now ++ later) × (midi tick.to (score ++ tick.span) ≡ midi frontier score ++ now)
    × Sent tick.to (score ++ tick.span) ticks later
