-- How what waits is played.
--     is_until        the item's time is t or earlier
--     is_due          the item is one of those that are due
--     front, rest     the longest front of items that pass a test, and what follows it
--     entered         the ends of tones put among those that wait, numbered from n on
--     played          before each on the ends up to its time, and then those before the time that the tick goes to
--     left            what still waits then
use Rattle.std.specs.Prelude.{ℕ, suc, Bool, true, not, if◌then◌else◌, List, [], ◌∷◌, ◌++◌, map}
use Rattle.tdl_fraction.specs.Rational.{Rational, lt_ℚ}
use Rattle.tdl_order.specs.TimeOrder.{is_before}
use Rattle.tdl_agenda.specs.declared.items.Item.{Item}
use Rattle.tdl_agenda.specs.Agenda.{inserted}
use Rattle.tdl_notes.specs.declared.ends.Due.{Due}
use Rattle.tdl_notes.specs.declared.ends.Due.TheVariants.{All, Before, Until}
use Rattle.tdl_notes.specs.declared.tones.Tone.{Tone}
use Rattle.tdl_notes.specs.Notes.{Mark, on_of}
use Rattle.tdl_notes.specs.Waiting.{end_of, end_mark}

abbrev pub stop_of : Item → Rational
stop_of item = item.time

abbrev pub is_until : Rational → Item → Bool
is_until t item = not (lt_ℚ t item.time)

abbrev pub is_due : Due → Item → Bool
is_due All item = true
is_due (Before time) item = is_before stop_of time item
is_due (Until time) item = is_until time item

abbrev pub front : {A : Type 0} → (A → Bool) → List A → List A
front p [] = []
front p (x ∷ xs) = if p x then x ∷ front p xs else []

abbrev pub rest : {A : Type 0} → (A → Bool) → List A → List A
rest p [] = []
rest p (x ∷ xs) = if p x then rest p xs else x ∷ xs

abbrev pub entered : ℕ → List Tone → List Item → List Item
entered n [] items = items
entered n (tone ∷ tones) items = entered (suc n) tones (inserted (end_of n tone) items)

abbrev pub played : Rational → List Tone → List Item → List Mark
played to [] items = map end_mark (front (is_before stop_of to) items)
played to (tone ∷ tones) items = map end_mark (front (is_until tone.onset) items) ++ on_of tone ∷ played to tones (rest (is_until tone.onset) items)

abbrev pub left : Rational → List Tone → List Item → List Item
left to [] items = rest (is_before stop_of to) items
left to (tone ∷ tones) items = left to tones (rest (is_until tone.onset) items)
