-- What the wires are sent of rows.
--     Begins              a list begins with another
--     sent_alike          of equal parts
--     nothing_sent        nothing of no rows
--     tick_begins         up to a time, what was sent before it comes first
--     finish_begins       and so it does with the finish
--     finished_sends      the messages of a history with the finish
use Rattle.std.proofs.Common.{◌≡◌, ℕ, Bool, true, false, List, [], ◌++◌, map, refl, sym, ap, ◌∙◌, append-nil}
use Rattle.tdl_fraction.specs.Units.{time_of}
use Rattle.tdl_event.specs.declared.rows.Row.{Row}
use Rattle.tdl_notes.specs.Notes.{message, offs_left, marks, midi as midi_before, midi_finished, tones}
use Rattle.tdl_notes.specs.Waiting.{IsSpan}
use Rattle.tdl_score.specs.declared.histories.Entry.{Entry}
use Rattle.tdl_score.specs.History.{frontier, is_finished}
use Rattle.tdl_score.specs.Readings.{Reading}
use Rattle.tdl_score.specs.Score.{score}
use Rattle.tdl_score.specs.Wires.{HasMidi, Protocol, midi, osc, packets_of, sent_of}
use Rattle.tdl_score.proofs.Sent.{packets_of-append}
use Rattle.tdl_score.proofs.Tones.{messages_begin, more, tones-append}

abbrev pub Begins : List (List ℕ) → List (List ℕ) → Type 0
Begins sent all = (later : List (List ℕ)) × (all ≡ sent ++ later)

pub sent_alike : (wire : Protocol) {a b : Bool} {m n : ℕ} {xs ys : List Row} → a ≡ b → m ≡ n → xs ≡ ys → sent_of wire a m xs ≡ sent_of wire b n ys
sent_alike wire {a} {b} {m} {n} {xs} e f g =
    ap (λ (c : Bool). sent_of wire c m xs) e ∙ ap (λ (k : ℕ). sent_of wire b k xs) f ∙ ap (λ (list : List Row). sent_of wire b n list) g

pub nothing_sent : (wire : Protocol) → sent_of wire false 0 [] ≡ []
unfolding midi_before marks
nothing_sent (osc tempo) = refl
nothing_sent midi = refl

pub tick_begins : (wire : Protocol) (from to : ℕ) (xs ys : List Row) → IsSpan (time_of from) (time_of to) (tones ys)
    → Begins (sent_of wire false from xs) (sent_of wire false to (xs ++ ys))
tick_begins (osc tempo) from to xs ys is = (packets_of tempo ys, packets_of-append tempo xs ys)
tick_begins midi from to xs ys is = (
  map message (more (time_of from) (time_of to) (tones xs) (tones ys) is),
  ap (midi_before (time_of to)) (tones-append xs ys) ∙ messages_begin (time_of from) (time_of to) (tones xs) (tones ys) is,
)

pub finish_begins : (wire : Protocol) (units : ℕ) (rows : List Row) → Begins (sent_of wire false units rows) (sent_of wire true units rows)
unfolding midi_finished
finish_begins (osc tempo) units rows = ([], sym (append-nil (packets_of tempo rows)))
finish_begins midi units rows = (map message (offs_left (time_of units) (tones rows)), refl)

pub finished_sends : (Reads : Reading) (entries : List Entry) → is_finished entries ≡ true → (messages : List (List ℕ)) → (is : HasMidi Reads entries messages)
    → messages ≡ midi_finished (time_of (frontier entries)) (tones (score is.changes (frontier entries)))
finished_sends Reads entries finished messages is =
    let units = frontier entries in
    is.sent ∙ ap (λ (b : Bool). sent_of midi b units (score is.changes units)) finished
