-- The notes of rows, and their messages.
--     All-tones           what holds of the note that each row may give holds of the notes
--     Rises-tones         they begin in order where the rows do
--     tones-append        joined lists
--     note_in_range       a note that a map gives is one of MIDI
--     has_channels        so the channels are those of MIDI
--     score_of            rows that begin before a time and have lengths are a score up to it
--     messages_begin      the messages up to a time begin with those up to an earlier one, from which on more notes begin
use Rattle.std.proofs.Common.{◌≡◌, ℕ, ◌≤◌, nat_le, ◌&&◌, Bool, true, false, cond, if◌then◌else◌, List, [], ◌∷◌, ◌++◌, map, filter, Option, Some, None}
use Rattle.std.proofs.Common.{ℤ, pos, negsuc, refl, sym, ap, ap₂, ◌∙◌, subst, arith, append-nil}
use Rattle.std.specs.List.{AllByRecursion, cons_option}
use Rattle.std.specs.Option.{option_map}
use Rattle.std.proofs.lemmas.Bool.Decides.{nat_tests}
use Rattle.std.proofs.lemmas.List.{map-append}
use Rattle.std.proofs.lemmas.List.Elements.{filter-append, filter_map-append}
use Rattle.tdl_fraction.specs.Rational.{Rational, whole, lt_ℚ, ◌+ℚ◌, ◌≤ℚ◌, ◌<ℚ◌}
use Rattle.tdl_fraction.proofs.Over.{lt_ℚ-false}
use Rattle.tdl_fraction.proofs.Order.{≤ℚ_trans, ≤ℚ_from_<ℚ, plus_above_lt}
use Rattle.tdl_control.specs.declared.keys.Key.TheVariants.{S}
use Rattle.tdl_control.specs.Map.{KeyValues, lookup}
use Rattle.tdl_event.specs.declared.rows.Row.{Row}
use Rattle.tdl_midi.specs.declared.Note.{Note}
use Rattle.tdl_midi.specs.Notes.{IsNote, channel_of, is_midi, key_of, note_of, note_with, velocity_of, within}
use Rattle.tdl_order.specs.TimeOrder.{Rises, by_time, is_before, is_from}
use Rattle.tdl_order.proofs.EachItem.{All-weaker, All-map}
use Rattle.tdl_order.proofs.Rising.{AllFrom, AllBefore, Rises-filter}
use Rattle.tdl_order.proofs.InOrder.{Rises-by_time, filter-by_time}
use Rattle.tdl_order.proofs.Cuts.{before-from, before_then_from}
use Rattle.tdl_notes.specs.declared.tones.Tone.{Tone}
use Rattle.tdl_notes.specs.Notes.{Mark, time_of, tone_of, tones, on_of, off_of, marks, marks_before, message, midi}
use Rattle.tdl_notes.specs.Waiting.{IsScoreTo, IsSpan, IsToneTo, onset_of}
use Rattle.tdl_notes.specs.Balance.{HasChannels}
use Rattle.tdl_score.specs.Score.{onset}

-- ---- each note
-- what holds of the note of a row, if its map gives one
abbrev pub OfNote : (Tone → Type 0) → Row → Type 0
OfNote P row = (note : Note) → note_of row.controls ≡ Some note → P (record { onset = row.onset; stop = row.onset +ℚ row.length; note = note })

abbrev with_note : Row → Option Note → List Tone → List Tone
with_note row found rest = cons_option (option_map (λ note. record { onset = row.onset; stop = row.onset +ℚ row.length; note = note }) found) rest

pub All-tones : (P : Tone → Type 0) (rows : List Row) → AllByRecursion (OfNote P) rows → AllByRecursion P (tones rows)
All-tones P [] h = tt
All-tones P (row ∷ rows) h = by (note_of row.controls) refl (All-tones P rows h.1)
  where
    by : (found : Option Note) → note_of row.controls ≡ found → AllByRecursion P (tones rows) → AllByRecursion P (with_note row found (tones rows))
    by None e more = more
    by (Some note) e more = (h.0 note e, more)

pub Rises-tones : (rows : List Row) → Rises onset rows → Rises onset_of (tones rows)
Rises-tones [] r = tt
Rises-tones (row ∷ rows) r = by (note_of row.controls) (Rises-tones rows r.1)
  where
    later : AllByRecursion (λ (tone : Tone). row.onset ≤ℚ tone.onset) (tones rows)
    later =
        All-tones (λ tone. row.onset ≤ℚ tone.onset) rows
        (All-weaker (λ (other : Row). row.onset ≤ℚ other.onset) (OfNote (λ tone. row.onset ≤ℚ tone.onset)) (λ other h note e. h) rows r.0)

    by : (found : Option Note) → Rises onset_of (tones rows) → Rises onset_of (with_note row found (tones rows))
    by None more = more
    by (Some note) more = (later, more)

pub tones-append : (xs ys : List Row) → tones (xs ++ ys) ≡ tones xs ++ tones ys
tones-append xs ys = filter_map-append tone_of xs ys

-- ---- their channels
in_bounds : (low high : ℕ) (number : ℤ) (n : ℕ) → within low high number ≡ Some n → (low ≤ n) × (n ≤ high)
in_bounds low high (pos number) n e = by (nat_le low number) (nat_le number high) refl refl e
  where
    by : (a b : Bool) → nat_le low number ≡ a → nat_le number high ≡ b → (if a && b then Some number else None) ≡ Some n → (low ≤ n) × (n ≤ high)
    by true true f g e =
        let same : number ≡ n = cc in
        let above : low ≤ number = grind (arith, nat_tests) in
        let below : number ≤ high = grind (arith, nat_tests) in
        (subst (λ k. low ≤ k) same above, subst (λ k. k ≤ high) same below)
    by true false f g e = cc
    by false b f g e = cc
in_bounds low high (negsuc number) n e = cc

noted : (channel key velocity : Option ℕ) (note : Note) → note_with channel key velocity ≡ Some note
    → ((n : ℕ) → channel ≡ Some n → n ≤ 15) → ((n : ℕ) → key ≡ Some n → n ≤ 127) → ((n : ℕ) → velocity ≡ Some n → (1 ≤ n) × (n ≤ 127)) → IsNote note
noted (Some channel) (Some key) (Some velocity) note e low_channel low_key low_velocity =
    let same : record { channel = channel; key = key; velocity = velocity } ≡ note = cc in
    subst IsNote same
    (record {
      channel = low_channel channel refl;
      key = low_key key refl;
      sounds = (low_velocity velocity refl).0;
      velocity = (low_velocity velocity refl).1;
    })
noted (Some channel) (Some key) None note e low_channel low_key low_velocity = absurd cc
noted (Some channel) None velocity note e low_channel low_key low_velocity = absurd cc
noted None key velocity note e low_channel low_key low_velocity = absurd cc

pub note_in_range : (controls : KeyValues) (note : Note) → note_of controls ≡ Some note → IsNote note
note_in_range controls note e = by (is_midi (lookup controls S)) e
  where
    by : (b : Bool)
        → (if b then note_with (within 0 15 (channel_of controls)) (within 0 127 (key_of controls)) (within 1 127 (velocity_of controls)) else None) ≡ Some note
        → IsNote note
    by true e =
        noted (within 0 15 (channel_of controls)) (within 0 127 (key_of controls)) (within 1 127 (velocity_of controls)) note e
        (λ n f. (in_bounds 0 15 (channel_of controls) n f).1) (λ n f. (in_bounds 0 127 (key_of controls) n f).1)
        (λ n f. in_bounds 1 127 (velocity_of controls) n f)
    by false e = absurd cc

pub has_channels : (rows : List Row) → HasChannels (tones rows)
has_channels rows = All-tones (λ tone. tone.note.channel ≤ 15) rows (each rows)
  where
    each : (list : List Row) → AllByRecursion (OfNote (λ tone. tone.note.channel ≤ 15)) list
    each [] = tt
    each (row ∷ list) = ((λ note e. (note_in_range row.controls note e).channel), each list)

-- ---- scores
pub score_of : (t : Rational) (rows : List Row) → AllBefore onset t rows → AllByRecursion (λ (row : Row). whole (pos 0) <ℚ row.length) rows
    → IsScoreTo t (tones rows)
score_of t rows before long = All-tones (IsToneTo t) rows (each rows before long)
  where
    each : (list : List Row) → AllBefore onset t list → AllByRecursion (λ (row : Row). whole (pos 0) <ℚ row.length) list
        → AllByRecursion (OfNote (IsToneTo t)) list
    each [] b l = tt
    each (row ∷ list) b l = ((λ note e. record { begun = b.0; sounds = plus_above_lt row.onset l.0 }), each list b.1 l.1)

-- ---- messages
before_twice : {A : Type 0} (time : A → Rational) (s t : Rational) → s ≤ℚ t → (xs : List A)
    → filter (is_before time s) (filter (is_before time t) xs) ≡ filter (is_before time s) xs
before_twice time s t h [] = refl
before_twice {A} time s t h (x ∷ xs) = by (lt_ℚ (time x) t) refl (before_twice time s t h xs)
  where
    by : (b : Bool) → lt_ℚ (time x) t ≡ b → filter (is_before time s) (filter (is_before time t) xs) ≡ filter (is_before time s) xs
        → filter (is_before time s) (cond b (x ∷ filter (is_before time t) xs) (filter (is_before time t) xs))
        ≡ cond (lt_ℚ (time x) s) (x ∷ filter (is_before time s) xs) (filter (is_before time s) xs)
    by true e more = ap (λ (l : List A). cond (lt_ℚ (time x) s) (x ∷ l) l) more
    by false e more =
        more ∙ sym (ap (λ (b : Bool). cond b (x ∷ filter (is_before time s) xs) (filter (is_before time s) xs))
        ((lt_ℚ-false (time x) s).1 (≤ℚ_trans h ((lt_ℚ-false (time x) t).0 e))))

module _ (frontier to : Rational) (score span : List Tone) (is : IsSpan frontier to span) where
  abbrev early : List Mark → List Mark
  early list = filter (is_before time_of frontier) list

  offs_later : (list : List Tone) → AllByRecursion (λ (tone : Tone). frontier ≤ℚ tone.onset) list → IsScoreTo to list
      → AllFrom time_of frontier (map off_of list)
  offs_later [] h k = tt
  offs_later (tone ∷ list) h k = (≤ℚ_trans h.0 (≤ℚ_from_<ℚ k.0.sounds), offs_later list h.1 k.1)

  kept : (f : Tone → Mark) → AllFrom time_of frontier (map f span) → early (map f (score ++ span)) ≡ early (map f score)
  kept f h =
      ap (filter (is_before time_of frontier)) (map-append f score span)
      ∙ filter-append (is_before time_of frontier) (map f score) (map f span)
      ∙ ap (λ (l : List Mark). early (map f score) ++ l) (before-from time_of frontier (map f span) h)
      ∙ append-nil (early (map f score))

  both : early (map off_of (score ++ span) ++ map on_of (score ++ span)) ≡ early (map off_of score ++ map on_of score)
  both =
      filter-append (is_before time_of frontier) (map off_of (score ++ span)) (map on_of (score ++ span))
      ∙ ap₂ (λ (l m : List Mark). l ++ m) (kept off_of (offs_later span is.from is.until))
      (kept on_of (All-map (λ (m : Mark). frontier ≤ℚ m.time) on_of span is.from))
      ∙ sym (filter-append (is_before time_of frontier) (map off_of score) (map on_of score))

  -- the marks before the frontier stay
  early_stays : marks_before frontier (score ++ span) ≡ marks_before frontier score
  unfolding marks
  early_stays =
      filter-by_time time_of (is_before time_of frontier) (map off_of (score ++ span) ++ map on_of (score ++ span))
      ∙ ap (by_time time_of) both
      ∙ sym (filter-by_time time_of (is_before time_of frontier) (map off_of score ++ map on_of score))

  Rises-marks : Rises time_of (marks (score ++ span))
  unfolding marks
  Rises-marks = Rises-by_time time_of (map off_of (score ++ span) ++ map on_of (score ++ span))

  abbrev pub more : List Mark
  more = filter (is_from time_of frontier) (marks_before to (score ++ span))

  marks_begin : marks_before to (score ++ span) ≡ marks_before frontier score ++ more
  marks_begin =
      let all = marks (score ++ span) in
      sym (before_then_from time_of frontier (marks_before to (score ++ span)) (Rises-filter time_of (is_before time_of to) all Rises-marks))
      ∙ ap (λ (l : List Mark). l ++ more) (before_twice time_of frontier to is.forward all ∙ early_stays)

  pub messages_begin : midi to (score ++ span) ≡ midi frontier score ++ map message more
  unfolding midi
  messages_begin = ap (map message) marks_begin ∙ map-append message (marks_before frontier score) more
