-- What a tick plays is what the messages of a score gain by it.
--     All-unmapped                     what holds of each mapped item
--     Rises-waiting, from-waiting      what waits rises, and is not before the frontier
--     gained                           what a tick plays
--     waits_on                         what waits after it
--     waits_first                      nothing waits of an empty score
--     finish_plays                     the ends that are left are those that wait
--     finished_is_all                  the marks before a frontier and the ends that are left are all marks
--     gained_messages, finished_messages
use Rattle.std.proofs.Common.{◌≡◌, ◌≢◌, ℕ, ◌<◌, Bool, true, false, cond, not, List, [], ◌∷◌, ◌++◌, map, filter}
use Rattle.std.proofs.Common.{refl, sym, ap, ap₂, subst, ◌∙◌, append-nil}
use Rattle.std.proofs.lemmas.List.{map-append}
use Rattle.std.specs.List.{AllByRecursion}
use Rattle.std.proofs.lemmas.Bool.{false≢true}
use Rattle.std.proofs.lemmas.List.Elements.{filter-append}
use Rattle.tdl_fraction.specs.Rational.{Rational, lt_ℚ, ◌≤ℚ◌, ◌<ℚ◌}
use Rattle.tdl_fraction.proofs.Over.{lt_ℚ-true, lt_ℚ-false}
use Rattle.tdl_fraction.proofs.Order.{≤ℚ_trans, ≤ℚ_from_<ℚ, <ℚ-≤ℚ_trans, ≢_from_<ℚ}
use Rattle.tdl_order.specs.TimeOrder.{Rises, by_time, is_before, is_from}
use Rattle.tdl_order.proofs.EachItem.{All-weaker, All-append, All-map}
use Rattle.tdl_order.proofs.Rising.{AllFrom, AllFrom-earlier, Rises-append, Rises-filter, Rises-map}
use Rattle.tdl_order.proofs.InOrder.{Rises-by_time, filter-by_time, All-by_time}
use Rattle.tdl_order.proofs.ByTimes.{at, at-by_time, same_by_times}
use Rattle.tdl_order.proofs.Cuts.{AllBefore-filter, AllFrom-filter, before_then_from}
use Rattle.tdl_agenda.specs.declared.items.Item.{Item}
use Rattle.tdl_notes.specs.declared.tones.Tone.{Tone}
use Rattle.tdl_notes.specs.Notes.{Mark, time_of, on_of, off_of, marks, marks_before, is_off_from, offs_left, message, midi, midi_finished}
use Rattle.tdl_notes.specs.Waiting.{IsToneTo, IsScoreTo, IsSpan, Queue, Waits, end_mark}
use Rattle.tdl_notes.specs.inside.Machine.{front, entered, played, left, stop_of}
use Rattle.tdl_notes.proofs.Fronts.{filter-map, front-before, rest-before}
use Rattle.tdl_notes.proofs.AtTimes.{at-none, at-append, at-before, at-from}
use Rattle.tdl_notes.proofs.Entering.{All-entered, Rises-entered, at-entered}
use Rattle.tdl_notes.proofs.Playing.{left-is, at-played, All-played, Rises-played}

-- ---- through a map, back
pub All-unmapped : {A B : Type 0} (P : A → Type 0) (f : B → A) (bs : List B) → AllByRecursion P (map f bs) → AllByRecursion (λ b. P (f b)) bs
All-unmapped P f [] h = tt
All-unmapped P f (b ∷ bs) h = (h.0, All-unmapped P f bs h.1)

Rises-unmapped : {A B : Type 0} (time : A → Rational) (f : B → A) (bs : List B) → Rises time (map f bs) → Rises (λ b. time (f b)) bs
Rises-unmapped time f [] r = tt
Rises-unmapped time f (b ∷ bs) r = (All-unmapped (λ a. time (f b) ≤ℚ time a) f bs r.0, Rises-unmapped time f bs r.1)

-- ---- what waits
abbrev offs_from : Rational → List Tone → List Mark
offs_from frontier score = filter (is_from time_of frontier) (by_time time_of (map off_of score))

pub Rises-waiting : (frontier : Rational) (score : List Tone) (queue : Queue) → Waits frontier score queue → Rises stop_of queue.items
Rises-waiting frontier score queue w =
    Rises-unmapped time_of end_mark queue.items
    (subst (Rises time_of) (sym w.items)
    (Rises-filter time_of (is_from time_of frontier) (by_time time_of (map off_of score)) (Rises-by_time time_of (map off_of score))))

pub from-waiting : (frontier : Rational) (score : List Tone) (queue : Queue) → Waits frontier score queue
    → AllByRecursion (λ item. frontier ≤ℚ item.time) queue.items
from-waiting frontier score queue w =
    All-unmapped (λ (m : Mark). frontier ≤ℚ m.time) end_mark queue.items
    (subst (AllFrom time_of frontier) (sym w.items) (AllFrom-filter time_of frontier (by_time time_of (map off_of score))))

at_waiting : (t frontier : Rational) (score : List Tone) (queue : Queue) → Waits frontier score queue
    → at time_of t (map end_mark queue.items) ≡ cond (not (lt_ℚ t frontier)) (at time_of t (map off_of score)) []
at_waiting t frontier score queue w =
    ap (at time_of t) w.items ∙ at-from time_of t frontier (by_time time_of (map off_of score))
    ∙ ap (λ (l : List Mark). cond (not (lt_ℚ t frontier)) l []) (at-by_time time_of t (map off_of score))

-- ---- where the marks of tones are not
ons_are_before : (t to : Rational) (score : List Tone) → IsScoreTo to score → lt_ℚ t to ≡ false → at time_of t (map on_of score) ≡ []
ons_are_before t to score h e =
    at-none time_of t (map on_of score)
    (All-map (λ (m : Mark). m.time ≢ t) on_of score
    (All-weaker (IsToneTo to) (λ tone. tone.onset ≢ t) (λ tone k. ≢_from_<ℚ (<ℚ-≤ℚ_trans k.begun ((lt_ℚ-false t to).0 e))) score h))

ons_are_from : (t frontier : Rational) (span : List Tone) → AllByRecursion (λ tone. frontier ≤ℚ tone.onset) span → lt_ℚ t frontier ≡ true
    → at time_of t (map on_of span) ≡ []
ons_are_from t frontier span h e =
    at-none time_of t (map on_of span)
    (All-map (λ (m : Mark). m.time ≢ t) on_of span
    (All-weaker (λ tone. frontier ≤ℚ tone.onset) (λ tone. tone.onset ≢ t)
    (λ tone k same. ≢_from_<ℚ (<ℚ-≤ℚ_trans ((lt_ℚ-true t frontier).0 e) k) (sym same)) span h))

-- each tone of a span ends from its start on
stops_from : (frontier to : Rational) (span : List Tone) → AllByRecursion (λ tone. frontier ≤ℚ tone.onset) span → IsScoreTo to span
    → AllByRecursion (λ tone. frontier ≤ℚ tone.stop) span
stops_from frontier to [] h k = tt
stops_from frontier to (tone ∷ tones) h k = (≤ℚ_trans h.0 (≤ℚ_from_<ℚ k.0.sounds), stops_from frontier to tones h.1 k.1)

offs_are_from : (t frontier : Rational) (span : List Tone) → AllByRecursion (λ tone. frontier ≤ℚ tone.stop) span → lt_ℚ t frontier ≡ true
    → at time_of t (map off_of span) ≡ []
offs_are_from t frontier span h e =
    at-none time_of t (map off_of span)
    (All-map (λ (m : Mark). m.time ≢ t) off_of span
    (All-weaker (λ tone. frontier ≤ℚ tone.stop) (λ tone. tone.stop ≢ t)
    (λ tone k same. ≢_from_<ℚ (<ℚ-≤ℚ_trans ((lt_ℚ-true t frontier).0 e) k) (sym same)) span h))

at_marks : (t : Rational) (score : List Tone) → at time_of t (marks score) ≡ at time_of t (map off_of score) ++ at time_of t (map on_of score)
unfolding marks
at_marks t score =
    at-by_time time_of t (map off_of score ++ map on_of score) ∙ at-append time_of t (map off_of score) (map on_of score)

Rises-marks : (score : List Tone) → Rises time_of (marks score)
unfolding marks
Rises-marks score = Rises-by_time time_of (map off_of score ++ map on_of score)

earlier_too : (t frontier to : Rational) → frontier ≤ℚ to → lt_ℚ t frontier ≡ true → lt_ℚ t to ≡ true
earlier_too t frontier to h e = (lt_ℚ-true t to).1 (<ℚ-≤ℚ_trans ((lt_ℚ-true t frontier).0 e) h)

-- ---- one tick, where b and c are whether a time is before its end and before its start
gain_shape : (b c : Bool) (e f o p : List Mark) → (c ≡ true → b ≡ true) → (b ≡ false → p ≡ []) → (c ≡ true → f ≡ []) → (c ≡ true → p ≡ [])
    → (c ≡ false → o ≡ []) → cond b ((e ++ f) ++ (o ++ p)) [] ≡ cond c (e ++ o) [] ++ (cond b (cond (not c) e [] ++ f) [] ++ p)
gain_shape true true e f o p h none_p off_f on_p on_o =
    rw (off_f refl, on_p refl) (ap₂ (λ (l m : List Mark). l ++ m) (append-nil e) (append-nil o) ∙ sym (append-nil (e ++ o)))
gain_shape true false e f o p h none_p off_f on_p on_o = rw (on_o refl) refl
gain_shape false true e f o p h none_p off_f on_p on_o = absurd (false≢true (h refl))
gain_shape false false e f o p h none_p off_f on_p on_o = sym (none_p refl)

left_shape : (b c : Bool) (e f : List Mark) → (c ≡ true → b ≡ true) → cond (not b) (cond (not c) e [] ++ f) [] ≡ cond (not b) (e ++ f) []
left_shape true c e f h = refl
left_shape false true e f h = absurd (false≢true (h refl))
left_shape false false e f h = refl

module _ (frontier to : Rational) (score span : List Tone) (queue : Queue) (w : Waits frontier score queue) (ticks : IsSpan frontier to span) where
  abbrev with_span : List Item
  with_span = entered queue.next span queue.items

  Rises-with_span : Rises stop_of with_span
  Rises-with_span = Rises-entered queue.next span queue.items w.below_next (Rises-waiting frontier score queue w)

  from-with_span : AllByRecursion (λ item. frontier ≤ℚ item.time) with_span
  from-with_span =
      All-entered (λ item. frontier ≤ℚ item.time) queue.next span queue.items
      (All-weaker (λ tone. frontier ≤ℚ tone.stop) (λ tone. (k : ℕ) → frontier ≤ℚ tone.stop) (λ tone h k. h) span
      (stops_from frontier to span ticks.from ticks.until)) (from-waiting frontier score queue w)

  at-with_span : (t : Rational)
      → at time_of t (map end_mark with_span) ≡ cond (not (lt_ℚ t frontier)) (at time_of t (map off_of score)) [] ++ at time_of t (map off_of span)
  at-with_span t =
      at-entered t queue.next span queue.items w.below_next (Rises-waiting frontier score queue w)
      ∙ ap (λ (l : List Mark). l ++ at time_of t (map off_of span)) (at_waiting t frontier score queue w)

  at-due : (t : Rational) → at time_of t (map end_mark (front (is_before stop_of to) with_span))
      ≡ cond (lt_ℚ t to) (cond (not (lt_ℚ t frontier)) (at time_of t (map off_of score)) [] ++ at time_of t (map off_of span)) []
  at-due t =
      ap (λ (l : List Item). at time_of t (map end_mark l)) (front-before stop_of to with_span Rises-with_span)
      ∙ ap (at time_of t) (sym (filter-map (is_before time_of to) end_mark with_span))
      ∙ at-before time_of t to (map end_mark with_span)
      ∙ ap (λ (l : List Mark). cond (lt_ℚ t to) l []) (at-with_span t)

  at-joined_offs : (t : Rational) → at time_of t (map off_of (score ++ span)) ≡ at time_of t (map off_of score) ++ at time_of t (map off_of span)
  at-joined_offs t = ap (at time_of t) (map-append off_of score span) ∙ at-append time_of t (map off_of score) (map off_of span)

  at-joined_ons : (t : Rational) → at time_of t (map on_of (score ++ span)) ≡ at time_of t (map on_of score) ++ at time_of t (map on_of span)
  at-joined_ons t = ap (at time_of t) (map-append on_of score span) ∙ at-append time_of t (map on_of score) (map on_of span)

  at-gained : IsScoreTo frontier score → (t : Rational)
      → at time_of t (marks_before to (score ++ span)) ≡ at time_of t (marks_before frontier score ++ played to span with_span)
  at-gained begun t =
      at-before time_of t to (marks (score ++ span))
      ∙ ap (λ (l : List Mark). cond (lt_ℚ t to) l [])
      (at_marks t (score ++ span) ∙ ap₂ (λ (l m : List Mark). l ++ m) (at-joined_offs t) (at-joined_ons t))
      ∙ gain_shape (lt_ℚ t to) (lt_ℚ t frontier) (at time_of t (map off_of score)) (at time_of t (map off_of span)) (at time_of t (map on_of score))
      (at time_of t (map on_of span)) (earlier_too t frontier to ticks.forward) (ons_are_before t to span ticks.until)
      (offs_are_from t frontier span (stops_from frontier to span ticks.from ticks.until)) (ons_are_from t frontier span ticks.from)
      (ons_are_before t frontier score begun)
      ∙ sym (at-append time_of t (marks_before frontier score) (played to span with_span)
      ∙ ap₂ (λ (l m : List Mark). l ++ m)
      (at-before time_of t frontier (marks score) ∙ ap (λ (l : List Mark). cond (lt_ℚ t frontier) l []) (at_marks t score))
      (at-played t to span with_span ticks.until Rises-with_span ∙ ap (λ (l : List Mark). l ++ at time_of t (map on_of span)) (at-due t)))

  from-played : AllFrom time_of frontier (played to span with_span)
  from-played = All-played (λ (m : Mark). frontier ≤ℚ m.time) to span with_span from-with_span ticks.from

  Rises-gained : Rises time_of (marks_before frontier score ++ played to span with_span)
  Rises-gained =
      Rises-append time_of (marks_before frontier score) (played to span with_span)
      (Rises-filter time_of (is_before time_of frontier) (marks score) (Rises-marks score))
      (Rises-played to span with_span ticks.rises Rises-with_span)
      (All-weaker (λ (m : Mark). m.time <ℚ frontier) (λ (m : Mark). AllFrom time_of m.time (played to span with_span))
      (λ m h. AllFrom-earlier time_of (≤ℚ_from_<ℚ h) (played to span with_span) from-played) (marks_before frontier score)
      (AllBefore-filter time_of frontier (marks score)))

  pub gained : IsScoreTo frontier score → marks_before to (score ++ span) ≡ marks_before frontier score ++ played to span with_span
  gained begun =
      same_by_times time_of (marks_before to (score ++ span)) (marks_before frontier score ++ played to span with_span)
      (Rises-filter time_of (is_before time_of to) (marks (score ++ span)) (Rises-marks (score ++ span))) Rises-gained (at-gained begun)

  pub gained_messages : IsScoreTo frontier score → midi to (score ++ span) ≡ midi frontier score ++ map message (played to span with_span)
  unfolding midi
  gained_messages begun = ap (map message) (gained begun) ∙ map-append message (marks_before frontier score) (played to span with_span)

  left-filtered : map end_mark (left to span with_span) ≡ filter (is_from time_of to) (map end_mark with_span)
  left-filtered =
      ap (map end_mark) (left-is to span with_span ticks.until ∙ rest-before stop_of to with_span Rises-with_span)
      ∙ sym (filter-map (is_from time_of to) end_mark with_span)

  at-left : (t : Rational) → at time_of t (map end_mark (left to span with_span)) ≡ at time_of t (offs_from to (score ++ span))
  at-left t =
      ap (at time_of t) left-filtered
      ∙ at-from time_of t to (map end_mark with_span)
      ∙ ap (λ (l : List Mark). cond (not (lt_ℚ t to)) l []) (at-with_span t)
      ∙ left_shape (lt_ℚ t to) (lt_ℚ t frontier) (at time_of t (map off_of score)) (at time_of t (map off_of span)) (earlier_too t frontier to ticks.forward)
      ∙ sym (at-from time_of t to (by_time time_of (map off_of (score ++ span)))
      ∙ ap (λ (l : List Mark). cond (not (lt_ℚ t to)) l []) (at-by_time time_of t (map off_of (score ++ span)) ∙ at-joined_offs t))

  pub left-waits : map end_mark (left to span with_span) ≡ offs_from to (score ++ span)
  left-waits =
      same_by_times time_of (map end_mark (left to span with_span)) (offs_from to (score ++ span))
      (subst (Rises time_of) (sym left-filtered)
      (Rises-filter time_of (is_from time_of to) (map end_mark with_span) (Rises-map time_of end_mark with_span Rises-with_span)))
      (Rises-filter time_of (is_from time_of to) (by_time time_of (map off_of (score ++ span))) (Rises-by_time time_of (map off_of (score ++ span)))) at-left

-- ---- a finish
abbrev is_off : Mark → Bool
is_off mark = not mark.is_on

offs-pass : (frontier : Rational) (score : List Tone)
    → filter (is_off_from frontier) (map off_of score) ≡ filter (is_from time_of frontier) (map off_of score)
offs-pass frontier [] = refl
offs-pass frontier (tone ∷ tones) =
    ap (λ (l : List Mark). cond (is_from time_of frontier (off_of tone)) (off_of tone ∷ l) l) (offs-pass frontier tones)

ons-fail : (frontier : Rational) (score : List Tone) → filter (is_off_from frontier) (map on_of score) ≡ []
ons-fail frontier [] = refl
ons-fail frontier (tone ∷ tones) = ons-fail frontier tones

pub offs_left-is : (frontier : Rational) (score : List Tone) → offs_left frontier score ≡ offs_from frontier score
unfolding marks
offs_left-is frontier score =
    filter-by_time time_of (is_off_from frontier) (map off_of score ++ map on_of score)
    ∙ ap (by_time time_of)
    (filter-append (is_off_from frontier) (map off_of score) (map on_of score)
    ∙ ap₂ (λ (l m : List Mark). l ++ m) (offs-pass frontier score) (ons-fail frontier score)
    ∙ append-nil (filter (is_from time_of frontier) (map off_of score)))
    ∙ sym (filter-by_time time_of (is_from time_of frontier) (map off_of score))

pub finish_plays : (frontier : Rational) (score : List Tone) (queue : Queue) → Waits frontier score queue
    → offs_left frontier score ≡ map end_mark queue.items
finish_plays frontier score queue w = offs_left-is frontier score ∙ sym w.items

-- of a score that has begun, what is left are ends
same_filters : (p q : Mark → Bool) (ms : List Mark) → AllByRecursion (λ m. p m ≡ q m) ms → filter p ms ≡ filter q ms
same_filters p q [] h = refl
same_filters p q (m ∷ ms) h =
    ap (λ (b : Bool). cond b (m ∷ filter p ms) (filter p ms)) h.0 ∙ ap (λ (l : List Mark). cond (q m) (m ∷ l) l) (same_filters p q ms h.1)

offs_agree : (frontier : Rational) (score : List Tone) → AllByRecursion (λ m. is_off_from frontier m ≡ is_from time_of frontier m) (map off_of score)
offs_agree frontier [] = tt
offs_agree frontier (tone ∷ tones) = (refl, offs_agree frontier tones)

ons_agree : (frontier : Rational) (score : List Tone) → IsScoreTo frontier score
    → AllByRecursion (λ m. is_off_from frontier m ≡ is_from time_of frontier m) (map on_of score)
ons_agree frontier [] h = tt
ons_agree frontier (tone ∷ tones) h =
    let before : lt_ℚ tone.onset frontier ≡ true = (lt_ℚ-true tone.onset frontier).1 h.0.begun in
    (rw before refl, ons_agree frontier tones h.1)

pub finished_is_all : (frontier : Rational) (score : List Tone) → IsScoreTo frontier score
    → marks_before frontier score ++ offs_left frontier score ≡ marks score
unfolding marks
finished_is_all frontier score h =
    let all = map off_of score ++ map on_of score in
    let agree = All-by_time time_of (λ m. is_off_from frontier m ≡ is_from time_of frontier m) all
    (All-append (λ m. is_off_from frontier m ≡ is_from time_of frontier m) (map off_of score) (map on_of score) (offs_agree frontier score)
    (ons_agree frontier score h)) in
    ap (λ (l : List Mark). marks_before frontier score ++ l) (same_filters (is_off_from frontier) (is_from time_of frontier) (by_time time_of all) agree)
    ∙ before_then_from time_of frontier (by_time time_of all) (Rises-by_time time_of all)

pub finished_messages : (frontier : Rational) (score : List Tone) → IsScoreTo frontier score → midi_finished frontier score ≡ map message (marks score)
unfolding midi_finished midi
finished_messages frontier score h =
    sym (map-append message (marks_before frontier score) (offs_left frontier score)) ∙ ap (map message) (finished_is_all frontier score h)

-- ---- what waits
pub waits_on : (frontier to : Rational) (score span : List Tone) (queue after : Queue) → Waits frontier score queue → IsSpan frontier to span
    → AllByRecursion (λ item. item.order < after.next) after.items → after.items ≡ left to span (entered queue.next span queue.items)
    → Waits to (score ++ span) after
waits_on frontier to score span queue after w ticks low is = record {
  below_next = low;
  items = ap (map end_mark) is ∙ left-waits frontier to score span queue w ticks;
}

pub waits_first : (frontier : Rational) (queue : Queue) → queue.items ≡ [] → Waits frontier [] queue
waits_first frontier queue e = record {
  below_next = subst (λ (l : List Item). AllByRecursion (λ item. item.order < queue.next) l) (sym e) tt;
  items = ap (map end_mark) e;
}
