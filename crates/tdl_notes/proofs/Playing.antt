-- What is played of what waits, and what is left.
--     left-is          what is left is what is not before the time that the tick goes to
--     at-played        at each time the ends come first, and then what begins
--     All-played       what holds of each mark
--     Rises-played     they rise
use Rattle.std.proofs.Common.{◌≡◌, true, List, [], ◌∷◌, ◌++◌, map, refl, sym, ap, ◌∙◌, append_assoc, append-nil}
use Rattle.std.proofs.lemmas.List.{map-append}
use Rattle.std.specs.List.{AllByRecursion}
use Rattle.tdl_fraction.specs.Rational.{Rational, ◌≤ℚ◌, ◌<ℚ◌}
use Rattle.tdl_fraction.proofs.Over.{lt_ℚ-true}
use Rattle.tdl_fraction.proofs.Order.{≤ℚ_refl, ≤ℚ_trans, ≤ℚ_from_<ℚ, ≤ℚ-<ℚ_trans}
use Rattle.tdl_order.specs.TimeOrder.{Rises, is_before}
use Rattle.tdl_order.proofs.EachItem.{All-weaker, All-append, All-map}
use Rattle.tdl_order.proofs.Rising.{AllFrom, Rises-append, Rises-map}
use Rattle.tdl_order.proofs.ByTimes.{at}
use Rattle.tdl_agenda.specs.declared.items.Item.{Item}
use Rattle.tdl_notes.specs.declared.tones.Tone.{Tone}
use Rattle.tdl_notes.specs.Notes.{Mark, time_of, on_of}
use Rattle.tdl_notes.specs.Waiting.{IsScoreTo, onset_of, end_mark}
use Rattle.tdl_notes.specs.inside.Machine.{front, rest, played, left, stop_of, is_until}
use Rattle.tdl_notes.proofs.Fronts.{front_passes, All-front_part, All-rest_part, Rises-rest, Rises-front, front-two, rest-two, until_is, rest_later}
use Rattle.tdl_notes.proofs.AtTimes.{at-cons, at-append, at-later}

-- an end up to the onset is before the time that the tick goes to
until_before : (to : Rational) (tone : Tone) → tone.onset <ℚ to → (item : Item) → is_until tone.onset item ≡ true → is_before stop_of to item ≡ true
until_before to tone h item e = (lt_ℚ-true item.time to).1 (≤ℚ-<ℚ_trans (until_is tone.onset item e) h)

pub left-is : (to : Rational) (tones : List Tone) (items : List Item) → IsScoreTo to tones → left to tones items ≡ rest (is_before stop_of to) items
left-is to [] items h = refl
left-is to (tone ∷ tones) items h =
    left-is to tones (rest (is_until tone.onset) items) h.1
    ∙ sym (rest-two (is_until tone.onset) (is_before stop_of to) (until_before to tone h.0.begun) items)

regrouped : (u r n o : List Mark) → u ++ (n ++ (r ++ o)) ≡ u ++ ((n ++ r) ++ o)
regrouped u r n o = ap (λ (l : List Mark). u ++ l) (sym (append_assoc n r o))

pub at-played : (t to : Rational) (tones : List Tone) (items : List Item) → IsScoreTo to tones → Rises stop_of items
    → at time_of t (played to tones items) ≡ at time_of t (map end_mark (front (is_before stop_of to) items)) ++ at time_of t (map on_of tones)
at-played t to [] items h r = sym (append-nil (at time_of t (map end_mark (front (is_before stop_of to) items))))
at-played t to (tone ∷ tones) items h r =
    let early = front (is_until tone.onset) items in
    let late = rest (is_until tone.onset) items in
    let due = front (is_before stop_of to) late in
    let at_early = at time_of t (map end_mark early) in
    let at_due = at time_of t (map end_mark due) in
    let at_on = at time_of t (on_of tone ∷ []) in
    let at_ons = at time_of t (map on_of tones) in
    let more : at time_of t (played to tones late) ≡ at_due ++ at_ons =
    at-played t to tones late h.1 (Rises-rest (is_until tone.onset) stop_of items r) in
    let later : AllByRecursion (λ (m : Mark). tone.onset <ℚ m.time) (map end_mark due) =
    All-map (λ (m : Mark). tone.onset <ℚ m.time) end_mark due
    (All-front_part (is_before stop_of to) (λ (i : Item). tone.onset <ℚ i.time) late (rest_later tone.onset items r)) in
    let swapped : at_on ++ at_due ≡ at_due ++ at_on =
    sym (at-cons time_of t (on_of tone) (map end_mark due)) ∙ at-later time_of t (on_of tone) (map end_mark due) later in
    let ends : at time_of t (map end_mark (front (is_before stop_of to) items)) ≡ at_early ++ at_due =
    ap (λ (l : List Item). at time_of t (map end_mark l)) (front-two (is_until tone.onset) (is_before stop_of to) (until_before to tone h.0.begun) items)
    ∙ ap (at time_of t) (map-append end_mark early due) ∙ at-append time_of t (map end_mark early) (map end_mark due) in
    at-append time_of t (map end_mark early) (on_of tone ∷ played to tones late)
    ∙ ap (λ (l : List Mark). at_early ++ l) (at-cons time_of t (on_of tone) (played to tones late) ∙ ap (λ (l : List Mark). at_on ++ l) more)
    ∙ shape at_early at_due at_on at_ons swapped
    ∙ ap (λ (l : List Mark). l ++ (at_on ++ at_ons)) (sym ends)
    ∙ ap (λ (l : List Mark). at time_of t (map end_mark (front (is_before stop_of to) items)) ++ l) (sym (at-cons time_of t (on_of tone) (map on_of tones)))
  where
    shape : (e d n o : List Mark) → n ++ d ≡ d ++ n → e ++ (n ++ (d ++ o)) ≡ (e ++ d) ++ (n ++ o)
    shape e d n o s =
        ap (λ (l : List Mark). e ++ l) (sym (append_assoc n d o) ∙ ap (λ (l : List Mark). l ++ o) s ∙ append_assoc d n o) ∙ sym (append_assoc e d (n ++ o))

-- ---- what holds of each mark
pub All-played : (P : Mark → Type 0) (to : Rational) (tones : List Tone) (items : List Item) → AllByRecursion (λ item. P (end_mark item)) items
    → AllByRecursion (λ tone. P (on_of tone)) tones → AllByRecursion P (played to tones items)
All-played P to [] items h k = All-map P end_mark (front (is_before stop_of to) items) (All-front_part (is_before stop_of to) (λ i. P (end_mark i)) items h)
All-played P to (tone ∷ tones) items h k =
    let early = front (is_until tone.onset) items in
    let late = rest (is_until tone.onset) items in
    All-append P (map end_mark early) (on_of tone ∷ played to tones late)
    (All-map P end_mark early (All-front_part (is_until tone.onset) (λ i. P (end_mark i)) items h))
    (k.0, All-played P to tones late (All-rest_part (is_until tone.onset) (λ i. P (end_mark i)) items h) k.1)

early_until : (t : Rational) (items : List Item) → AllByRecursion (λ (m : Mark). m.time ≤ℚ t) (map end_mark (front (is_until t) items))
early_until t items =
    All-map (λ (m : Mark). m.time ≤ℚ t) end_mark (front (is_until t) items)
    (All-weaker (λ i. is_until t i ≡ true) (λ (i : Item). i.time ≤ℚ t) (until_is t) (front (is_until t) items) (front_passes (is_until t) items))

pub Rises-played : (to : Rational) (tones : List Tone) (items : List Item) → Rises onset_of tones → Rises stop_of items → Rises time_of (played to tones items)
Rises-played to [] items up r =
    Rises-map time_of end_mark (front (is_before stop_of to) items) (Rises-front (is_before stop_of to) stop_of items r)
Rises-played to (tone ∷ tones) items up r =
    let early = front (is_until tone.onset) items in
    let late = rest (is_until tone.onset) items in
    let later = All-weaker (λ (i : Item). tone.onset <ℚ i.time) (λ (i : Item). tone.onset ≤ℚ i.time) (λ i h. ≤ℚ_from_<ℚ h) late
    (rest_later tone.onset items r) in
    let from : AllByRecursion (λ (m : Mark). tone.onset ≤ℚ m.time) (played to tones late) =
    All-played (λ (m : Mark). tone.onset ≤ℚ m.time) to tones late later up.0 in
    let after : AllFrom time_of tone.onset (on_of tone ∷ played to tones late) = (≤ℚ_refl tone.onset, from) in
    Rises-append time_of (map end_mark early) (on_of tone ∷ played to tones late)
    (Rises-map time_of end_mark early (Rises-front (is_until tone.onset) stop_of items r))
    (from, Rises-played to tones late up.1 (Rises-rest (is_until tone.onset) stop_of items r))
    (All-weaker (λ (m : Mark). m.time ≤ℚ tone.onset) (λ (m : Mark). AllFrom time_of m.time (on_of tone ∷ played to tones late))
    (λ m h. All-weaker (λ (n : Mark). tone.onset ≤ℚ n.time) (λ (n : Mark). m.time ≤ℚ n.time) (λ n k. ≤ℚ_trans h k) (on_of tone ∷ played to tones late) after)
    (map end_mark early) (early_until tone.onset items))
