-- Steps of the loops that enter and play.
--     front-none           where the first end is not due, none is, and all are left
--     entered-step         one tone more
--     played-step, left-step     one tone more
--     sent-step            the messages then
--     front-until_none     where the first end is later
--     due_before, none_before    what `pop_before` answers
--     below_apart          numbers below n are other than n
use Rattle.std.proofs.Common.{◌≡◌, ◌≢◌, ℕ, suc, ◌+◌, ◌<◌, Bool, true, false, Option, Some, None, IfSome, IfNone, slice_get}
use Rattle.std.proofs.Common.{List, [], ◌∷◌, ◌++◌, map, length, get_or, drop}
use Rattle.std.proofs.Common.{refl, sym, ap, subst, ◌∙◌, append_assoc, arith, drop-cons, add-one, if◌then◌else◌}
use Rattle.std.proofs.lemmas.List.{map-append}
use Rattle.std.specs.List.{AllByRecursion}
use Rattle.tdl_fraction.specs.Rational.{Rational, lt_ℚ, ◌≤ℚ◌, ◌<ℚ◌}
use Rattle.tdl_fraction.proofs.Over.{lt_ℚ-true, lt_ℚ-false}
use Rattle.tdl_order.specs.TimeOrder.{is_before}
use Rattle.tdl_order.proofs.EachItem.{All-weaker}
use Rattle.tdl_agenda.specs.declared.items.Item.{Item}
use Rattle.tdl_agenda.specs.Agenda.{inserted}
use Rattle.tdl_midi.specs.Notes.{on}
use Rattle.tdl_notes.specs.declared.tones.Tone.{Tone}
use Rattle.tdl_notes.specs.declared.ends.Due.{Due}
use Rattle.tdl_notes.specs.declared.ends.Due.TheVariants.{Before}
use Rattle.tdl_notes.specs.Notes.{Mark, message, on_of}
use Rattle.tdl_notes.specs.Waiting.{end_of, end_mark}
use Rattle.tdl_notes.specs.inside.Machine.{entered, front, rest, is_due, is_until, played, left, stop_of}
use Rattle.tdl_notes.proofs.Entering.{AllBelow}

pub rest-none : {A : Type 0} (p : A → Bool) (xs : List A) → front p xs ≡ [] → rest p xs ≡ xs
rest-none p [] e = refl
rest-none {A} p (x ∷ xs) e = by (p x) e
  where
    by : (b : Bool) → (if b then x ∷ front p xs else []) ≡ [] → (if b then rest p xs else x ∷ xs) ≡ x ∷ xs
    by true e = cc
    by false e = refl

pub front-before_none : (to : Rational) (items : List Item) → AllByRecursion (λ item. to ≤ℚ item.time) items → front (is_before stop_of to) items ≡ []
front-before_none to [] h = refl
front-before_none to (x ∷ xs) h = rw ((lt_ℚ-false x.time to).1 h.0) refl

-- ---- one tone more
pub entered-step : (n i : ℕ) (tone : Tone) (tones : List Tone) (items : List Item) → i < length tones → tone ≡ get_or tones i tone
    → entered n (drop i tones) items ≡ entered (n + 1) (drop (i + 1) tones) (inserted (end_of n tone) items)
entered-step n i tone tones items h e =
    rw (add-one, add-one, drop-cons tones i tone) (ap (λ (t : Tone). entered (suc n) (drop (suc i) tones) (inserted (end_of n t) items)) (sym e))

pub played-step : (to : Rational) (i : ℕ) (tone : Tone) (tones : List Tone) (items : List Item) → i < length tones → tone ≡ get_or tones i tone
    → played to (drop i tones) items
    ≡ map end_mark (front (is_until tone.onset) items) ++ on_of tone ∷ played to (drop (i + 1) tones) (rest (is_until tone.onset) items)
played-step to i tone tones items h e =
    rw (add-one, drop-cons tones i tone)
    (ap (λ (t : Tone). map end_mark (front (is_until t.onset) items) ++ on_of t ∷ played to (drop (suc i) tones) (rest (is_until t.onset) items)) (sym e))

pub left-step : (to : Rational) (i : ℕ) (tone : Tone) (tones : List Tone) (items : List Item) → i < length tones → tone ≡ get_or tones i tone
    → left to (drop i tones) items ≡ left to (drop (i + 1) tones) (rest (is_until tone.onset) items)
left-step to i tone tones items h e =
    rw (add-one, drop-cons tones i tone) (ap (λ (t : Tone). left to (drop (suc i) tones) (rest (is_until t.onset) items)) (sym e))

pub sent-step : (sent ended all whole : List (List ℕ)) (ends later : List Mark) (tone : Tone) (bytes : List ℕ) → ended ≡ sent ++ map message ends
    → all ≡ ended ++ bytes ∷ [] → bytes ≡ on tone.note → sent ++ map message (ends ++ on_of tone ∷ later) ≡ whole → all ++ map message later ≡ whole
sent-step sent ended all whole ends later tone bytes e f g h =
    let off_bytes = map message ends in
    let more = map message later in
    ap (λ (l : List (List ℕ)). l ++ more) (f ∙ ap (λ (l : List (List ℕ)). l ++ bytes ∷ []) e)
    ∙ append_assoc (sent ++ off_bytes) (bytes ∷ []) more
    ∙ append_assoc sent off_bytes (bytes ∷ more)
    ∙ ap (λ (l : List (List ℕ)). sent ++ l) (ap (λ (b : List ℕ). off_bytes ++ b ∷ more) g ∙ sym (map-append message ends (on_of tone ∷ later)))
    ∙ h

-- ---- the first end
pub front-until_none : (t : Rational) (item : Item) (items : List Item) → slice_get items 0 ≡ Some item → lt_ℚ t item.time ≡ true
    → front (is_until t) items ≡ []
front-until_none t item [] e h = refl
front-until_none t item (x ∷ xs) e h =
    let same : item ≡ x = cc in
    let later = subst (λ (i : Item). lt_ℚ t i.time ≡ true) same h in
    rw later refl

pub due_before : (due : Due) (time : Rational) (r : Option Item) → due ≡ Before time → IfSome r (λ item. item.time <ℚ time)
    → IfSome r (λ item. is_due due item ≡ true)
due_before due time None e h = h
due_before due time (Some item) e h = subst (λ (d : Due). is_due d item ≡ true) (sym e) ((lt_ℚ-true item.time time).1 h)

pub none_before : (due : Due) (time : Rational) (r : Option Item) (items : List Item) → due ≡ Before time
    → IfNone r (AllByRecursion (λ item. time ≤ℚ item.time) items) → IfNone r (front (is_due due) items ≡ [])
none_before due time None items e h = subst (λ (d : Due). front (is_due d) items ≡ []) (sym e) (front-before_none time items h)
none_before due time (Some item) items e h = h

pub below_apart : (n : ℕ) (items : List Item) → AllBelow n items → AllByRecursion (λ other. other.order ≢ n) items
below_apart n = All-weaker (λ item. item.order < n) (λ item. item.order ≢ n) (λ item h e. absurd (omega arith))
