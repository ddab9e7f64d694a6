-- What the code of a tick leaves, by the equations that its calls give.
--     length-inserted, length-entered, length-left     how many ends wait
--     All-left                     what holds of each that is left
--     ready_first, ready_kept, ready_on    what holds whatever has been played
--     tick_sends, tick_waits       the messages of a tick, and what waits after it
--     finish_sends                 the messages of a finish
--     front-all, rest-all          where all are due
use Rattle.std.proofs.Common.{◌≡◌, ℕ, suc, ◌+◌, ◌<◌, ◌≤◌, Bool, true, false, List, [], ◌∷◌, ◌++◌, map, length, refl, sym, ap, subst, ◌∙◌, arith, if◌then◌else◌}
use Rattle.std.specs.List.{AllByRecursion}
use Rattle.tdl_fraction.specs.Rational.{Rational}
use Rattle.tdl_order.specs.TimeOrder.{is_before}
use Rattle.tdl_order.proofs.EachItem.{All-weaker}
use Rattle.tdl_agenda.specs.declared.items.Item.{Item}
use Rattle.tdl_agenda.specs.Agenda.{is_below, inserted}
use Rattle.tdl_midi.specs.Notes.{IsNote}
use Rattle.tdl_notes.specs.declared.ends.Due.TheVariants.{All}
use Rattle.tdl_notes.specs.declared.tones.Tone.{Tone}
use Rattle.tdl_notes.specs.Notes.{message, midi, offs_left}
use Rattle.tdl_notes.specs.Waiting.{IsScoreTo, IsSpan, Queue, Waits, end_of, end_mark}
use Rattle.tdl_notes.specs.inside.Machine.{entered, front, rest, is_due, is_until, played, left, stop_of}
use Rattle.tdl_notes.specs.Ready.{IsReady}
use Rattle.tdl_notes.proofs.Fronts.{All-rest_part}
use Rattle.tdl_notes.proofs.Entering.{All-entered, AllBelow, orders-entered}
use Rattle.tdl_notes.proofs.Renumbering.{length-remarked, notes-remarked}
use Rattle.tdl_notes.proofs.Gains.{gained_messages, waits_on, finish_plays}

-- ---- how many
length-inserted : (item : Item) (items : List Item) → length (inserted item items) ≡ suc (length items)
length-inserted item [] = refl
length-inserted item (x ∷ xs) = by (is_below item x) (length-inserted item xs)
  where
    by : (b : Bool) → length (inserted item xs) ≡ suc (length xs) → length (if b then item ∷ x ∷ xs else x ∷ inserted item xs) ≡ suc (suc (length xs))
    by true more = refl
    by false more = ap suc more

pub length-entered : (n : ℕ) (tones : List Tone) (items : List Item) → length (entered n tones items) ≡ length items + length tones
length-entered n [] items = omega arith
length-entered n (tone ∷ tones) items =
    let more = length-entered (suc n) tones (inserted (end_of n tone) items) in
    let one = length-inserted (end_of n tone) items in
    omega (arith, more, one)

length-rest : (p : Item → Bool) (items : List Item) → length (rest p items) ≤ length items
length-rest p [] = omega arith
length-rest p (x ∷ xs) = by (p x) (length-rest p xs)
  where
    by : (b : Bool) → length (rest p xs) ≤ length xs → length (if b then rest p xs else x ∷ xs) ≤ suc (length xs)
    by true more = omega arith
    by false more = omega arith

pub length-left : (to : Rational) (tones : List Tone) (items : List Item) → length (left to tones items) ≤ length items
length-left to [] items = length-rest (is_before stop_of to) items
length-left to (tone ∷ tones) items =
    let more = length-left to tones (rest (is_until tone.onset) items) in
    let some = length-rest (is_until tone.onset) items in
    omega (arith, more, some)

pub All-left : (P : Item → Type 0) (to : Rational) (tones : List Tone) (items : List Item) → AllByRecursion P items → AllByRecursion P (left to tones items)
All-left P to [] items h = All-rest_part (is_before stop_of to) P items h
All-left P to (tone ∷ tones) items h = All-left P to tones (rest (is_until tone.onset) items) (All-rest_part (is_until tone.onset) P items h)

-- ---- whatever has been played
abbrev AllNotes : List Item → Type 0
AllNotes items = AllByRecursion (λ item. IsNote item.note) items

pub ready_first : (items : List Item) (next : ℕ) (finale : List (List ℕ)) (size capacity : ℕ) → items ≡ [] → finale ≡ [] → size ≡ 0
    → IsReady items next finale size capacity
ready_first items next finale size capacity e f g = record {
  numbered = subst (AllBelow next) (sym e) tt;
  notes = subst AllNotes (sym e) tt;
  empty = f;
  len = g;
  room = subst (λ (l : List Item). length l ≤ capacity) (sym e) (omega arith);
}

pub ready_kept : (items kept : List Item) (next : ℕ) (finale same : List (List ℕ)) (size capacity len more : ℕ) → IsReady items next finale size capacity
    → kept ≡ items → same ≡ finale → len ≡ size → capacity ≤ more → IsReady kept next same len more
ready_kept items kept next finale same size capacity len more ready e f g h =
    let room = ready.room in
    record {
      numbered = subst (AllBelow next) (sym e) ready.numbered;
      notes = subst AllNotes (sym e) ready.notes;
      empty = f ∙ ready.empty;
      len = g ∙ ready.len;
      room = subst (λ (l : List Item). length l ≤ more) (sym e) (omega arith);
    }

pub entered_notes : (first : ℕ) (span : List Tone) (items kept : List Item) → map end_mark kept ≡ map end_mark items → AllNotes items
    → AllByRecursion (λ tone. IsNote tone.note) span → AllNotes (entered first span kept)
entered_notes first span items kept e h notes =
    All-entered (λ item. IsNote item.note) first span kept
    (All-weaker (λ tone. IsNote tone.note) (λ tone. (k : ℕ) → IsNote tone.note) (λ tone is k. is) span notes) (notes-remarked items kept e h)

pub ready_on : (to : Rational) (span : List Tone) (items kept after : List Item) (next first later : ℕ) (finale same : List (List ℕ))
    (size capacity len more : ℕ) → IsReady items next finale size capacity → AllByRecursion (λ tone. IsNote tone.note) span
    → map end_mark kept ≡ map end_mark items → AllBelow first kept → after ≡ left to span (entered first span kept)
    → first + length span ≡ later → same ≡ finale → len ≡ size → size + (length items + length span) ≤ more → IsReady after later same len more
ready_on to span items kept after next first later finale same size capacity len more ready notes e low f g h k m =
    let some = length-left to span (entered first span kept) in
    let all = length-entered first span kept in
    let here = length-remarked items kept e in
    let waiting : length after ≡ length (left to span (entered first span kept)) = ap (λ (l : List Item). length l) f in
    record {
      numbered = subst (AllBelow later) (sym f)
          (All-left (λ item. item.order < later) to span (entered first span kept) (orders-entered first later span kept low g));
      notes = subst AllNotes (sym f)
          (All-left (λ item. IsNote item.note) to span (entered first span kept) (entered_notes first span items kept e ready.notes notes));
      empty = h ∙ ready.empty;
      len = k ∙ ready.len;
      room = omega (arith, some, all, here, waiting);
    }

-- ---- what a tick sends and leaves
module _ (frontier to : Rational) (score span : List Tone) (items kept : List Item) (next first : ℕ) (queue : Queue) where
  abbrev Stands : Type 0
  Stands = record { items = items; next = next } ≡ queue

  waits_anew : Stands → map end_mark kept ≡ map end_mark items → AllBelow first kept → Waits frontier score queue
      → Waits frontier score (record { items = kept; next = first })
  waits_anew view e low w =
      let here : Waits frontier score (record { items = items; next = next }) = subst (Waits frontier score) (sym view) w in
      record { below_next = low; items = e ∙ here.items }

  pub tick_sends : (messages none sent : List (List ℕ)) → Stands → map end_mark kept ≡ map end_mark items → AllBelow first kept → none ≡ []
      → sent ≡ none ++ map message (played to span (entered first span kept)) → messages ≡ sent → Waits frontier score queue
      → IsScoreTo frontier score → IsSpan frontier to span → midi to (score ++ span) ≡ midi frontier score ++ messages
  tick_sends messages none sent view e low f g h w begun ticks =
      let plays : messages ≡ map message (played to span (entered first span kept)) =
      h ∙ g ∙ ap (λ (l : List (List ℕ)). l ++ map message (played to span (entered first span kept))) f in
      gained_messages frontier to score span (record { items = kept; next = first }) (waits_anew view e low w) ticks begun
      ∙ ap (λ (l : List (List ℕ)). midi frontier score ++ l) (sym plays)

  pub tick_waits : (after : List Item) (later : ℕ) → Stands → map end_mark kept ≡ map end_mark items → AllBelow first kept
      → after ≡ left to span (entered first span kept) → first + length span ≡ later → Waits frontier score queue → IsSpan frontier to span
      → Waits to (score ++ span) (record { items = after; next = later })
  tick_waits after later view e low f g w ticks =
      let below = subst (AllBelow later) (sym f)
      (All-left (λ item. item.order < later) to span (entered first span kept) (orders-entered first later span kept low g)) in
      waits_on frontier to score span (record { items = kept; next = first }) (record { items = after; next = later }) (waits_anew view e low w) ticks
      below f

-- ---- a finish
pub front-all : (items : List Item) → front (is_due All) items ≡ items
front-all [] = refl
front-all (x ∷ xs) = ap (λ (l : List Item). x ∷ l) (front-all xs)

pub rest-all : (items : List Item) → rest (is_due All) items ≡ []
rest-all [] = refl
rest-all (x ∷ xs) = rest-all xs

pub finish_sends : (frontier : Rational) (score : List Tone) (items : List Item) (next : ℕ) (queue : Queue) (messages first sent : List (List ℕ))
    → record { items = items; next = next } ≡ queue → first ≡ [] → sent ≡ first ++ map message (map end_mark (front (is_due All) items)) → messages ≡ sent
    → Waits frontier score queue → messages ≡ map message (offs_left frontier score)
finish_sends frontier score items next queue messages first sent view f g h w =
    let here : Waits frontier score (record { items = items; next = next }) = subst (Waits frontier score) (sym view) w in
    h ∙ g ∙ ap (λ (l : List (List ℕ)). l ++ map message (map end_mark (front (is_due All) items))) f
    ∙ ap (λ (l : List Item). map message (map end_mark l)) (front-all items)
    ∙ ap (map message) (sym (finish_plays frontier score (record { items = items; next = next }) here))
