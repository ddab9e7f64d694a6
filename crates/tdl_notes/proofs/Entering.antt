-- Ends that are put among those that wait, each with a number above all others.
--     below_last                      an item with the last number is below those that are later
--     Rises-inserted                  with one more they rise
--     at-inserted                     at its time it is the last
--     All-entered, Rises-entered, at-entered, orders-entered     so too for the ends of tones
use Rattle.std.proofs.Common.{◌≡◌, ℕ, suc, ◌+◌, ◌<◌, Bool, true, false, cond, ◌&&◌, ◌||◌, List, [], ◌∷◌, ◌++◌, map, length, nat_lt}
use Rattle.std.proofs.Common.{refl, sym, ap, ◌∙◌, append_assoc, append-nil, arith, if◌then◌else◌}
use Rattle.std.specs.List.{AllByRecursion}
use Rattle.std.proofs.lemmas.Bool.{le-ltb}
use Rattle.tdl_fraction.specs.Rational.{Rational, lt_ℚ, ◌≤ℚ◌, ◌<ℚ◌}
use Rattle.tdl_fraction.specs.Same.{same_ℚ}
use Rattle.tdl_fraction.proofs.Over.{lt_ℚ-true, lt_ℚ-false}
use Rattle.tdl_fraction.proofs.Order.{≤ℚ_from_<ℚ, <ℚ-≤ℚ_trans}
use Rattle.tdl_order.specs.TimeOrder.{Rises}
use Rattle.tdl_order.proofs.EachItem.{All-weaker, All-map}
use Rattle.tdl_order.proofs.Rising.{AllFrom-earlier}
use Rattle.tdl_order.proofs.ByTimes.{is_at, at}
use Rattle.tdl_agenda.specs.declared.items.Item.{Item}
use Rattle.tdl_agenda.specs.Agenda.{is_below, inserted}
use Rattle.tdl_agenda.proofs.Orders.{All-inserted}
use Rattle.tdl_notes.specs.declared.tones.Tone.{Tone}
use Rattle.tdl_notes.specs.Notes.{Mark, time_of, off_of}
use Rattle.tdl_notes.specs.Waiting.{end_of, end_mark}
use Rattle.tdl_notes.specs.inside.Machine.{entered, stop_of}
use Rattle.tdl_notes.proofs.AtTimes.{at-cons, at-later}

abbrev pub AllBelow : ℕ → List Item → Type 0
AllBelow n items = AllByRecursion (λ item. item.order < n) items

or_none : (b c d : Bool) → d ≡ false → (b || (c && d)) ≡ b
or_none true c d e = refl
or_none false true d e = e
or_none false false d e = refl

pub below_last : (item other : Item) → other.order < item.order → is_below item other ≡ lt_ℚ item.time other.time
below_last item other h =
    or_none (lt_ℚ item.time other.time) (same_ℚ item.time other.time) (nat_lt item.order other.order) (le-ltb item.order other.order (omega arith))

-- ---- one end
pub Rises-inserted : (item : Item) (items : List Item) → AllBelow item.order items → Rises stop_of items → Rises stop_of (inserted item items)
Rises-inserted item [] low r = (tt, tt)
Rises-inserted item (x ∷ xs) low r = by (is_below item x) (sym (below_last item x low.0)) (Rises-inserted item xs low.1 r.1)
  where
    by : (b : Bool) → lt_ℚ item.time x.time ≡ b → Rises stop_of (inserted item xs) → Rises stop_of (if b then item ∷ x ∷ xs else x ∷ inserted item xs)
    by true e more =
        let first = ≤ℚ_from_<ℚ ((lt_ℚ-true item.time x.time).0 e) in
        ((first, AllFrom-earlier stop_of first xs r.0), r)
    by false e more = (All-inserted (λ y. x.time ≤ℚ y.time) item xs ((lt_ℚ-false item.time x.time).0 e) r.0, more)

pub at-inserted : (t : Rational) (item : Item) (items : List Item) → AllBelow item.order items → Rises stop_of items
    → at time_of t (map end_mark (inserted item items)) ≡ at time_of t (map end_mark items) ++ at time_of t (end_mark item ∷ [])
at-inserted t item [] low r = refl
at-inserted t item (x ∷ xs) low r = by (is_below item x) (sym (below_last item x low.0)) (at-inserted t item xs low.1 r.1)
  where
    put : (b : Bool) (us vs ws : List Mark) → us ≡ vs ++ ws → cond b (end_mark x ∷ us) us ≡ cond b (end_mark x ∷ vs) vs ++ ws
    put true us vs ws e = ap (λ (l : List Mark). end_mark x ∷ l) e
    put false us vs ws e = e

    by : (b : Bool) → lt_ℚ item.time x.time ≡ b
        → at time_of t (map end_mark (inserted item xs)) ≡ at time_of t (map end_mark xs) ++ at time_of t (end_mark item ∷ [])
        → at time_of t (map end_mark (if b then item ∷ x ∷ xs else x ∷ inserted item xs))
        ≡ at time_of t (map end_mark (x ∷ xs)) ++ at time_of t (end_mark item ∷ [])
    by true e more =
        let before = (lt_ℚ-true item.time x.time).0 e in
        let later = All-weaker (λ y. x.time ≤ℚ y.time) (λ y. item.time <ℚ y.time) (λ y up. <ℚ-≤ℚ_trans before up) xs r.0 in
        at-later time_of t (end_mark item) (map end_mark (x ∷ xs)) (All-map (λ m. item.time <ℚ m.time) end_mark (x ∷ xs) (before, later))
    by false e more =
        put (is_at time_of t (end_mark x)) (at time_of t (map end_mark (inserted item xs))) (at time_of t (map end_mark xs))
        (at time_of t (end_mark item ∷ [])) more

below_suc : (n : ℕ) (items : List Item) → AllBelow n items → AllBelow (suc n) items
below_suc n = All-weaker (λ item. item.order < n) (λ item. item.order < suc n) (λ item h. omega arith)

pub orders-inserted : (n : ℕ) (tone : Tone) (items : List Item) → AllBelow n items → AllBelow (suc n) (inserted (end_of n tone) items)
orders-inserted n tone items low = All-inserted (λ item. item.order < suc n) (end_of n tone) items (omega arith) (below_suc n items low)

-- ---- the ends of tones
pub All-entered : (P : Item → Type 0) (n : ℕ) (tones : List Tone) (items : List Item) → AllByRecursion (λ tone. (k : ℕ) → P (end_of k tone)) tones
    → AllByRecursion P items → AllByRecursion P (entered n tones items)
All-entered P n [] items h k = k
All-entered P n (tone ∷ tones) items h k =
    All-entered P (suc n) tones (inserted (end_of n tone) items) h.1 (All-inserted P (end_of n tone) items (h.0 n) k)

pub Rises-entered : (n : ℕ) (tones : List Tone) (items : List Item) → AllBelow n items → Rises stop_of items → Rises stop_of (entered n tones items)
Rises-entered n [] items low r = r
Rises-entered n (tone ∷ tones) items low r =
    Rises-entered (suc n) tones (inserted (end_of n tone) items) (orders-inserted n tone items low) (Rises-inserted (end_of n tone) items low r)

pub orders-entered : (n m : ℕ) (tones : List Tone) (items : List Item) → AllBelow n items → n + length tones ≡ m → AllBelow m (entered n tones items)
orders-entered n m [] items low e = All-weaker (λ item. item.order < n) (λ item. item.order < m) (λ item h. omega arith) items low
orders-entered n m (tone ∷ tones) items low e =
    orders-entered (suc n) m tones (inserted (end_of n tone) items) (orders-inserted n tone items low) (omega arith)

pub at-entered : (t : Rational) (n : ℕ) (tones : List Tone) (items : List Item) → AllBelow n items → Rises stop_of items
    → at time_of t (map end_mark (entered n tones items)) ≡ at time_of t (map end_mark items) ++ at time_of t (map off_of tones)
at-entered t n [] items low r = sym (append-nil (at time_of t (map end_mark items)))
at-entered t n (tone ∷ tones) items low r =
    let more = inserted (end_of n tone) items in
    at-entered t (suc n) tones more (orders-inserted n tone items low) (Rises-inserted (end_of n tone) items low r)
    ∙ ap (λ (l : List Mark). l ++ at time_of t (map off_of tones)) (at-inserted t (end_of n tone) items low r)
    ∙ append_assoc (at time_of t (map end_mark items)) (at time_of t (off_of tone ∷ [])) (at time_of t (map off_of tones))
    ∙ ap (λ (l : List Mark). at time_of t (map end_mark items) ++ l) (sym (at-cons time_of t (off_of tone) (map off_of tones)))
