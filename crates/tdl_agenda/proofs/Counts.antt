-- How many slots have an item that passes a test.
--     counted_same     two tests that agree
--     counted_more     two tests that agree but at one item
--     counted_less     a test that fewer pass
--     behind           whether an item comes after another one
use Rattle.std.proofs.Common.{◌≡◌, ◌≢◌, ℕ, zero, suc, ◌+◌, ◌<◌, ◌≤◌, Bool, true, false, List, [], ◌∷◌, length}
use Rattle.std.proofs.Common.{Option, Some, None, if◌then◌else◌, refl, ap, ap₂, ◌∙◌, arith}
use Rattle.std.proofs.lemmas.Bool.{false≢true}
use Rattle.std.proofs.lemmas.Option.{none-some}
use Rattle.tdl_agenda.specs.declared.items.Item.{Item}
use Rattle.tdl_agenda.specs.declared.chains.Slot.{Slot}
use Rattle.tdl_agenda.specs.Agenda.{is_below}
use Rattle.tdl_agenda.specs.Slots.{item_at}
use Rattle.tdl_agenda.specs.Linked.{IsBehind}

abbrev pub one_if : Bool → ℕ
one_if b = if b then 1 else 0

abbrev pub counts : (Item → Bool) → Option Item → ℕ
counts p None = 0
counts p (Some y) = one_if (p y)

abbrev pub counted : (Item → Bool) → List Slot → ℕ
counted p [] = 0
counted p (s ∷ slots) = counts p s.item + counted p slots

counts_same : (p q : Item → Bool) (o : Option Item) → ((y : Item) → o ≡ Some y → p y ≡ q y) → counts p o ≡ counts q o
counts_same p q None h = refl
counts_same p q (Some y) h = ap one_if (h y refl)

pub counted_same : (p q : Item → Bool) (slots : List Slot) → ((j : ℕ) (y : Item) → item_at slots j ≡ Some y → p y ≡ q y)
    → counted p slots ≡ counted q slots
counted_same p q [] h = refl
counted_same p q (s ∷ slots) h =
    ap₂ (λ (m n : ℕ). m + n) (counts_same p q s.item (λ y e. h 0 y e)) (counted_same p q slots (λ j y e. h (suc j) y e))

counts_one : (p : Item → Bool) (o : Option Item) (x : Item) (b : Bool) → o ≡ Some x → p x ≡ b → counts p o ≡ one_if b
counts_one p o x b is e = ap (counts p) is ∙ ap one_if e

pub counted_more : (p q : Item → Bool) (slots : List Slot) (i : ℕ) (x : Item) → item_at slots i ≡ Some x → p x ≡ true → q x ≡ false
    → ((j : ℕ) (y : Item) → j ≢ i → item_at slots j ≡ Some y → p y ≡ q y) → counted p slots ≡ counted q slots + 1
counted_more p q [] i x is yes_p no_q h = absurd (none-some x is)
counted_more p q (s ∷ slots) zero x is yes_p no_q h =
    let one = counts_one p s.item x true is yes_p in
    let none = counts_one q s.item x false is no_q in
    let rest = counted_same p q slots (λ j y e. h (suc j) y (omega arith) e) in
    omega arith
counted_more p q (s ∷ slots) (suc i) x is yes_p no_q h =
    let one = counts_same p q s.item (λ y e. h 0 y (omega arith) e) in
    let rest = counted_more p q slots i x is yes_p no_q (λ j y apart e. h (suc j) y (omega arith) e) in
    omega arith

counts_most : (p q : Item → Bool) (o : Option Item) → ((y : Item) → o ≡ Some y → q y ≡ true → p y ≡ true) → counts q o ≤ counts p o
counts_most p q None h = omega arith
counts_most p q (Some y) h = by (q y) (p y) (h y refl)
  where
    by : (b c : Bool) → (b ≡ true → c ≡ true) → one_if b ≤ one_if c
    by false c k = omega arith
    by true true k = omega arith
    by true false k = absurd (false≢true (k refl))

pub counted_most : (p q : Item → Bool) (slots : List Slot) → ((j : ℕ) (y : Item) → item_at slots j ≡ Some y → q y ≡ true → p y ≡ true)
    → counted q slots ≤ counted p slots
counted_most p q [] h = omega arith
counted_most p q (s ∷ slots) h =
    let one = counts_most p q s.item (λ y e. h 0 y e) in
    let rest = counted_most p q slots (λ j y e. h (suc j) y e) in
    omega arith

pub counted_less : (p q : Item → Bool) (slots : List Slot) (i : ℕ) (x : Item) → item_at slots i ≡ Some x → p x ≡ true → q x ≡ false
    → ((j : ℕ) (y : Item) → item_at slots j ≡ Some y → q y ≡ true → p y ≡ true) → counted q slots < counted p slots
counted_less p q [] i x is yes_p no_q h = absurd (none-some x is)
counted_less p q (s ∷ slots) zero x is yes_p no_q h =
    let one = counts_one p s.item x true is yes_p in
    let none = counts_one q s.item x false is no_q in
    let rest = counted_most p q slots (λ j y e. h (suc j) y e) in
    omega arith
counted_less p q (s ∷ slots) (suc i) x is yes_p no_q h =
    let one = counts_most p q s.item (λ y e. h 0 y e) in
    let rest = counted_less p q slots i x is yes_p no_q (λ j y e. h (suc j) y e) in
    omega arith

pub counted_within : (p : Item → Bool) (slots : List Slot) → counted p slots ≤ length slots
counted_within p [] = omega arith
counted_within p (s ∷ slots) = let rest = counted_within p slots in let one = here s.item in omega arith
  where
    at_most_one : (b : Bool) → one_if b ≤ 1
    at_most_one true = omega arith
    at_most_one false = omega arith

    here : (o : Option Item) → counts p o ≤ 1
    here None = omega arith
    here (Some y) = at_most_one (p y)

-- ---- after another one
abbrev pub behind : Option Item → Item → Bool
behind None y = true
behind (Some x) y = is_below x y

pub behind_true : (low : Option Item) (y : Item) → IsBehind low y → behind low y ≡ true
behind_true None y h = refl
behind_true (Some x) y h = h

pub true_behind : (low : Option Item) (y : Item) → behind low y ≡ true → IsBehind low y
true_behind None y h = tt
true_behind (Some x) y h = h
