-- Worked agendas.
use Rattle.std.proofs.Common.{◌≡◌, ℕ, pos, true, false, List, [], ◌∷◌, Some, None, map, refl}
use Rattle.tdl_fraction.specs.Divisor.{gcd}
use Rattle.tdl_fraction.specs.Rational.{frac, floor, lt_ℚ}
use Rattle.tdl_agenda.specs.declared.items.Item.{Item}
use Rattle.tdl_agenda.specs.Agenda.{is_below, inserted, numbered}
use Rattle.tdl_agenda.specs.Slots.{chain_of, in_order}

-- in quarters
abbrev item : ℕ → ℕ → Item
item quarters order = record { time = frac (pos quarters) 4; order = order; note = record { channel = 0; key = 60; velocity = 64 } }

abbrev orders : List Item → List ℕ
orders = map (λ (i : Item). i.order)

-- orders 4, 1 and 9, at a quarter, a half and a half
abbrev waiting : List Item
waiting = item 1 4 ∷ item 2 1 ∷ item 2 9 ∷ []

by_time : is_below (item 1 4) (item 2 1) ≡ true
unfolding frac lt_ℚ gcd
by_time = refl

by_order_at_one_time : is_below (item 2 1) (item 2 9) ≡ true
unfolding frac lt_ℚ gcd
by_order_at_one_time = refl

not_below_itself : is_below (item 2 1) (item 2 1) ≡ false
unfolding frac lt_ℚ gcd
not_below_itself = refl

one_time_in_two_forms : is_below (item 2 1) (record { time = frac (pos 1) 2; order = 2; note = record { channel = 0; key = 60; velocity = 64 } }) ≡ true
unfolding frac lt_ℚ gcd
one_time_in_two_forms = refl

the_first : orders (inserted (item 3 7) []) ≡ 7 ∷ []
the_first = refl

earliest : orders (inserted (item 0 7) waiting) ≡ 7 ∷ 4 ∷ 1 ∷ 9 ∷ []
unfolding frac lt_ℚ gcd
earliest = refl

latest : orders (inserted (item 3 7) waiting) ≡ 4 ∷ 1 ∷ 9 ∷ 7 ∷ []
unfolding frac lt_ℚ gcd
latest = refl

between_two_of_its_time : orders (inserted (item 2 7) waiting) ≡ 4 ∷ 1 ∷ 7 ∷ 9 ∷ []
unfolding frac lt_ℚ gcd
between_two_of_its_time = refl

last_of_its_time : orders (inserted (item 2 10) waiting) ≡ 4 ∷ 1 ∷ 9 ∷ 10 ∷ []
unfolding frac lt_ℚ gcd
last_of_its_time = refl

first_of_its_time : orders (inserted (item 1 0) waiting) ≡ 0 ∷ 4 ∷ 1 ∷ 9 ∷ []
unfolding frac lt_ℚ gcd
first_of_its_time = refl

numbers_in_order : orders (numbered 0 waiting) ≡ 0 ∷ 1 ∷ 2 ∷ []
numbers_in_order = refl

-- ---- slots
chain_of_a_cycle : chain_of (item 9 0) ≡ 2
unfolding chain_of floor frac gcd
chain_of_a_cycle = refl

chain_of_a_later_cycle : chain_of (item 265 0) ≡ 2
unfolding chain_of floor frac gcd
chain_of_a_later_cycle = refl

slots_in_any_order : orders
    (in_order
    (record { item = Some (item 2 9); next = None } ∷ record { item = None; next = None } ∷ record { item = Some (item 1 4); next = Some 0 } ∷ [])) ≡ 4 ∷ 9 ∷ []
unfolding frac lt_ℚ gcd
slots_in_any_order = refl
