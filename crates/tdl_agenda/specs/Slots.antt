-- Slots, each of which has an item or is free.
--     chain_of            the chain of an item: the whole part of its time, modulo 64
--     item_at, next_at    what a slot has, and its link; none past the last slot
--     in_order            the items of all slots, in order
use Rattle.std.specs.Prelude.{ℕ, ◌%◌, unsigned_abs, List, [], ◌∷◌, get_or, Option, Some, None}
use Rattle.tdl_fraction.specs.Rational.{floor}
use Rattle.tdl_agenda.specs.declared.items.Item.{Item}
use Rattle.tdl_agenda.specs.declared.chains.Slot.{Slot}
use Rattle.tdl_agenda.specs.Agenda.{inserted}

unfoldable pub chain_of : Item → ℕ
chain_of item = unsigned_abs (floor item.time) % 64

abbrev pub empty : Slot
empty = record { item = None; next = None }

abbrev pub item_at : List Slot → ℕ → Option Item
item_at slots i = (get_or slots i empty).item

abbrev pub next_at : List Slot → ℕ → Option ℕ
next_at slots i = (get_or slots i empty).next

abbrev pub with_item : Option Item → List Item → List Item
with_item None items = items
with_item (Some item) items = inserted item items

abbrev pub in_order : List Slot → List Item
in_order [] = []
in_order (slot ∷ slots) = with_item slot.item (in_order slots)
