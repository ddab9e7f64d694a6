-- A walk along a chain, to where an item belongs.
--     more                        how many items come after one
--     walk_on                     past a slot whose item is below the one that is put in
--     walk_nears                  a step leaves fewer items
use Rattle.std.proofs.Common.{◌≡◌, ℕ, ◌<◌, false, List, Option, Some, sym, ap, subst, ◌∙◌}
use Rattle.tdl_agenda.specs.declared.items.Item.{Item}
use Rattle.tdl_agenda.specs.declared.chains.Slot.{Slot}
use Rattle.tdl_agenda.specs.Agenda.{is_below}
use Rattle.tdl_agenda.specs.Slots.{chain_of, item_at, next_at}
use Rattle.tdl_agenda.specs.Linked.{IsLinked, Leads}
use Rattle.tdl_agenda.specs.inside.Steps.{ApartFrom, IsWalked, low_of}
use Rattle.tdl_agenda.proofs.Turns.{below_or_above, not_below_itself}
use Rattle.tdl_agenda.proofs.Slots.{same_item}
use Rattle.tdl_agenda.proofs.Leads.{behind_trans}
use Rattle.tdl_agenda.proofs.Counts.{counted, counted_less, behind, behind_true}

abbrev pub more : Option Item → List Slot → ℕ
more low slots = counted (behind low) slots

pub walk_on : {slots : List Slot} {heads : List (Option ℕ)} {free : Option ℕ} {len : ℕ} (l : IsLinked slots heads free len) (x y : Item) (before : Option ℕ)
    (i : ℕ) → ApartFrom slots x → IsWalked slots x before (Some i) → item_at slots i ≡ Some y → is_below x y ≡ false
    → IsWalked slots x (Some i) (next_at slots i)
walk_on {slots} l x y before i apart w is not_below =
    let leads = w.leads in
    let item : leads.item ≡ y = same_item slots i leads.item y leads.there is in
    let chain : chain_of y ≡ chain_of x = ap chain_of (sym item) ∙ leads.chain in
    record {
      low = record { item = y; there = is; chain = chain; below = below_or_above x y (apart i y is) not_below };
      leads = subst (λ (o : Option Item). Leads slots (chain_of x) o (next_at slots i)) (sym is)
          (subst (λ k. Leads slots k (Some y) (next_at slots i)) chain (l.links i y is));
    }

pub walk_nears : (slots : List Slot) (x : Item) (before : Option ℕ) (i : ℕ) → IsWalked slots x before (Some i)
    → more (low_of slots (Some i)) slots < more (low_of slots before) slots
walk_nears slots x before i w =
    let leads = w.leads in
    let low = low_of slots before in
    let less = counted_less (behind low) (is_below leads.item) slots i leads.item leads.there (behind_true low leads.item leads.behind)
    (not_below_itself leads.item) (λ j y e h. behind_true low y (behind_trans low leads.item y leads.behind h)) in
    subst (λ (o : Option Item). more o slots < more low slots) (sym leads.there) less
