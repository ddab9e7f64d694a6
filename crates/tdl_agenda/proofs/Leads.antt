-- A link to the first of a chain's items that come after another, where a slot gains an item or loses one.
--     behind_trans           what comes after an item that comes after another
--     leads_same             the same items
--     leads_aside            the new item is of another chain, or does not come after that one
--     leads_past             an item of the chain comes between
--     leads_new, leads_on    the link to the new item, and the link from it
--     leads_less             the item that is gone was of another chain, or did not come after that one
--     leads_popped           the item that is gone was the first
use Rattle.std.proofs.Common.{◌≡◌, ◌≢◌, ℕ, ◌⊎◌, inl, inr, true, List, Option, Some, None, refl, sym, subst, ◌∙◌}
use Rattle.std.proofs.lemmas.Bool.{false≢true}
use Rattle.tdl_agenda.specs.declared.items.Item.{Item}
use Rattle.tdl_agenda.specs.declared.chains.Slot.{Slot}
use Rattle.tdl_agenda.specs.Agenda.{is_below}
use Rattle.tdl_agenda.specs.Slots.{chain_of, item_at}
use Rattle.tdl_agenda.specs.Linked.{IsBehind, Leads}
use Rattle.tdl_agenda.specs.inside.Steps.{IsAfter, IsBelowAll, IsGained}
use Rattle.tdl_agenda.proofs.Turns.{below_trans, not_below_itself}
use Rattle.tdl_agenda.proofs.Slots.{same_item, gained_at, was_at}

pub not_itself : (x y : Item) → x ≡ y → is_below x y ≡ true → ⊥
not_itself x y same h = false≢true (sym (not_below_itself x) ∙ subst (λ z. is_below x z ≡ true) (sym same) h)

pub behind_trans : (low : Option Item) (x y : Item) → IsBehind low x → is_below x y ≡ true → IsBehind low y
behind_trans None x y h k = tt
behind_trans (Some w) x y h k = below_trans w x y h k

pub leads_same : (old new : List Slot) (k : ℕ) (low : Option Item) (at : Option ℕ) → ((j : ℕ) → item_at new j ≡ item_at old j)
    → Leads old k low at → Leads new k low at
leads_same old new k low None same l = λ j y e c b. l j y (sym (same j) ∙ e) c b
leads_same old new k low (Some i) same l = record {
  item = l.item;
  there = same i ∙ l.there;
  chain = l.chain;
  behind = l.behind;
  first = λ j y e c b. l.first j y (sym (same j) ∙ e) c b;
}

module _ (old new : List Slot) (f : ℕ) (x : Item) (g : IsGained old new f x) where
  -- ---- an item more
  pub leads_aside : (k : ℕ) (low : Option Item) (at : Option ℕ) → (chain_of x ≡ k → IsBehind low x → ⊥) → Leads old k low at → Leads new k low at
  leads_aside k low None aside l = λ j y e c b. elim (gained_at g j y e) [
    | inl here ↦ aside (subst (λ z. chain_of z ≡ k) (sym here.1) c) (subst (IsBehind low) (sym here.1) b)
    | inr there ↦ l j y there.1 c b
  ]
  leads_aside k low (Some i) aside l = record {
    item = l.item;
    there = (was_at g i l.item l.there).1;
    chain = l.chain;
    behind = l.behind;
    first = λ j y e c b. elim (gained_at g j y e) [
      | inl here ↦ absurd (aside (subst (λ z. chain_of z ≡ k) (sym here.1) c) (subst (IsBehind low) (sym here.1) b))
      | inr there ↦ l.first j y there.1 c b
    ];
  }

  pub leads_past : (k : ℕ) (low : Option Item) (at : Option ℕ) (b : ℕ) (w : Item) → item_at old b ≡ Some w → chain_of w ≡ k → IsBehind low w
      → is_below w x ≡ true → Leads old k low at → Leads new k low at
  leads_past k low None b w is chain behind below l = absurd (l b w is chain behind)
  leads_past k low (Some i) b w is chain behind below l = record {
    item = l.item;
    there = (was_at g i l.item l.there).1;
    chain = l.chain;
    behind = l.behind;
    first = λ j y e c h. elim (gained_at g j y e) [
      | inl here ↦ inr (subst (λ z. is_below l.item z ≡ true) here.1 (under (l.first b w is chain behind)))
      | inr there ↦ l.first j y there.1 c h
    ];
  }
    where
      under : (b ≡ i) ⊎ (is_below l.item w ≡ true) → is_below l.item x ≡ true
      under (inl same) = subst (λ z. is_below z x ≡ true) (same_item old i w l.item (subst (λ j. item_at old j ≡ Some w) same is) l.there) below
      under (inr lower) = below_trans l.item w x lower below

  pub leads_new : (low : Option Item) (after : Option ℕ) → IsBehind low x → IsAfter old x after → Leads old (chain_of x) low after
      → Leads new (chain_of x) low (Some f)
  leads_new low after behind high l = record {
    item = x;
    there = g.here;
    chain = refl;
    behind = behind;
    first = λ j y e c b. elim (gained_at g j y e) [ inl here ↦ inl here.0 | inr there ↦ inr (above after high l j y there.1 c b) ];
  }
    where
      above : (at : Option ℕ) → IsAfter old x at → Leads old (chain_of x) low at → (j : ℕ) (y : Item) → item_at old j ≡ Some y → chain_of y ≡ chain_of x
          → IsBehind low y → is_below x y ≡ true
      above None h n j y e c b = absurd (n j y e c b)
      above (Some i) h n j y e c b = elim (n.first j y e c b) [
        | inl same ↦ h y (subst (λ m. item_at old m ≡ Some y) same e)
        | inr lower ↦ below_trans x n.item y (h n.item n.there) lower
      ]

  pub leads_on : (low : Option Item) (after : Option ℕ) → IsBehind low x → IsAfter old x after → Leads old (chain_of x) low after
      → Leads new (chain_of x) (Some x) after
  leads_on low None behind high l = λ j y e c b. elim (gained_at g j y e) [
    | inl here ↦ not_itself x y here.1 b
    | inr there ↦ l j y there.1 c (behind_trans low x y behind b)
  ]
  leads_on low (Some i) behind high l = record {
    item = l.item;
    there = (was_at g i l.item l.there).1;
    chain = l.chain;
    behind = high l.item l.there;
    first = λ j y e c b. elim (gained_at g j y e) [
      | inl here ↦ absurd (not_itself x y here.1 b)
      | inr there ↦ l.first j y there.1 c (behind_trans low x y behind b)
    ];
  }

  -- ---- an item less: `new` had it, and `old` is what is left
  pub leads_less : (k : ℕ) (low : Option Item) (at : Option ℕ) → (chain_of x ≡ k → IsBehind low x → ⊥) → Leads new k low at → Leads old k low at
  leads_less k low None aside l = λ j y e c b. l j y (was_at g j y e).1 c b
  leads_less k low (Some i) aside l = record {
    item = l.item;
    there = kept (gained_at g i l.item l.there);
    chain = l.chain;
    behind = l.behind;
    first = λ j y e c b. l.first j y (was_at g j y e).1 c b;
  }
    where
      kept : ((i ≡ f) × (x ≡ l.item)) ⊎ ((i ≢ f) × (item_at old i ≡ Some l.item)) → item_at old i ≡ Some l.item
      kept (inl here) = absurd (aside (subst (λ z. chain_of z ≡ k) (sym here.1) l.chain) (subst (IsBehind low) (sym here.1) l.behind))
      kept (inr there) = there.1

  pub leads_popped : (at : Option ℕ) → IsBelowAll old x → Leads new (chain_of x) (Some x) at → Leads old (chain_of x) None at
  leads_popped None below l = λ j y e c b. l j y (was_at g j y e).1 c (below j y e)
  leads_popped (Some i) below l = record {
    item = l.item;
    there = kept (gained_at g i l.item l.there);
    chain = l.chain;
    behind = tt;
    first = λ j y e c b. l.first j y (was_at g j y e).1 c (below j y e);
  }
    where
      kept : ((i ≡ f) × (x ≡ l.item)) ⊎ ((i ≢ f) × (item_at old i ≡ Some l.item)) → item_at old i ≡ Some l.item
      kept (inl here) = absurd (not_itself x l.item here.1 l.behind)
      kept (inr there) = there.1
