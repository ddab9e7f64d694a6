-- The last items of the chains.
--     tail_place     an item above the last one belongs after it
--     tails_put      an item more
--     tails_out      the first item less
--     tails_same     the same items
--     empty_tails    no items
use Rattle.std.proofs.Common.{◌≡◌, ◌≢◌, ℕ, ◌<◌, ◌⊎◌, inl, inr, Bool, true, false, List, [], length, get_or, set, replicate}
use Rattle.std.proofs.Common.{Option, Some, None, refl, sym, ap, subst, ◌∙◌, arith}
use Rattle.std.specs.Option.{option_and, option_or}
use Rattle.std.proofs.lemmas.Bool.{cases_eq, false≢true}
use Rattle.std.proofs.lemmas.List.{get_or-set_same, get_or-set_other, get_or-replicate, length-set, length-replicate}
use Rattle.std.proofs.lemmas.Option.{none-some}
use Rattle.tdl_agenda.specs.declared.items.Item.{Item}
use Rattle.tdl_agenda.specs.declared.chains.Slot.{Slot}
use Rattle.tdl_agenda.specs.Agenda.{is_below}
use Rattle.tdl_agenda.specs.Slots.{chain_of, item_at}
use Rattle.tdl_agenda.specs.Linked.{HasTails, IsBehind, IsLast, IsNext, IsTail, Leads}
use Rattle.tdl_agenda.specs.inside.Steps.{IsBelowAll, IsGained, IsPlace, IsUnder, low_of}
use Rattle.tdl_agenda.proofs.Turns.{below_from, below_trans, not_above}
use Rattle.tdl_agenda.proofs.Slots.{same_item, gained_at, was_at}
use Rattle.tdl_agenda.proofs.Leads.{not_itself}
use Rattle.tdl_agenda.proofs.Keeping.{nowhere, chain_below}

pub tail_place : (slots : List Slot) (x y : Item) (t : ℕ) → IsTail slots (chain_of x) t → item_at slots t ≡ Some y → is_below y x ≡ true
    → IsPlace slots x (Some t) None
tail_place slots x y t tail is below = record {
  walked = record {
    low = record { item = y; there = is; chain = ap chain_of (sym item) ∙ tail.chain; below = below };
    leads = λ j z e c b. past j z e c (subst (λ (o : Option Item). IsBehind o z) is b);
  };
  high = tt;
}
  where
    item : tail.item ≡ y
    item = same_item slots t tail.item y tail.there is

    past : (j : ℕ) (z : Item) → item_at slots j ≡ Some z → chain_of z ≡ chain_of x → is_below y z ≡ true → ⊥
    past j z e c above = elim (tail.last j z e c) [
      | inl here ↦ not_itself y z (same_item slots t y z is (subst (λ m. item_at slots m ≡ Some z) here e)) above
      | inr lower ↦ false≢true (sym (not_above y z above) ∙ subst (λ v. is_below z v ≡ true) item lower)
    ]

pub tails_same : (old new : List Slot) (tails : List (Option ℕ)) → ((j : ℕ) → item_at new j ≡ item_at old j) → HasTails old tails → HasTails new tails
tails_same old new tails same t = record { chains = t.chains; lasts = λ k h. last k (get_or tails k None) (t.lasts k h) }
  where
    last : (k : ℕ) (at : Option ℕ) → IsLast old k at → IsLast new k at
    last k None l = λ j y e c. l j y (sym (same j) ∙ e) c
    last k (Some i) l = record { item = l.item; there = same i ∙ l.there; chain = l.chain; last = λ j y e c. l.last j y (sym (same j) ∙ e) c }

pub empty_tails : (slots : List Slot) (n : ℕ) → slots ≡ [] → n ≡ 64 → HasTails slots (replicate n nowhere)
empty_tails slots n e long = subst (λ (s : List Slot). HasTails s (replicate n nowhere)) (sym e) (record {
  chains = length-replicate n nowhere ∙ long;
  lasts = λ k bound.
      let none : get_or (replicate n nowhere) k None ≡ None = get_or-replicate n k nowhere nowhere (omega arith) in
      subst (IsLast [] k) (sym none) (λ j y h c. none-some y h);
})

-- only the tail of one chain is written
tails_at : (new : List Slot) (tails now : List (Option ℕ)) (k : ℕ) (at : Option ℕ) → length tails ≡ 64 → k < 64 → now ≡ set tails k at
    → ((i : ℕ) → i < 64 → i ≢ k → IsLast new i (get_or tails i None)) → IsLast new k at → HasTails new now
tails_at new tails now k at chains bound is others last = record {
  chains = ap length is ∙ length-set tails k at ∙ chains;
  lasts = λ i h. subst (λ (l : List (Option ℕ)). IsLast new i (get_or l i None)) (sym is) (by i h (cases_eq i k));
}
  where
    by : (i : ℕ) → i < 64 → (i ≡ k) ⊎ (i ≡ k → ⊥) → IsLast new i (get_or (set tails k at) i None)
    by i h (inl same) =
        let here = get_or-set_same tails k at None (omega arith) in
        subst (λ m. IsLast new m (get_or (set tails k at) m None)) (sym same) (subst (IsLast new k) (sym here) last)
    by i h (inr apart) = subst (IsLast new i) (sym (get_or-set_other tails k i at None apart)) (others i h apart)

module _ (old new : List Slot) (f : ℕ) (x : Item) (g : IsGained old new f x) where
  -- ---- an item more
  last_aside : (k : ℕ) (at : Option ℕ) → chain_of x ≢ k → IsLast old k at → IsLast new k at
  last_aside k None apart l = λ j y e c. elim (gained_at g j y e) [
    | inl here ↦ apart (subst (λ z. chain_of z ≡ k) (sym here.1) c)
    | inr there ↦ l j y there.1 c
  ]
  last_aside k (Some i) apart l = record {
    item = l.item;
    there = (was_at g i l.item l.there).1;
    chain = l.chain;
    last = λ j y e c. elim (gained_at g j y e) [
      | inl here ↦ absurd (apart (subst (λ z. chain_of z ≡ k) (sym here.1) c))
      | inr there ↦ l.last j y there.1 c
    ];
  }

  under : (before : Option ℕ) → IsPlace old x before None → (j : ℕ) (y : Item) → item_at old j ≡ Some y → chain_of y ≡ chain_of x → is_below y x ≡ true
  under None place j y e c = absurd (place.walked.leads j y e c tt)
  under (Some b) place j y e c = by (is_below low.item y) refl
    where
      low : IsUnder old x b
      low = place.walked.low

      by : (test : Bool) → is_below low.item y ≡ test → is_below y x ≡ true
      by true h = absurd (place.walked.leads j y e c (subst (λ (o : Option Item). IsBehind o y) (sym low.there) h))
      by false h = below_from low.item y x h low.below

  last_put : (before after at : Option ℕ) → IsPlace old x before after → IsLast old (chain_of x) at
      → IsLast new (chain_of x) (option_or (option_and after at) (Some f))
  last_put before None at place l = record {
    item = x;
    there = g.here;
    chain = refl;
    last = λ j y e c. elim (gained_at g j y e) [ inl here ↦ inl here.0 | inr there ↦ inr (under before place j y there.1 c) ];
  }
  last_put before (Some a) None place l =
      let leads = place.walked.leads in
      absurd (l a leads.item leads.there leads.chain)
  last_put before (Some a) (Some i) place l = record {
    item = l.item;
    there = (was_at g i l.item l.there).1;
    chain = l.chain;
    last = λ j y e c. elim (gained_at g j y e) [
      | inl here ↦ inr (subst (λ z. is_below z l.item ≡ true) here.1 below)
      | inr there ↦ l.last j y there.1 c
    ];
  }
    where
      next : IsNext old (chain_of x) (low_of old before) a
      next = place.walked.leads

      high : is_below x next.item ≡ true
      high = place.high next.item next.there

      below : is_below x l.item ≡ true
      below = elim (l.last a next.item next.there next.chain) [
        | inl here ↦
            let at_tail = subst (λ m. item_at old m ≡ Some next.item) here next.there in
            subst (λ z. is_below x z ≡ true) (same_item old i next.item l.item at_tail l.there) high
        | inr lower ↦ below_trans x next.item l.item high lower
      ]

  pub tails_put : (tails : List (Option ℕ)) (before after : Option ℕ) (k : ℕ) (tail : Option ℕ) → IsPlace old x before after → HasTails old tails
      → k ≡ chain_of x → tail ≡ option_or (option_and after (get_or tails k None)) (Some f) → HasTails new (set tails k tail)
  tails_put tails before after k tail place t chain is =
      let at = get_or tails (chain_of x) None in
      let written = ap (set tails k) is ∙ ap (λ m. set tails m (option_or (option_and after (get_or tails m None)) (Some f))) chain in
      tails_at new tails (set tails k tail) (chain_of x) (option_or (option_and after at) (Some f)) t.chains (chain_below x) written
      (λ i h apart. last_aside i (get_or tails i None) (λ e. apart (sym e)) (t.lasts i h))
      (last_put before after at place (t.lasts (chain_of x) (chain_below x)))

  -- ---- an item less: `new` had it, and `old` is what is left
  less_aside : (k : ℕ) (at : Option ℕ) → chain_of x ≢ k → IsLast new k at → IsLast old k at
  less_aside k None apart l = λ j y e c. l j y (was_at g j y e).1 c
  less_aside k (Some i) apart l = record {
    item = l.item;
    there = kept (gained_at g i l.item l.there);
    chain = l.chain;
    last = λ j y e c. l.last j y (was_at g j y e).1 c;
  }
    where
      kept : ((i ≡ f) × (x ≡ l.item)) ⊎ ((i ≢ f) × (item_at old i ≡ Some l.item)) → item_at old i ≡ Some l.item
      kept (inl here) = absurd (apart (subst (λ z. chain_of z ≡ k) (sym here.1) l.chain))
      kept (inr there) = there.1

  last_out : (next at : Option ℕ) → IsBelowAll old x → Leads new (chain_of x) (Some x) next → IsLast new (chain_of x) at
      → IsLast old (chain_of x) (option_and next at)
  last_out None at below n l = λ j y e c. n j y (was_at g j y e).1 c (below j y e)
  last_out (Some a) None below n l = absurd (l a n.item n.there n.chain)
  last_out (Some a) (Some i) below n l = record {
    item = l.item;
    there = kept (gained_at g i l.item l.there);
    chain = l.chain;
    last = λ j y e c. l.last j y (was_at g j y e).1 c;
  }
    where
      clash : x ≡ l.item → (a ≡ i) ⊎ (is_below n.item l.item ≡ true) → ⊥
      clash same (inl here) =
          let at_next = subst (λ m. item_at new m ≡ Some l.item) (sym here) l.there in
          not_itself x n.item (same ∙ same_item new a l.item n.item at_next n.there) n.behind
      clash same (inr lower) = false≢true (sym (not_above x n.item n.behind) ∙ subst (λ z. is_below n.item z ≡ true) (sym same) lower)

      kept : ((i ≡ f) × (x ≡ l.item)) ⊎ ((i ≢ f) × (item_at old i ≡ Some l.item)) → item_at old i ≡ Some l.item
      kept (inl here) = absurd (clash here.1 (l.last a n.item n.there n.chain))
      kept (inr there) = there.1

  pub tails_out : (tails : List (Option ℕ)) (next : Option ℕ) (k : ℕ) (tail : Option ℕ) → IsBelowAll old x → Leads new (chain_of x) (Some x) next
      → HasTails new tails → k ≡ chain_of x → tail ≡ option_and next (get_or tails k None) → HasTails old (set tails k tail)
  tails_out tails next k tail below n t chain is =
      let at = get_or tails (chain_of x) None in
      let written = ap (set tails k) is ∙ ap (λ m. set tails m (option_and next (get_or tails m None))) chain in
      tails_at old tails (set tails k tail) (chain_of x) (option_and next at) t.chains (chain_below x) written
      (λ i h apart. less_aside i (get_or tails i None) (λ e. apart (sym e)) (t.lasts i h))
      (last_out next at below n (t.lasts (chain_of x) (chain_below x)))
