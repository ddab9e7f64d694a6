-- Links that stay as they have to be.
--     free_same, ..    the free slots, where none of them changed
--     free_head        where there is room, there is a free slot
--     empty_linked     no slots
--     IsPut            how the slots and the heads are written where an item is put in: at a head, or after a slot
--     put_linked       an item more
--     out_linked, ..   the lowest item less
--     grown_linked     a free slot more
use Rattle.std.proofs.Common.{◌≡◌, ◌≢◌, ℕ, zero, suc, ◌+◌, ◌-◌, ◌<◌, ◌≤◌, ◌⊎◌, inl, inr, Bool, true, false, List, [], ◌∷◌, ◌++◌, length, get_or, set, replicate}
use Rattle.std.proofs.Common.{Option, Some, None, refl, sym, ap, ap₂, subst, ◌∙◌, arith}
use Rattle.std.specs.List.{AllByRecursion}
use Rattle.std.proofs.lemmas.Bool.{cases_eq, false≢true}
use Rattle.std.proofs.lemmas.List.{get_or-set_same, get_or-set_other, length-set, length_push, get_or_append_left, get_or_push}
use Rattle.std.proofs.lemmas.List.{get_or-replicate, length-replicate}
use Rattle.std.proofs.lemmas.Option.{none-some, same_Some}
use Rattle.tdl_agenda.specs.declared.items.Item.{Item}
use Rattle.tdl_agenda.specs.declared.chains.Slot.{Slot}
use Rattle.tdl_agenda.specs.Agenda.{is_below, IsSorted}
use Rattle.tdl_agenda.specs.Slots.{chain_of, empty, in_order, item_at, next_at}
use Rattle.tdl_agenda.specs.Linked.{IsBehind, IsFree, IsLinked, Leads}
use Rattle.tdl_agenda.specs.inside.Steps.{ApartFrom, IsAfter, IsBelowAll, IsGained, IsPlace, IsUnder, low_of}
use Rattle.tdl_agenda.proofs.Turns.{below_or_above, below_trans, not_above}
use Rattle.tdl_agenda.proofs.Slots.{at_within, same_item, slot_read, item_set_same, item_set_other, next_set_same, next_set_other, gained_at, was_at}
use Rattle.tdl_agenda.proofs.Orders.{IsSorted-inserted, length-inserted, All-in_order, gained_order, lost_order, with_free}
use Rattle.tdl_agenda.proofs.Leads.{leads_same, leads_aside, leads_past, leads_new, leads_on, leads_less, leads_popped}

abbrev pub nowhere : Option ℕ
nowhere = None

-- ---- free slots
pub All-any : (path : List ℕ) → AllByRecursion (λ (j : ℕ). Unit {0}) path
All-any [] = tt
All-any (j ∷ path) = (tt, All-any path)

pub free_same : (old new : List Slot) (at : Option ℕ) (path : List ℕ) (P : ℕ → Type 0) → length old ≤ length new
    → ((j : ℕ) → P j → item_at old j ≡ None → j < length old → (item_at new j ≡ None) × (next_at new j ≡ next_at old j))
    → AllByRecursion P path → IsFree old at path → IsFree new at path
free_same old new at [] P long h p free = free
free_same old new at (j ∷ path) P long h p free =
    let within = free.1 in
    let kept = h j p.0 free.2 within in
    let rest = free_same old new (next_at old j) path P long h p.1 free.4 in
    (free.0, omega arith, kept.0, free.3, subst (λ a. IsFree new a path) (sym kept.1) rest)

free_apart : (slots : List Slot) (at : Option ℕ) (path : List ℕ) (i : ℕ) (x : Item) → item_at slots i ≡ Some x → IsFree slots at path
    → AllByRecursion (λ j. i ≢ j) path
free_apart slots at [] i x is free = tt
free_apart slots at (j ∷ path) i x is free =
    let apart : i ≢ j = λ same. none-some x (sym free.2 ∙ subst (λ m. item_at slots m ≡ Some x) same is) in
    (apart, free_apart slots (next_at slots j) path i x is free.4)

free_below : (slots : List Slot) (at : Option ℕ) (path : List ℕ) (n : ℕ) → length slots ≤ n → IsFree slots at path → AllByRecursion (λ j. n ≢ j) path
free_below slots at [] n many free = tt
free_below slots at (j ∷ path) n many free =
    let within = free.1 in
    (omega arith, free_below slots (next_at slots j) path n many free.4)

-- where there is room there is a free slot
abbrev IsFreeAt : List Slot → Option ℕ → Type 0
IsFreeAt slots at = (f : ℕ) × (at ≡ Some f) × (f < length slots) × (item_at slots f ≡ None)

free_first : (slots : List Slot) (at : Option ℕ) (path : List ℕ) (len : ℕ) → length path + len ≡ length slots → len < length slots → IsFree slots at path
    → IsFreeAt slots at
free_first slots at [] len room some free = absurd (omega arith)
free_first slots at (j ∷ path) len room some free = (j, free.0, free.1, free.2)

pub free_head : {slots : List Slot} {heads : List (Option ℕ)} {free : Option ℕ} {len : ℕ} (l : IsLinked slots heads free len) → len < length slots
    → IsFreeAt slots free
free_head {slots} {heads} {free} {len} l some = free_first slots free l.path len l.room some l.freed

pub free_is : {slots : List Slot} {heads : List (Option ℕ)} {free : Option ℕ} {len : ℕ} (l : IsLinked slots heads free len) (f : ℕ) → len < length slots
    → free ≡ Some f → (f < length slots) × (item_at slots f ≡ None)
free_is {slots} {heads} {free} {len} l f some is =
    let head = free_head l some in
    let same : head.0 ≡ f = same_Some head.0 f (sym head.1 ∙ is) in
    (subst (λ m. m < length slots) same head.2, subst (λ m. item_at slots m ≡ None) same head.3)

abbrev IsRest : List Slot → Option ℕ → ℕ → Type 0
IsRest slots at len = (path : List ℕ) × (length path + len ≡ length slots) × IsFree slots at path

put_free : (old new : List Slot) (free : Option ℕ) (f len : ℕ) (path : List ℕ) → free ≡ Some f → length path + len ≡ length old → length new ≡ length old
    → ((j : ℕ) → j ≢ f → item_at old j ≡ None → (item_at new j ≡ None) × (next_at new j ≡ next_at old j)) → IsFree old free path
    → IsRest new (next_at old f) (len + 1)
put_free old new free f len [] is room long h none = absurd (none-some f (sym none ∙ is))
put_free old new free f len (p ∷ path) is room long h some =
    let same : p ≡ f = same_Some p f (sym some.0 ∙ is) in
    let rest = free_same old new (next_at old p) path (λ j. p ≢ j) (omega arith) (λ j apart none within. h j (λ e. apart (same ∙ sym e)) none) some.3 some.4 in
    (path, omega arith, subst (λ j. IsFree new (next_at old j) path) same rest)

-- ---- no slots
pub empty_linked : (slots : List Slot) (n : ℕ) → slots ≡ [] → n ≡ 64 → IsLinked slots (replicate n nowhere) nowhere 0
empty_linked slots n e long = subst (λ (s : List Slot). IsLinked s (replicate n nowhere) nowhere 0) (sym e) (record {
  sorted = tt;
  apart = λ i j x y h k o. absurd (none-some x h);
  chains = length-replicate n nowhere ∙ long;
  firsts = λ k bound.
      let none : get_or (replicate n nowhere) k None ≡ None = get_or-replicate n k nowhere nowhere (omega arith) in
      subst (Leads [] k None) (sym none) (λ j y h c b. none-some y h);
  links = λ j x h. absurd (none-some x h);
  count = refl;
  path = [];
  room = refl;
  freed = refl;
})

-- ---- an item more
-- how the slots and the heads are written
pub record IsPut (old new : List Slot) (was now : List (Option ℕ)) (f : ℕ) (x : Item) (before after : Option ℕ) : Type 0 where
  pub gained : IsGained old new f x
  pub long : length new ≡ length old
  pub link : next_at new f ≡ after
  pub into : (b : ℕ) → before ≡ Some b → next_at new b ≡ Some f
  pub aside : (j : ℕ) → j ≢ f → (before ≡ Some j → ⊥) → next_at new j ≡ next_at old j
  pub chains : length now ≡ length was
  pub head : before ≡ None → get_or now (chain_of x) None ≡ Some f
  pub others : (k : ℕ) → (before ≡ None → k ≢ chain_of x) → get_or now k None ≡ get_or was k None

pub chain_below : (x : Item) → chain_of x < 64
unfolding chain_of
chain_below x = omega arith

-- the two ways to write the slots: at the head of a chain, and behind a slot
pub put_first : (old : List Slot) (heads : List (Option ℕ)) (f k : ℕ) (x : Item) (after : Option ℕ) (s : Slot) → f < length old → item_at old f ≡ None
    → s.item ≡ Some x → s.next ≡ after → length heads ≡ 64 → k ≡ chain_of x → IsPut old (set old f s) heads (set heads k (Some f)) f x None after
put_first old heads f k x after s within none item next chains chain = record {
  gained = record {
    was_free = none;
    here = item_set_same old f s within ∙ item;
    others = λ j apart. item_set_other old f j s apart;
  };
  long = length-set old f s;
  link = next_set_same old f s within ∙ next;
  into = λ b e. absurd (none-some b e);
  aside = λ j apart other. next_set_other old f j s apart;
  chains = length-set heads k (Some f);
  head = λ e.
      let bound = chain_below x in
      subst (λ m. get_or (set heads m (Some f)) (chain_of x) None ≡ Some f) (sym chain) (get_or-set_same heads (chain_of x) (Some f) None (omega arith));
  others = λ j other. get_or-set_other heads k j (Some f) None (λ e. other refl (e ∙ chain));
}

pub put_behind : (old : List Slot) (heads : List (Option ℕ)) (f b : ℕ) (x w : Item) (after : Option ℕ) (s t : Slot) → f < length old
    → item_at old f ≡ None → s.item ≡ Some x → s.next ≡ after → item_at old b ≡ Some w → t.item ≡ item_at (set old f s) b → t.next ≡ Some f
    → IsPut old (set (set old f s) b t) heads heads f x (Some b) after
put_behind old heads f b x w after s t within none item next is same link = record {
  gained = record {
    was_free = none;
    here = item_set_other (set old f s) b f t (λ e. apart (sym e)) ∙ item_set_same old f s within ∙ item;
    others = λ j other. kept j other (cases_eq j b);
  };
  long = length-set (set old f s) b t ∙ length-set old f s;
  link = next_set_other (set old f s) b f t (λ e. apart (sym e)) ∙ next_set_same old f s within ∙ next;
  into = λ m e. subst (λ n. next_at (set (set old f s) b t) n ≡ Some f) (same_Some b m e) (next_set_same (set old f s) b t long ∙ link);
  aside = λ j other two. next_set_other (set old f s) b j t (λ e. two (ap Some (sym e))) ∙ next_set_other old f j s other;
  chains = refl;
  head = λ e. absurd (none-some b (sym e));
  others = λ j other. refl;
}
  where
    apart : b ≢ f
    apart e = none-some w (sym none ∙ subst (λ m. item_at old m ≡ Some w) e is)

    long : b < length (set old f s)
    long = let few = at_within old b w is in let same = length-set old f s in omega arith

    kept : (j : ℕ) → j ≢ f → (j ≡ b) ⊎ (j ≡ b → ⊥) → item_at (set (set old f s) b t) j ≡ item_at old j
    kept j other (inl e) =
        ap (item_at (set (set old f s) b t)) e ∙ item_set_same (set old f s) b t long ∙ same ∙ item_set_other old f b s apart ∙ ap (item_at old) (sym e)
    kept j other (inr two) = item_set_other (set old f s) b j t two ∙ item_set_other old f j s other

-- the same where the code reads them
module _ {slots : List Slot} {heads : List (Option ℕ)} {free : Option ℕ} {len : ℕ} (l : IsLinked slots heads free len) (f : ℕ) (x : Item)
    (room : len < length slots) (is : free ≡ Some f) where
  pub put_at_head : (before after : Option ℕ) (k : ℕ) → before ≡ None → k ≡ chain_of x
      → IsPut slots (set slots f (record { item = Some x; next = after })) heads (set heads k (Some f)) f x before after
  put_at_head before after k none chain =
      let free_slot = free_is l f room is in
      let s : Slot = record { item = Some x; next = after } in
      subst (λ (o : Option ℕ). IsPut slots (set slots f s) heads (set heads k (Some f)) f x o after) (sym none)
      (put_first slots heads f k x after s free_slot.0 free_slot.1 refl refl l.chains chain)

  pub put_after : (before after : Option ℕ) (b : ℕ) (was t : Slot) → before ≡ Some b → IsPlace slots x before after
      → was ≡ get_or (set slots f (record { item = Some x; next = after })) b was → t.item ≡ was.item → t.next ≡ Some f
      → IsPut slots (set (set slots f (record { item = Some x; next = after })) b t) heads heads f x before after
  put_after before after b was t some place read item link =
      let placed : IsPlace slots x (Some b) after = subst (λ (o : Option ℕ). IsPlace slots x o after) some place in
      let low = placed.walked.low in
      let free_slot = free_is l f room is in
      let s : Slot = record { item = Some x; next = after } in
      let few = at_within slots b low.item low.there in
      let long = length-set slots f s in
      let same = slot_read (set slots f s) b was (omega arith) read in
      subst (λ (o : Option ℕ). IsPut slots (set (set slots f s) b t) heads heads f x o after) (sym some)
      (put_behind slots heads f b x low.item after s t free_slot.0 free_slot.1 refl refl low.there (item ∙ ap (λ (r : Slot). r.item) same) link)

not_between : (slots : List Slot) (x : Item) (low : Option Item) (after : Option ℕ) → Leads slots (chain_of x) low after → IsAfter slots x after
    → (j : ℕ) (y : Item) → item_at slots j ≡ Some y → chain_of y ≡ chain_of x → IsBehind low y → is_below y x ≡ true → ⊥
not_between slots x low None l high j y e c b h = l j y e c b
not_between slots x low (Some a) l high j y e c b h = false≢true (sym (not_above y x h) ∙ above (l.first j y e c b))
  where
    above : (j ≡ a) ⊎ (is_below l.item y ≡ true) → is_below x y ≡ true
    above (inl same) = high y (subst (λ m. item_at slots m ≡ Some y) same e)
    above (inr lower) = below_trans x l.item y (high l.item l.there) lower

module _ (old new : List Slot) (was now : List (Option ℕ)) (free : Option ℕ) (len f : ℕ) (x : Item) (l : IsLinked old was free len) where
  put_firsts : (before after : Option ℕ) → IsPlace old x before after → IsPut old new was now f x before after → (k : ℕ) → k < 64
      → Leads new k None (get_or now k None)
  put_firsts None after place put k bound = elim (cases_eq k (chain_of x)) [
    | inl same ↦
        let first = leads_new old new f x put.gained None after tt place.high place.walked.leads in
        subst (λ m. Leads new m None (get_or now m None)) (sym same) (subst (Leads new (chain_of x) None) (sym (put.head refl)) first)
    | inr apart ↦
        let kept = leads_aside old new f x put.gained k None (get_or was k None) (λ c b. apart (sym c)) (l.firsts k bound) in
        subst (Leads new k None) (sym (put.others k (λ e. apart))) kept
  ]
  put_firsts (Some b) after place put k bound =
      subst (Leads new k None) (sym (put.others k (λ e. absurd (none-some b (sym e))))) (kept (cases_eq k (chain_of x)))
    where
      kept : (k ≡ chain_of x) ⊎ (k ≡ chain_of x → ⊥) → Leads new k None (get_or was k None)
      kept (inl same) =
          let low = place.walked.low in
          leads_past old new f x put.gained k None (get_or was k None) b low.item low.there (low.chain ∙ sym same) tt low.below (l.firsts k bound)
      kept (inr apart) = leads_aside old new f x put.gained k None (get_or was k None) (λ c h. apart (sym c)) (l.firsts k bound)

  -- the link of a slot that is not the one before
  link_kept : (before after : Option ℕ) → IsPlace old x before after → IsGained old new f x → (j : ℕ) (y : Item) → item_at old j ≡ Some y
      → (before ≡ Some j → ⊥) → Leads new (chain_of y) (Some y) (next_at old j)
  link_kept None after place g j y e other =
      leads_aside old new f x g (chain_of y) (Some y) (next_at old j)
      (λ c h. not_between old x None after place.walked.leads place.high j y e (sym c) tt h) (l.links j y e)
  link_kept (Some b) after place g j y e other = by (is_below low.item y) refl
    where
      low : IsUnder old x b
      low = place.walked.low

      past : (chain_of x ≡ chain_of y) ⊎ (chain_of x ≡ chain_of y → ⊥) → is_below y low.item ≡ true → Leads new (chain_of y) (Some y) (next_at old j)
      past (inl same) h =
          leads_past old new f x g (chain_of y) (Some y) (next_at old j) b low.item low.there (low.chain ∙ same) h low.below (l.links j y e)
      past (inr apart) h = leads_aside old new f x g (chain_of y) (Some y) (next_at old j) (λ c k. apart c) (l.links j y e)

      by : (test : Bool) → is_below low.item y ≡ test → Leads new (chain_of y) (Some y) (next_at old j)
      by true h =
          leads_aside old new f x g (chain_of y) (Some y) (next_at old j)
          (λ c k. not_between old x (item_at old b) after place.walked.leads place.high j y e (sym c)
          (subst (λ (o : Option Item). IsBehind o y) (sym low.there) h) k)
          (l.links j y e)
      by false h =
          let two : y.order ≢ low.item.order = λ same. other (ap Some (l.apart b j low.item y low.there e (sym same))) in
          past (cases_eq (chain_of x) (chain_of y)) (below_or_above low.item y two h)

  under_low : (before after : Option ℕ) → IsPlace old x before after → IsBehind (low_of old before) x
  under_low None after place = tt
  under_low (Some b) after place = subst (λ (o : Option Item). IsBehind o x) (sym place.walked.low.there) place.walked.low.below

  link_old : (before after : Option ℕ) → IsPlace old x before after → IsPut old new was now f x before after → (j : ℕ) (y : Item) → item_at old j ≡ Some y
      → j ≢ f → Leads new (chain_of y) (Some y) (next_at new j)
  link_old None after place put j y e apart =
      let other : nowhere ≡ Some j → ⊥ = none-some j in
      subst (Leads new (chain_of y) (Some y)) (sym (put.aside j apart other)) (link_kept None after place put.gained j y e other)
  link_old (Some b) after place put j y e apart = by (cases_eq j b)
    where
      low : IsUnder old x b
      low = place.walked.low

      by : (j ≡ b) ⊎ (j ≡ b → ⊥) → Leads new (chain_of y) (Some y) (next_at new j)
      by (inr other) =
          let aside : Some b ≡ Some j → ⊥ = λ same. other (sym (same_Some b j same)) in
          subst (Leads new (chain_of y) (Some y)) (sym (put.aside j apart aside)) (link_kept (Some b) after place put.gained j y e aside)
      by (inl same) =
          let is : item_at old b ≡ Some y = subst (λ m. item_at old m ≡ Some y) same e in
          let item : low.item ≡ y = same_item old b low.item y low.there is in
          let chain : chain_of x ≡ chain_of y = sym low.chain ∙ ap chain_of item in
          let leads : Leads old (chain_of x) (Some y) after = subst (λ (o : Option Item). Leads old (chain_of x) o after) is place.walked.leads in
          let first = leads_new old new f x put.gained (Some y) after (subst (λ z. is_below z x ≡ true) item low.below) place.high leads in
          let next : next_at new j ≡ Some f = subst (λ m. next_at new m ≡ Some f) (sym same) (put.into b refl) in
          subst (Leads new (chain_of y) (Some y)) (sym next) (subst (λ k. Leads new k (Some y) (Some f)) chain first)

  put_links : (before after : Option ℕ) → IsPlace old x before after → IsPut old new was now f x before after → (j : ℕ) (y : Item) → item_at new j ≡ Some y
      → Leads new (chain_of y) (Some y) (next_at new j)
  put_links before after place put j y e = elim (gained_at put.gained j y e) [
    | inr there ↦ link_old before after place put j y there.1 there.0
    | inl here ↦
        let leads = leads_on old new f x put.gained (low_of old before) after (under_low before after place) place.high place.walked.leads in
        let next : next_at new j ≡ after = subst (λ m. next_at new m ≡ after) (sym here.0) put.link in
        subst (Leads new (chain_of y) (Some y)) (sym next) (subst (λ z. Leads new (chain_of z) (Some z) after) here.1 leads)
  ]

  put_apart : IsGained old new f x → ApartFrom old x → (i j : ℕ) (y z : Item) → item_at new i ≡ Some y → item_at new j ≡ Some z → y.order ≡ z.order → i ≡ j
  put_apart g apart i j y z e h same = by (gained_at g i y e) (gained_at g j z h)
    where
      by : ((i ≡ f) × (x ≡ y)) ⊎ ((i ≢ f) × (item_at old i ≡ Some y)) → ((j ≡ f) × (x ≡ z)) ⊎ ((j ≢ f) × (item_at old j ≡ Some z)) → i ≡ j
      by (inl one) (inl other) = one.0 ∙ sym other.0
      by (inl one) (inr other) = absurd (apart j z other.1 (sym same ∙ ap (λ (w : Item). w.order) (sym one.1)))
      by (inr one) (inl other) = absurd (apart i y one.1 (same ∙ ap (λ (w : Item). w.order) (sym other.1)))
      by (inr one) (inr other) = l.apart i j y z one.1 other.1 same

  taken : (before after : Option ℕ) → IsPlace old x before after → (j : ℕ) → item_at old j ≡ None → before ≡ Some j → ⊥
  taken None after p j none e = none-some j e
  taken (Some b) after p j none e =
      let low = p.walked.low in
      none-some low.item (sym none ∙ subst (λ m. item_at old m ≡ Some low.item) (same_Some b j e) low.there)

  pub put_linked : (before after : Option ℕ) → free ≡ Some f → ApartFrom old x → IsPlace old x before after → IsPut old new was now f x before after
      → IsLinked new now (next_at old f) (len + 1)
  put_linked before after is apart place put =
      let order = gained_order old new f x put.long put.gained apart in
      let apart_all = All-in_order (λ y. y.order ≢ x.order) old apart in
      let more : length (in_order new) ≡ length (in_order old) + 1 = ap length order ∙ length-inserted x (in_order old) in
      let count = l.count in
      let rest = put_free old new free f len l.path is l.room put.long
      (λ j other none. (put.gained.others j other ∙ none, put.aside j other (taken before after place j none))) l.freed in
      record {
        sorted = subst IsSorted (sym order) (IsSorted-inserted x (in_order old) apart_all l.sorted);
        apart = put_apart put.gained apart;
        chains = put.chains ∙ l.chains;
        firsts = put_firsts before after place put;
        links = put_links before after place put;
        count = omega arith;
        path = rest.0;
        room = rest.1;
        freed = rest.2;
      }

-- ---- the lowest item less
module _ (slots : List Slot) (heads : List (Option ℕ)) (free : Option ℕ) (len i : ℕ) (x : Item) (l : IsLinked slots heads free len)
    (is : item_at slots i ≡ Some x) (least : (j : ℕ) (y : Item) → item_at slots j ≡ Some y → (j ≡ i) ⊎ (is_below x y ≡ true)) where
  abbrev freed : Slot
  freed = record { item = None; next = free }

  pub out_lost : IsGained (set slots i freed) slots i x
  out_lost = record {
    was_free = item_set_same slots i freed (at_within slots i x is);
    here = is;
    others = λ j apart. sym (item_set_other slots i j freed apart);
  }

  pub out_below : IsBelowAll (set slots i freed) x
  out_below j y e =
      let was = was_at out_lost j y e in
      elim (least j y was.1) [ inl same ↦ absurd (was.0 same) | inr below ↦ below ]

  pub out_order : in_order slots ≡ x ∷ in_order (set slots i freed)
  out_order = lost_order slots (set slots i freed) i x (sym (length-set slots i freed)) out_lost out_below

  out_firsts : (k : ℕ) → k < 64 → Leads (set slots i freed) k None (get_or (set heads (chain_of x) (next_at slots i)) k None)
  out_firsts k bound = elim (cases_eq k (chain_of x)) [
    | inl same ↦
        let chains = l.chains in
        let low = chain_below x in
        let popped = leads_popped (set slots i freed) slots i x out_lost (next_at slots i) out_below (l.links i x is) in
        let here = get_or-set_same heads (chain_of x) (next_at slots i) None (omega arith) in
        subst (λ m. Leads (set slots i freed) m None (get_or (set heads (chain_of x) (next_at slots i)) m None)) (sym same)
        (subst (Leads (set slots i freed) (chain_of x) None) (sym here) popped)
    | inr apart ↦
        let less = leads_less (set slots i freed) slots i x out_lost k None (get_or heads k None) (λ c b. apart (sym c)) (l.firsts k bound) in
        subst (Leads (set slots i freed) k None) (sym (get_or-set_other heads (chain_of x) k (next_at slots i) None apart)) less
  ]

  out_links : (j : ℕ) (y : Item) → item_at (set slots i freed) j ≡ Some y → Leads (set slots i freed) (chain_of y) (Some y) (next_at (set slots i freed) j)
  out_links j y e =
      let was = was_at out_lost j y e in
      let aside = λ (c : chain_of x ≡ chain_of y) (b : is_below y x ≡ true). false≢true (sym (not_above y x b) ∙ out_below j y e) in
      let less = leads_less (set slots i freed) slots i x out_lost (chain_of y) (Some y) (next_at slots j) aside (l.links j y was.1) in
      subst (Leads (set slots i freed) (chain_of y) (Some y)) (sym (next_set_other slots i j freed was.0)) less

  out_freed : IsFree (set slots i freed) (Some i) (i ∷ l.path)
  out_freed =
      let within = at_within slots i x is in
      let long = length-set slots i freed in
      let other = λ (j : ℕ) (none : item_at slots j ≡ None) (e : j ≡ i). none-some x (sym none ∙ subst (λ m. item_at slots m ≡ Some x) (sym e) is) in
      let rest = free_same slots (set slots i freed) free l.path (λ j. Unit {0}) (omega arith)
      (λ j t none h. (item_set_other slots i j freed (other j none) ∙ none, next_set_other slots i j freed (other j none))) (All-any l.path) l.freed in (
        refl,
        omega arith,
        item_set_same slots i freed within,
        free_apart slots free l.path i x is l.freed,
        subst (λ a. IsFree (set slots i freed) a l.path) (sym (next_set_same slots i freed within)) rest,
      )

  pub out_linked : IsLinked (set slots i freed) (set heads (chain_of x) (next_at slots i)) (Some i) (len - 1)
  out_linked =
      let order = out_order in
      let fewer : length (in_order slots) ≡ length (x ∷ in_order (set slots i freed)) = ap length order in
      let count = l.count in
      let room = l.room in
      let long = length-set slots i freed in
      record {
        sorted = (subst IsSorted order l.sorted).1;
        apart = λ a b y z e h o. l.apart a b y z (was_at out_lost a y e).1 (was_at out_lost b z h).1 o;
        chains = length-set heads (chain_of x) (next_at slots i) ∙ l.chains;
        firsts = out_firsts;
        links = out_links;
        count = omega arith;
        path = i ∷ l.path;
        room = omega arith;
        freed = out_freed;
      }

  pub out_some : 1 ≤ len
  out_some =
      let count = l.count in
      let order : length (in_order slots) ≡ length (x ∷ in_order (set slots i freed)) = ap length out_order in
      omega arith

  pub out_linked_at : (k : ℕ) (next : Option ℕ) → k ≡ chain_of x → next ≡ next_at slots i → IsLinked (set slots i freed) (set heads k next) (Some i) (len - 1)
  out_linked_at k next chain link =
      subst (λ (h : List (Option ℕ)). IsLinked (set slots i freed) h (Some i) (len - 1)) (ap₂ (λ (m : ℕ) (n : Option ℕ). set heads m n) (sym chain) (sym link))
      out_linked

-- ---- a free slot more
pub item_grown : (slots : List Slot) (next : Option ℕ) (j : ℕ) → item_at (slots ++ record { item = None; next = next } ∷ []) j ≡ item_at slots j
item_grown [] next zero = refl
item_grown [] next (suc j) = refl
item_grown (s ∷ slots) next zero = refl
item_grown (s ∷ slots) next (suc j) = item_grown slots next j

next_grown : (slots : List Slot) (s : Slot) (j : ℕ) → j < length slots → next_at (slots ++ s ∷ []) j ≡ next_at slots j
next_grown slots s j h = ap (λ (t : Slot). t.next) (get_or_append_left slots (s ∷ []) empty j h)

module _ (slots : List Slot) (heads : List (Option ℕ)) (free : Option ℕ) (len : ℕ) (l : IsLinked slots heads free len) where
  abbrev another : Slot
  another = record { item = None; next = free }

  abbrev grown : List Slot
  grown = slots ++ another ∷ []

  grown_links : (j : ℕ) (y : Item) → item_at grown j ≡ Some y → Leads grown (chain_of y) (Some y) (next_at grown j)
  grown_links j y e =
      let was : item_at slots j ≡ Some y = sym (item_grown slots free j) ∙ e in
      let kept = leads_same slots grown (chain_of y) (Some y) (next_at slots j) (item_grown slots free) (l.links j y was) in
      subst (Leads grown (chain_of y) (Some y)) (sym (next_grown slots another j (at_within slots j y was))) kept

  grown_freed : IsFree grown (Some (length slots)) (length slots ∷ l.path)
  grown_freed =
      let long = length_push slots another in
      let rest = free_same slots grown free l.path (λ j. Unit {0}) (omega arith)
      (λ j t none h. (item_grown slots free j ∙ none, next_grown slots another j h)) (All-any l.path) l.freed in
      let here : get_or grown (length slots) empty ≡ another = get_or_push slots another empty (length slots) refl in (
        refl,
        omega arith,
        ap (λ (t : Slot). t.item) here,
        free_below slots free l.path (length slots) (omega arith) l.freed,
        subst (λ a. IsFree grown a l.path) (sym (ap (λ (t : Slot). t.next) here)) rest,
      )

  grown_all : IsLinked grown heads (Some (length slots)) len
  grown_all =
      let order = with_free slots free in
      let count = l.count in
      let same : length (in_order grown) ≡ length (in_order slots) = ap length order in
      let room = l.room in
      let long = length_push slots another in
      record {
        sorted = subst IsSorted (sym order) l.sorted;
        apart = λ a b y z e h o. l.apart a b y z (sym (item_grown slots free a) ∙ e) (sym (item_grown slots free b) ∙ h) o;
        chains = l.chains;
        firsts = λ k bound. leads_same slots grown k None (get_or heads k None) (item_grown slots free) (l.firsts k bound);
        links = grown_links;
        count = omega arith;
        path = length slots ∷ l.path;
        room = omega arith;
        freed = grown_freed;
      }

  pub grown_linked : (new : List Slot) (at : ℕ) → new ≡ slots ++ another ∷ [] → at ≡ length slots → IsLinked new heads (Some at) len
  grown_linked new at e same =
      subst (λ (s : List Slot). IsLinked s heads (Some at) len) (sym e) (subst (λ m. IsLinked grown heads (Some m) len) (sym same) grown_all)
