-- Items that get new numbers in their slots.
--     rank                   how many items are below one
--     IsRenumbered           the items up to a low one have their ranks as numbers, and the heads lead to those that come after it
--     renumber_on            one more, whose number fits (number_fits)
--     IsAllNumbered          all of them
--     renumber_ends          where no head is left
--     numbered_order         then the items are numbered in their order
--     numbered_linked, ..    and the links are as they have to be
use Rattle.std.proofs.Common.{◌≡◌, ◌≢◌, ℕ, suc, ◌+◌, ◌<◌, ◌≤◌, ◌⊎◌, inl, inr, Bool, true, false, List, [], ◌∷◌, map, length, get_or, set}
use Rattle.std.proofs.Common.{Option, Some, None, nat_lt, if◌then◌else◌, refl, sym, ap, ap₂, subst, ◌∙◌, arith}
use Rattle.std.specs.List.{AllByRecursion}
use Rattle.std.specs.Option.{option_map}
use Rattle.std.proofs.lemmas.Bool.{cases_eq, false≢true, lt-ltb, le-ltb, false_from_ne_true, true_from_ne_false}
use Rattle.std.proofs.lemmas.List.{get_or-set_same, get_or-set_other, length-set}
use Rattle.std.proofs.lemmas.Option.{none-some, same_Some}
use Rattle.tdl_fraction.proofs.Order.{three_ways}
use Rattle.tdl_agenda.specs.declared.items.Item.{Item}
use Rattle.tdl_agenda.specs.declared.chains.Slot.{Slot}
use Rattle.tdl_agenda.specs.Agenda.{is_below, IsSorted, inserted, numbered}
use Rattle.tdl_agenda.specs.Slots.{chain_of, in_order, item_at, next_at, with_item}
use Rattle.tdl_agenda.specs.Linked.{HasTails, IsBehind, IsFirst, IsLast, IsLinked, Leads}
use Rattle.tdl_agenda.specs.inside.Steps.{IsLowest}
use Rattle.tdl_agenda.proofs.Turns.{below-earlier, below-same, below-later, below_from, below_or_above, below_trans}
use Rattle.tdl_agenda.proofs.Turns.{not_above, not_above_trans, not_below_itself}
use Rattle.tdl_agenda.proofs.Slots.{same_item, at_within, item_set_same, item_set_other, next_set_same, next_set_other}
use Rattle.tdl_agenda.proofs.Leads.{behind_trans}
use Rattle.tdl_agenda.proofs.Keeping.{All-any, chain_below, free_same}
use Rattle.tdl_agenda.proofs.Counts.{one_if, counts, counted, counted_more, counted_less, counted_most, behind, behind_true, true_behind}
use Rattle.tdl_agenda.proofs.Least.{IsFirstBehind, lowest_of, none_of}
use Rattle.tdl_agenda.proofs.Numbered.{with_order, passing, passing-in_order, HasRank, numbered_ranks, IsSorted-numbered}

abbrev pub rank : List Slot → Item → ℕ
rank slots x = counted (λ y. is_below y x) slots

abbrev pub ranked : List Slot → Item → Item
ranked slots x = with_order (rank slots x) x

abbrev pub renumbered : List Slot → Option Item → Item → Item
renumbered slots low y = if behind low y then y else ranked slots y

pub record IsRenumbered (old now : List Slot) (heads : List (Option ℕ)) (number : ℕ) : Type 0 where
  pub low : Option Item
  pub long : length now ≡ length old
  pub items : (j : ℕ) → item_at now j ≡ option_map (renumbered old low) (item_at old j)
  pub links : (j : ℕ) → next_at now j ≡ next_at old j
  pub chains : length heads ≡ 64
  pub leads : (k : ℕ) → k < 64 → Leads old k low (get_or heads k None)
  pub count : number + counted (behind low) old ≡ counted (behind None) old

pub record IsAllNumbered (old now : List Slot) : Type 0 where
  pub long : length now ≡ length old
  pub items : (j : ℕ) → item_at now j ≡ option_map (ranked old) (item_at old j)
  pub links : (j : ℕ) → next_at now j ≡ next_at old j

maps_same : (f g : Item → Item) (o : Option Item) → ((y : Item) → o ≡ Some y → f y ≡ g y) → option_map f o ≡ option_map g o
maps_same f g None h = refl
maps_same f g (Some y) h = ap Some (h y refl)

-- ---- the next one
chosen : (b : Bool) (x y z : Item) → b ≡ true → y ≡ x → (if b then x else z) ≡ y
chosen b x y z e same = rw e (sym same)

renumbered_same : (slots : List Slot) (low : Option Item) (y : Item) (b : Bool) → behind low y ≡ b → renumbered slots low y ≡ (if b then y else ranked slots y)
renumbered_same slots low y b e = ap (λ c. if c then y else ranked slots y) e

pub still_there : {old now : List Slot} {heads : List (Option ℕ)} {number : ℕ} (r : IsRenumbered old now heads number) (j : ℕ) (y : Item)
    → item_at old j ≡ Some y → IsBehind r.low y → item_at now j ≡ Some y
still_there {old} r j y e b =
    r.items j ∙ ap (option_map (renumbered old r.low)) e ∙ ap Some (renumbered_same old r.low y true (behind_true r.low y b))

not_behind : (low : Option Item) (y x : Item) → behind low y ≡ false → IsBehind low x → is_below y x ≡ true
not_behind None y x e b = absurd (false≢true (sym e))
not_behind (Some w) y x e b = below_from w y x e b

module _ (old : List Slot) (heads : List (Option ℕ)) (low : Option Item) (i : ℕ) (f : IsFirstBehind old heads low i) where
  agree : (j : ℕ) (y : Item) → j ≢ i → item_at old j ≡ Some y → behind low y ≡ is_below f.item y
  agree j y apart e = by (behind low y) refl
    where
      by : (b : Bool) → behind low y ≡ b → b ≡ is_below f.item y
      by true h = elim (f.first j y e (true_behind low y h)) [ inl same ↦ absurd (apart same) | inr below ↦ sym below ]
      by false h =
          sym (false_from_ne_true (is_below f.item y)
          (λ below. false≢true (sym h ∙ behind_true low y (behind_trans low f.item y f.behind below))))

  -- those below it are those that do not come after the low one
  split_at : (b c : Bool) → (b ≡ true → c ≡ false) → (b ≡ false → c ≡ true) → one_if c + one_if b ≡ 1
  split_at true true h k = absurd (false≢true (sym (h refl)))
  split_at true false h k = refl
  split_at false true h k = refl
  split_at false false h k = absurd (false≢true (k refl))

  split_one : (j : ℕ) (y : Item) → item_at old j ≡ Some y → one_if (is_below y f.item) + one_if (behind low y) ≡ 1
  split_one j y e = split_at (behind low y) (is_below y f.item) above (λ h. not_behind low y f.item h f.behind)
    where
      above : behind low y ≡ true → is_below y f.item ≡ false
      above h = elim (f.first j y e (true_behind low y h)) [
        | inl same ↦
            let item = same_item old i y f.item (subst (λ m. item_at old m ≡ Some y) same e) f.there in
            subst (λ z. is_below z f.item ≡ false) (sym item) (not_below_itself f.item)
        | inr below ↦ not_above f.item y below
      ]

counted_split : (p q r : Item → Bool) (slots : List Slot)
    → ((j : ℕ) (y : Item) → item_at slots j ≡ Some y → one_if (p y) + one_if (q y) ≡ one_if (r y)) → counted p slots + counted q slots ≡ counted r slots
counted_split p q r [] h = refl
counted_split p q r (s ∷ slots) h =
    let rest = counted_split p q r slots (λ j y e. h (suc j) y e) in
    let one = here s.item (λ y e. h 0 y e) in
    omega arith
  where
    here : (o : Option Item) → ((y : Item) → o ≡ Some y → one_if (p y) + one_if (q y) ≡ one_if (r y)) → counts p o + counts q o ≡ counts r o
    here None k = refl
    here (Some y) k = k y refl

module _ (old now : List Slot) (was heads : List (Option ℕ)) (free : Option ℕ) (len number i : ℕ) (x : Item)
    (l : IsLinked old was free len) (r : IsRenumbered old now heads number) (lowest : IsLowest now heads (Some i)) (is : item_at now i ≡ Some x) where
  found : IsFirstBehind old heads r.low i
  found = lowest_of old now heads r.low r.chains l.apart r.leads (still_there r) i lowest

  found_item : x ≡ found.item
  found_item = same_item now i x found.item is (still_there r i found.item found.there found.behind)

  pub found_at : item_at old i ≡ Some x
  found_at = found.there ∙ ap Some (sym found_item)

  behind_one : counted (behind r.low) old ≡ counted (is_below found.item) old + 1
  behind_one =
      counted_more (behind r.low) (is_below found.item) old i found.item found.there (behind_true r.low found.item found.behind) (not_below_itself found.item)
      (agree old heads r.low i found)

  rank_is : rank old found.item ≡ number
  rank_is =
      let all = counted_split (λ y. is_below y found.item) (behind r.low) (behind None) old (split_one old heads r.low i found) in
      let count = r.count in
      omega arith

  pub number_fits : number + 1 ≤ counted (behind None) old
  number_fits =
      let one = behind_one in
      let count = r.count in
      omega arith

  next_items : (new : List Slot) (s : Slot) → new ≡ set now i s → s.item ≡ Some (with_order number x) → (j : ℕ)
      → item_at new j ≡ option_map (renumbered old (Some found.item)) (item_at old j)
  next_items new s e item j = ap (λ (t : List Slot). item_at t j) e ∙ by (cases_eq j i)
    where
      here : Some (with_order number x) ≡ option_map (renumbered old (Some found.item)) (Some found.item)
      here =
          ap (λ z. Some (with_order number z)) found_item ∙ ap (λ n. Some (with_order n found.item)) (sym rank_is)
          ∙ ap Some (sym (renumbered_same old (Some found.item) found.item false (not_below_itself found.item)))

      by : (j ≡ i) ⊎ (j ≡ i → ⊥) → item_at (set now i s) j ≡ option_map (renumbered old (Some found.item)) (item_at old j)
      by (inl same) =
          ap (item_at (set now i s)) same ∙ item_set_same now i s (at_within now i x is) ∙ item ∙ here
          ∙ ap (option_map (renumbered old (Some found.item))) (sym (subst (λ m. item_at old m ≡ Some found.item) (sym same) found.there))
      by (inr apart) =
          item_set_other now i j s apart ∙ r.items j
          ∙ maps_same (renumbered old r.low) (renumbered old (Some found.item)) (item_at old j)
          (λ y h. renumbered_same old r.low y (is_below found.item y) (agree old heads r.low i found j y apart h))

  next_leads : (k : ℕ) → k < 64 → Leads old k (Some found.item) (get_or (set heads (chain_of x) (next_at now i)) k None)
  next_leads k bound = by (cases_eq k (chain_of x))
    where
      chains : length heads ≡ 64
      chains = r.chains

      low : chain_of x < 64
      low = chain_below x

      here : get_or (set heads (chain_of x) (next_at now i)) (chain_of x) None ≡ next_at old i
      here = get_or-set_same heads (chain_of x) (next_at now i) None (omega (arith, low, chains)) ∙ r.links i

      past : (at : Option ℕ) → k ≢ chain_of x → Leads old k r.low at → Leads old k (Some found.item) at
      past None apart n = λ j y e c b. n j y e c (behind_trans r.low found.item y found.behind b)
      past (Some a) apart n = record {
        item = n.item;
        there = n.there;
        chain = n.chain;
        behind = after (found.first a n.item n.there n.behind);
        first = λ j y e c b. n.first j y e c (behind_trans r.low found.item y found.behind b);
      }
        where
          after : (a ≡ i) ⊎ (is_below found.item n.item ≡ true) → is_below found.item n.item ≡ true
          after (inr below) = below
          after (inl same) =
              let item = same_item old i n.item x (subst (λ m. item_at old m ≡ Some n.item) same n.there) found_at in
              absurd (apart (sym n.chain ∙ ap chain_of item))

      by : (k ≡ chain_of x) ⊎ (k ≡ chain_of x → ⊥) → Leads old k (Some found.item) (get_or (set heads (chain_of x) (next_at now i)) k None)
      by (inl same) =
          let kept : Leads old (chain_of x) (Some found.item) (next_at old i) =
          subst (λ z. Leads old (chain_of x) (Some z) (next_at old i)) found_item (l.links i x found_at) in
          subst (λ m. Leads old m (Some found.item) (get_or (set heads (chain_of x) (next_at now i)) m None)) (sym same)
          (subst (Leads old (chain_of x) (Some found.item)) (sym here) kept)
      by (inr apart) =
          subst (Leads old k (Some found.item)) (sym (get_or-set_other heads (chain_of x) k (next_at now i) None apart))
          (past (get_or heads k None) apart (r.leads k bound))

  pub renumber_on : (new : List Slot) (s : Slot) (heads_new : List (Option ℕ)) → new ≡ set now i s → s.item ≡ Some (with_order number x)
      → s.next ≡ next_at now i → heads_new ≡ set heads (chain_of x) (next_at now i) → IsRenumbered old new heads_new (number + 1)
  renumber_on new s heads_new e item link heads_are =
      let one = behind_one in
      let count = r.count in
      record {
        low = Some found.item;
        long = ap length e ∙ length-set now i s ∙ r.long;
        items = next_items new s e item;
        links = λ j. ap (λ (t : List Slot). next_at t j) e ∙ links j (cases_eq j i);
        chains = ap length heads_are ∙ length-set heads (chain_of x) (next_at now i) ∙ r.chains;
        leads = λ k bound. subst (λ (h : List (Option ℕ)). Leads old k (Some found.item) (get_or h k None)) (sym heads_are) (next_leads k bound);
        count = omega arith;
      }
    where
      links : (j : ℕ) → (j ≡ i) ⊎ (j ≡ i → ⊥) → next_at (set now i s) j ≡ next_at old j
      links j (inl same) =
          ap (next_at (set now i s)) same ∙ next_set_same now i s (at_within now i x is) ∙ link ∙ r.links i ∙ ap (next_at old) (sym same)
      links j (inr apart) = next_set_other now i j s apart ∙ r.links j

no_slot : (at : Option ℕ) → ((i : ℕ) → at ≡ Some i → ⊥) → at ≡ None
no_slot None h = refl
no_slot (Some i) h = absurd (h i refl)

pub renumber_ends : {old now : List Slot} {was heads : List (Option ℕ)} {free : Option ℕ} {len number : ℕ} (l : IsLinked old was free len)
    (r : IsRenumbered old now heads number) (at : Option ℕ) → IsLowest now heads at → ((i : ℕ) → at ≡ Some i → ⊥) → IsAllNumbered old now
renumber_ends {old} {now} {was} {heads} l r at lowest none = record {
  long = r.long;
  items = λ j. r.items j ∙ maps_same (renumbered old r.low) (ranked old) (item_at old j) (done j);
  links = r.links;
}
  where
    done : (j : ℕ) (y : Item) → item_at old j ≡ Some y → renumbered old r.low y ≡ ranked old y
    done j y e =
        renumbered_same old r.low y false (false_from_ne_true (behind r.low y)
        (λ b.
        let no_head = subst (IsLowest now heads) (no_slot at none) lowest in
        none_of old now heads r.low r.chains l.apart r.leads (still_there r) no_head j y e (true_behind r.low y b)))

-- ---- all of them
chain_ranked : (slots : List Slot) (y : Item) → chain_of (ranked slots y) ≡ chain_of y
unfolding chain_of
chain_ranked slots y = refl

length-numbered : (n : ℕ) (items : List Item) → length (numbered n items) ≡ length items
length-numbered n [] = refl
length-numbered n (x ∷ xs) = ap suc (length-numbered (suc n) xs)

ranks_less : (slots : List Slot) (i : ℕ) (x y : Item) → item_at slots i ≡ Some x → is_below x y ≡ true → rank slots x < rank slots y
ranks_less slots i x y e below =
    counted_less (λ z. is_below z y) (λ z. is_below z x) slots i x e below (not_below_itself x) (λ j z h lower. below_trans z x y lower below)

ranks_most : (slots : List Slot) (x y : Item) → is_below x y ≡ false → rank slots y ≤ rank slots x
ranks_most slots x y not_below =
    counted_most (λ z. is_below z x) (λ z. is_below z y) slots
    (λ j z h lower. true_from_ne_false (is_below z x) (λ e. false≢true (sym (not_above_trans y x z not_below e) ∙ lower)))

ranked_below : (slots : List Slot) (i : ℕ) (x y : Item) → item_at slots i ≡ Some x → is_below (ranked slots x) (ranked slots y) ≡ is_below x y
ranked_below slots i x y e = elim (three_ways x.time y.time) [
  | inl earlier ↦ below-earlier (ranked slots x) (ranked slots y) earlier ∙ sym (below-earlier x y earlier)
  | inr (inl same) ↦ below-same (ranked slots x) (ranked slots y) same ∙ by (is_below x y) refl
  | inr (inr later) ↦ below-later (ranked slots x) (ranked slots y) later ∙ sym (below-later x y later)
]
  where
    by : (b : Bool) → is_below x y ≡ b → nat_lt (rank slots x) (rank slots y) ≡ b
    by true h = lt-ltb (rank slots x) (rank slots y) (ranks_less slots i x y e h)
    by false h = le-ltb (rank slots x) (rank slots y) (ranks_most slots x y h)

inserted-map : (f : Item → Item) (x : Item) (items : List Item) → ((y : Item) → is_below (f x) (f y) ≡ is_below x y)
    → inserted (f x) (map f items) ≡ map f (inserted x items)
inserted-map f x [] h = refl
inserted-map f x (y ∷ ys) h = ap (λ b. if b then f x ∷ f y ∷ map f ys else f y ∷ inserted (f x) (map f ys)) (h y) ∙ by (is_below x y) (inserted-map f x ys h)
  where
    by : (b : Bool) → inserted (f x) (map f ys) ≡ map f (inserted x ys)
        → (if b then f x ∷ f y ∷ map f ys else f y ∷ inserted (f x) (map f ys)) ≡ map f (if b then x ∷ y ∷ ys else y ∷ inserted x ys)
    by true e = refl
    by false e = ap (λ (l : List Item). f y ∷ l) e

with-map : (f : Item → Item) (o : Option Item) (items : List Item) → ((x y : Item) → o ≡ Some x → is_below (f x) (f y) ≡ is_below x y)
    → with_item (option_map f o) (map f items) ≡ map f (with_item o items)
with-map f None items h = refl
with-map f (Some x) items h = inserted-map f x items (λ y. h x y refl)

in_order-map : (f : Item → Item) (old now : List Slot) → length now ≡ length old → ((j : ℕ) → item_at now j ≡ option_map f (item_at old j))
    → ((j : ℕ) (x y : Item) → item_at old j ≡ Some x → is_below (f x) (f y) ≡ is_below x y) → in_order now ≡ map f (in_order old)
in_order-map f [] [] long items h = refl
in_order-map f [] (t ∷ now) long items h = absurd (omega arith)
in_order-map f (s ∷ old) [] long items h = absurd (omega arith)
in_order-map f (s ∷ old) (t ∷ now) long items h =
    let rest = in_order-map f old now (omega arith) (λ j. items (suc j)) (λ j x y e. h (suc j) x y e) in
    ap₂ with_item (items 0) rest ∙ with-map f s.item (in_order old) (λ x y e. h 0 x y e)

All-every : (P : Item → Type 0) (items : List Item) → ((x : Item) → P x) → AllByRecursion P items
All-every P [] h = tt
All-every P (x ∷ xs) h = (h x, All-every P xs h)

mapped_back : (f : Item → Item) (o : Option Item) (z : Item) → option_map f o ≡ Some z → (y : Item) × (o ≡ Some y) × (f y ≡ z)
mapped_back f None z e = absurd (none-some z e)
mapped_back f (Some y) z e = (y, refl, same_Some (f y) z e)

module _ (old now : List Slot) (heads : List (Option ℕ)) (free : Option ℕ) (len : ℕ) (l : IsLinked old heads free len) (a : IsAllNumbered old now) where
  pub numbered_order : in_order now ≡ numbered 0 (in_order old)
  numbered_order =
      in_order-map (ranked old) old now a.long a.items (λ j x y e. ranked_below old j x y e)
      ∙ numbered_ranks (rank old) 0 (in_order old) l.sorted (All-every (HasRank (rank old) 0 (in_order old)) (in_order old) ranks)
    where
      ranks : (z : Item) → rank old z ≡ 0 + passing (λ w. is_below w z) (in_order old)
      ranks z = let same = passing-in_order (λ w. is_below w z) old in omega arith

  back : (j : ℕ) (z : Item) → item_at now j ≡ Some z → (y : Item) × (item_at old j ≡ Some y) × (ranked old y ≡ z)
  back j z e = mapped_back (ranked old) (item_at old j) z (sym (a.items j) ∙ e)

  there : (j : ℕ) (y : Item) → item_at old j ≡ Some y → item_at now j ≡ Some (ranked old y)
  there j y e = a.items j ∙ ap (option_map (ranked old)) e

  leads_numbered : (k : ℕ) (low new_low : Option Item) (at : Option ℕ) → ((y : Item) → IsBehind low y → IsBehind new_low (ranked old y))
      → ((y : Item) → IsBehind new_low (ranked old y) → IsBehind low y) → Leads old k low at → Leads now k new_low at
  leads_numbered k low new_low None to from n = λ j z e c b.
      let was = back j z e in
      n j was.0 was.1 (sym (chain_ranked old was.0) ∙ ap chain_of was.2 ∙ c) (from was.0 (subst (IsBehind new_low) (sym was.2) b))
  leads_numbered k low new_low (Some i) to from n = record {
    item = ranked old n.item;
    there = there i n.item n.there;
    chain = chain_ranked old n.item ∙ n.chain;
    behind = to n.item n.behind;
    first = λ j z e c b.
        let was = back j z e in
        elim (n.first j was.0 was.1 (sym (chain_ranked old was.0) ∙ ap chain_of was.2 ∙ c) (from was.0 (subst (IsBehind new_low) (sym was.2) b))) [
          | inl same ↦ inl same
          | inr lower ↦ inr (subst (λ v. is_below (ranked old n.item) v ≡ true) was.2 (ranked_below old i n.item was.0 n.there ∙ lower))
        ];
  }

  links_numbered : (j : ℕ) (z : Item) → item_at now j ≡ Some z → Leads now (chain_of z) (Some z) (next_at now j)
  links_numbered j z e =
      let was = back j z e in
      let chain = chain_ranked old was.0 in
      let kept = leads_numbered (chain_of was.0) (Some was.0) (Some (ranked old was.0)) (next_at old j)
      (λ y b. ranked_below old j was.0 y was.1 ∙ b) (λ y b. sym (ranked_below old j was.0 y was.1) ∙ b) (l.links j was.0 was.1) in
      subst (λ v. Leads now (chain_of v) (Some v) (next_at now j)) was.2
      (subst (λ k. Leads now k (Some (ranked old was.0)) (next_at now j)) (sym chain)
      (subst (Leads now (chain_of was.0) (Some (ranked old was.0))) (sym (a.links j)) kept))

  apart_numbered : (i j : ℕ) (y z : Item) → item_at now i ≡ Some y → item_at now j ≡ Some z → y.order ≡ z.order → i ≡ j
  apart_numbered i j y z e h same = by (is_below v w) refl (is_below w v) refl
    where
      v : Item
      v = (back i y e).0

      w : Item
      w = (back j z h).0

      v_at : item_at old i ≡ Some v
      v_at = (back i y e).1

      w_at : item_at old j ≡ Some w
      w_at = (back j z h).1

      ranks : rank old v ≡ rank old w
      ranks = ap (λ (x : Item). x.order) (back i y e).2 ∙ same ∙ ap (λ (x : Item). x.order) (sym (back j z h).2)

      by : (b : Bool) → is_below v w ≡ b → (c : Bool) → is_below w v ≡ c → i ≡ j
      by true low c k = let less = ranks_less old i v w v_at low in absurd (omega (arith, less, ranks))
      by false low true k = let less = ranks_less old j w v w_at k in absurd (omega (arith, less, ranks))
      by false low false k = elim (cases_eq v.order w.order) [
        | inl order ↦ l.apart i j v w v_at w_at order
        | inr orders ↦ absurd (false≢true (sym k ∙ below_or_above v w (λ s. orders (sym s)) low))
      ]

  pub numbered_linked : IsLinked now heads free len
  numbered_linked =
      let order = numbered_order in
      let many = length-numbered 0 (in_order old) in
      let same : length (in_order now) ≡ length (numbered 0 (in_order old)) = ap length order in
      let count = l.count in
      let long = a.long in
      record {
        sorted = subst IsSorted (sym order) (IsSorted-numbered 0 (in_order old) l.sorted);
        apart = apart_numbered;
        chains = l.chains;
        firsts = λ k bound. leads_numbered k None None (get_or heads k None) (λ y b. tt) (λ y b. tt) (l.firsts k bound);
        links = links_numbered;
        count = omega arith;
        path = l.path;
        room = l.room ∙ sym a.long;
        freed = free_same old now free l.path (λ j. Unit {0}) (omega arith)
            (λ j t none h. (a.items j ∙ ap (option_map (ranked old)) none, a.links j)) (All-any l.path) l.freed;
      }

  pub numbered_first : (at : Option ℕ) → IsFirst old at → IsFirst now at
  numbered_first None none = numbered_order ∙ ap (numbered 0) none
  numbered_first (Some i) first = record {
    item = ranked old first.item;
    there = there i first.item first.there;
    least = λ j z e.
        let was = back j z e in
        elim (first.least j was.0 was.1) [
          | inl same ↦ inl same
          | inr lower ↦ inr (subst (λ v. is_below (ranked old first.item) v ≡ true) was.2 (ranked_below old i first.item was.0 first.there ∙ lower))
        ];
  }

  last_numbered : (k : ℕ) (at : Option ℕ) → IsLast old k at → IsLast now k at
  last_numbered k None n = λ j z e c. let was = back j z e in n j was.0 was.1 (sym (chain_ranked old was.0) ∙ ap chain_of was.2 ∙ c)
  last_numbered k (Some i) n = record {
    item = ranked old n.item;
    there = there i n.item n.there;
    chain = chain_ranked old n.item ∙ n.chain;
    last = λ j z e c.
        let was = back j z e in
        elim (n.last j was.0 was.1 (sym (chain_ranked old was.0) ∙ ap chain_of was.2 ∙ c)) [
          | inl same ↦ inl same
          | inr lower ↦ inr (subst (λ v. is_below v (ranked old n.item) ≡ true) was.2 (ranked_below old j was.0 n.item was.1 ∙ lower))
        ];
  }

  pub numbered_tails : (tails : List (Option ℕ)) → HasTails old tails → HasTails now tails
  numbered_tails tails t = record { chains = t.chains; lasts = λ k bound. last_numbered k (get_or tails k None) (t.lasts k bound) }
