-- A text has one fault at most.
use Rattle.std.proofs.Common.{◌≡◌, ◌⊎◌, inl, inr, ℕ, ◌+◌, List, [], ◌∷◌, ◌++◌, Option, Some, length, sym, ap, subst, ◌∙◌, refl}
use Rattle.tdl_control.specs.declared.keys.Key.{Key}
use Rattle.tdl_control.specs.declared.maps.reading.MapKind.{MapKind}
use Rattle.tdl_control.specs.Key.{name_of}
use Rattle.tdl_control.specs.Setting.{Setting}
use Rattle.tdl_control.specs.Map.{KeyValues, entry_text, IsTyped}
use Rattle.tdl_control.specs.Reading.{IsCutAt, front_text, IsAbove, IsItemFault, no_equals, unknown_key, not_above, bad_value, IsMapFault}
use Rattle.tdl_control.specs.ReadLaws.{ReadLaws}
use Rattle.tdl_control.proofs.PutLemmas.{typed_head, typed_tail}
use Rattle.tdl_control.proofs.CutLemmas.{cuts_agree, entry_from_text, front_cut}
use Rattle.tdl_control.proofs.ReadLemmas.{IsEntryIn, entry_in-cons, no_cut, one_name, one_key, no_fault_in, fault_in_no_map, map_from_print}

-- an item after entries has one fault at most
one_item_fault : (es : KeyValues) (item : List ℕ) (kind other : MapKind) (i j : ℕ) → IsItemFault es item kind i → IsItemFault es item other j
    → (kind ≡ other) × (i ≡ j)
one_item_fault es item kind other i j (no_equals none) (no_equals too) = (refl, refl)
one_item_fault es item kind other i j (no_equals none) (unknown_key name value cut unknown) = absurd (no_cut item name value none cut)
one_item_fault es item kind other i j (no_equals none) (not_above key value cut low) = absurd (no_cut item (name_of key) value none cut)
one_item_fault es item kind other i j (no_equals none) (bad_value key value cut above refused) = absurd (no_cut item (name_of key) value none cut)
one_item_fault es item kind other i j (unknown_key name value cut unknown) (no_equals none) = absurd (no_cut item name value none cut)
one_item_fault es item kind other i j (unknown_key name value cut unknown) (unknown_key name' value' cut' unknown') = (refl, refl)
one_item_fault es item kind other i j (unknown_key name value cut unknown) (not_above key text there low) =
    absurd (unknown key (one_name item (name_of key) name text value there cut))
one_item_fault es item kind other i j (unknown_key name value cut unknown) (bad_value key text there above refused) =
    absurd (unknown key (one_name item (name_of key) name text value there cut))
one_item_fault es item kind other i j (not_above key value cut low) (no_equals none) = absurd (no_cut item (name_of key) value none cut)
one_item_fault es item kind other i j (not_above key value cut low) (unknown_key name text there unknown) =
    absurd (unknown key (one_name item (name_of key) name value text cut there))
one_item_fault es item kind other i j (not_above key value cut low) (not_above key' value' cut' low') = (refl, refl)
one_item_fault es item kind other i j (not_above key value cut low) (bad_value key' text there above refused) =
    absurd (low (subst (IsAbove es) (one_key item text value key' key there cut) above))
one_item_fault es item kind other i j (bad_value key value cut above refused) (no_equals none) = absurd (no_cut item (name_of key) value none cut)
one_item_fault es item kind other i j (bad_value key value cut above refused) (unknown_key name text there unknown) =
    absurd (unknown key (one_name item (name_of key) name value text cut there))
one_item_fault es item kind other i j (bad_value key value cut above refused) (not_above key' text there low) =
    absurd (low (subst (IsAbove es) (one_key item value text key key' cut there) above))
one_item_fault es item kind other i j (bad_value key value cut above refused) (bad_value key' text there above' refused') =
    (refl, ap (λ (k : Key). length (name_of k) + 1) (one_key item value text key key' cut there))

-- two items of one text are the same after the same entries, or one is an entry before the other
Meets : KeyValues → KeyValues → List ℕ → List ℕ → Type 0
Meets ds es item other = ((ds ≡ es) × (item ≡ other)) ⊎ (IsEntryIn es ds item ⊎ IsEntryIn ds es other)

-- so it is with one entry more in front of both
meets-cons : (c b : Key × Setting) (ds es : KeyValues) (item other : List ℕ) → c ≡ b → Meets ds es item other → Meets (c ∷ ds) (b ∷ es) item other
unfolding Meets
meets-cons c b ds es item other first (inl same) = inl (let entries = same.0 in (cc, same.1))
meets-cons c b ds es item other first (inr (inl found)) =
    inr (inl (subst (λ (x : Key × Setting). IsEntryIn (b ∷ es) (x ∷ ds) item) (sym first) (entry_in-cons b es ds item found)))
meets-cons c b ds es item other first (inr (inr found)) =
    inr (inr (subst (λ (x : Key × Setting). IsEntryIn (x ∷ ds) (b ∷ es) other) (sym first) (entry_in-cons b ds es other found)))

-- two items of one text do so
meet : (ds es : KeyValues) (left left' item other : List ℕ) (rest rest' : Option (List ℕ)) → IsTyped ds → IsTyped es
    → front_text ds ++ left ≡ front_text es ++ left' → IsCutAt 32 left item rest → IsCutAt 32 left' other rest' → Meets ds es item other
unfolding Meets
meet [] [] left left' item other rest rest' typed_d typed_e same cut cut' =
    inl (refl, (cuts_agree 32 left' item other rest rest' (subst (λ text. IsCutAt 32 text item rest) same cut) cut').0)
meet [] (b ∷ es) left left' item other rest rest' typed_d typed_e same cut cut' =
    let agree = cuts_agree 32 left (entry_text b) item (Some (front_text es ++ left')) rest
    (subst (λ text. IsCutAt 32 text (entry_text b) (Some (front_text es ++ left'))) (sym same) (front_cut b es left' typed_e)) cut in
    inr (inl (record { entry = b; others = es; parts = refl; same = agree.0 }))
meet (c ∷ ds) [] left left' item other rest rest' typed_d typed_e same cut cut' =
    let agree = cuts_agree 32 left' (entry_text c) other (Some (front_text ds ++ left)) rest'
    (subst (λ text. IsCutAt 32 text (entry_text c) (Some (front_text ds ++ left))) same (front_cut c ds left typed_d)) cut' in
    inr (inr (record { entry = c; others = ds; parts = refl; same = agree.0 }))
meet (c ∷ ds) (b ∷ es) left left' item other rest rest' typed_d typed_e same cut cut' =
    let agree = cuts_agree 32 (front_text (b ∷ es) ++ left') (entry_text c) (entry_text b) (Some (front_text ds ++ left)) (Some (front_text es ++ left'))
    (subst (λ text. IsCutAt 32 text (entry_text c) (Some (front_text ds ++ left))) same (front_cut c ds left typed_d)) (front_cut b es left' typed_e) in
    let first : c ≡ b =
    entry_from_text c b (typed_head c ds typed_d) (typed_head b es typed_e) agree.0 in
    let texts : front_text ds ++ left ≡ front_text es ++ left' = let both = agree.1 in cc in
    meets-cons c b ds es item other first
    (meet ds es left left' item other rest rest' (typed_tail c ds typed_d)
    (typed_tail b es typed_e) texts cut cut')

-- faults whose items meet are the same
same_fault : (text : List ℕ) (kind other : MapKind) (at there : ℕ) (one : IsMapFault text kind at) (two : IsMapFault text other there)
    → Meets one.entries two.entries one.item two.item → (kind ≡ other) × (at ≡ there)
unfolding Meets
same_fault text kind other at there one two (inl same) =
    let moved = subst (λ es. IsItemFault es one.item kind one.offset) same.0 one.fault in
    let moved_too = subst (λ item. IsItemFault two.entries item kind one.offset) same.1 moved in
    let faults = one_item_fault two.entries two.item kind other one.offset two.offset moved_too two.fault in
    (faults.0, one.place ∙ ap (λ es. length (front_text es) + one.offset) same.0 ∙ ap (λ n. length (front_text two.entries) + n) faults.1 ∙ sym two.place)
same_fault text kind other at there one two (inr (inl found)) =
    absurd (no_fault_in two.entries one.entries one.item kind one.offset two.after.is_map found one.fault)
same_fault text kind other at there one two (inr (inr found)) =
    absurd (no_fault_in one.entries two.entries two.item other two.offset one.after.is_map found two.fault)

one_fault : (text : List ℕ) (kind other : MapKind) (at there : ℕ) → IsMapFault text kind at → IsMapFault text other there → (kind ≡ other) × (at ≡ there)
one_fault text kind other at there one two =
    same_fault text kind other at there one two
    (meet one.entries two.entries one.after.left two.after.left one.item two.item one.after.rest two.after.rest one.after.is_map.typed two.after.is_map.typed
    (sym one.after.parts ∙ two.after.parts) one.after.cut two.after.cut)

pub read_laws : ReadLaws
read_laws = record {
  one_map = λ one other valid valid' same. map_from_print one other valid.typed valid'.typed same;
  no_fault = λ entries kind at valid fault. fault_in_no_map _ kind at entries fault valid refl;
  one_fault = one_fault;
}
