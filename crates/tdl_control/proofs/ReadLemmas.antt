-- How a text of entries grows by an item, how long it is, and that a text with a fault is no map's.
use Rattle.std.proofs.Common.{◌≡◌, ◌≢◌, ℕ, ◌+◌, ◌-◌, ◌*◌, ◌<◌, ◌≤◌, List, [], ◌∷◌, ◌++◌, codes, Option, Some, None, length, Result, Ok, Err}
use Rattle.std.proofs.Common.{get_or, nat_lt, sym, ap, subst, ◌∙◌, refl, arith, append-nil, append_assoc, length-append}
use Rattle.std.specs.List.{All}
use Rattle.std.specs.Prelude.{IsTrue, ◌↔◌, slice_get}
use Rattle.std.proofs.lemmas.Option.{get_or_from_slice_get, slice_get_within}
use Rattle.std.proofs.lemmas.Bool.Decides.{nat_tests}
use Rattle.std.proofs.lemmas.Fmt.{length_signed_le}
use Rattle.std.proofs.lemmas.Grind.{flat_map-append}
use Rattle.std.proofs.lemmas.List.Elements.{All-nil, All-cons, All-weaker}
use Rattle.std.specs.Result.{MatchResult}
use Rattle.std.specs.Prelude.{IfOk, IfErr}
use Rattle.tdl_control.specs.declared.faults.Faulted.{Faulted}
use Rattle.tdl_control.specs.declared.faults.Faulted.TheVariants.{NoMemory, At}
use Rattle.tdl_control.specs.declared.keys.Key.{Key}
use Rattle.tdl_control.specs.declared.maps.reading.MapKind.{MapKind}
use Rattle.tdl_control.specs.declared.maps.reading.MapKind.TheVariants.{Form}
use Rattle.tdl_control.specs.Key.{name_of, key_count, rank}
use Rattle.tdl_control.specs.Setting.{Setting, Number, Spelling, setting_text, IsSettingOf}
use Rattle.tdl_control.specs.Map.{KeyValues, put, entry_text, spaced_text, print_of, IsOrdered, IsTyped, IsMap}
use Rattle.tdl_control.specs.Reading.{behind, IsCutAt, front_text, IsAbove, IsItemFault, no_equals, unknown_key, not_above, bad_value, IsMapFault}
use Rattle.tdl_control.specs.Reading.{Refuses}
use Rattle.tdl_control.specs.inside.ReadSteps.{IsReadTo}
use Rattle.tdl_control.proofs.KeyLemmas.{rank_below, name_short, key_from_name}
use Rattle.tdl_control.proofs.PutLemmas.{All-head, All-tail, AllPairs-head, AllPairs-tail, typed_head, typed_tail}
use Rattle.tdl_control.proofs.CutLemmas.{cuts_agree, entry_cut, entry_from_text, print_cut, print_rest, front_cut}

-- a key above those of the entries goes behind them
pub put-above : (es : KeyValues) (k : Key) (v : Setting) → IsAbove es k → put es k v ≡ es ++ (k, v) ∷ []
put-above [] k v above = refl
put-above (e ∷ es) k v above =
    let first : rank e.0 < rank k = All-head (λ entry. rank entry.0 < rank k) e es above in
    grind (arith, nat_tests, first, put-above es k v (All-tail (λ entry. rank entry.0 < rank k) e es above))

-- a key is above those of entries in order where it is above the last
pub above_last : (es : KeyValues) (k j : Key) (v : Setting) (x y : ℕ) → IsOrdered es → slice_get es (length es - 1) ≡ Some (j, v) → x ≡ rank j → y ≡ rank k
    → IsTrue (nat_lt x y) ↔ IsAbove es k
above_last es k j v x y ordered here at_x at_y = (
  λ lower i d within.
      let last_rank : rank (get_or es (length es - 1) d).0 ≡ rank j =
      ap (λ (e : Key × Setting). rank e.0) (get_or_from_slice_get es (length es - 1) (j, v) d here) in
      let below : i < length es - 1 → rank (get_or es i d).0 < rank (get_or es (length es - 1) d).0 =
      λ before. ordered i (length es - 1) d before (omega arith) in
      let same : i ≡ length es - 1 → rank (get_or es i d).0 ≡ rank (get_or es (length es - 1) d).0 = λ last. ap (λ n. rank (get_or es n d).0) last in
      let test : x < y = grind (arith, nat_tests, lower) in
      grind (arith, below, same),
  λ above.
      let within : length es - 1 < length es = slice_get_within es (length es - 1) (j, v) here in
      let last : rank (get_or es (length es - 1) (j, v)).0 < rank k = above (length es - 1) (j, v) within in
      let last_rank : rank (get_or es (length es - 1) (j, v)).0 ≡ rank j =
      ap (λ (e : Key × Setting). rank e.0) (get_or_from_slice_get es (length es - 1) (j, v) (j, v) here) in
      grind (arith, nat_tests),
)

-- one entry more
front_text-push : (es : KeyValues) (e : Key × Setting) → front_text (es ++ e ∷ []) ≡ front_text es ++ (entry_text e ++ codes " ")
front_text-push es e =
    flat_map-append (λ entry. entry_text entry ++ codes " ") es (e ∷ []) ∙ ap (λ piece. front_text es ++ piece) (append-nil (entry_text e ++ codes " "))

spaced_text-push : (es : KeyValues) (e : Key × Setting) → spaced_text (es ++ e ∷ []) ≡ codes " " ++ print_of (es ++ e ∷ [])
spaced_text-push [] e = refl
spaced_text-push (d ∷ ds) e = refl

print_of-push : (es : KeyValues) (e : Key × Setting) → print_of (es ++ e ∷ []) ≡ front_text es ++ entry_text e
print_of-push [] e = append-nil (entry_text e)
print_of-push (d ∷ ds) e =
    ap (λ text. entry_text d ++ text) (spaced_text-push ds e ∙ ap (λ text. codes " " ++ text) (print_of-push ds e))
    ∙ sym (append_assoc (entry_text d ++ codes " ") (front_text ds) (entry_text e) ∙ append_assoc (entry_text d) (codes " ") (front_text ds ++ entry_text e))

-- what is read up to behind an item that is the next entry
pub read_more : (text : List ℕ) (es : KeyValues) (k : Key) (v : Setting) (item left : List ℕ) (after : Option (List ℕ)) (new : KeyValues)
    → text ≡ front_text es ++ left → IsCutAt 32 left item after → entry_text (k, v) ≡ item → IsAbove es k → new ≡ put es k v → IsReadTo text new after
read_more text es k v item left None new so_far cut same above is =
    ap print_of (is ∙ put-above es k v above) ∙ print_of-push es (k, v)
    ∙ ap (λ piece. front_text es ++ piece) (same ∙ sym (append-nil item) ∙ sym cut.parts) ∙ sym so_far
read_more text es k v item left (Some more) new so_far cut same above is =
    so_far
    ∙ ap (λ piece. front_text es ++ piece) (cut.parts ∙ ap (λ piece. piece ++ 32 ∷ more) (sym same) ∙ sym (append_assoc (entry_text (k, v)) (codes " ") more))
    ∙ sym (append_assoc (front_text es) (entry_text (k, v) ++ codes " ") more)
    ∙ ap (λ front. front ++ more) (sym (front_text-push es (k, v)) ∙ ap front_text (sym (is ∙ put-above es k v above)))

-- what is left stands behind the entries
pub left_parts : (text : List ℕ) (es : KeyValues) (left : List ℕ) (rest : Option (List ℕ)) → IsReadTo text es rest → rest ≡ Some left
    → text ≡ front_text es ++ left
left_parts text es left rest read_to is = subst (IsReadTo text es) is read_to

-- how many bytes stand before what is left
pub length_before : (text front left : List ℕ) → text ≡ front ++ left → length text - length left ≡ length front
length_before text front left parts = omega (arith, ap length parts, length-append front left)

-- ranks that rise above a number are few
few_above : (es : KeyValues) (n : ℕ) → n ≤ key_count → IsOrdered es → All (λ e. n ≤ rank e.0) es → length es + n ≤ key_count
few_above [] n within ordered above = omega arith
few_above (e ∷ es) n within ordered above =
    let here : n ≤ rank e.0 = All-head (λ e. n ≤ rank e.0) e es above in
    let below = rank_below e.0 in
    let later : All (λ d. rank e.0 + 1 ≤ rank d.0) es =
    All-weaker (λ d. rank e.0 < rank d.0) (λ d. rank e.0 + 1 ≤ rank d.0) (λ d h. omega (arith, h)) es
    (AllPairs-head (λ c d. rank c.0 < rank d.0) e es ordered) in
    let rest = few_above es (rank e.0 + 1) (omega arith) (AllPairs-tail (λ c d. rank c.0 < rank d.0) e es ordered) later in
    omega (arith, rest)

-- a map has no more entries than there are keys
pub map_short : (es : KeyValues) → IsMap es → length es ≤ key_count
map_short es valid = let few = few_above es 0 (omega arith) valid.ordered (λ i d within. omega arith) in omega (arith, few)

-- the text of a setting is short
setting_short : (k : Key) (v : Setting) → IsSettingOf k v → length (setting_text v) ≤ 32
setting_short k (Number z) fits = let short = length_signed_le 10 z (omega (arith, fits.1)) (omega (arith, fits.1)) in omega (arith, short)
setting_short k (Spelling bytes) fits = fits.1.short

entry_short : (e : Key × Setting) → IsSettingOf e.0 e.1 → length (entry_text e) ≤ 43
entry_short e fits =
    omega (
      arith,
      name_short e.0,
      setting_short e.0 e.1 fits,
      length-append (name_of e.0 ++ codes "=") (setting_text e.1),
      length-append (name_of e.0) (codes "="),
    )

front_by_entries : (es : KeyValues) → IsTyped es → length (front_text es) ≤ 44 * length es
front_by_entries [] typed = omega arith
front_by_entries (e ∷ es) typed =
    omega (
      arith,
      entry_short e (typed_head e es typed),
      front_by_entries es (typed_tail e es typed),
      length-append (entry_text e ++ codes " ") (front_text es),
      length-append (entry_text e) (codes " "),
    )

-- the entries of a map take few bytes
pub front_short : (es : KeyValues) → IsMap es → length (front_text es) ≤ 44 * key_count
front_short es valid =
    omega (arith, front_by_entries es valid.typed, map_short es valid)

-- a fault stands near an item's start
pub offset_small : (es : KeyValues) (item : List ℕ) (kind : MapKind) (offset : ℕ) → IsItemFault es item kind offset → offset ≤ 11
offset_small es item kind offset (no_equals none) = omega arith
offset_small es item kind offset (unknown_key name value cut none) = omega arith
offset_small es item kind offset (not_above key value cut not) = omega arith
offset_small es item kind offset (bad_value key value cut above none) = omega (arith, name_short key)

-- an item without a `=`
pub fault_of_form : (es : KeyValues) (item first : List ℕ) (rest : Option (List ℕ)) → IsCutAt 61 item first rest → rest ≡ None → IsItemFault es item Form 0
fault_of_form es item first rest cut is =
    let whole : item ≡ first = cut.parts ∙ ap (λ r. first ++ behind 61 r) is ∙ append-nil first in
    no_equals (subst (λ bytes. All (λ byte. byte ≢ 61) bytes) (sym whole) cut.first)

-- the entries of a map begin with these, and go on with one that is this item
pub record IsEntryIn (m es : KeyValues) (item : List ℕ) : Type 0 where
  pub entry : Key × Setting
  pub others : KeyValues
  pub parts : m ≡ es ++ entry ∷ others
  pub same : entry_text entry ≡ item

pub entry_in-cons : (e : Key × Setting) (m es : KeyValues) (item : List ℕ) → IsEntryIn m es item → IsEntryIn (e ∷ m) (e ∷ es) item
entry_in-cons e m es item found = record { entry = found.entry; others = found.others; parts = ap (λ (xs : KeyValues). e ∷ xs) found.parts; same = found.same }

-- a map's print that goes on behind entries has the next of its own there
entry_in : (m es : KeyValues) (left item : List ℕ) (rest : Option (List ℕ)) → IsTyped m → IsTyped es → m ≢ [] → print_of m ≡ front_text es ++ left
    → IsCutAt 32 left item rest → IsEntryIn m es item
entry_in [] es left item rest typed_m typed_es some same cut = absurd (some refl)
entry_in (e ∷ m) [] left item rest typed_m typed_es some same cut = record {
  entry = e;
  others = m;
  parts = refl;
  same = (cuts_agree 32 left (entry_text e) item (print_rest m) rest
      (subst (λ text. IsCutAt 32 text (entry_text e) (print_rest m)) same (print_cut e m typed_m)) cut).0;
}
entry_in (e ∷ []) (d ∷ ds) left item rest typed_m typed_es some same cut =
    let cuts = cuts_agree 32 (print_of (e ∷ [])) (entry_text e) (entry_text d) None (Some (front_text ds ++ left)) (print_cut e [] typed_m)
    (subst (λ text. IsCutAt 32 text (entry_text d) (Some (front_text ds ++ left))) (sym same) (front_cut d ds left typed_es)) in
    let texts = cuts.1 in
    absurd cc
entry_in (e ∷ f ∷ m) (d ∷ ds) left item rest typed_m typed_es some same cut =
    let cuts = cuts_agree 32 (print_of (e ∷ f ∷ m)) (entry_text e) (entry_text d) (Some (print_of (f ∷ m))) (Some (front_text ds ++ left))
    (print_cut e (f ∷ m) typed_m)
    (subst (λ text. IsCutAt 32 text (entry_text d) (Some (front_text ds ++ left))) (sym same) (front_cut d ds left typed_es)) in
    let first : e ≡ d =
    entry_from_text e d (typed_head e (f ∷ m) typed_m) (typed_head d ds typed_es) cuts.0 in
    let texts : print_of (f ∷ m) ≡ front_text ds ++ left = let both = cuts.1 in cc in
    let found : IsEntryIn (f ∷ m) ds item = entry_in (f ∷ m) ds left item rest (typed_tail e (f ∷ m) typed_m)
    (typed_tail d ds typed_es) (λ none. cc) texts cut in
    subst (λ (c : Key × Setting). IsEntryIn (c ∷ f ∷ m) (d ∷ ds) item) (sym first) (entry_in-cons d (f ∷ m) ds item found)

-- what holds of all elements holds of one in the middle
All-middle : {X : Type 0} (P : X → Type 0) (xs : List X) (y : X) (ys : List X) → All P (xs ++ y ∷ ys) → P y
All-middle P [] y ys each = All-head P y ys each
All-middle P (x ∷ xs) y ys each = All-middle P xs y ys (All-tail P x (xs ++ y ∷ ys) each)

-- an entry in the middle of entries in order is above those before it
above_before : (es : KeyValues) (e : Key × Setting) (others : KeyValues) → IsOrdered (es ++ e ∷ others) → IsAbove es e.0
above_before [] e others ordered = λ i d within. absurd (omega arith)
above_before (d ∷ ds) e others ordered =
    All-cons (λ entry. rank entry.0 < rank e.0) d ds
    (All-middle (λ entry. rank d.0 < rank entry.0) ds e others (AllPairs-head (λ b c. rank b.0 < rank c.0) d (ds ++ e ∷ others) ordered))
    (above_before ds e others (AllPairs-tail (λ b c. rank b.0 < rank c.0) d (ds ++ e ∷ others) ordered))

-- a cut at a `=` asks for one
pub no_cut : (item name value : List ℕ) → All (λ byte. byte ≢ 61) item → IsCutAt 61 item name (Some value) → ⊥
no_cut item name value none cut =
    let cuts = cuts_agree 61 item item name None (Some value) (record { parts = sym (append-nil item); first = none }) cut in
    let rests = cuts.1 in
    cc

-- an item has one name and one value
pub one_name : (item name other value text : List ℕ) → IsCutAt 61 item name (Some value) → IsCutAt 61 item other (Some text) → name ≡ other
one_name item name other value text cut there = (cuts_agree 61 item name other (Some value) (Some text) cut there).0

one_value : (item name other value text : List ℕ) → IsCutAt 61 item name (Some value) → IsCutAt 61 item other (Some text) → value ≡ text
one_value item name other value text cut there = let both = (cuts_agree 61 item name other (Some value) (Some text) cut there).1 in cc

-- and one key
pub one_key : (item value text : List ℕ) (j k : Key) → IsCutAt 61 item (name_of j) (Some value) → IsCutAt 61 item (name_of k) (Some text) → j ≡ k
one_key item value text j k cut there = key_from_name j k (one_name item (name_of j) (name_of k) value text cut there)

-- an item that is the next entry of a map has no fault
entry_has_no_fault : (es : KeyValues) (item : List ℕ) (kind : MapKind) (offset : ℕ) (e : Key × Setting) → IsSettingOf e.0 e.1 → IsAbove es e.0
    → IsCutAt 61 item (name_of e.0) (Some (setting_text e.1)) → IsItemFault es item kind offset → ⊥
entry_has_no_fault es item kind offset e fits above here (no_equals none) = no_cut item (name_of e.0) (setting_text e.1) none here
entry_has_no_fault es item kind offset e fits above here (unknown_key name value cut none) =
    none e.0 (one_name item (name_of e.0) name (setting_text e.1) value here cut)
entry_has_no_fault es item kind offset e fits above here (not_above key value cut not) =
    not (subst (IsAbove es) (one_key item (setting_text e.1) value e.0 key here cut) above)
entry_has_no_fault es item kind offset e fits above here (bad_value key value cut above_key none) =
    none e.1 (subst (λ k. IsSettingOf k e.1) (one_key item (setting_text e.1) value e.0 key here cut) fits)
    (one_value item (name_of e.0) (name_of key) (setting_text e.1) value here cut)

-- nor has the item where the next entry of a map stands
pub no_fault_in : (m es : KeyValues) (item : List ℕ) (kind : MapKind) (offset : ℕ) → IsMap m → IsEntryIn m es item → IsItemFault es item kind offset → ⊥
no_fault_in m es item kind offset valid found fault =
    let typed : IsTyped (es ++ found.entry ∷ found.others) = subst IsTyped found.parts valid.typed in
    let ordered : IsOrdered (es ++ found.entry ∷ found.others) = subst IsOrdered found.parts valid.ordered in
    entry_has_no_fault es item kind offset found.entry (All-middle (λ entry. IsSettingOf entry.0 entry.1) es found.entry found.others typed)
    (above_before es found.entry found.others ordered)
    (subst (λ item. IsCutAt 61 item (name_of found.entry.0) (Some (setting_text found.entry.1))) found.same (entry_cut found.entry)) fault

-- a text with a fault is the print of no map
pub fault_in_no_map : (text : List ℕ) (kind : MapKind) (at : ℕ) (m : KeyValues) → IsMapFault text kind at → IsMap m → print_of m ≡ text → ⊥
fault_in_no_map text kind at [] fault valid same = fault.not_empty_map (sym same)
fault_in_no_map text kind at (e ∷ m) fault valid same =
    let after = fault.after in
    no_fault_in (e ∷ m) fault.entries fault.item kind fault.offset valid
    (entry_in (e ∷ m) fault.entries after.left fault.item after.rest valid.typed after.is_map.typed (λ none. cc) (same ∙ after.parts) after.cut) fault.fault

-- the empty map's print is no other map's
dash_is_no_print : (e : Key × Setting) (m : KeyValues) → IsTyped (e ∷ m) → codes "-" ≡ print_of (e ∷ m) → ⊥
dash_is_no_print e m typed same =
    let spaces = cuts_agree 32 (print_of (e ∷ m)) (codes "-") (entry_text e) None (print_rest m)
    (record { parts = sym same; first = All-cons (λ b. b ≢ 32) 45 [] (omega arith) (All-nil (λ b. b ≢ 32)) }) (print_cut e m typed) in
    let equals = cuts_agree 61 (entry_text e) (codes "-") (name_of e.0) None (Some (setting_text e.1))
    (record { parts = sym spaces.0; first = All-cons (λ b. b ≢ 61) 45 [] (omega arith) (All-nil (λ b. b ≢ 61)) }) (entry_cut e) in
    let rests = equals.1 in cc

-- two prints that are the same have the same first entry, and the same behind it
print_parts_same : (d : Key × Setting) (m : KeyValues) (e : Key × Setting) (n : KeyValues) → IsTyped (d ∷ m) → IsTyped (e ∷ n)
    → print_of (d ∷ m) ≡ print_of (e ∷ n)
    → (d ≡ e) × (print_rest m ≡ print_rest n)
print_parts_same d m e n typed_m typed_n same =
    let cuts = cuts_agree 32 (print_of (e ∷ n)) (entry_text d) (entry_text e) (print_rest m) (print_rest n)
    (subst (λ text. IsCutAt 32 text (entry_text d) (print_rest m)) same (print_cut d m typed_m)) (print_cut e n typed_n) in
    (entry_from_text d e (typed_head d m typed_m) (typed_head e n typed_n) cuts.0, cuts.1)

-- maps of one print are the same
pub map_from_print : (m n : KeyValues) → IsTyped m → IsTyped n → print_of m ≡ print_of n → m ≡ n
map_from_print [] [] typed_m typed_n same = refl
map_from_print [] (e ∷ n) typed_m typed_n same = absurd (dash_is_no_print e n typed_n same)
map_from_print (d ∷ m) [] typed_m typed_n same = absurd (dash_is_no_print d m typed_m (sym same))
map_from_print (d ∷ []) (e ∷ []) typed_m typed_n same = ap (λ (x : Key × Setting). x ∷ []) (print_parts_same d [] e [] typed_m typed_n same).0
map_from_print (d ∷ []) (e ∷ f ∷ n) typed_m typed_n same = let rests = (print_parts_same d [] e (f ∷ n) typed_m typed_n same).1 in absurd cc
map_from_print (d ∷ c ∷ m) (e ∷ []) typed_m typed_n same = let rests = (print_parts_same d (c ∷ m) e [] typed_m typed_n same).1 in absurd cc
map_from_print (d ∷ c ∷ m) (e ∷ f ∷ n) typed_m typed_n same =
    let parts = print_parts_same d (c ∷ m) e (f ∷ n) typed_m typed_n same in
    let texts : print_of (c ∷ m) ≡ print_of (f ∷ n) = let rests = parts.1 in cc in
    let others : c ∷ m ≡ f ∷ n =
    map_from_print (c ∷ m) (f ∷ n) (typed_tail d (c ∷ m) typed_m)
    (typed_tail e (f ∷ n) typed_n) texts in
    let first = parts.0 in
    cc

-- what reads a text as a map that prints it, or refuses it for a fault, reads the print of a map as that map
pub read_only : (text : List ℕ) (r : Result KeyValues (Faulted MapKind)) → IfOk r (λ m. print_of m ≡ text) → IfOk r IsMap → IfErr r (Refuses text)
    → (n : KeyValues) → IsMap n → print_of n ≡ text → MatchResult r (λ m. m ≡ n) (λ fault. fault ≡ NoMemory)
read_only text (Ok m) prints valid refused n valid_n same = map_from_print m n valid.typed valid_n.typed (prints ∙ sym same)
read_only text (Err NoMemory) prints valid refused n valid_n same = refl
read_only text (Err (At kind at)) prints valid refused n valid_n same = absurd (fault_in_no_map text kind at n refused valid_n same)
