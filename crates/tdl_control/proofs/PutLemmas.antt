-- What a setting that is put changes in a map, and what it keeps.
use Rattle.std.proofs.Common.{◌≡◌, ◌≢◌, suc, ◌<◌, Bool, true, false, cond, List, [], ◌∷◌, Some, None, IfSome, nat_lt, ◌==◌, inl, inr, sym, ap, subst, ◌∙◌}
use Rattle.std.proofs.Common.{refl, arith}
use Rattle.std.proofs.lemmas.Bool.{cases_eq}
use Rattle.tdl_control.proofs.KeyLemmas.{key_from_rank}
use Rattle.std.specs.List.{All, AllPairs}
use Rattle.std.proofs.lemmas.Bool.Decides.{nat_tests}
use Rattle.std.proofs.lemmas.List.Elements.{All-nil, All-cons, All-weaker}
use Rattle.std.proofs.lemmas.List.Kept.{AllPairs-cons}
use Rattle.tdl_control.specs.declared.keys.Key.{Key}
use Rattle.tdl_control.specs.Key.{rank}
use Rattle.tdl_control.specs.Setting.{Setting, IsSettingOf}
use Rattle.tdl_control.specs.Map.{KeyValues, lookup, put, IsOrdered, IsTyped, IsMap}

-- a fact of a choice, by the test's two answers
by_test : {X : Type 0} (P : X → Type 0) (b : Bool) (x y : X) → (b ≡ true → P x) → (b ≡ false → P y) → P (cond b x y)
by_test P b x y yes_case no_case = elim b as (λ r. b ≡ r → P (cond r x y)) [ true ↦ yes_case | false ↦ no_case ] refl

-- the key has the setting that was put
pub lookup-put_same : (m : KeyValues) (k : Key) (v : Setting) → lookup (put m k v) k ≡ Some v
lookup-put_same [] k v = grind (arith, nat_tests)
lookup-put_same (e ∷ es) k v = grind (arith, nat_tests, lookup-put_same es k v)

-- a key of another rank has what it had
pub lookup-put_other : (m : KeyValues) (k : Key) (v : Setting) (j : Key) → rank k ≢ rank j → lookup (put m k v) j ≡ lookup m j
lookup-put_other [] k v j differs = grind (arith, nat_tests)
lookup-put_other (e ∷ es) k v j differs = grind (arith, nat_tests, lookup-put_other es k v j differs)

-- what holds of the first element, and of the others
pub All-head : {X : Type 0} (P : X → Type 0) (x : X) (xs : List X) → All P (x ∷ xs) → P x
All-head P x xs each = each 0 x (omega arith)

pub All-tail : {X : Type 0} (P : X → Type 0) (x : X) (xs : List X) → All P (x ∷ xs) → All P xs
All-tail P x xs each k d within = each (suc k) d (omega arith)

pub AllPairs-head : {X : Type 0} (R : X → X → Type 0) (x : X) (xs : List X) → AllPairs R (x ∷ xs) → All (R x) xs
AllPairs-head R x xs each k d within = each 0 (suc k) d (omega arith) (omega arith)

pub AllPairs-tail : {X : Type 0} (R : X → X → Type 0) (x : X) (xs : List X) → AllPairs R (x ∷ xs) → AllPairs R xs
AllPairs-tail R x xs each i j d below within = each (suc i) (suc j) d (omega arith) (omega arith)

-- entries whose settings their keys may have
pub typed_head : (e : Key × Setting) (es : KeyValues) → IsTyped (e ∷ es) → IsSettingOf e.0 e.1
typed_head e es typed = All-head (λ entry. IsSettingOf entry.0 entry.1) e es typed

pub typed_tail : (e : Key × Setting) (es : KeyValues) → IsTyped (e ∷ es) → IsTyped es
typed_tail e es typed = All-tail (λ entry. IsSettingOf entry.0 entry.1) e es typed

-- what holds of each entry and of the new one holds of each entry after
pub All-put : (P : Key × Setting → Type 0) (m : KeyValues) (k : Key) (v : Setting) → P (k, v) → All P m → All P (put m k v)
All-put P [] k v here each = All-cons P (k, v) [] here (All-nil P)
All-put P (e ∷ es) k v here each =
    by_test (All P) (nat_lt (rank k) (rank e.0)) _ _
    (λ _. All-cons P (k, v) (e ∷ es) here each)
    (λ _. by_test (All P) (rank k == rank e.0) _ _
    (λ _. All-cons P (k, v) es here (All-tail P e es each))
    (λ _. All-cons P e (put es k v) (All-head P e es each) (All-put P es k v here (All-tail P e es each))))

-- what a key has is a setting that it may have
pub IfSome-lookup : (m : KeyValues) (k : Key) → IsTyped m → IfSome (lookup m k) (IsSettingOf k)
IfSome-lookup [] k typed = tt
IfSome-lookup (e ∷ es) k typed =
    let here : IsSettingOf e.0 e.1 = All-head (λ entry. IsSettingOf entry.0 entry.1) e es typed in
    let later : IfSome (lookup es k) (IsSettingOf k) = IfSome-lookup es k (All-tail (λ entry. IsSettingOf entry.0 entry.1) e es typed) in
    by_test (λ o. IfSome o (IsSettingOf k)) (rank e.0 == rank k) (Some e.1) (lookup es k)
    (λ same. let same_key : e.0 ≡ k = key_from_rank e.0 k (grind (arith, nat_tests, same)) in subst (λ key. IsSettingOf key e.1) same_key here)
    (λ _. later)

-- the first key ranks below the second
abbrev IsBelow : Key × Setting → Key × Setting → Type 0
IsBelow one other = rank one.0 < rank other.0

-- an entry below the first of entries in order is below them all
below_all : (low e : Key × Setting) (es : KeyValues) → rank low.0 < rank e.0 → All (IsBelow e) es → All (IsBelow low) (e ∷ es)
below_all low e es below each = All-cons (IsBelow low) e es below (All-weaker (IsBelow e) (IsBelow low) (λ d above. omega (arith, below, above)) es each)

-- an entry of the same rank is below the same entries
below_same : (low e : Key × Setting) (es : KeyValues) → rank low.0 ≡ rank e.0 → All (IsBelow e) es → All (IsBelow low) es
below_same low e es same each = All-weaker (IsBelow e) (IsBelow low) (λ d above. omega (arith, same, above)) es each

-- a put keeps the order
pub IsOrdered-put : (m : KeyValues) (k : Key) (v : Setting) → IsOrdered m → IsOrdered (put m k v)
IsOrdered-put [] k v ordered = λ i j d below within. absurd (omega arith)
IsOrdered-put (e ∷ es) k v ordered =
    let later = AllPairs-head IsBelow e es ordered in
    let rest = AllPairs-tail IsBelow e es ordered in
    by_test IsOrdered (nat_lt (rank k) (rank e.0)) _ _
    (λ lower. AllPairs-cons IsBelow (k, v) (e ∷ es) (below_all (k, v) e es (grind (arith, nat_tests, lower)) later) ordered)
    (λ not_lower. by_test IsOrdered (rank k == rank e.0) _ _
    (λ same. AllPairs-cons IsBelow (k, v) es (below_same (k, v) e es (grind (arith, nat_tests, same)) later) rest)
    (λ differs. AllPairs-cons IsBelow e (put es k v) (All-put (IsBelow e) es k v (grind (arith, nat_tests, not_lower, differs)) later)
    (IsOrdered-put es k v rest)))

-- a put of a setting that the key may have keeps a map a map
pub IsMap-put : (m : KeyValues) (k : Key) (v : Setting) → IsSettingOf k v → IsMap m → IsMap (put m k v)
IsMap-put m k v fits valid = record {
  ordered = IsOrdered-put m k v valid.ordered;
  typed = All-put (λ entry. IsSettingOf entry.0 entry.1) m k v fits valid.typed;
}

-- a key of a lower rank than every entry has no setting
lookup_below : (m : KeyValues) (k : Key) → All (λ entry. rank k < rank entry.0) m → lookup m k ≡ None
lookup_below [] k above = refl
lookup_below (e ∷ es) k above =
    let first : rank k < rank e.0 = All-head (λ entry. rank k < rank entry.0) e es above in
    grind (arith, nat_tests, first, lookup_below es k (All-tail (λ entry. rank k < rank entry.0) e es above))

-- a key that ranks below the first of entries in order has no setting
lookup_under : (e : Key × Setting) (es : KeyValues) (k : Key) → IsOrdered (e ∷ es) → rank k < rank e.0 → lookup (e ∷ es) k ≡ None
lookup_under e es k ordered under =
    lookup_below (e ∷ es) k (below_all (k, e.1) e es under (AllPairs-head IsBelow e es ordered))

-- the first of the entries is what its key has
lookup_first : (e : Key × Setting) (es : KeyValues) → lookup (e ∷ es) e.0 ≡ Some e.1
lookup_first e es = grind (arith, nat_tests)

-- a key of another rank than the first entry's has what it has in the others
lookup_later : (e : Key × Setting) (es : KeyValues) (k : Key) → rank e.0 ≢ rank k → lookup (e ∷ es) k ≡ lookup es k
lookup_later e es k differs = grind (arith, nat_tests)

-- where the first keys are the same, the others have the same settings
same_later : (d : Key × Setting) (ds : KeyValues) (e : Key × Setting) (es : KeyValues) → IsOrdered (d ∷ ds) → IsOrdered (e ∷ es)
    → ((k : Key) → lookup (d ∷ ds) k ≡ lookup (e ∷ es) k) → d.0 ≡ e.0 → (k : Key) → lookup ds k ≡ lookup es k
same_later d ds e es ordered_m ordered_n same same_key k =
    elim (cases_eq (rank d.0) (rank k)) [
      | inl first ↦
          let none_m = lookup_below ds k (below_same (k, d.1) d ds (sym first) (AllPairs-head IsBelow d ds ordered_m)) in
          let none_n = lookup_below es k (below_same (k, e.1) e es (sym first ∙ ap rank same_key) (AllPairs-head IsBelow e es ordered_n)) in
          none_m ∙ sym none_n
      | inr later ↦ sym (lookup_later d ds k later) ∙ same k ∙ lookup_later e es k (λ first. later (ap rank same_key ∙ first))
    ]

-- and the first have the same setting
same_entry : (d : Key × Setting) (ds : KeyValues) (e : Key × Setting) (es : KeyValues) → ((k : Key) → lookup (d ∷ ds) k ≡ lookup (e ∷ es) k) → d.0 ≡ e.0 → d ≡ e
same_entry d ds e es same same_key =
    let settings : Some d.1 ≡ Some e.1 = sym (lookup_first d ds) ∙ same d.0 ∙ ap (lookup (e ∷ es)) same_key ∙ lookup_first e es in
    let same_setting : d.1 ≡ e.1 = cc in
    ap (λ (k : Key). let pair : Key × Setting = (k, d.1) in pair) same_key ∙ ap (λ (v : Setting). let pair : Key × Setting = (e.0, v) in pair) same_setting

-- entries in order are told by what the keys have
pub same_from_lookups : (m n : KeyValues) → IsOrdered m → IsOrdered n → ((k : Key) → lookup m k ≡ lookup n k) → m ≡ n
same_from_lookups [] [] ordered_m ordered_n same = refl
same_from_lookups [] (e ∷ es) ordered_m ordered_n same = let first = lookup_first e es in let here = same e.0 in cc
same_from_lookups (d ∷ ds) [] ordered_m ordered_n same = let first = lookup_first d ds in let here = same d.0 in cc
same_from_lookups (d ∷ ds) (e ∷ es) ordered_m ordered_n same =
    let under : rank d.0 < rank e.0 → ⊥ = λ below. let first = lookup_first d ds in let here = same d.0 in let none =
    lookup_under e es d.0 ordered_n below in cc in
    let over : rank e.0 < rank d.0 → ⊥ = λ above. let first = lookup_first e es in let here = same e.0 in let none =
    lookup_under d ds e.0 ordered_m above in cc in
    let same_key : d.0 ≡ e.0 = key_from_rank d.0 e.0 (omega arith) in
    let first : d ≡ e = same_entry d ds e es same same_key in
    let others : ds ≡ es =
    same_from_lookups ds es (AllPairs-tail IsBelow d ds ordered_m) (AllPairs-tail IsBelow e es ordered_n)
    (same_later d ds e es ordered_m ordered_n same same_key) in
    cc
