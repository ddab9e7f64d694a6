-- What a join of two maps has, and that it is a map.
use Rattle.std.proofs.Common.{◌≡◌, ℕ, ℤ, pos, negsuc, suc, [], ◌∷◌, drop, Some, None, Option, IfSome, inl, inr}
use Rattle.std.proofs.Common.{sym, ap, subst, ◌∙◌, refl, arith}
use Rattle.std.specs.Int.{w32, saturate_signed}
use Rattle.std.specs.Prelude.{FitsSigned}
use Rattle.std.specs.List.{slice_get}
use Rattle.std.proofs.lemmas.Bool.{cases_eq}
use Rattle.std.proofs.lemmas.Bool.Decides.{nat_tests}
use Rattle.std.proofs.lemmas.Option.{get_or_from_slice_get, slice_get_within}
use Rattle.std.proofs.Math.Seq.{drop-cons}
use Rattle.tdl_control.specs.declared.keys.Key.{Key}
use Rattle.tdl_control.specs.declared.ops.MapOp.{MapOp}
use Rattle.tdl_control.specs.declared.ops.MapOp.TheVariants.{Union, Add, Sub, Mul}
use Rattle.tdl_control.specs.Key.{rank, takes_word}
use Rattle.tdl_control.specs.Setting.{Setting, Number, Spelling, is_spelling, IsSettingOf}
use Rattle.tdl_control.specs.Map.{KeyValues, lookup, put, IsOrdered, IsTyped, IsMap}
use Rattle.tdl_control.specs.Combine.{number_of, combined, onto, combine}
use Rattle.tdl_control.specs.CombineLaws.{joined_setting, CombineLaws}
use Rattle.tdl_control.proofs.KeyLemmas.{key_from_rank}
use Rattle.tdl_control.proofs.PlaceLemmas.{lookup_past}
use Rattle.tdl_control.proofs.PutLemmas.{lookup-put_same, lookup-put_other, IfSome-lookup, IsMap-put, typed_head, typed_tail}

-- the nearest number of 32 bits is one
FitsSigned-saturate : (z : ℤ) → FitsSigned w32 (saturate_signed w32 z)
FitsSigned-saturate (pos n) = omega arith
FitsSigned-saturate (negsuc n) = omega arith

FitsSigned-number_of : (op : MapOp) (x y : ℤ) → FitsSigned w32 y → FitsSigned w32 (number_of op x y)
FitsSigned-number_of Union x y fits = fits
FitsSigned-number_of Add x y fits = FitsSigned-saturate _
FitsSigned-number_of Sub x y fits = FitsSigned-saturate _
FitsSigned-number_of Mul x y fits = FitsSigned-saturate _

-- two settings that a key may have make one that it may have
IsSettingOf-combined : (op : MapOp) (k : Key) (u v : Setting) → IsSettingOf k u → IsSettingOf k v → IsSettingOf k (combined op u v)
IsSettingOf-combined Union k u v fits_u fits_v = fits_v
IsSettingOf-combined Add k (Number x) (Number y) fits_u fits_v = (fits_u.0, FitsSigned-number_of Add x y fits_v.1)
IsSettingOf-combined Sub k (Number x) (Number y) fits_u fits_v = (fits_u.0, FitsSigned-number_of Sub x y fits_v.1)
IsSettingOf-combined Mul k (Number x) (Number y) fits_u fits_v = (fits_u.0, FitsSigned-number_of Mul x y fits_v.1)
IsSettingOf-combined Add k (Number x) (Spelling b) fits_u fits_v = fits_u
IsSettingOf-combined Sub k (Number x) (Spelling b) fits_u fits_v = fits_u
IsSettingOf-combined Mul k (Number x) (Spelling b) fits_u fits_v = fits_u
IsSettingOf-combined Add k (Spelling a) v fits_u fits_v = fits_u
IsSettingOf-combined Sub k (Spelling a) v fits_u fits_v = fits_u
IsSettingOf-combined Mul k (Spelling a) v fits_u fits_v = fits_u

pub IsSettingOf-onto : (op : MapOp) (k : Key) (left : Option Setting) (v : Setting) → IfSome left (IsSettingOf k) → IsSettingOf k v
    → IsSettingOf k (onto op left v)
IsSettingOf-onto op k None v fits_left fits = fits
IsSettingOf-onto op k (Some u) v fits_left fits = IsSettingOf-combined op k u v fits_left fits

-- a key takes a word where its setting is one
pub is_spelling_of : (k : Key) (v : Setting) → IsSettingOf k v → takes_word k ≡ is_spelling v
is_spelling_of k (Number x) fits = fits.0
is_spelling_of k (Spelling b) fits = fits.0

-- a map's entry has a setting that its key may have
pub IsSettingOf-entry : (m : KeyValues) (i : ℕ) (k : Key) (v : Setting) → IsTyped m → slice_get m i ≡ Some (k, v) → IsSettingOf k v
IsSettingOf-entry m i k v typed here =
    rw (get_or_from_slice_get m i (k, v) (k, v) here) at (typed i (k, v) (slice_get_within m i (k, v) here))

-- a join with one entry more of the right map
pub combine_step : (op : MapOp) (left right : KeyValues) (i : ℕ) (k : Key) (v : Setting) → slice_get right i ≡ Some (k, v)
    → combine op left (drop i right) ≡ put (combine op left (drop (suc i) right)) k (onto op (lookup left k) v)
combine_step op left right i k v here =
    ap (combine op left) (drop-cons right i (k, v) (slice_get_within right i (k, v) here))
    ∙ ap (λ (e : Key × Setting). put (combine op left (drop (suc i) right)) e.0 (onto op (lookup left e.0) e.1))
    (get_or_from_slice_get right i (k, v) (k, v) here)

-- what is put is what the two maps make of the key
joined_here : (op : MapOp) (u : Option Setting) (v : Setting) → Some (onto op u v) ≡ joined_setting op u (Some v)
joined_here op None v = refl
joined_here op (Some u) v = refl

joined_left : (op : MapOp) (u : Option Setting) → u ≡ joined_setting op u None
joined_left op None = refl
joined_left op (Some u) = refl

-- each key of a join has what its two settings make
lookup-combine : (op : MapOp) (left right : KeyValues) (key : Key) → lookup (combine op left right) key ≡ joined_setting op (lookup left key) (lookup right key)
lookup-combine op left [] key = joined_left op (lookup left key)
lookup-combine op left (e ∷ es) key =
    let joined = combine op left es in
    let set = onto op (lookup left e.0) e.1 in
    elim (cases_eq (rank e.0) (rank key)) [
      | inl same ↦
          let same_key : e.0 ≡ key = key_from_rank e.0 key same in
          let found : lookup (e ∷ es) e.0 ≡ Some e.1 = grind (arith, nat_tests) in
          subst (λ k. lookup (put joined e.0 set) k ≡ joined_setting op (lookup left k) (lookup (e ∷ es) k)) same_key
          (lookup-put_same joined e.0 set ∙ joined_here op (lookup left e.0) e.1 ∙ ap (joined_setting op (lookup left e.0)) (sym found))
      | inr differs ↦
          let later : lookup (e ∷ es) key ≡ lookup es key = grind (arith, nat_tests, differs) in
          lookup-put_other joined e.0 set key differs ∙ lookup-combine op left es key ∙ ap (joined_setting op (lookup left key)) (sym later)
    ]

-- a key of the right map has what the left map has, as long as it and those before it are not joined
pub lookup_before : (op : MapOp) (left right : KeyValues) (i : ℕ) (k : Key) (v : Setting) → IsOrdered right → slice_get right i ≡ Some (k, v)
    → lookup (combine op left (drop (suc i) right)) k ≡ lookup left k
lookup_before op left right i k v ordered here =
    lookup-combine op left (drop (suc i) right) k
    ∙ ap (joined_setting op (lookup left k)) (lookup_past right i k v ordered here)
    ∙ sym (joined_left op (lookup left k))

-- a join of maps is a map
IsMap-combine : (op : MapOp) (left right : KeyValues) → IsMap left → IsTyped right → IsMap (combine op left right)
IsMap-combine op left [] valid typed = valid
IsMap-combine op left (e ∷ es) valid typed =
    IsMap-put (combine op left es) e.0 (onto op (lookup left e.0) e.1)
    (IsSettingOf-onto op e.0 (lookup left e.0) e.1 (IfSome-lookup left e.0 valid.typed) (typed_head e es typed))
    (IsMap-combine op left es valid (typed_tail e es typed))

pub combine_laws : CombineLaws
combine_laws = record { each_key = lookup-combine; keeps = IsMap-combine }
