-- Texts are cut at a byte in one way, and where the texts of entries and of maps are cut.
use Rattle.std.proofs.Common.{◌≡◌, ◌≢◌, ℕ, suc, Bool, true, List, [], ◌∷◌, ◌++◌, codes, Option, Some, None, pos, negsuc, not, ◌==◌}
use Rattle.std.proofs.Common.{sym, ap, subst, ◌∙◌, refl, arith, append_assoc}
use Rattle.std.specs.List.{All, list_all}
use Rattle.std.specs.Fmt.{decimal}
use Rattle.std.specs.Str.Parse.{AllDigits}
use Rattle.std.proofs.lemmas.Bool.{and_parts}
use Rattle.std.proofs.lemmas.Bool.Decides.{nat_tests}
use Rattle.std.proofs.lemmas.Fmt.{decimal_is_IsNumeral, signed_decimal_injective}
use Rattle.std.proofs.lemmas.Str.Parse.{digit_from_value}
use Rattle.std.proofs.lemmas.List.Elements.{All-nil, All-cons, All-append}
use Rattle.tdl_control.specs.declared.keys.Key.{Key}
use Rattle.tdl_control.specs.Key.{name_of}
use Rattle.tdl_control.specs.Setting.{Setting, Number, Spelling, setting_text, IsSettingOf}
use Rattle.tdl_control.specs.WordForm.{is_word_byte}
use Rattle.tdl_control.specs.Map.{KeyValues, entry_text, spaced_text, print_of, IsTyped}
use Rattle.tdl_control.specs.Reading.{behind, IsCutAt, front_text}
use Rattle.tdl_control.proofs.KeyLemmas.{each_key, key_from_name}
use Rattle.tdl_control.proofs.PutLemmas.{All-head, All-tail, typed_head}

-- what stands behind a byte is told by the text
behind_same : (byte : ℕ) (r s : Option (List ℕ)) → behind byte r ≡ behind byte s → r ≡ s
behind_same byte None None same = refl
behind_same byte None (Some s) same = cc
behind_same byte (Some r) None same = cc
behind_same byte (Some r) (Some s) same = let tails : r ≡ s = cc in ap (λ (t : List ℕ). Some t) tails

-- a byte that is first behind a cut is not among those before it
not_behind : (byte x : ℕ) (xs : List ℕ) (r : Option (List ℕ)) → x ≢ byte → behind byte r ≡ x ∷ xs → ⊥
not_behind byte x xs None differs same = cc
not_behind byte x xs (Some r) differs same = let heads : byte ≡ x = cc in differs (sym heads)

-- one text has one cut
pub cut_same : (byte : ℕ) (a b : List ℕ) (r s : Option (List ℕ)) → All (λ other. other ≢ byte) a → All (λ other. other ≢ byte) b
    → a ++ behind byte r ≡ b ++ behind byte s → (a ≡ b) × (r ≡ s)
cut_same byte [] [] r s none_a none_b same = (refl, behind_same byte r s same)
cut_same byte [] (y ∷ ys) r s none_a none_b same = absurd (not_behind byte y _ r (All-head (λ other. other ≢ byte) y ys none_b) same)
cut_same byte (x ∷ xs) [] r s none_a none_b same = absurd (not_behind byte x _ s (All-head (λ other. other ≢ byte) x xs none_a) (sym same))
cut_same byte (x ∷ xs) (y ∷ ys) r s none_a none_b same =
    let heads : x ≡ y = cc in
    let tails : xs ++ behind byte r ≡ ys ++ behind byte s = cc in
    let rest = cut_same byte xs ys r s (All-tail (λ other. other ≢ byte) x xs none_a) (All-tail (λ other. other ≢ byte) y ys none_b) tails in
    ((let firsts = rest.0 in cc), rest.1)

pub cuts_agree : (byte : ℕ) (text a b : List ℕ) (r s : Option (List ℕ)) → IsCutAt byte text a r → IsCutAt byte text b s → (a ≡ b) × (r ≡ s)
cuts_agree byte text a b r s one other = cut_same byte a b r s one.first other.first (sym one.parts ∙ other.parts)

-- what a test says of each byte
All-from_test : (p : ℕ → Bool) (P : ℕ → Type 0) → ((b : ℕ) → p b ≡ true → P b) → (bs : List ℕ) → list_all p bs ≡ true → All P bs
All-from_test p P says [] passed = All-nil P
All-from_test p P says (b ∷ bs) passed =
    let parts = and_parts (p b) (list_all p bs) passed in
    All-cons P b bs (says b parts.0) (All-from_test p P says bs parts.1)

-- a name has neither a space nor a `=`
differs_from : (byte b : ℕ) → not (b == byte) ≡ true → b ≢ byte
differs_from byte b passed = grind (arith, nat_tests, passed)

name_has_no_space : (k : Key) → All (λ b. b ≢ 32) (name_of k)
name_has_no_space k = All-from_test (λ b. not (b == 32)) _ (differs_from 32) (name_of k) (each_key (λ k. list_all (λ b. not (b == 32)) (name_of k)) refl k)

pub name_has_no_equals : (k : Key) → All (λ b. b ≢ 61) (name_of k)
name_has_no_equals k = All-from_test (λ b. not (b == 61)) _ (differs_from 61) (name_of k) (each_key (λ k. list_all (λ b. not (b == 61)) (name_of k)) refl k)

-- digits are no spaces
digits_have_no_space : (ds : List ℕ) → AllDigits 10 ds → All (λ b. b ≢ 32) ds
digits_have_no_space [] each = All-nil _
digits_have_no_space (d ∷ ds) each =
    All-cons (λ b. b ≢ 32) d ds (let digit = digit_from_value d each.0 in omega (arith, digit)) (digits_have_no_space ds each.1)

-- nor are the bytes of a word
word_byte_is_no_space : (b : ℕ) → is_word_byte b ≡ true → b ≢ 32
word_byte_is_no_space b passed is_space = let at_space : is_word_byte 32 ≡ true = subst (λ byte. is_word_byte byte ≡ true) is_space passed in cc

-- the text of a setting has no space
setting_has_no_space : (k : Key) (v : Setting) → IsSettingOf k v → All (λ b. b ≢ 32) (setting_text v)
setting_has_no_space k (Number (pos n)) fits = digits_have_no_space (decimal n) (decimal_is_IsNumeral n (omega (arith, fits.1))).0.1
setting_has_no_space k (Number (negsuc n)) fits =
    All-cons (λ b. b ≢ 32) 45 (decimal (suc n)) (omega arith)
    (digits_have_no_space (decimal (suc n)) (decimal_is_IsNumeral (suc n) (omega (arith, fits.1))).0.1)
setting_has_no_space k (Spelling bytes) fits = All-from_test is_word_byte _ word_byte_is_no_space bytes fits.1.plain

-- an entry's text is cut at its `=` into the key's name and the setting's text
pub entry_text-parts : (e : Key × Setting) → entry_text e ≡ name_of e.0 ++ behind 61 (Some (setting_text e.1))
entry_text-parts e = append_assoc (name_of e.0) (codes "=") (setting_text e.1)

pub entry_cut : (e : Key × Setting) → IsCutAt 61 (entry_text e) (name_of e.0) (Some (setting_text e.1))
entry_cut e = record { parts = entry_text-parts e; first = name_has_no_equals e.0 }

-- it has no space
pub entry_has_no_space : (e : Key × Setting) → IsSettingOf e.0 e.1 → All (λ b. b ≢ 32) (entry_text e)
entry_has_no_space e fits =
    All-append (λ b. b ≢ 32) (name_of e.0 ++ codes "=") (setting_text e.1)
    (All-append (λ b. b ≢ 32) (name_of e.0) (codes "=") (name_has_no_space e.0) (All-cons (λ b. b ≢ 32) 61 [] (omega arith) (All-nil (λ b. b ≢ 32))))
    (setting_has_no_space e.0 e.1 fits)

-- settings that one key may have are told by their texts
setting_from_text : (k : Key) (u v : Setting) → IsSettingOf k u → IsSettingOf k v → setting_text u ≡ setting_text v → u ≡ v
setting_from_text k (Number x) (Number y) fits_u fits_v same =
    ap (λ z. Number z) (signed_decimal_injective x y (omega (arith, fits_u.1)) (omega (arith, fits_v.1)) same)
setting_from_text k (Number x) (Spelling b) fits_u fits_v same = let no = fits_u.0 in let yes = fits_v.0 in cc
setting_from_text k (Spelling a) (Number y) fits_u fits_v same = let yes = fits_u.0 in let no = fits_v.0 in cc
setting_from_text k (Spelling a) (Spelling b) fits_u fits_v same = ap (λ bytes. Spelling bytes) same

-- entries are told by their texts
pub entry_from_text : (d e : Key × Setting) → IsSettingOf d.0 d.1 → IsSettingOf e.0 e.1 → entry_text d ≡ entry_text e → d ≡ e
entry_from_text d e fits_d fits_e same =
    let cuts = cuts_agree 61 (entry_text d) (name_of d.0) (name_of e.0) (Some (setting_text d.1)) (Some (setting_text e.1)) (entry_cut d)
    (subst (λ text. IsCutAt 61 text (name_of e.0) (Some (setting_text e.1))) (sym same) (entry_cut e)) in
    let same_key : d.0 ≡ e.0 = key_from_name d.0 e.0 cuts.0 in
    let same_text : setting_text d.1 ≡ setting_text e.1 = let texts = cuts.1 in cc in
    let same_setting : d.1 ≡ e.1 = setting_from_text e.0 d.1 e.1 (subst (λ k. IsSettingOf k d.1) same_key fits_d) fits_e same_text in
    ap (λ (k : Key). let pair : Key × Setting = (k, d.1) in pair) same_key ∙ ap (λ (v : Setting). let pair : Key × Setting = (e.0, v) in pair) same_setting

-- what a map's print has behind the space after its first entry
abbrev pub print_rest : KeyValues → Option (List ℕ)
print_rest [] = None
print_rest (e ∷ es) = Some (print_of (e ∷ es))

pub spaced_text-print : (es : KeyValues) → spaced_text es ≡ behind 32 (print_rest es)
spaced_text-print [] = refl
spaced_text-print (e ∷ es) = refl

-- a print is cut at its first space behind its first entry
pub print_cut : (e : Key × Setting) (es : KeyValues) → IsTyped (e ∷ es) → IsCutAt 32 (print_of (e ∷ es)) (entry_text e) (print_rest es)
print_cut e es typed = record {
  parts = ap (λ text. entry_text e ++ text) (spaced_text-print es);
  first = entry_has_no_space e (typed_head e es typed);
}

-- so are entries with their spaces, and what comes behind them
pub front_cut : (e : Key × Setting) (es : KeyValues) (left : List ℕ) → IsTyped (e ∷ es)
    → IsCutAt 32 (front_text (e ∷ es) ++ left) (entry_text e) (Some (front_text es ++ left))
front_cut e es left typed = record {
  parts = append_assoc (entry_text e ++ codes " ") (front_text es) left ∙ append_assoc (entry_text e) (codes " ") (front_text es ++ left);
  first = entry_has_no_space e (typed_head e es typed);
}
