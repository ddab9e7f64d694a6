-- Lemmas on words and their bytes.
use Rattle.std.proofs.Common.{◌≡◌, ◌≤◌, ◌-◌, ◌∙◌, ℕ, List, ◌++◌, length, take, drop, replicate, subst, sym, ap, arith, length-take}
use Rattle.std.proofs.Props.{props}
use Rattle.std.proofs.Math.Seq.{drop-append_seam}
use Rattle.std.proofs.lemmas.List.{take-append-drop, drop-replicate}
use Rattle.tdl_control.specs.WordForm.{IsWord}
use Rattle.tdl_control.specs.Word.{word_bytes}
use Rattle.tdl_control.specs.declared.words.Word.{Word}

-- a word's letters are its bytes, filled up with zeros
letters_is : (w : Word) → w.letters ≡ word_bytes w ++ replicate (32 - w.len) 0
letters_is w = sym (take-append-drop w.len w.letters) ∙ ap (λ rest. take w.len w.letters ++ rest) w.padded

-- a word's length is that of its bytes
len_is : (w : Word) → w.len ≡ length (word_bytes w)
len_is w = let within : w.len ≤ length w.letters = w.within in omega (arith, length-take {A = ℕ})

-- a word of these fields and facts
abbrev made : (letters : List ℕ) (len : ℕ) → len ≤ length letters → drop len letters ≡ replicate (32 - len) 0 → IsWord (take len letters) → Word
made letters len within padded is_word = record { letters = letters; len = len; within = within; padded = padded; is_word = is_word }

-- the proofs of a word's facts make no difference
any_facts : (w : Word) (within : w.len ≤ length w.letters) (padded : drop w.len w.letters ≡ replicate (32 - w.len) 0)
    (is_word : IsWord (take w.len w.letters)) → w ≡ made w.letters w.len within padded is_word
any_facts w within padded is_word =
    let one_within : IsProp (w.len ≤ length w.letters) = hlevel props in
    let one_padded : IsProp (drop w.len w.letters ≡ replicate (32 - w.len) 0) = hlevel props in
    let one_word : IsProp (IsWord (take w.len w.letters)) = hlevel props in
    ap (λ (h : w.len ≤ length w.letters). made w.letters w.len h w.padded w.is_word) (one_within w.within within)
    ∙ ap (λ (h : drop w.len w.letters ≡ replicate (32 - w.len) 0). made w.letters w.len within h w.is_word) (one_padded w.padded padded)
    ∙ ap (λ (h : IsWord (take w.len w.letters)). made w.letters w.len within padded h) (one_word w.is_word is_word)

-- words of the same fields are the same
same_fields : (v w : Word) → v.letters ≡ w.letters → v.len ≡ w.len → v ≡ w
same_fields v w same_letters same_len =
    let AtLen : ℕ → Type 0 = λ n. (within : n ≤ length v.letters) (padded : drop n v.letters ≡ replicate (32 - n) 0) (is_word : IsWord (take n v.letters))
    → v ≡ made v.letters n within padded is_word in
    let At : List ℕ → Type 0 = λ l. (within : w.len ≤ length l) (padded : drop w.len l ≡ replicate (32 - w.len) 0) (is_word : IsWord (take w.len l))
    → v ≡ made l w.len within padded is_word in
    subst At same_letters (subst AtLen same_len (any_facts v)) w.within w.padded w.is_word

-- words of the same bytes are the same
pub word_from_bytes : (v w : Word) → word_bytes v ≡ word_bytes w → v ≡ w
word_from_bytes v w same =
    let same_len : v.len ≡ w.len = len_is v ∙ ap length same ∙ sym (len_is w) in
    same_fields v w (letters_is v ∙ ap (λ bytes. bytes ++ replicate (32 - v.len) 0) same ∙ ap (λ n. word_bytes w ++ replicate (32 - n) 0) same_len
    ∙ sym (letters_is w)) same_len

-- the room after a word's bytes holds zeros
pub drop-padded : (bytes : List ℕ) → drop (length bytes) (bytes ++ drop (length bytes) (replicate 32 0)) ≡ replicate (32 - length bytes) 0
drop-padded bytes = drop-append_seam bytes _ ∙ drop-replicate (length bytes) 32 0
