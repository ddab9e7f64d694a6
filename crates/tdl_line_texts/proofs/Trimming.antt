-- The text of a line, without the blanks round it.
--     AreBlank      blanks alone
--     trimmed       where no blank is left at either end
--     stripped      without the blanks before it
--     trimmed_once  a text has one form without the blanks round it
use Rattle.std.proofs.Common.{◌≡◌, ℕ, zero, suc, ◌+◌, ◌-◌, ◌<◌, ◌≤◌, ◌==◌, true, false, List, [], ◌∷◌, ◌++◌, length, get_or, take, drop, reverse, refl, sym}
use Rattle.std.proofs.Common.{ap, ap₂, cond, ◌&&◌, Bool, ◌∙◌, append-nil}
use Rattle.std.proofs.Common.{subst, arith, drop-cons}
use Rattle.std.specs.List.{list_all}
use Rattle.std.specs.Prelude.{slice_range}
use Rattle.std.proofs.lemmas.Bool.{and_parts, ne_eqb}
use Rattle.std.proofs.lemmas.List.{take-append-drop, take_more, reverse-append, length-drop, get_or-drop, reverse-reverse}
use Rattle.std.proofs.lemmas.List.Folds.{drop_split, list_all-append}
use Rattle.tdl_line_texts.specs.Texts.{IsTrimmed, begins_blank}

abbrev pub AreBlank : List ℕ → Type 0
AreBlank text = list_all (λ byte. byte == 32) text ≡ true

-- ---- the first byte and the last
first_byte : (text : List ℕ) (start n : ℕ) → start < length text → (get_or text start 0 ≡ 32 → ⊥) → begins_blank (take (suc n) (drop start text)) ≡ false
first_byte text start n inside other =
    ap (λ (t : List ℕ). begins_blank (take (suc n) t)) (drop-cons text start 0 inside) ∙ ne_eqb (get_or text start 0) 32 other

last_byte : (text : List ℕ) (start n : ℕ) → start + n < length text → (get_or text (start + n) 0 ≡ 32 → ⊥)
    → begins_blank (reverse (take (n + 1) (drop start text))) ≡ false
last_byte text start n inside other =
    let whole = take_more (drop start text) n 0 (omega (arith, length-drop start text)) in
    let there : get_or (drop start text) n 0 ≡ get_or text (start + n) 0 = get_or-drop start text n 0 in
    ap (λ (t : List ℕ). begins_blank (reverse t)) whole
    ∙ ap begins_blank (reverse-append (take n (drop start text)) (get_or (drop start text) n 0 ∷ []))
    ∙ ap (λ (b : ℕ). b == 32) there ∙ ne_eqb (get_or text (start + n) 0) 32 other

-- ---- the whole
kept_parts : (text : List ℕ) (start end : ℕ) → start ≤ end → text ≡ take start text ++ (slice_range text start end ++ drop end text)
kept_parts text start end ordered = sym (take-append-drop start text) ∙ ap (λ (t : List ℕ). take start text ++ t) (drop_split text start end ordered)

pub trimmed : (text : List ℕ) (start end : ℕ) → start ≤ end → end ≤ length text → AreBlank (take start text) → AreBlank (drop end text)
    → (start < length text → get_or text start 0 ≡ 32 → ⊥) → (start < end → get_or text (end - 1) 0 ≡ 32 → ⊥) → IsTrimmed text (slice_range text start end)
trimmed text start end ordered within before after first last = record {
  before = take start text;
  after = drop end text;
  joined = kept_parts text start end ordered;
  blank_before = before;
  blank_after = after;
  first = first_kept (end - start) refl;
  last = last_kept (end - start) refl;
}
  where
    first_kept : (n : ℕ) → end - start ≡ n → begins_blank (slice_range text start end) ≡ false
    first_kept zero e = ap (λ (k : ℕ). begins_blank (take k (drop start text))) e
    first_kept (suc n) e = ap (λ (k : ℕ). begins_blank (take k (drop start text))) e ∙ first_byte text start n (omega arith) (first (omega arith))

    last_kept : (n : ℕ) → end - start ≡ n → begins_blank (reverse (slice_range text start end)) ≡ false
    last_kept zero e = ap (λ (k : ℕ). begins_blank (reverse (take k (drop start text)))) e
    last_kept (suc n) e =
        let there : end - 1 ≡ start + n = omega arith in
        let more : end - start ≡ n + 1 = omega arith in
        ap (λ (k : ℕ). begins_blank (reverse (take k (drop start text)))) more
        ∙ last_byte text start n (omega arith) (subst (λ (k : ℕ). get_or text k 0 ≡ 32 → ⊥) there (last (omega arith)))

-- ---- one form
abbrev stripped : List ℕ → List ℕ
stripped [] = []
stripped (byte ∷ rest) = cond (byte == 32) (stripped rest) (byte ∷ rest)

-- blanks go
blanks_go : (blanks rest : List ℕ) → AreBlank blanks → stripped (blanks ++ rest) ≡ stripped rest
blanks_go [] rest e = refl
blanks_go (byte ∷ blanks) rest e =
    let both = and_parts (byte == 32) (list_all (λ byte. byte == 32) blanks) e in
    ap (λ (b : Bool). cond b (stripped (blanks ++ rest)) (byte ∷ blanks ++ rest)) both.0 ∙ blanks_go blanks rest both.1

-- what begins with none stays, whatever follows it
stays : (byte : ℕ) (rest : List ℕ) → begins_blank (byte ∷ rest) ≡ false → stripped (byte ∷ rest) ≡ byte ∷ rest
stays byte rest e = ap (λ (b : Bool). cond b (stripped rest) (byte ∷ rest)) e

stays_alone : (text : List ℕ) → begins_blank text ≡ false → stripped text ≡ text
stays_alone [] e = refl
stays_alone (byte ∷ rest) e = stays byte rest e

blanks_back : (blanks : List ℕ) → AreBlank blanks → AreBlank (reverse blanks)
blanks_back [] e = refl
blanks_back (byte ∷ blanks) e =
    let both = and_parts (byte == 32) (list_all (λ byte. byte == 32) blanks) e in
    ap (list_all (λ byte. byte == 32)) (reverse-append (byte ∷ []) blanks)
    ∙ list_all-append (λ byte. byte == 32) (reverse blanks) (byte ∷ [])
    ∙ ap₂ (λ (x y : Bool). x && y) (blanks_back blanks both.1) (ap (λ (b : Bool). b && true) both.0)

-- the blanks behind what is kept
ends_bare : (kept after : List ℕ) → AreBlank after → begins_blank (reverse kept) ≡ false → stripped (reverse (kept ++ after)) ≡ reverse kept
ends_bare kept after blank last =
    ap stripped (reverse-append kept after) ∙ blanks_go (reverse after) (reverse kept) (blanks_back after blank) ∙ stays_alone (reverse kept) last

both_ends : (kept after : List ℕ) → AreBlank after → begins_blank kept ≡ false → begins_blank (reverse kept) ≡ false
    → reverse (stripped (reverse (stripped (kept ++ after)))) ≡ kept
both_ends [] after blank first last =
    ap (λ (t : List ℕ). reverse (stripped (reverse t))) (ap stripped (sym (append-nil after)) ∙ blanks_go after [] blank)
both_ends (byte ∷ rest) after blank first last =
    ap (λ (t : List ℕ). reverse (stripped (reverse t))) (stays byte (rest ++ after) first)
    ∙ ap reverse (ends_bare (byte ∷ rest) after blank last) ∙ reverse-reverse (byte ∷ rest)

kept_is : (text kept : List ℕ) → IsTrimmed text kept → reverse (stripped (reverse (stripped text))) ≡ kept
kept_is text kept is =
    ap (λ (t : List ℕ). reverse (stripped (reverse t))) (ap stripped is.joined ∙ blanks_go is.before (kept ++ is.after) is.blank_before)
    ∙ both_ends kept is.after is.blank_after is.first is.last

pub trimmed_once : (text a b : List ℕ) → IsTrimmed text a → IsTrimmed text b → a ≡ b
trimmed_once text a b one other = sym (kept_is text a one) ∙ kept_is text b other
