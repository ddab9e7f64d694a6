-- A form that is found at the front of what is left of a performer's line stands there, and one that stands there is found.
use Rattle.std.proofs.Common.{◌≡◌, ℕ, ◌<◌, ⊎_elim, Bool, true, false, cond, not, ◌&&◌, Option, Some, None, List, [], ◌∷◌, ◌++◌}
use Rattle.std.proofs.Common.{length, drop, refl, ap, sym, ◌∙◌, subst, arith, length-append, append_assoc}
use Rattle.std.specs.Prelude.{nat_eq}
use Rattle.std.specs.List.{list_all, find, starts_with}
use Rattle.std.specs.Char.{is_ascii_digit, is_ascii_lowercase}
use Rattle.std.proofs.lemmas.Bool.{and_parts}
use Rattle.std.proofs.lemmas.Bool.Decides.{nat_tests, Decides-eqb}
use Rattle.std.proofs.lemmas.Slice.Eq.{starts_is}
use Rattle.std.proofs.Math.Seq.{drop-append_seam}
use Rattle.tdl_lexer.specs.Bytes.{is_quote, is_name_byte, is_text_byte, begins}
use Rattle.tdl_lexer.specs.Numbers.{number_text, IsNumber}
use Rattle.tdl_lexer.specs.LineForms.{Form, Numeral, Name, Quoted, Open, Mark, marks, mark_of, spelling, StandsBefore, line_notation}
use Rattle.tdl_lexer.specs.inside.FindNumber.{run_of, number_of}
use Rattle.tdl_lexer.specs.inside.FindLine.{name_of, unsigned_form, text_of, quoted_form, marked, line_form_at}
use Rattle.tdl_lexer.proofs.Finders.{Found, cond_some, same_some, none_is_some}
use Rattle.tdl_lexer.proofs.Fronts.{cut_of, filled_front, take_while-front, begins-front}
use Rattle.tdl_lexer.proofs.NumberLemmas.{number_there, number_read, made, same_digits, digit_is_run, regroup}

-- ---- first bytes
begins_more : (p : ℕ → Bool) (front rest : List ℕ) → begins p front ≡ true → begins p (front ++ rest) ≡ true
begins_more p [] rest h = cc
begins_more p (byte ∷ front) rest h = h

begins_less : (p : ℕ → Bool) (front rest : List ℕ) → 0 < length front → begins p (front ++ rest) ≡ true → begins p front ≡ true
begins_less p [] rest filled h = absurd (omega arith)
begins_less p (byte ∷ front) rest filled h = h

begins_filled : (p : ℕ → Bool) (text : List ℕ) → begins p text ≡ true → 0 < length text
begins_filled p [] h = cc
begins_filled p (byte ∷ text) h = omega arith

-- ---- marks
-- what is found in a list passes the test, and every test that all of the list pass
pub found_passes : {A : Type 0} (p q : A → Bool) (xs : List A) (x : A) → find p xs ≡ Some x → list_all q xs ≡ true → (p x ≡ true) × (q x ≡ true)
found_passes p q [] x e all = absurd (none_is_some x e)
found_passes p q (y ∷ xs) x e all = here (p y) refl e (found_passes p q xs x)
  where
    parts : (q y ≡ true) × (list_all q xs ≡ true)
    parts = and_parts (q y) (list_all q xs) all

    here : (b : Bool) → p y ≡ b → cond b (Some y) (find p xs) ≡ Some x → (find p xs ≡ Some x → list_all q xs ≡ true → (p x ≡ true) × (q x ≡ true))
        → (p x ≡ true) × (q x ≡ true)
    here true h k more = subst (λ z. (p z ≡ true) × (q z ≡ true)) (same_some y x k) (h, parts.0)
    here false h k more = more k parts.1

-- no byte with which a name, a number or a quoted text begins
abbrev is_other : ℕ → Bool
is_other byte = not (is_ascii_lowercase byte) && (not (is_ascii_digit byte) && not (is_quote byte))

pub mark_parts : (text mark : List ℕ) → mark_of text ≡ Some mark → (text ≡ mark ++ drop (length mark) text) × (begins is_other mark ≡ true)
mark_parts text mark e =
    let h = found_passes (λ m. starts_with nat_eq text m) (begins is_other) marks mark e refl in
    ((starts_is Decides-eqb text mark (starts_with nat_eq text mark) refl).0 h.0, h.1)

-- ---- what is found
name_found : (text : List ℕ) → begins is_ascii_lowercase text ≡ true → Found line_notation 32 text (Name (name_of text))
name_found text first =
    let cut = cut_of is_name_byte text in
    let filled = filled_front is_name_byte text (lower_is_name text first) in
    let starts = begins_less is_ascii_lowercase (name_of text) (drop (length (name_of text)) text) filled
    (sym (ap (begins is_ascii_lowercase) cut.joined) ∙ first) in
    (drop (length (name_of text)) text, cut.joined, record { starts = starts; bytes = cut.passes; ends = cut.stops })
  where
    lower_is_name_byte : (byte : ℕ) → is_ascii_lowercase byte ≡ true → is_name_byte byte ≡ true
    lower_is_name_byte byte e = grind (arith, nat_tests)

    lower_is_name : (text : List ℕ) → begins is_ascii_lowercase text ≡ true → begins is_name_byte text ≡ true
    lower_is_name [] e = cc
    lower_is_name (byte ∷ rest) e = lower_is_name_byte byte e

unsigned_found : (text : List ℕ) (form : Form) → begins is_ascii_digit text ≡ true → unsigned_form text ≡ Some form → Found line_notation 32 text form
unsigned_found text form first e =
    ⊎_elim
    (λ digits.
    let there = number_there false 32 text refl (digit_is_run text first) digits.0 in
    subst (Found line_notation 32 text) (same_some _ _ digits.1) (there.0, there.1, (refl, there.2)))
    (λ none. absurd (none_is_some form none.1))
    (cond_some (list_all is_ascii_digit (run_of text)) _ _ form e)

quote_then : (text : List ℕ) → begins is_quote text ≡ true → text ≡ 34 ∷ drop 1 text
quote_then [] e = cc
quote_then (byte ∷ rest) e =
    let same : byte ≡ 34 = grind (arith, nat_tests) in
    ap (λ (b : ℕ). b ∷ rest) same

no_byte_then : (text : List ℕ) → begins is_quote text ≡ false → begins is_text_byte text ≡ false → text ≡ []
no_byte_then [] e h = refl
no_byte_then (byte ∷ rest) e h = absurd (never (is_quote byte) e h)
  where
    never : (b : Bool) → b ≡ false → not b ≡ false → ⊥
    never true k l = cc
    never false k l = cc

quoted_found : (text : List ℕ) → Found line_notation 32 (34 ∷ text) (quoted_form text)
quoted_found text = here (begins is_quote (drop (length (text_of text)) text)) refl
  where
    here : (b : Bool) → begins is_quote (drop (length (text_of text)) text) ≡ b
        → Found line_notation 32 (34 ∷ text) (cond b (Quoted (text_of text)) (Open (text_of text)))
    here true e =
        let cut = cut_of is_text_byte text in
        let closed = cut.joined ∙ ap (λ t. text_of text ++ t) (quote_then _ e) ∙ sym (regrouped (text_of text) (drop 1 (drop (length (text_of text)) text))) in
        (drop 1 (drop (length (text_of text)) text), ap (λ t. 34 ∷ t) closed, cut.passes)
      where
        regrouped : (a b : List ℕ) → (a ++ 34 ∷ []) ++ b ≡ a ++ 34 ∷ b
        regrouped a b = simp append_assoc
    here false e =
        let cut = cut_of is_text_byte text in
        let ended = no_byte_then _ e cut.stops in
        ([], ap (λ t. 34 ∷ t) (cut.joined ∙ ap (λ t. text_of text ++ t) ended), (cut.passes, refl))

mark_found : (text : List ℕ) (form : Form) → marked (mark_of text) ≡ Some form → Found line_notation 32 text form
mark_found text form e = here (mark_of text) refl e
  where
    here : (o : Option (List ℕ)) → mark_of text ≡ o → marked o ≡ Some form → Found line_notation 32 text form
    here None h k = absurd (none_is_some form k)
    here (Some mark) h k =
        let joined = (mark_parts text mark h).0 in
        subst (Found line_notation 32 text) (same_some _ _ k) (drop (length mark) text, joined, ap mark_of (sym joined) ∙ h)

pub line_form_found : (text : List ℕ) (form : Form) → line_form_at text ≡ Some form → Found line_notation 32 text form
line_form_found [] form e = absurd (none_is_some form e)
line_form_found (byte ∷ rest) form e =
    let At : Form → Type 0 = Found line_notation 32 (byte ∷ rest) in
    ⊎_elim
    (λ name. subst At (same_some _ _ name.1) (name_found (byte ∷ rest) name.0))
    (λ other. ⊎_elim
    (λ number. unsigned_found (byte ∷ rest) form number.0 number.1)
    (λ more. ⊎_elim
    (λ quoted.
    let same : 34 ≡ byte = grind (arith, nat_tests) in
    subst At (same_some _ _ quoted.1) (subst (λ b. Found line_notation 32 (b ∷ rest) (quoted_form rest)) same (quoted_found rest)))
    (λ mark. mark_found (byte ∷ rest) form mark.1)
    (cond_some (is_quote byte) _ _ form more.1))
    (cond_some (is_ascii_digit byte) _ _ form other.1))
    (cond_some (is_ascii_lowercase byte) _ _ form e)

-- ---- what stands there
at_name : (text : List ℕ) → begins is_ascii_lowercase text ≡ true → line_form_at text ≡ Some (Name (name_of text))
at_name [] first = cc
at_name (byte ∷ rest) first = rw first refl

digit_is_no_letter : (byte : ℕ) → is_ascii_digit byte ≡ true → is_ascii_lowercase byte ≡ false
digit_is_no_letter byte e = grind (arith, nat_tests)

at_number : (text : List ℕ) → begins is_ascii_digit text ≡ true → line_form_at text ≡ unsigned_form text
at_number [] first = cc
at_number (byte ∷ rest) first = rw (digit_is_no_letter byte first, first) refl

at_mark : (text : List ℕ) → begins is_other text ≡ true → line_form_at text ≡ marked (mark_of text)
at_mark [] first = cc
at_mark (byte ∷ rest) first = here (is_ascii_lowercase byte) (is_ascii_digit byte) (is_quote byte) first
  where
    here : (a b c : Bool) → (not a && (not b && not c)) ≡ true
        → cond a (Some (Name (name_of (byte ∷ rest))))
        (cond b (unsigned_form (byte ∷ rest)) (cond c (Some (quoted_form rest)) (marked (mark_of (byte ∷ rest)))))
        ≡ marked (mark_of (byte ∷ rest))
    here true b c e = cc
    here false true c e = cc
    here false false true e = cc
    here false false false e = refl

unsigned_read : (negative : Bool) (whole tail after : List ℕ) → negative ≡ false → IsNumber (made negative whole tail) 32 after
    → line_form_at (number_text (made negative whole tail) ++ after) ≡ Some (Numeral (made negative whole tail))
unsigned_read true whole tail after e h = cc
unsigned_read false whole tail after e h =
    let text = whole ++ (tail ++ after) in
    ap line_form_at (regroup [] whole tail after) ∙ at_number text (begins-front is_ascii_digit whole (tail ++ after) h.run.filled h.digits)
    ∙ digits text (same_digits 32 whole (tail ++ after) h.run h.digits) ∙ ap (λ n. Some (Numeral n)) (number_read false 32 whole tail after h.run h.tail)
  where
    digits : (text : List ℕ) → list_all is_ascii_digit (run_of text) ≡ true → unsigned_form text ≡ Some (Numeral (number_of false text))
    digits text k = rw k refl

quoted_read : (text after : List ℕ) → list_all is_text_byte text ≡ true → quoted_form ((text ++ 34 ∷ []) ++ after) ≡ Quoted text
quoted_read text after h =
    let same : (text ++ 34 ∷ []) ++ after ≡ text ++ 34 ∷ after = simp append_assoc in
    ap quoted_form same ∙ rw (take_while-front is_text_byte text (34 ∷ after) h refl, drop-append_seam text (34 ∷ after)) refl

open_read : (text after : List ℕ) → list_all is_text_byte text ≡ true → after ≡ [] → quoted_form (text ++ after) ≡ Open text
open_read text after h e =
    ap (λ t. quoted_form (text ++ t)) e ∙ rw (take_while-front is_text_byte text [] h refl, drop-append_seam text []) refl

pub line_form_read : (form : Form) (after : List ℕ) → StandsBefore form after → line_form_at (spelling form ++ after) ≡ Some form
line_form_read (Numeral n) after h = unsigned_read n.negative n.whole n.tail after h.0 h.1
line_form_read (Name name) after h =
    at_name (name ++ after) (begins_more is_ascii_lowercase name after h.starts)
    ∙ ap (λ t. Some (Name t)) (take_while-front is_name_byte name after h.bytes h.ends)
line_form_read (Quoted text) after h = ap Some (quoted_read text after h)
line_form_read (Open text) after h = ap Some (open_read text after h.0 h.1)
line_form_read (Mark mark) after h =
    let first = begins_more is_other mark after (mark_parts (mark ++ after) mark h).1 in
    at_mark (mark ++ after) first ∙ ap marked h

pub line_form_filled : (form : Form) (after : List ℕ) → StandsBefore form after → 0 < length (spelling form)
line_form_filled (Numeral n) after h = grind (arith, length-append, h.1.run.filled)
line_form_filled (Name name) after h = begins_filled is_ascii_lowercase name h.starts
line_form_filled (Quoted text) after h = omega arith
line_form_filled (Open text) after h = omega arith
line_form_filled (Mark mark) after h = begins_filled is_other mark (mark_parts (mark ++ after) mark h).1
