-- Forms of a line with blanks behind the text.
--     AreBlank        blanks alone; blank_byte: each byte of them is one
--     any_byte        a text without blanks has none anywhere
--     form_last       no form ends with a blank
--     mark_cut        blanks at the end of a text are in no mark
--     stands_cut      a form that stands before a text with blanks at its end stands before the text without them
--     blank_min       how much of the blank space is in the text without them
--     blank_more      blanks at the front are blank space
use Rattle.std.specs.Prelude.{nat_eq, ◌==◌, not, codes, if◌then◌else◌}
use Rattle.std.specs.List.{list_all, find, starts_with, take_while, prefix_len}
use Rattle.std.specs.Char.{is_ascii_digit}
use Rattle.std.proofs.Common.{◌≡◌, ℕ, zero, suc, ◌+◌, ◌-◌, ◌<◌, ◌≤◌, min, ⊎_elim, Bool, true, false, cond, ◌&&◌, Option, Some, None, List, [], ◌∷◌, ◌++◌}
use Rattle.std.proofs.Common.{length, get_or, drop, refl, ap, sym, ◌∙◌, subst, arith, length-append, append_assoc}
use Rattle.std.proofs.lemmas.Bool.{and_parts, cases_lt}
use Rattle.std.proofs.lemmas.Bool.Decides.{nat_tests}
use Rattle.std.proofs.lemmas.List.{length-drop, drop-append-le, get_or_push}
use Rattle.std.proofs.lemmas.List.Sums.{take_while-cons}
use Rattle.tdl_lexer.specs.declared.lexemes.Flaw.{Flaw}
use Rattle.tdl_lexer.specs.declared.signs.LexKind.TheVariants.{UnknownSign, NumberTooLarge}
use Rattle.tdl_lexer.specs.Bytes.{is_space, is_run_byte, is_name_byte, is_line_byte, begins}
use Rattle.tdl_lexer.specs.Numbers.{Number, number_text, is_tail_mark, begins_tail, IsTail, IsNumber, is_small}
use Rattle.tdl_lexer.specs.Languages.{at_front}
use Rattle.tdl_lexer.specs.LineForms.{Form, Numeral, Name, Quoted, Open, Mark, marks, mark_of, spelling, StandsBefore, line_flaw}
use Rattle.tdl_lexer.specs.LineForms.{first_line, comment_of, blanks_of, blank_of}
use Rattle.tdl_lexer.proofs.FormBytes.{passes_too, number_passes}
use Rattle.tdl_lexer.proofs.Fronts.{length-take_while}
use Rattle.tdl_lexer.proofs.LineFound.{found_passes}
use Rattle.tdl_lexer.proofs.ModeFinds.{line_finds}

abbrev pub AreBlank : List ℕ → Type 0
AreBlank text = list_all is_space text ≡ true

abbrev is_filled : ℕ → Bool
is_filled byte = not (byte == 32)

abbrev no_blank : List ℕ → Bool
no_blank text = list_all is_filled text

-- ---- bytes
blank_is : (byte : ℕ) → is_space byte ≡ true → byte ≡ 32
blank_is byte h = grind (arith, nat_tests)

pub blank_byte : (text : List ℕ) (i : ℕ) → AreBlank text → i < length text → get_or text i 0 ≡ 32
blank_byte [] i h inside = absurd (omega arith)
blank_byte (x ∷ text) zero h inside = blank_is x (and_parts (is_space x) (list_all is_space text) h).0
blank_byte (x ∷ text) (suc i) h inside = blank_byte text i (and_parts (is_space x) (list_all is_space text) h).1 (omega arith)

filled_is : (byte : ℕ) → is_filled byte ≡ true → byte ≡ 32 → ⊥
filled_is byte h e = grind (arith, nat_tests)

pub any_byte : (text : List ℕ) → no_blank text ≡ true → (i : ℕ) → get_or text i 0 ≡ 32 → ⊥
any_byte [] h i e = omega (arith, e)
any_byte (x ∷ text) h zero e = filled_is x (and_parts (is_filled x) (no_blank text) h).0 e
any_byte (x ∷ text) h (suc i) e = any_byte text (and_parts (is_filled x) (no_blank text) h).1 i e

run_byte : (byte : ℕ) → is_run_byte byte ≡ true → is_filled byte ≡ true
run_byte byte h = grind (arith, nat_tests)

name_byte : (byte : ℕ) → is_name_byte byte ≡ true → is_filled byte ≡ true
name_byte byte h = grind (arith, nat_tests)

tail_mark_byte : (byte : ℕ) → is_tail_mark byte ≡ true → is_filled byte ≡ true
tail_mark_byte byte h = grind (arith, nat_tests)

-- ---- forms
quoted_last : (text : List ℕ) → get_or (spelling (Quoted text)) (length (spelling (Quoted text)) - 1) 0 ≡ 34
quoted_last text =
    let size : length (spelling (Quoted text)) - 1 ≡ suc (length text) = omega (arith, length-append text (34 ∷ [])) in
    ap (λ (n : ℕ). get_or (spelling (Quoted text)) n 0) size ∙ get_or_push text 34 0 (length text) refl

pub form_last : (form : Form) (after : List ℕ) → StandsBefore form after → line_flaw form after ≡ None
    → get_or (spelling form) (length (spelling form) - 1) 0 ≡ 32 → ⊥
form_last (Numeral n) after h flawless e =
    any_byte (number_text n) (number_passes is_filled refl run_byte tail_mark_byte n 32 after h.1) (length (number_text n) - 1) e
form_last (Name name) after h flawless e = any_byte name (passes_too is_name_byte is_filled name_byte name h.bytes) (length name - 1) e
form_last (Quoted text) after h flawless e = omega (arith, e, quoted_last text)
form_last (Open text) after h flawless e = cc
form_last (Mark mark) after h flawless e =
    any_byte mark (found_passes (λ m. starts_with nat_eq (mark ++ after) m) no_blank marks mark h refl).1 (length mark - 1) e

-- ---- what stands behind a form
apart : (x y : ℕ) → is_filled x ≡ true → is_space y ≡ true → nat_eq x y ≡ false
apart x y h k = grind (arith, nat_tests)

starts_cut : (s a mark : List ℕ) → AreBlank a → no_blank mark ≡ true → starts_with nat_eq (s ++ a) mark ≡ starts_with nat_eq s mark
starts_cut s a [] blank h = refl
starts_cut [] [] (x ∷ mark) blank h = refl
starts_cut [] (y ∷ a) (x ∷ mark) blank h =
    let parts = and_parts (is_filled x) (no_blank mark) h in
    ap (λ (b : Bool). b && starts_with nat_eq a mark) (apart x y parts.0 (and_parts (is_space y) (list_all is_space a) blank).0)
starts_cut (y ∷ s) a (x ∷ mark) blank h =
    ap (λ (b : Bool). nat_eq x y && b) (starts_cut s a mark blank (and_parts (is_filled x) (no_blank mark) h).1)

same_found : (p q : List ℕ → Bool) (ms : List (List ℕ)) → ((m : List ℕ) → no_blank m ≡ true → p m ≡ q m) → list_all no_blank ms ≡ true
    → find p ms ≡ find q ms
same_found p q [] same h = refl
same_found p q (m ∷ ms) same h =
    let parts = and_parts (no_blank m) (list_all no_blank ms) h in
    ap (λ (b : Bool). cond b (Some m) (find p ms)) (same m parts.0) ∙ ap (cond (q m) (Some m)) (same_found p q ms same parts.1)

pub mark_cut : (s a : List ℕ) → AreBlank a → mark_of (s ++ a) ≡ mark_of s
mark_cut s a blank =
    same_found (λ m. starts_with nat_eq (s ++ a) m) (λ m. starts_with nat_eq s m) marks (λ m. starts_cut s a m blank) refl

begins_cut : (p : ℕ → Bool) (s a : List ℕ) → begins p (s ++ a) ≡ false → begins p s ≡ false
begins_cut p [] a h = refl
begins_cut p (x ∷ s) a h = h

begins_tail_cut : (s a : List ℕ) → begins_tail (s ++ a) ≡ false → begins_tail s ≡ false
begins_tail_cut [] a h = refl
begins_tail_cut (mark ∷ s) a h = here (is_tail_mark mark) h
  where
    here : (b : Bool) → (b && begins is_ascii_digit (s ++ a)) ≡ false → (b && begins is_ascii_digit s) ≡ false
    here true k = begins_cut is_ascii_digit s a k
    here false k = refl

tail_cut : (tail s a : List ℕ) → IsTail tail (s ++ a) → IsTail tail s
tail_cut [] s a h = begins_tail_cut s a h
tail_cut (mark ∷ digits) s a h = (h.0, h.1, h.2, begins_cut is_ascii_digit s a h.3)

number_cut : (n : Number) (s a : List ℕ) → IsNumber n 32 (s ++ a) → IsNumber n 32 s
number_cut n s a h = record {
  run = record {
    filled = h.run.filled;
    bytes = h.run.bytes;
    starts = h.run.starts;
    ends = begins_cut is_run_byte (n.tail ++ s) a (ap (begins is_run_byte) (append_assoc n.tail s a) ∙ h.run.ends);
  };
  digits = h.digits;
  tail = tail_cut n.tail s a h.tail;
}

abbrev number_flaw : Bool → Bool → Flaw → Option Flaw
number_flaw small followed glued = if small then (if followed then Some glued else None) else Some (at_front NumberTooLarge)

number_flaw_cut : (n : Number) (s a : List ℕ) → line_flaw (Numeral n) (s ++ a) ≡ None → line_flaw (Numeral n) s ≡ None
number_flaw_cut n s a h = here (is_small n) (begins is_run_byte (s ++ a)) (record { kind = UnknownSign; past = length (number_text n) }) refl h
  where
    here : (b c : Bool) (glued : Flaw) → begins is_run_byte (s ++ a) ≡ c → number_flaw b c glued ≡ None
        → number_flaw b (begins is_run_byte s) glued ≡ None
    here true true glued e k = cc
    here true false glued e k = ap (λ (c : Bool). number_flaw true c glued) (begins_cut is_run_byte s a e)
    here false c glued e k = cc

pub stands_cut : (form : Form) (s a : List ℕ) → AreBlank a → StandsBefore form (s ++ a) → line_flaw form (s ++ a) ≡ None
    → StandsBefore form s × (line_flaw form s ≡ None)
stands_cut (Numeral n) s a blank h flawless = ((h.0, number_cut n s a h.1), number_flaw_cut n s a flawless)
stands_cut (Name name) s a blank h flawless =
    (record { starts = h.starts; bytes = h.bytes; ends = begins_cut is_name_byte s a h.ends }, refl)
stands_cut (Quoted text) s a blank h flawless = (h, refl)
stands_cut (Open text) s a blank h flawless = cc
stands_cut (Mark mark) s a blank h flawless =
    (sym (mark_cut (mark ++ s) a blank) ∙ ap mark_of (append_assoc mark s a) ∙ h, refl)

-- ---- blank space
prefix_min : (p : ℕ → Bool) (s a : List ℕ) → prefix_len p s ≡ min (prefix_len p (s ++ a)) (length s)
prefix_min p [] a = omega arith
prefix_min p (x ∷ s) a = here (p x) (prefix_min p s a)
  where
    here : (b : Bool) → prefix_len p s ≡ min (prefix_len p (s ++ a)) (length s)
        → cond b (1 + prefix_len p s) 0 ≡ min (cond b (1 + prefix_len p (s ++ a)) 0) (suc (length s))
    here true e = omega (arith, e)
    here false e = omega arith

front_min : (p : ℕ → Bool) (s a : List ℕ) → length (take_while p s) ≡ min (length (take_while p (s ++ a))) (length s)
front_min p s a = omega (arith, prefix_min p s a, length-take_while p s, length-take_while p (s ++ a))

comment_min : (s a : List ℕ) → AreBlank a → length (comment_of s) ≡ min (length (comment_of (s ++ a))) (length s)
comment_min s a blank =
    let same = starts_cut s a (codes "--") blank refl in
    subst (λ (b : Bool). length (comment_of s) ≡ min (length (cond b (first_line (s ++ a)) [])) (length s)) (sym same)
    (here (starts_with nat_eq s (codes "--")))
  where
    here : (b : Bool) → length (cond b (first_line s) []) ≡ min (length (cond b (first_line (s ++ a)) [])) (length s)
    here true = front_min is_line_byte s a
    here false = omega arith

blank_size : (s : List ℕ) → length (blank_of s) ≡ length (blanks_of s) + length (comment_of (drop (length (blanks_of s)) s))
blank_size s = length-append (blanks_of s) (comment_of (drop (length (blanks_of s)) s))

pub blank_min : (s a : List ℕ) → AreBlank a → length (blank_of s) ≡ min (length (blank_of (s ++ a))) (length s)
blank_min s a blank = ⊎_elim some_left none_left (cases_lt (length (blanks_of (s ++ a))) (length s))
  where
    some_left : length (blanks_of (s ++ a)) < length s → length (blank_of s) ≡ min (length (blank_of (s ++ a))) (length s)
    some_left less =
        let n = length (blanks_of s) in
        let same : length (blanks_of (s ++ a)) ≡ n = omega (arith, front_min is_space s a) in
        let left : drop (length (blanks_of (s ++ a))) (s ++ a) ≡ drop n s ++ a =
        ap (λ (k : ℕ). drop k (s ++ a)) same ∙ drop-append-le n s a (omega (arith, front_min is_space s a)) in
        let comments : length (comment_of (drop (length (blanks_of (s ++ a))) (s ++ a))) ≡ length (comment_of (drop n s ++ a)) =
        ap (λ (t : List ℕ). length (comment_of t)) left in
        omega (arith, blank_size s, blank_size (s ++ a), comments, comment_min (drop n s) a blank, length-drop n s, same)

    none_left : length s ≤ length (blanks_of (s ++ a)) → length (blank_of s) ≡ min (length (blank_of (s ++ a))) (length s)
    none_left more = omega (arith, blank_size s, blank_size (s ++ a), front_min is_space s a, line_finds.blank s)

blank_step : (x : ℕ) (s : List ℕ) → is_space x ≡ true → blank_of (x ∷ s) ≡ x ∷ blank_of s
blank_step x s h =
    let front : blanks_of (x ∷ s) ≡ x ∷ blanks_of s =
    take_while-cons is_space x s ∙ ap (λ (b : Bool). cond b (x ∷ blanks_of s) []) h in
    ap (λ (bytes : List ℕ). bytes ++ comment_of (drop (length bytes) (x ∷ s))) front

pub blank_more : (before rest : List ℕ) → AreBlank before → length (blank_of (before ++ rest)) ≡ length before + length (blank_of rest)
blank_more [] rest blank = omega arith
blank_more (x ∷ before) rest blank =
    let parts = and_parts (is_space x) (list_all is_space before) blank in
    let step = ap length (blank_step x (before ++ rest) parts.0) in
    omega (arith, step, blank_more before rest parts.1)
