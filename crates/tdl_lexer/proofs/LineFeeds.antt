-- A text that is cut has no line feed.
--     within          the bytes between the quotes of a quoted text
--     mini_line       mini-notation has none
--     line_cut        nor has a line, where its quoted texts have none
use Rattle.std.specs.Prelude.{nat_eq, ◌==◌, not, codes, if◌then◌else◌, slice_range}
use Rattle.std.specs.List.{AllByRecursion, list_all, starts_with, take_while}
use Rattle.std.proofs.Common.{◌≡◌, ℕ, ◌+◌, ◌-◌, ◌<◌, ◌≤◌, ⊎_elim, Bool, true, false, None, List, [], ◌∷◌, ◌++◌, length, take, drop, refl, ap}
use Rattle.std.proofs.Common.{sym, ◌∙◌, subst, arith, length-append}
use Rattle.std.proofs.Math.Seq.{take-add, take-append_seam}
use Rattle.std.proofs.lemmas.Bool.{and_parts, and_from, cases_lt}
use Rattle.std.proofs.lemmas.Bool.Decides.{nat_tests}
use Rattle.std.proofs.lemmas.List.{take_all}
use Rattle.std.proofs.lemmas.List.Folds.{list_all-append}
use Rattle.tdl_lexer.specs.declared.signs.Sign.TheVariants as sign
use Rattle.tdl_lexer.specs.declared.signs.Token.{Token}
use Rattle.tdl_lexer.specs.Bytes.{is_space, is_run_byte, is_plain_mark, is_name_byte, is_line_byte}
use Rattle.tdl_lexer.specs.Languages.{Language}
use Rattle.tdl_lexer.specs.Numbers.{is_tail_mark}
use Rattle.tdl_lexer.specs.MiniForms as mini
use Rattle.tdl_lexer.specs.MiniForms.{mini_notation}
use Rattle.tdl_lexer.specs.LineForms.{Form, Numeral, Name, Quoted, Open, Mark, marks, spelling, sign_of, StandsBefore, line_flaw, line_notation}
use Rattle.tdl_lexer.specs.LineForms.{first_line, comment_of, blanks_of, blank_of}
use Rattle.tdl_lexer.specs.Tokens.{byte_before, next_place, NextToken, Front, IsCut, end_token}
use Rattle.tdl_lexer.proofs.FormBytes.{passes_too, passes-append, number_passes}
use Rattle.tdl_lexer.proofs.Fronts.{cut_of, take-length_front}
use Rattle.tdl_lexer.proofs.LineFound.{found_passes}

abbrev is_one_line : List ℕ → Bool
is_one_line text = list_all is_line_byte text

-- ---- bytes
run_byte : (byte : ℕ) → is_run_byte byte ≡ true → is_line_byte byte ≡ true
run_byte byte h = grind (arith, nat_tests)

name_byte : (byte : ℕ) → is_name_byte byte ≡ true → is_line_byte byte ≡ true
name_byte byte h = grind (arith, nat_tests)

space_byte : (byte : ℕ) → is_space byte ≡ true → is_line_byte byte ≡ true
space_byte byte h = grind (arith, nat_tests)

tail_mark_byte : (byte : ℕ) → is_tail_mark byte ≡ true → is_line_byte byte ≡ true
tail_mark_byte byte h = grind (arith, nat_tests)

plain_byte : (byte : ℕ) → is_plain_mark byte ≡ true → is_line_byte byte ≡ true
plain_byte byte h = here (byte == 10) refl
  where
    here : (b : Bool) → (byte == 10) ≡ b → not b ≡ true
    here false e = refl
    here true e =
        let feed : byte ≡ 10 = grind (arith, nat_tests) in
        subst (λ (k : ℕ). is_plain_mark k ≡ true) feed h

-- ---- forms
mini_form : (form : mini.Form) (last : ℕ) (after : List ℕ) → mini.Stands form last after → is_one_line (mini.form_text form) ≡ true
mini_form (mini.Numeral n) last after h = number_passes is_line_byte refl run_byte tail_mark_byte n last after h
mini_form (mini.Word run) last after h = passes_too is_run_byte is_line_byte run_byte run h.0.bytes
mini_form mini.Hold last after h = refl
mini_form mini.Dot last after h = refl
mini_form mini.Range last after h = refl
mini_form (mini.Plain mark) last after h = and_from (is_line_byte mark) true (plain_byte mark h) refl

-- the bytes between the quotes
abbrev pub within : List ℕ → List ℕ
within bytes = take (length bytes - 2) (drop 1 bytes)

within-quoted : (text : List ℕ) → within (spelling (Quoted text)) ≡ text
within-quoted text =
    let size : length (spelling (Quoted text)) - 2 ≡ length text = omega (arith, length-append text (34 ∷ [])) in
    ap (λ (n : ℕ). take n (text ++ 34 ∷ [])) size ∙ take-append_seam text (34 ∷ [])

line_form : (form : Form) (after : List ℕ) → StandsBefore form after → line_flaw form after ≡ None
    → (sign_of form ≡ sign.Quoted → is_one_line (within (spelling form)) ≡ true) → is_one_line (spelling form) ≡ true
line_form (Numeral n) after h flawless quoted = number_passes is_line_byte refl run_byte tail_mark_byte n 32 after h.1
line_form (Name name) after h flawless quoted = passes_too is_name_byte is_line_byte name_byte name h.bytes
line_form (Quoted text) after h flawless quoted =
    passes-append is_line_byte text (34 ∷ []) (subst (λ (t : List ℕ). is_one_line t ≡ true) (within-quoted text) (quoted refl)) refl
line_form (Open text) after h flawless quoted = cc
line_form (Mark mark) after h flawless quoted = (found_passes (λ m. starts_with nat_eq (mark ++ after) m) is_one_line marks mark h refl).1

-- ---- blank space
front_line : (p : ℕ → Bool) → ((byte : ℕ) → p byte ≡ true → is_line_byte byte ≡ true) → (text : List ℕ)
    → is_one_line (take (length (take_while p text)) text) ≡ true
front_line p more text = ap is_one_line (take-length_front p text) ∙ passes_too p is_line_byte more (take_while p text) (cut_of p text).passes

comment_line : (text : List ℕ) → is_one_line (take (length (comment_of text)) text) ≡ true
comment_line text = here (starts_with nat_eq text (codes "--"))
  where
    here : (b : Bool) → is_one_line (take (length (if b then first_line text else [])) text) ≡ true
    here true = front_line is_line_byte (λ byte h. h) text
    here false = refl

blank_line : (text : List ℕ) → is_one_line (take (length (blank_of text)) text) ≡ true
blank_line text =
    let blanks = blanks_of text in
    let rest = drop (length blanks) text in
    ap (λ (n : ℕ). is_one_line (take n text)) (length-append blanks (comment_of rest))
    ∙ ap is_one_line (take-add (length blanks) (length (comment_of rest)) text)
    ∙ passes-append is_line_byte (take (length blanks) text) (take (length (comment_of rest)) rest) (front_line is_space space_byte text) (comment_line rest)

-- ---- texts
abbrev IsLineAt : List ℕ → Token → Type 0
IsLineAt text t = is_one_line (slice_range text t.at t.end) ≡ true

module _ (L : Language) (blank : (text : List ℕ) → is_one_line (take (length (L.blank text)) text) ≡ true) where
  to_place : (text : List ℕ) (from : ℕ) → is_one_line (take from text) ≡ true → is_one_line (take (next_place L text from) text) ≡ true
  to_place text from h =
      let rest = drop from text in
      ap is_one_line (take-add from (length (L.blank rest)) text)
      ∙ passes-append is_line_byte (take from text) (take (length (L.blank rest)) rest) h (blank rest)

  to_end : (text : List ℕ) (t : Token) → is_one_line (take t.at text) ≡ true → IsLineAt text t → is_one_line (take t.end text) ≡ true
  to_end text t h line = ⊎_elim shorter longer (cases_lt t.end t.at)
    where
      shorter : t.end < t.at → is_one_line (take t.end text) ≡ true
      shorter less =
          let size : t.at ≡ t.end + (t.at - t.end) = omega arith in
          let rest = take (t.at - t.end) (drop t.end text) in
          let joined = sym (list_all-append is_line_byte (take t.end text) rest)
          ∙ ap is_one_line (sym (take-add t.end (t.at - t.end) text)) ∙ ap (λ (n : ℕ). is_one_line (take n text)) (sym size) ∙ h in
          (and_parts (is_one_line (take t.end text)) (is_one_line rest) joined).0

      longer : t.at ≤ t.end → is_one_line (take t.end text) ≡ true
      longer more =
          let size : t.end ≡ t.at + (t.end - t.at) = omega arith in
          ap (λ (n : ℕ). is_one_line (take n text)) size ∙ ap is_one_line (take-add t.at (t.end - t.at) text)
          ∙ passes-append is_line_byte (take t.at text) (slice_range text t.at t.end) h line

  front_lines : (text : List ℕ) (ts : List Token) (from to : ℕ) → Front L text ts from to → AllByRecursion (IsLineAt text) ts
      → is_one_line (take from text) ≡ true → is_one_line (take to text) ≡ true
  front_lines text [] from to h lines k = subst (λ (n : ℕ). is_one_line (take n text) ≡ true) h k
  front_lines text (t ∷ ts) from to h lines k =
      let at = subst (λ (n : ℕ). is_one_line (take n text) ≡ true) (sym h.0.place) (to_place text from k) in
      front_lines text ts t.end to h.1 lines.1 (to_end text t at lines.0)

  cut_line : (text : List ℕ) (tokens : List Token) (cut : IsCut L text tokens) → AllByRecursion (IsLineAt text) cut.before → is_one_line text ≡ true
  cut_line text tokens cut lines =
      let all : length text ≤ length text = omega arith in
      ap is_one_line (sym (take_all (length text) text all)) ∙ ap (λ (n : ℕ). is_one_line (take n text)) cut.whole
      ∙ to_place text cut.to (front_lines text cut.before 0 cut.to cut.front lines refl)

-- ---- mini-notation
mini_tokens : (text : List ℕ) (ts : List Token) (from to : ℕ) → Front mini_notation text ts from to → AllByRecursion (IsLineAt text) ts
mini_tokens text [] from to h = tt
mini_tokens text (t ∷ ts) from to h =
    (ap is_one_line h.0.is ∙ mini_form h.0.form (byte_before text t.at) (drop t.end text) h.0.stands, mini_tokens text ts t.end to h.1)

pub mini_line : (text : List ℕ) (tokens : List Token) → IsCut mini_notation text tokens → is_one_line text ≡ true
mini_line text tokens cut =
    cut_line mini_notation (front_line is_space space_byte) text tokens cut (mini_tokens text cut.before 0 cut.to cut.front)

-- ---- lines
-- a quoted text has no line feed
abbrev pub IsQuotedLine : List ℕ → Token → Type 0
IsQuotedLine text t = t.sign ≡ sign.Quoted → is_one_line (within (slice_range text t.at t.end)) ≡ true

line_token : (text : List ℕ) (from : ℕ) (t : Token) → NextToken line_notation text from t → IsQuotedLine text t → IsLineAt text t
line_token text from t h quoted =
    ap is_one_line h.is
    ∙ line_form h.form (drop t.end text) h.stands h.flawless (λ e. ap (λ (b : List ℕ). is_one_line (within b)) (sym h.is) ∙ quoted (h.sign ∙ e))

line_tokens : (text : List ℕ) (ts others : List Token) (from to : ℕ) → Front line_notation text ts from to
    → AllByRecursion (IsQuotedLine text) (ts ++ others) → AllByRecursion (IsLineAt text) ts
line_tokens text [] others from to h quoted = tt
line_tokens text (t ∷ ts) others from to h quoted = (line_token text from t h.0 quoted.0, line_tokens text ts others t.end to h.1 quoted.1)

pub line_cut : (text : List ℕ) (tokens : List Token) → IsCut line_notation text tokens → AllByRecursion (IsQuotedLine text) tokens → is_one_line text ≡ true
line_cut text tokens cut quoted =
    let all = subst (AllByRecursion (IsQuotedLine text)) cut.ends quoted in
    cut_line line_notation blank_line text tokens cut (line_tokens text cut.before (end_token (length text) ∷ []) 0 cut.to cut.front all)
